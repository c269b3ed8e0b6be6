-- The roll that a verdict comes to: the customers in columns, and their codes in the book.
-- Assumes nothing.
use Rattle.std.specs.Prelude.{ℕ, zero, suc, ◌+◌, ◌-◌, ◌≤◌, ◌<◌, List, [], map, Bool, false, cond, ◌≡◌, length, get_or, set, take, drop, leb, ltb, eqb}
use Prim.Native.Char.{code}
use Rattle.rules.specs.declared.Terms.{Terms}
use Rattle.rules.specs.declared.Standing.{Standing}
use Rattle.rules.specs.declared.Standing.TheVariants.{Pending, Tier1, Tier2, Tier3, Neither}
use Rattle.rules.specs.Refusal as refusal
use Rattle.rules.specs.Limits.{longest_book, most_customers, most_seats}
use Rattle.rules.specs.Fields.{Field, fields_of}
use Rattle.rules.specs.Book.{Customer, position, InGroup, Nobody, Reading, Verdict, Refused, Accepted, after_c, walk}
use Rattle.rules.specs.Standing.{standing}
use Rattle.rules.specs.Cascade.{offered_by, pending_by}
use Rattle.laws.specs.Keys.{key_of}
use Rattle.laws.specs.SeatFields.{seats_in}
use Rattle.laws.specs.Groups.{group_from}
use Rattle.laws.specs.All2.{All2}
use Rattle.codes.specs.declared.Code.{Code}
use Rattle.codes.specs.declared.Code.TheVariants.{Key, Malformed}
use Rattle.codes.specs.Codes.{code_of, given_in}
use Rattle.fields.specs.declared.Refusal.{Refusal}
use Rattle.fields.specs.declared.Found.{Found}
use Rattle.fields.specs.declared.Found.TheVariants.{Short}
use Rattle.fields.specs.declared.Found.TheVariants.{Field as FieldAt}
use Rattle.fields.specs.First.{first_at}
use Rattle.terms.specs.declared.TermsAt.{TermsAt}
use Rattle.terms.specs.declared.TermsAt.TheVariants.{Read as ReadTerms}
use Rattle.terms.specs.declared.TermsAt.TheVariants.{Refused as NoTerms}
use Rattle.terms.specs.Terms.{terms_of}
use Rattle.group.specs.declared.GroupAt.{GroupAt}
use Rattle.group.specs.declared.GroupAt.TheVariants.{Closed}
use Rattle.group.specs.declared.GroupAt.TheVariants.{Refused as NoGroup}
use Rattle.fields.specs.Reading.{refused_at, no_refusal}
use Rattle.group.specs.Group.{group_at}
use Rattle.roll.specs.declared.Roll.{Roll}
use Rattle.roll.specs.declared.CodeAt.{CodeAt}
use Rattle.roll.specs.declared.CodeAt.TheVariants.{Key as NewKey}
use Rattle.roll.specs.declared.CodeAt.TheVariants.{Refused as NoCode}
use Rattle.roll.specs.declared.CustomerAt.{CustomerAt}
use Rattle.roll.specs.declared.CustomerAt.TheVariants.{New as NewCustomer}
use Rattle.roll.specs.declared.CustomerAt.TheVariants.{Refused as NoCustomer}

-- a standing's byte, and what a customer has at stake
abbrev pub byte_of : Standing → ℕ
byte_of Pending = 0
byte_of Tier1 = 1
byte_of Tier2 = 2
byte_of Tier3 = 3
byte_of Neither = 4

abbrev pub stake_as : Standing → ℕ → ℕ → ℕ
stake_as Pending offered pending = pending
stake_as Tier1 offered pending = offered
stake_as Tier2 offered pending = offered
stake_as Tier3 offered pending = offered
stake_as Neither offered pending = 0

abbrev pub key_in : Customer → ℕ
key_in c = key_of c.code

unfoldable pub standing_in : Terms → Customer → ℕ
standing_in terms c = byte_of (standing terms c)

unfoldable pub stake_in : Terms → Customer → ℕ
stake_in terms c = let s = standing terms c in stake_as s (offered_by s (position c)) (pending_by s (position c))

-- a customer's code stands in the book from a place on, its size in the byte before, and its seats behind it
pub record CodeIn (book : List ℕ) (start : ℕ) (c : Customer) : Type 0 where
  pub behind : 0 < start
  pub size : get_or book (start - 1) 0 ≡ length c.code
  pub bytes : take (length c.code) (drop start book) ≡ c.code
  pub inside : start + length c.code ≤ length book
  pub seats : seats_in most_seats (fields_of (drop (start + length c.code) book)) ≡ c.seats

-- the customers in the columns' first places
pub record Held (book : List ℕ) (terms : Terms) (cs : List Customer) (keys starts standings stakes : List ℕ) (count : ℕ) : Type 0 where
  pub counted : count ≡ length cs
  pub keyed : take count keys ≡ map key_in cs
  pub stood : take count standings ≡ map (standing_in terms) cs
  pub staked : take count stakes ≡ map (stake_in terms) cs
  pub coded : All2 (CodeIn book) (take count starts) cs

-- room for 256 customers
pub record Room (keys starts standings stakes : List ℕ) : Type 0 where
  pub for_keys : most_customers ≤ length keys
  pub for_starts : most_customers ≤ length starts
  pub for_standings : most_customers ≤ length standings
  pub for_stakes : most_customers ≤ length stakes

abbrev pub no_roll : ℕ → ℕ → Roll
no_roll n place = record { refusal = refused_at n place; count = 0; down = false }

-- the roll of a book that ends with so many customers read and is locked so, or its refusal there
abbrev pub ended_with : Refusal → ℕ → Bool → Roll
ended_with last count down =
    cond (eqb last.number refusal.accepted) (record { refusal = last; count = count; down = down }) (no_roll last.number last.place)

-- what a verdict comes to: the refusal, or the customers in the columns
abbrev pub Rolled : List ℕ → Verdict → List ℕ → List ℕ → List ℕ → List ℕ → Roll → Type 0
Rolled book (Refused n place) keys starts standings stakes r = r ≡ no_roll n place
Rolled book (Accepted terms cs) keys starts standings stakes r =
    (r.refusal ≡ no_refusal) × Held book terms cs keys starts standings stakes r.count × (r.down ≡ terms.down)

-- the four columns
pub record Columns : Type 0 where
  pub keys : List ℕ
  pub starts : List ℕ
  pub standings : List ℕ
  pub stakes : List ℕ

abbrev pub columns : List ℕ → List ℕ → List ℕ → List ℕ → Columns
columns keys starts standings stakes = record { keys = keys; starts = starts; standings = standings; stakes = stakes }

-- what a verdict comes to, and the columns that are left: those that the book fills
pub record Left (book : List ℕ) (v : Verdict) (full : Columns) (keys starts standings stakes : List ℕ) (r : Roll) : Type 0 where
  pub rolled : Rolled book v keys starts standings stakes r
  pub filled : columns keys starts standings stakes ≡ full

-- the customers from a place on, where none was read before
abbrev pub verdict_from : Terms → ℕ → List Field → Verdict
verdict_from terms at fs = walk (Reading (InGroup terms [] Nobody)) 0 at fs

-- 10, 5, 7
abbrev pub new_code : ℕ → List ℕ → Code → CodeAt
new_code at keys (Key k) = cond (given_in keys k) (NoCode (refused_at refusal.given_before at)) (NewKey k)
new_code at keys Malformed = NoCode (refused_at refusal.malformed at)

abbrev pub code_at : ℕ → ℕ → List ℕ → List ℕ → CodeAt
code_at at count keys v = cond (leb most_customers count) (NoCode (refused_at refusal.too_many at)) (new_code at keys (code_of v))

-- a customer with a new key, and its group
abbrev pub customer_of : CodeAt → GroupAt → CustomerAt
customer_of (NewKey key) (Closed place s offered pending) = NewCustomer key place (byte_of s) (stake_as s offered pending)
customer_of (NewKey key) (NoGroup r) = NoCustomer r
customer_of (NoCode r) g = NoCustomer r

-- at a C, whose value stands from start to end
abbrev pub customer_at : List ℕ → Terms → List ℕ → ℕ → ℕ → ℕ → ℕ → CustomerAt
customer_at s terms keys count at start end =
    let v = take (end - start) (drop start s) in
    customer_of (code_at at count (take count keys) v) (group_at terms (group_from terms (after_c v) at end (fields_of (drop end s))))

-- 5, and 3 behind Z
abbrev pub end_at : ℕ → ℕ → ℕ → ℕ → Refusal
end_at at start end size = cond (ltb start end) (refused_at refusal.malformed at) (cond (ltb end size) (refused_at refusal.misplaced end) (no_refusal))

-- One customer more, at index `count`: its key, where its code starts in the book, its standing's byte and its stake
abbrev pub stored : Columns → ℕ → ℕ → ℕ → ℕ → ℕ → Columns
stored c count key start standing stake =
    columns (set c.keys count key) (set c.starts count start) (set c.standings count standing) (set c.stakes count stake)

abbrev pub on_c : Found → Columns → (ℕ → ℕ → Columns) → Columns
on_c Short c next = c
on_c (FieldAt t start end) c next = cond (eqb t (code "C")) (next start end) c

abbrev pub on_new : CustomerAt → Columns → (ℕ → ℕ → ℕ → ℕ → Columns) → Columns
on_new (NewCustomer key place standing stake) c next = next key place standing stake
on_new (NoCustomer r) c next = c

-- The columns filled customer by customer from a place on, up to the first field that is no new customer's C or whose group is refused; at
-- most so many more. What stands behind the customers is as it was
abbrev pub filled_from : ℕ → List ℕ → Terms → ℕ → ℕ → Columns → Columns
filled_from zero s terms at count c = c
filled_from (suc most) s terms at count c =
    on_c (first_at at (fields_of (drop at s))) c λ start end.
    on_new (customer_at s terms c.keys count at start end) c λ key place standing stake.
    filled_from most s terms place (count + 1) (stored c count key start standing stake)

abbrev pub filled_after : List ℕ → TermsAt → Columns → Columns
filled_after s (ReadTerms terms next) c = filled_from most_customers s terms next 0 c
filled_after s (NoTerms r) c = c

-- the columns after a book was read into them: none is touched where it is too long or its terms are refused
unfoldable pub filled_by : List ℕ → Columns → Columns
filled_by s c = cond (ltb longest_book (length s)) c (filled_after s (terms_of s) c)
