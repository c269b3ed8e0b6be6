-- What is true of every book: a refusal has a number above 0. And of the customers of every accepted one: there are at most 256, their codes are codes and distinct, and no position is above
-- four times the most lots that a figure can say, since no customer has more than four seats.
-- Assumes nothing.
use Rattle.std.specs.Prelude.{ℕ, ◌+◌, ◌≤◌, ◌<◌, ◌≡◌, refl, List, [], ◌∷◌, ◌++◌, Bool, true, false, cond, not, length, leb, ltb}
use Rattle.std.proofs.Common.{sym, ap, subst, ◌∙◌, arith, length-append, leb-false}
use Rattle.rules.specs.declared.Terms.{Terms}
use Rattle.rules.specs.Text.{is}
use Rattle.rules.specs.Codes.{is_code}
use Rattle.rules.specs.Refusal as refusal
use Rattle.rules.specs.Limits.{longest_book, most_customers}
use Rattle.rules.specs.Fields.{Field, Whole, Cut, fields_of}
use Rattle.rules.specs.Book.{
  Seat,
  Customer,
  position,
  uncovered,
  given,
  Step,
  Stop,
  Next,
  Group,
  Nobody,
  Open,
  within,
  may_end,
  Due,
  AtTerm,
  InGroup,
  at_front,
  Stage,
  Reading,
  Ended,
  closed,
  opens,
  ends,
  goes_on_of,
  step,
  Verdict,
  Refused,
  Accepted,
  placed,
  walk,
  judge,
}
use Rattle.laws.specs.ShareSum.{Distinct}
use Rattle.laws.specs.ByTest.{not-not}
use Rattle.laws.specs.Keeps.{Keeps, must_keeps, refuse_keeps, keeps_also}
use Rattle.laws.specs.OneField.{AtTag, EarlyStage, term_leads, FurtherGroup, part_leads}
use Rattle.laws.specs.Seats.{SaneSeats, sum_seats, distinct_more, SaneGroup, within_seats, none_sane}

pub record Sane (c : Customer) : Type 0 where
  pub code : is_code c.code ≡ true
  pub seats : SaneSeats c.seats

pub sane_long : {c : Customer} → Sane c → (position c).long.0 ≤ 4_000_000
sane_long {c} h = sum_seats (λ (s : Seat). s.position.long.0) (λ s k. k.long) c.seats h.seats

pub sane_short : {c : Customer} → Sane c → (position c).short.0 ≤ 4_000_000
sane_short {c} h = sum_seats (λ (s : Seat). s.position.short.0) (λ s k. k.short) c.seats h.seats

abbrev pub AllSane : List Customer → Type 0
AllSane [] = Unit
AllSane (c ∷ cs) = Sane c × AllSane cs

pub sane_more : (cs : List Customer) (c : Customer) → AllSane cs → Sane c → AllSane (cs ++ c ∷ [])
sane_more [] c h k = (k, tt)
sane_more (d ∷ cs) c h k = (h.0, sane_more cs c h.1 k)

abbrev pub code_in : Customer → List ℕ
code_in c = c.code

-- sane customers whose codes are distinct
abbrev Sound : List Customer → Type 0
Sound cs = AllSane cs × Distinct code_in cs

-- a customer that is being read, the next of fewer than 256, with a code of its own
record Member (cs : List Customer) (c : Customer) : Type 0 where
  code : is_code c.code ≡ true
  room : length cs < most_customers
  new : given c.code cs ≡ false

abbrev MemberIn : List Customer → Group → Type 0
MemberIn cs Nobody = length cs ≤ most_customers
MemberIn cs (Open part c) = Member cs c × SaneGroup (Open part c)

-- and no refusal has the number of an acceptance
abbrev Above : ℕ → Type 0
Above n = 0 < n

-- a step within a group leads to a group of the same customer, with seats that are as they should be
within_sane : (terms : Terms) (cs : List Customer) (g : Group) (t : ℕ) (v : List ℕ) → MemberIn cs g → Keeps Above (MemberIn cs) (within terms g t v)
unfolding within
within_sane terms cs Nobody t v m = omega arith
within_sane terms cs (Open part c) t v (m, k) = go (within terms (Open part c) t v) (part_leads terms part c t v) (within_seats terms (Open part c) t v k)
  where
    go : (r : Step Group) → Keeps AtTag (FurtherGroup c) r → Keeps (λ n. Unit) SaneGroup r → Keeps Above (MemberIn cs) r
    go (Stop n) h j = h.above
    go (Next Nobody) h j = absurd h
    go (Next (Open p d)) h j = (record { code = ap is_code h ∙ m.code; room = m.room; new = ap (λ (u : List ℕ). given u cs) h ∙ m.new }, j)

pub record Customers (cs : List Customer) : Type 0 where
  pub all : AllSane cs
  pub distinct : Distinct code_in cs
  pub few : length cs ≤ most_customers

abbrev SaneStage : Stage → Type 0
SaneStage (Reading (AtTerm term ts)) = Unit
SaneStage (Reading (InGroup terms cs g)) = Sound cs × MemberIn cs g
SaneStage (Ended terms cs) = Customers cs

-- at C or Z
closed_sane : (cs : List Customer) (g : Group) (next : List Customer → Step Stage) → Sound cs → MemberIn cs g → ((ds : List Customer) → Customers ds → Keeps Above SaneStage (next ds)) →
    Keeps Above SaneStage (closed cs g next)
closed_sane cs Nobody next a m h = h cs (record { all = a.0; distinct = a.1; few = m })
closed_sane cs (Open part c) next a (m, k) h =
    must_keeps Above SaneStage (omega arith) (may_end part) _ (refuse_keeps Above SaneStage refusal.uncovered (uncovered c) _ (omega arith) (λ e.
    h (cs ++ c ∷ []) (record {
      all = sane_more cs c a.0 (record { code = m.code; seats = k.0 });
      distinct = distinct_more code_in cs c a.1 m.new;
      few = simp length-append (omega (arith, m.room));
    })))

opens_sane : (terms : Terms) (v : List ℕ) (cs : List Customer) → Customers cs → Keeps Above SaneStage (opens terms v cs)
opens_sane terms v cs k =
    refuse_keeps Above SaneStage refusal.too_many (leb most_customers (length cs)) _ (omega arith) (λ few.
    refuse_keeps Above SaneStage refusal.malformed (not (is_code v)) _ (omega arith) (λ good.
    refuse_keeps Above SaneStage refusal.given_before (given v cs) _ (omega arith) (λ new.
    ((k.all, k.distinct), (record { code = not-not (is_code v) good; room = omega (arith, leb-false); new = new }, (none_sane, refl))))))

ends_sane : (terms : Terms) (v : List ℕ) (cs : List Customer) → Customers cs → Keeps Above SaneStage (ends terms v cs)
ends_sane terms v cs k = refuse_keeps Above SaneStage refusal.malformed (ltb 0 (length v)) _ (omega arith) (λ e. k)

goes_sane : (terms : Terms) (cs : List Customer) → Sound cs → (r : Step Group) → Keeps Above (MemberIn cs) r → Keeps Above SaneStage (goes_on_of terms cs r)
goes_sane terms cs a (Stop n) h = h
goes_sane terms cs a (Next g) h = (a, h)

early_sane : (st : Stage) → EarlyStage st → SaneStage st
early_sane (Reading (AtTerm term ts)) h = tt
early_sane (Reading (InGroup terms cs g)) h =
    let nobody : Sound [] × MemberIn [] Nobody = ((tt, tt), omega arith) in
    subst (λ (l : List Customer). Sound l × MemberIn l g) (sym h.0) (subst (λ (o : Group). Sound [] × MemberIn [] o) (sym h.1) nobody)
early_sane (Ended terms cs) h = absurd h

step_sane : (d : Due) (t : ℕ) (v : List ℕ) → SaneStage (Reading d) → Keeps Above SaneStage (step d t v)
unfolding step
step_sane (AtTerm term ts) t v h = keeps_also {P = EarlyStage} {S = SaneStage} (λ n k. k.above) early_sane (step (AtTerm term ts) t v) (term_leads term ts t v)
step_sane (InGroup terms cs g) t v h = go (is "C" t) (is "Z" t)
  where
    go : (p q : Bool) → Keeps Above SaneStage (cond p (closed cs g (opens terms v)) (cond q (closed cs g (ends terms v)) (goes_on_of terms cs (within terms g t v))))
    go true q = closed_sane cs g (opens terms v) h.0 h.1 (opens_sane terms v)
    go false true = closed_sane cs g (ends terms v) h.0 h.1 (ends_sane terms v)
    go false false = goes_sane terms cs h.0 (within terms g t v) (within_sane terms cs g t v h.1)

abbrev SaneVerdict : Verdict → Type 0
SaneVerdict (Refused n place) = 0 < n
SaneVerdict (Accepted terms cs) = Customers cs

placed_sane : (last_c at : ℕ) (r : Step Stage) (next : Stage → Verdict) → Keeps Above SaneStage r → ((st : Stage) → SaneStage st → SaneVerdict (next st)) → SaneVerdict (placed last_c at r next)
placed_sane last_c at (Stop n) next k h = k
placed_sane last_c at (Next st) next k h = h st k

walk_sane : (st : Stage) (last_c at : ℕ) (fs : List Field) → SaneStage st → SaneVerdict (walk st last_c at fs)
walk_sane (Ended terms cs) last_c at [] h = h
walk_sane (Ended terms cs) last_c at (f ∷ fs) h = omega arith
walk_sane (Reading d) last_c at [] h = omega arith
walk_sane (Reading d) last_c at (Cut ∷ fs) h = omega arith
walk_sane (Reading d) last_c at (Whole t v ∷ fs) h =
    placed_sane last_c at (step d t v) _ (step_sane d t v h) (λ st k. walk_sane st (cond (is "C" t) at last_c) (at + 3 + length v) fs k)

judge_sane : (s : List ℕ) → SaneVerdict (judge s)
unfolding judge
judge_sane s = go (ltb longest_book (length s))
  where
    go : (b : Bool) → SaneVerdict (cond b (Refused refusal.too_long 0) (walk (Reading at_front) 0 0 (fields_of s)))
    go true = omega arith
    go false = walk_sane (Reading at_front) 0 0 (fields_of s) tt

pub accepted_sane : (s : List ℕ) (terms : Terms) (cs : List Customer) → judge s ≡ Accepted terms cs → Customers cs
accepted_sane s terms cs e = subst SaneVerdict e (judge_sane s)

pub refused_above : (s : List ℕ) (n place : ℕ) → judge s ≡ Refused n place → 0 < n
refused_above s n place e = subst SaneVerdict e (judge_sane s)
