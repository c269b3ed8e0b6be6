-- A turn of the loop over customers. Between two groups the arrays hold the customers read so far, and the walk over the book is the walk
-- from here on with these customers.
-- Assumes nothing.
use Prim.Native.Nat.{ℕ, ◌+◌, ◌-◌, ◌≤◌, ◌<◌}
use mathlib.Core.Path.{◌≡◌, refl, sym, ap, ap₂, subst, ◌∙◌}
use mathlib.Core.List.Memᴰ
use mathlib.Core.List.{List, [], ◌∷◌, ◌++◌, map, map-append, Memᴰ}
use mathlib.Core.Bool.{Bool, true, false, cond, not}
use mathlib.Core.Logic.{⊎_elim}
use native.Mathlib.Omega.{arith}
use native.Mathlib.Numerals.{add-one}
use lib.ListN.{length, take, drop, set, length-append, length-set}
use lib.Seq.{take-suc-set}
use lib.Dec.{leb, ltb, eqb}
use borrow.Author.Tests.{leb-true, leb-false, ltb-true, ltb-false, lt-ltb, le-ltb, ne_eqb}
use Rattle.rules.specs.declared.Terms.{Terms}
use Rattle.rules.specs.declared.Standing.{Standing}
use Rattle.rules.specs.Limits.{most_customers, most_seats, longest_code}
use Rattle.rules.specs.Refusal as refusal
use Rattle.rules.specs.Text.{is}
use Rattle.rules.specs.Codes.{is_code}
use Rattle.rules.specs.Fields.{Field, Cut, fields_of}
use Rattle.rules.specs.Book.{
  Customer,
  position,
  given,
  Stop,
  Next,
  refuse,
  Nobody,
  after_c,
  opens,
  ends,
  within,
  InGroup,
  Reading,
  Ended,
  step,
  Refused,
  Accepted,
  placed,
  walk,
}
use Rattle.rules.specs.Standing.{standing}
use Rattle.rules.specs.Cascade.{offered_by, pending_by}
use Rattle.laws.specs.CodeLength.{code_length_lem}
use Rattle.laws.specs.Keys.{key_of}
use Rattle.laws.specs.Fields.{size_at, fields_end, fields_cut, fields_whole}
use Rattle.laws.specs.Groups.{Read, Bad, Good, group_from, carried, walk_group, group_rides}
use Rattle.laws.specs.SeatFields.{seats_in}
use Rattle.laws.specs.All2.{All2}
use Rattle.codes.specs.declared.Code.{Code}
use Rattle.codes.specs.declared.Code.TheVariants.{Key, Malformed}
use Rattle.codes.specs.Codes.{code_of, given_in}
use Rattle.codes.proofs.Laws.{key_read, none_read, taken_keys}
use Rattle.fields.specs.declared.Found.TheVariants.{Short}
use Rattle.fields.specs.First.{first_at}
use Rattle.fields.specs.Laws.{Stands, Nothing, none, cut, nothing}
use Rattle.fields.specs.declared.Refusal.{Refusal}
use Rattle.group.specs.declared.GroupAt.{GroupAt}
use Rattle.group.specs.declared.GroupAt.TheVariants.{Closed}
use Rattle.group.specs.declared.GroupAt.TheVariants.{Refused as NoGroup}
use Rattle.fields.specs.Reading.{refused_at, no_refusal}
use Rattle.group.specs.Group.{group_at}
use Rattle.positions.proofs.Again.{group_again}
use Rattle.roll.specs.declared.Roll.{Roll}
use Rattle.roll.specs.declared.CodeAt.TheVariants.{Key as NewKey}
use Rattle.roll.specs.declared.CodeAt.TheVariants.{Refused as NoCode}
use Rattle.roll.specs.Roll.{byte_of, stake_as, key_in, standing_in, stake_in, CodeIn, Held, Room, ended_with, Rolled, verdict_from, new_code, code_at, end_at}

pub record Between (s : List ℕ) (terms : Terms) (first at count : ℕ) (keys starts standings stakes : List ℕ) : Type 0 where
  pub customers : List Customer
  pub last_c : ℕ
  pub few : length customers ≤ most_customers
  pub sound : (c : Customer) → Memᴰ c customers → is_code c.code ≡ true
  pub room : Room keys starts standings stakes
  pub held : Held s terms customers keys starts standings stakes count
  pub walks :
      walk (Reading (InGroup terms [] Nobody)) 0 first (fields_of (drop first s))
      ≡ walk (Reading (InGroup terms customers Nobody)) last_c at (fields_of (drop at s))

-- the columns are as long as they were
pub record Lasting (keys₀ starts₀ standings₀ stakes₀ keys starts standings stakes : List ℕ) : Type 0 where
  pub keys_last : length keys ≡ length keys₀
  pub starts_last : length starts ≡ length starts₀
  pub standings_last : length standings ≡ length standings₀
  pub stakes_last : length stakes ≡ length stakes₀

-- nobody was read yet
pub begun : (s : List ℕ) (terms : Terms) (first : ℕ) {keys starts standings stakes : List ℕ} → Room keys starts standings stakes →
    Between s terms first first 0 keys starts standings stakes
begun s terms first r =
    record {
      customers = [];
      last_c = 0;
      few = omega arith;
      sound = λ c m. absurd (Memᴰ.not-nil m);
      room = r;
      held = record { counted = refl; keyed = refl; stood = refl; staked = refl; coded = tt };
      walks = refl;
    }

-- a column with one customer more
column_more : (f : Customer → ℕ) (cs : List Customer) (c : Customer) (a : List ℕ) (count x : ℕ) → count < length a → take count a ≡ map f cs → f c ≡ x →
    take (count + 1) (set a count x) ≡ map f (cs ++ c ∷ [])
column_more f cs c a count x h e y = rw (add-one, take-suc-set a count x h, e, ← y) (sym (map-append f cs (c ∷ [])))

all2_more : {A B : Type 0} (R : A → B → Type 0) (l : List A) (m : List B) (a : A) (b : B) → All2 R l m → R a b → All2 R (l ++ a ∷ []) (m ++ b ∷ [])
all2_more R [] [] a b h r = (r, tt)
all2_more R [] (y ∷ m) a b h r = absurd h
all2_more R (x ∷ l) [] a b h r = absurd h
all2_more R (x ∷ l) (y ∷ m) a b h r = (h.0, all2_more R l m a b h.1 r)

-- where bytes are left, a field begins
some_field : (s : List ℕ) (i : ℕ) → i < length s → fields_of (drop i s) ≡ [] → ⊥
some_field s i h e = go (leb (i + 3 + size_at s i) (length s)) refl
  where
    no_field : {f : Field} {fs : List Field} → [] ≡ f ∷ fs → ⊥
    no_field x = let z : ◌≡◌ {A = ℕ} 0 1 = cc in omega arith

    go : (p : Bool) → leb (i + 3 + size_at s i) (length s) ≡ p → ⊥
    go true x = no_field (sym e ∙ fields_whole s i (leb-true _ _ x))
    go false x = no_field (sym e ∙ fields_cut s i h (omega (arith, leb-false)))

module _ {s : List ℕ} {terms : Terms} {first at count : ℕ} {keys starts standings stakes : List ℕ} (b : Between s terms first at count keys starts standings stakes) where
  -- 2: no field is there
  pub turn_short : first_at at (fields_of (drop at s)) ≡ Short → verdict_from terms first (fields_of (drop first s)) ≡ Refused refusal.cut_short at
  turn_short h = b.walks ∙ go (fields_of (drop at s)) (nothing at _ h)
    where
      go : (fs : List Field) → Nothing fs → (walk (Reading (InGroup terms b.customers Nobody)) b.last_c at fs) ≡ Refused refusal.cut_short at
      go [] none = refl
      go (Cut ∷ fs) cut = refl
      go (Rattle.rules.specs.Fields.Whole _ _ ∷ fs) x5 = elim x5 [ ]

  module _ {t start end : ℕ} (k : Stands s at t start end) where
    abbrev value : List ℕ
    value = take (end - start) (drop start s)

    ends_at : at + 3 + length value ≡ end
    ends_at = omega (arith, k.size, k.begins, k.order)

    -- the walk from the field that was found
    walked :
        walk (Reading (InGroup terms [] Nobody)) 0 first (fields_of (drop first s))
        ≡ placed b.last_c at (step (InGroup terms b.customers Nobody) t value) λ stage. walk stage (cond (is "C" t) at b.last_c) end (fields_of (drop end s))
    walked = b.walks ∙ rw (k.fields, ends_at)

    found :
        verdict_from terms first (fields_of (drop first s))
        ≡ (placed b.last_c at (step (InGroup terms b.customers Nobody) t value) λ stage. walk stage (cond (is "C" t) at b.last_c) end (fields_of (drop end s)))
    found = walked

    -- 3: neither C nor Z
    pub turn_other : (t ≡ 67 → ⊥) → (t ≡ 90 → ⊥) → verdict_from terms first (fields_of (drop first s)) ≡ Refused refusal.misplaced at
    unfolding step within
    turn_other c z = found ∙ other (ne_eqb t 67 c) (ne_eqb t 90 z)
      where
        other : is "C" t ≡ false → is "Z" t ≡ false →
            (placed b.last_c at (step (InGroup terms b.customers Nobody) t value) λ stage. walk stage (cond (is "C" t) at b.last_c) end (fields_of (drop end s))) ≡ Refused refusal.misplaced at
        other x y = rw (x, y)

  -- Z
  module _ {start end : ℕ} (k : Stands s at 90 start end) where
    -- 5, or what stands behind it
    at_z :
        verdict_from terms first (fields_of (drop first s))
        ≡ (placed b.last_c at (ends terms (value k) b.customers) λ stage. walk stage b.last_c end (fields_of (drop end s)))
    unfolding step
    at_z = found k

    behind : (fs : List Field) → fields_of (drop end s) ≡ fs → (p : Bool) → ltb end (length s) ≡ p →
        (walk (Ended terms b.customers) b.last_c end fs) ≡ cond p (Refused refusal.misplaced end) (Accepted terms b.customers)
    behind [] e true h = absurd (some_field s end (omega (arith, ltb-true)) e)
    behind [] e false h = refl
    behind (f ∷ fs) e true h = refl
    behind (f ∷ fs) e false h = absurd (some (sym (fields_end s end (omega (arith, ltb-false))) ∙ e))
      where
        some : [] ≡ f ∷ fs → ⊥
        some x = let z : ◌≡◌ {A = ℕ} 0 1 = cc in omega arith

    ended : (p q : Bool) → ltb start end ≡ p → ltb end (length s) ≡ q →
        verdict_from terms first (fields_of (drop first s)) ≡ cond p (Refused refusal.malformed at) (cond q (Refused refusal.misplaced end) (Accepted terms b.customers))
    ended true q x y =
        let long : ltb 0 (length (value k)) ≡ true = lt-ltb 0 (length (value k)) (omega (arith, k.size, ltb-true)) in
        at_z ∙ rw long
    ended false q x y =
        let empty : ltb 0 (length (value k)) ≡ false = le-ltb 0 (length (value k)) (omega (arith, k.size, ltb-false)) in
        at_z ∙ rw empty (behind (fields_of (drop end s)) refl q y)

    -- Z and what stands behind it: the refusal, or the customers
    pub turn_ended : (r : Refusal) → r ≡ end_at at start end (length s) →
        Rolled s (verdict_from terms first (fields_of (drop first s))) keys starts standings stakes (ended_with r count terms.down)
    turn_ended r e = go (ltb start end) (ltb end (length s)) refl refl e
      where
        as_said : (f : Refusal) → r ≡ f → ended_with r count terms.down ≡ ended_with f count terms.down
        as_said f z = ap (λ (x : Refusal). ended_with x count terms.down) z

        go : (p q : Bool) → ltb start end ≡ p → ltb end (length s) ≡ q → r ≡ cond p (refused_at refusal.malformed at) (cond q (refused_at refusal.misplaced end) (no_refusal)) →
            Rolled s (verdict_from terms first (fields_of (drop first s))) keys starts standings stakes (ended_with r count terms.down)
        go true q x y z = rw (ended true q x y) (as_said (refused_at refusal.malformed at) z)
        go false true x y z = rw (ended false true x y) (as_said (refused_at refusal.misplaced end) z)
        go false false x y z = rw (ended false false x y) (subst (λ (t : Roll). (t.refusal ≡ no_refusal) × Held s terms b.customers keys starts standings stakes t.count × (t.down ≡ terms.down)) (sym (as_said no_refusal z)) (refl, b.held, refl))

  -- C
  module _ {start end : ℕ} (k : Stands s at 67 start end) where
    at_c :
        walk (Reading (InGroup terms [] Nobody)) 0 first (fields_of (drop first s))
        ≡ placed b.last_c at (opens terms (value k) b.customers) λ stage. walk stage at end (fields_of (drop end s))
    unfolding step
    at_c = walked k

    -- the keys are those of the customers
    known : is_code (value k) ≡ true → given (value k) b.customers ≡ given_in (take count keys) (key_of (value k))
    known e =
        taken_keys (λ (c : Customer). c.code) (value k) b.customers e b.sound ∙ ap (λ (l : List ℕ). given_in l (key_of (value k))) (sym b.held.keyed)

    same_few : leb most_customers count ≡ leb most_customers (length b.customers)
    same_few = ap (leb most_customers) b.held.counted

    -- what C comes to, by its three tests
    opened : (p q g : Bool) → leb most_customers count ≡ p → is_code (value k) ≡ q → given (value k) b.customers ≡ g →
        opens terms (value k) b.customers ≡ refuse refusal.too_many p (refuse refusal.malformed (not q) (refuse refusal.given_before g (Next (Reading (InGroup terms b.customers (after_c (value k)))))))
    opened p q g x y z = let w : leb most_customers (length b.customers) ≡ p = sym same_few ∙ x in rw (w, y, z)

    refuses : (n : ℕ) → eqb n refusal.uncovered ≡ false → opens terms (value k) b.customers ≡ Stop n → verdict_from terms first (fields_of (drop first s)) ≡ Refused n at
    refuses n x e = at_c ∙ rw (e, x)

    pub turn_no_code : (r : Refusal) → code_at at count (take count keys) (value k) ≡ NoCode r → verdict_from terms first (fields_of (drop first s)) ≡ Refused r.number r.place
    turn_no_code r e = full (leb most_customers count) refl e
      where
        as_said : (n : ℕ) → NoCode (refused_at n at) ≡ NoCode r → Refused n at ≡ Refused r.number r.place
        as_said n x = let f : refused_at n at ≡ r = cc in ap (λ (y : Refusal). Refused y.number y.place) f

        not_new : {x : ℕ} → NewKey x ≡ NoCode r → ⊥
        not_new x = let z : ◌≡◌ {A = ℕ} 0 1 = cc in omega arith

        seen : (x : ℕ) → code_of (value k) ≡ Key x → leb most_customers count ≡ false → (g : Bool) → given_in (take count keys) x ≡ g → cond g (NoCode (refused_at refusal.given_before at)) (NewKey x) ≡ NoCode r →
            verdict_from terms first (fields_of (drop first s)) ≡ Refused r.number r.place
        seen x c f true h y =
            let d = key_read (value k) x c in
            let g : given (value k) b.customers ≡ true = known d.0 ∙ ap (given_in (take count keys)) d.1 ∙ h in
            refuses refusal.given_before refl (opened false true true f d.0 g) ∙ as_said refusal.given_before y
        seen x c f false h y = absurd (not_new y)

        read : (c : Code) → code_of (value k) ≡ c → leb most_customers count ≡ false → new_code at (take count keys) c ≡ NoCode r → verdict_from terms first (fields_of (drop first s)) ≡ Refused r.number r.place
        read (Key x) c f y = seen x c f (given_in (take count keys) x) refl y
        read Malformed c f y = refuses refusal.malformed refl (opened false false (given (value k) b.customers) f (none_read (value k) c) refl) ∙ as_said refusal.malformed y

        full : (p : Bool) → leb most_customers count ≡ p → cond p (NoCode (refused_at refusal.too_many at)) (new_code at (take count keys) (code_of (value k))) ≡ NoCode r →
            verdict_from terms first (fields_of (drop first s)) ≡ Refused r.number r.place
        full true f y = refuses refusal.too_many refl (opened true (is_code (value k)) (given (value k) b.customers) f refl refl) ∙ as_said refusal.too_many y
        full false f y = read (code_of (value k)) refl f y

    -- a new customer
    pub record New (key : ℕ) : Type 0 where
      pub room : count < most_customers
      pub code : is_code (value k) ≡ true
      pub key_is : key_of (value k) ≡ key
      pub goes :
          walk (Reading (InGroup terms [] Nobody)) 0 first (fields_of (drop first s))
          ≡ carried terms b.customers at (group_from terms (after_c (value k)) at end (fields_of (drop end s)))

    pub turn_new : (key : ℕ) → code_at at count (take count keys) (value k) ≡ NewKey key → New key
    turn_new key e = full (leb most_customers count) refl e
      where
        not_refused : {r : Refusal} → NoCode r ≡ NewKey key → ⊥
        not_refused x = let z : ◌≡◌ {A = ℕ} 0 1 = cc in omega arith

        seen : (x : ℕ) → code_of (value k) ≡ Key x → leb most_customers count ≡ false → (g : Bool) → given_in (take count keys) x ≡ g → cond g (NoCode (refused_at refusal.given_before at)) (NewKey x) ≡ NewKey key → New key
        seen x c f true h y = absurd (not_refused y)
        seen x c f false h y =
            let d = key_read (value k) x c in
            let g : given (value k) b.customers ≡ false = known d.0 ∙ ap (given_in (take count keys)) d.1 ∙ h in
            let z : x ≡ key = cc in
            record {
              room = omega (arith, leb-false);
              code = d.0;
              key_is = d.1 ∙ z;
              goes = at_c ∙ rw (opened false true false f d.0 g) (walk_group terms b.customers (after_c (value k)) at end (fields_of (drop end s)) tt);
            }

        read : (c : Code) → code_of (value k) ≡ c → leb most_customers count ≡ false → new_code at (take count keys) c ≡ NewKey key → New key
        read (Key x) c f y = seen x c f (given_in (take count keys) x) refl y
        read Malformed c f y = absurd (not_refused y)

        full : (p : Bool) → leb most_customers count ≡ p → cond p (NoCode (refused_at refusal.too_many at)) (new_code at (take count keys) (code_of (value k))) ≡ NewKey key → New key
        full true f y = absurd (not_refused y)
        full false f y = read (code_of (value k)) refl f y

    module _ {key : ℕ} (w : New key) where
      module _ (r : GroupAt) (said : r ≡ group_at terms (group_from terms (after_c (value k)) at end (fields_of (drop end s)))) where
        pub turn_no_group : (f : Refusal) → r ≡ NoGroup f → verdict_from terms first (fields_of (drop first s)) ≡ Refused f.number f.place
        turn_no_group f e = w.goes ∙ go (group_from terms (after_c (value k)) at end (fields_of (drop end s))) (sym said ∙ e)
          where
            go : (g : Read) → group_at terms g ≡ NoGroup f → (carried terms b.customers at g) ≡ Refused f.number f.place
            go (Bad n p) x = let y : refused_at n p ≡ f = cc in ap (λ (z : Refusal). Refused z.number z.place) y
            go (Good c p fs) x = absurd (let z : ◌≡◌ {A = ℕ} 0 1 = cc in omega arith)

        -- the customer that was read, and where its group ends
        pub record Reads (place : ℕ) (st : Standing) (offered pending : ℕ) : Type 0 where
          pub customer : Customer
          pub code : customer.code ≡ value k
          pub stands : standing_in terms customer ≡ byte_of st
          pub stake : stake_in terms customer ≡ stake_as st offered pending
          pub seats : seats_in most_seats (fields_of (drop end s)) ≡ customer.seats
          pub later : end ≤ place
          pub goes :
              walk (Reading (InGroup terms [] Nobody)) 0 first (fields_of (drop first s))
              ≡ walk (Reading (InGroup terms (b.customers ++ customer ∷ []) Nobody)) at place (fields_of (drop place s))

        reads : (place : ℕ) (st : Standing) (offered pending : ℕ) → r ≡ Closed place st offered pending → Reads place st offered pending
        unfolding standing_in stake_in
        reads place st offered pending e = go (group_from terms (after_c (value k)) at end (fields_of (drop end s))) refl (sym said ∙ e)
          where
            go : (g : Read) → group_from terms (after_c (value k)) at end (fields_of (drop end s)) ≡ g → group_at terms g ≡ Closed place st offered pending → Reads place st offered pending
            go (Bad n p) h x = absurd (let z : ◌≡◌ {A = ℕ} 0 1 = cc in omega arith)
            go (Good c p fs) h x =
                let d = group_rides s terms (value k) at end c p fs h in
                let e₀ : p ≡ place = cc in
                let e₁ : standing terms c ≡ st = cc in
                let e₂ : offered_by (standing terms c) (position c) ≡ offered = cc in
                let e₃ : pending_by (standing terms c) (position c) ≡ pending = cc in
                record {
                  customer = c;
                  code = d.named;
                  stands = ap byte_of e₁;
                  stake = λ i. stake_as (e₁ i) (e₂ i) (e₃ i);
                  seats = group_again terms at s (value k) end c p fs h;
                  later = omega (arith, d.later);
                  goes = w.goes ∙ ap (carried terms b.customers at) h ∙ ap₂ (walk (Reading (InGroup terms (b.customers ++ c ∷ []) Nobody)) at) e₀ (d.fields ∙ ap (λ (n : ℕ). fields_of (drop n s)) e₀);
                }

        -- the columns with one customer more
        pub turn_more : (place : ℕ) (st : Standing) (offered pending : ℕ) → r ≡ Closed place st offered pending → end - start ≡ size_at s at →
            (end ≤ place) × Between s terms first place (count + 1) (set keys count key) (set starts count start) (set standings count (byte_of st))
            (set stakes count (stake_as st offered pending))
        turn_more place st offered pending e said-size =
            let d = reads place st offered pending e in
            let c = d.customer in
            let cs = b.customers in
            let n = b.held.counted in
            let size-c : length c.code ≡ end - start = ap length d.code ∙ k.size in
            let code-c : is_code c.code ≡ true = ap is_code d.code ∙ w.code in
            let short-c : length c.code ≤ longest_code = code_length_lem c.code code-c in
            let behind-c : start + length c.code ≡ end = omega (arith, size-c, k.order) in
            let place-c : start - 1 ≡ at + 2 = omega (arith, k.begins) in
            let code_in : CodeIn s start c = record {
              behind = omega (arith, k.begins);
              size = rw place-c (omega (arith, said-size, size-c, short-c));
              bytes = ap (λ m. take m (drop start s)) size-c ∙ sym d.code;
              inside = omega (arith, size-c, k.inside, k.order);
              seats = rw behind-c d.seats;
            } in
            let h = b.room in (
              d.later,
              record {
                customers = cs ++ c ∷ [];
                last_c = at;
                few = simp length-append (omega (arith, w.room, n));
                sound = λ x m. ⊎_elim (λ (y : Memᴰ x cs). b.sound x y) (λ (y : Memᴰ x (c ∷ [])). ap (λ (z : Customer). is_code z.code) (Memᴰ.eq_of_singleton y) ∙ code-c) (Memᴰ.append_cases cs m);
                room =
                    record {
                      for_keys = simp length-set h.for_keys;
                      for_starts = simp length-set h.for_starts;
                      for_standings = simp length-set h.for_standings;
                      for_stakes = simp length-set h.for_stakes;
                    };
                held =
                    record {
                      counted = simp length-append (omega (arith, n));
                      keyed = column_more key_in cs c keys count key (omega (arith, w.room, h.for_keys)) b.held.keyed (ap key_of d.code ∙ w.key_is);
                      stood = column_more (standing_in terms) cs c standings count _ (omega (arith, w.room, h.for_standings)) b.held.stood d.stands;
                      staked = column_more (stake_in terms) cs c stakes count _ (omega (arith, w.room, h.for_stakes)) b.held.staked d.stake;
                      coded = rw (add-one, take-suc-set starts count start (omega (arith, w.room, h.for_starts))) (all2_more (CodeIn s) (take count starts) cs start c b.held.coded code_in);
                    };
                walks = d.goes;
              },
            )
