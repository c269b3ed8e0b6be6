-- Which bytes stand in values of an accepted book: digits, letters and points, and so no semicolon, line feed, blank or comma. And bytes with one in
-- another's place.
-- Assumes nothing.
use Rattle.std.specs.Prelude.{ℕ, ◌≤◌, ◌≡◌, refl, List, [], ◌∷◌, ◌++◌, true, false, ◌||◌, leb, eqb}
use Rattle.std.proofs.Math.Bool.{and-eq-true_iff}
use Rattle.std.proofs.Common.{arith, leb-true, ne_eqb}
use Rattle.rules.specs.Text.{is}
use Rattle.rules.specs.Figures.{is_digit, all_digits_of}
use Rattle.rules.specs.Codes.{is_letter, all_of_code}
use Rattle.laws.specs.ByTest.{by_test, not_either}
use Rattle.sheets.specs.Mark.{respelt, respelled, stands_in}

abbrev pub Each : (ℕ → Type 0) → List ℕ → Type 0
Each P [] = Unit
Each P (b ∷ v) = P b × Each P v

-- a byte does not stand in some bytes
abbrev pub Lacks : ℕ → List ℕ → Type 0
Lacks c v = Each (λ b. eqb b c ≡ false) v

pub each_also : {P Q : ℕ → Type 0} → ((b : ℕ) → P b → Q b) → (v : List ℕ) → Each P v → Each Q v
each_also f [] h = tt
each_also f (b ∷ v) h = (f b h.0, each_also f v h.1)

pub each_append : (P : ℕ → Type 0) (v w : List ℕ) → Each P v → Each P w → Each P (v ++ w)
each_append P [] w h k = k
each_append P (b ∷ v) w h k = (h.0, each_append P v w h.1 k)

pub each_respelled : (P Q : ℕ → Type 0) (from to : ℕ) → ((b : ℕ) → P b → Q (respelt from to b)) → (v : List ℕ) → Each P v → Each Q (respelled from to v)
each_respelled P Q from to f [] h = tt
each_respelled P Q from to f (b ∷ v) h = (f b h.0, each_respelled P Q from to f v h.1)

pub lacks_stands : (c : ℕ) (v : List ℕ) → Lacks c v → stands_in c v ≡ false
lacks_stands c [] h = refl
lacks_stands c (b ∷ v) h = rw (h.0, lacks_stands c v h.1)

pub stands_lacks : (c : ℕ) (v : List ℕ) → stands_in c v ≡ false → Lacks c v
stands_lacks c [] h = tt
stands_lacks c (b ∷ v) h = let k = not_either (eqb b c) (stands_in c v) h in (k.0, stands_lacks c v k.1)

-- what is not there is not respelled
pub respelled_not : (from to : ℕ) (v : List ℕ) → Lacks from v → respelled from to v ≡ v
respelled_not from to [] h = refl
respelled_not from to (b ∷ v) h = rw (h.0, respelled_not from to v h.1)

pub respelled_append : (from to : ℕ) (v w : List ℕ) → respelled from to (v ++ w) ≡ respelled from to v ++ respelled from to w
respelled_append from to [] w = refl
respelled_append from to (b ∷ v) w = rw (respelled_append from to v w)

-- ---- the bytes of a part, of a figure in a book, and of codes and lots

pub record Part (b : ℕ) : Type 0 where
  pub semicolon : is ";" b ≡ false
  pub feed : is "\n" b ≡ false
  pub blank : is " " b ≡ false

pub record Clean (b : ℕ) : Type 0 where
  pub part : Part b
  pub comma : is "," b ≡ false

pub record Bare (b : ℕ) : Type 0 where
  pub clean : Clean b
  pub point : is "." b ≡ false

-- digits and letters stand above the point, and the semicolon between them
bare : (b : ℕ) → 48 ≤ b → (b ≡ 59 → ⊥) → Bare b
bare b h n =
    let part : Part b = record { semicolon = ne_eqb b 59 n; feed = ne_eqb b 10 (λ e. omega arith); blank = ne_eqb b 32 (λ e. omega arith) } in
    record { clean = record { part = part; comma = ne_eqb b 44 (λ e. omega arith) }; point = ne_eqb b 46 (λ e. omega arith) }

digit_bare : (b : ℕ) → is_digit b ≡ true → Bare b
digit_bare b h = let k = (and-eq-true_iff (leb 48 b) (leb b 57)).0 h in let l = leb-true 48 b k.0 in let m = leb-true b 57 k.1 in bare b l (λ e. omega arith)

letter_bare : (b : ℕ) → is_letter b ≡ true → Bare b
letter_bare b h = let k = (and-eq-true_iff (leb 65 b) (leb b 90)).0 h in let l = leb-true 65 b k.0 in bare b (omega arith) (λ e. omega arith)

pub digits_bare : (v : List ℕ) → all_digits_of v ≡ true → Each Bare v
digits_bare [] h = tt
digits_bare (b ∷ v) h = let k = (and-eq-true_iff (is_digit b) (all_digits_of v)).0 h in (digit_bare b k.0, digits_bare v k.1)

pub code_bare : (v : List ℕ) → all_of_code v ≡ true → Each Bare v
code_bare [] h = tt
code_bare (b ∷ v) h =
    let k = (and-eq-true_iff (is_digit b || is_letter b) (all_of_code v)).0 h in
    (by_test (is_digit b) (λ e. digit_bare b e) (λ e. letter_bare b (rw e at k.0)), code_bare v k.1)
