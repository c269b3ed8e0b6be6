-- What the code that writes a sheet cites: a value by the byte that its points and the one that its blanks become; how long a field is in a
-- sheet, whatever the mark; and what a verdict comes to.
-- Assumes nothing.
use Rattle.std.specs.Prelude.{ℕ, ◌+◌, ◌≤◌, ◌≡◌, refl, cond, ◌||◌, List, [], ◌∷◌, map, length, eqb, Result, Ok, Err}
use Prim.Native.Char.{code}
use Rattle.std.proofs.Common.{sym, ap, ap₂, ◌∙◌, arith, length-append, eqb-true}
use Rattle.std.proofs.lemmas.List.{length-map}
use Rattle.rules.specs.Text.{is, bytes}
use Rattle.rules.specs.Division.{sum_of}
use Rattle.rules.specs.Report.{joined}
use Rattle.rules.specs.Fields.{Field, Whole, Cut, fields_of}
use Rattle.rules.specs.Book.{Verdict, Refused, Accepted}
use Rattle.laws.specs.ByTest.{by_test}
use Rattle.fields.specs.declared.Refusal.{Refusal}
use Rattle.sheets.specs.Mark.{respelt, respelled, in_sheet}
use Rattle.sheets.specs.Line.{figured, traded}
use Rattle.sheets.specs.Write.{value_in, line_in, shown, field_in, sheet_of}

-- the number and the place of what was judged; none of an accepted book
abbrev pub IsAccepted : Verdict → Type 0
IsAccepted (Refused n place) = ⊥
IsAccepted (Accepted terms cs) = Unit {0}

abbrev pub JudgedSo : Verdict → Result (Unit {0}) Refusal → Type 0
JudgedSo v (Ok u) = IsAccepted v
JudgedSo v (Err r) = v ≡ Refused r.number r.place

-- a byte with its point, and then its blank, become others
abbrev pub spelt : ℕ → ℕ → ℕ → ℕ
spelt mark blank b = respelt (code " ") blank (respelt (code ".") mark b)

-- the size of a value that stands in a book, in 64 bits
abbrev pub Small : ℕ → Type 0
Small n = n + 3 ≤ 18_446_744_073_709_551_615

-- how long a field is in a sheet, by its tag and the size of its value
abbrev pub shown_size : ℕ → ℕ → ℕ
shown_size t n =
    cond (is "I" t) (n + 2)
    (cond (is "K" t || is "H" t) (n + 1)
    (cond (is "Q" t) (n + 2)
    (cond (is "Z" t) 0 (n + 3))))

abbrev pub size_in : Field → ℕ
size_in Cut = 0
size_in (Whole t v) = shown_size t (length v)

unfoldable pub sheet_size : List Field → ℕ
sheet_size fs = sum_of size_in fs

pub respelled_length : (from to : ℕ) (v : List ℕ) → length (respelled from to v) ≡ length v
respelled_length from to v = length-map v (respelt from to)

-- one respelling after the other is one of each byte
pub spelt_twice : (mark blank : ℕ) (v : List ℕ) → map (spelt mark blank) v ≡ respelled (code " ") blank (in_sheet mark v)
spelt_twice mark blank [] = refl
spelt_twice mark blank (b ∷ v) = ap (λ (l : List ℕ). spelt mark blank b ∷ l) (spelt_twice mark blank v)

-- a byte in its own place changes nothing
respelt_same : (x b : ℕ) → respelt x x b ≡ b
respelt_same x b = by_test (eqb b x) (λ e. simp e (sym (eqb-true b x e))) (λ e. simp e)

pub respelled_same : (x : ℕ) (v : List ℕ) → respelled x x v ≡ v
respelled_same x [] = refl
respelled_same x (b ∷ v) = simp (respelt_same x b, respelled_same x v)

pub value_length : (mark t : ℕ) (v : List ℕ) → length (value_in mark t v) ≡ length v
value_length mark t v =
    by_test (figured t)
    (λ e. simp e (respelled_length (code ".") mark v))
    (λ e. by_test (traded t)
    (λ f. simp (e, f) (respelled_length (code " ") (code ";") (in_sheet mark v) ∙ respelled_length (code ".") mark v))
    (λ f. simp (e, f)))

pub line_length : (mark t : ℕ) (v : List ℕ) → length (line_in mark t v) ≡ length v + 3
line_length mark t v = omega (arith, value_length mark t v, length-append (value_in mark t v) (bytes "\n"))

pub shown_length : (mark t : ℕ) (v : List ℕ) → length (shown mark t v) ≡ shown_size t (length v)
shown_length mark t v =
    by_test (is "I" t) (λ a. simp a (omega arith)) (λ a.
    by_test (is "K" t || is "H" t) (λ b. simp (a, b) (omega arith)) (λ b.
    by_test (is "Q" t) (λ c. simp (a, b, c) (omega (arith, length-append v (bytes "\n")))) (λ c.
    by_test (is "Z" t) (λ d. simp (a, b, c, d)) (λ d. simp (a, b, c, d) (line_length mark t v)))))

pub fields_length : (mark : ℕ) (fs : List Field) → length (joined (field_in mark) fs) ≡ sheet_size fs
unfolding field_in sheet_size
fields_length mark [] = refl
fields_length mark (Cut ∷ fs) = omega (arith, fields_length mark fs)
fields_length mark (Whole t v ∷ fs) =
    length-append (shown mark t v) (joined (field_in mark) fs) ∙ ap₂ (λ (m n : ℕ). m + n) (shown_length mark t v) (fields_length mark fs)

-- the first line has six bytes
pub sheet_length : (mark : ℕ) (book : List ℕ) → length (sheet_of mark book) ≡ 6 + sheet_size (fields_of book)
unfolding sheet_of
sheet_length mark book = omega (arith, fields_length mark (fields_of book))

-- a field is at most three bytes longer in a sheet than its value
pub size_most : (t n : ℕ) → shown_size t n ≤ n + 3
size_most t n =
    by_test (is "I" t) (λ a. simp a (omega arith)) (λ a.
    by_test (is "K" t || is "H" t) (λ b. simp (a, b) (omega arith)) (λ b.
    by_test (is "Q" t) (λ c. simp (a, b, c) (omega arith)) (λ c.
    by_test (is "Z" t) (λ d. simp (a, b, c, d) (omega arith)) (λ d. simp (a, b, c, d) (omega arith)))))
