-- The lines of the seats: what stands before the first blank and after it, the next line, and the rows that are listed.
-- Assumes nothing.
use Prim.Native.Nat.{ℕ, suc, ◌+◌, ◌-◌, ◌≤◌, ◌<◌}
use mathlib.Core.Path.{◌≡◌, refl, sym, ap, ap₂, subst, ◌∙◌}
use mathlib.Core.Bool.{Bool, false, cond, not}
use mathlib.Core.List.{List, [], ◌∷◌, ◌++◌, map, append_assoc, append-nil}
use native.Mathlib.Numerals.{add-one}
use native.Mathlib.Omega.{arith}
use lib.ListN.{length, get_or, take, drop, set, length-append, length-set, drop_of_length-le}
use lib.Seq.{take-nil, take-suc-set}
use lib.Dec.{eqb}
use borrow.Author.Tests.{eqb-true, eqb-false, ne_eqb, ltb-true, ltb-false}
use Rattle.std.specs.Prelude.{Some, None, nat_eq, nat_lt}
use Rattle.std.specs.List.{prefix_len, position, position_or_len, before_first, after_first}
use Rattle.std.proofs.lemmas.List.Sums.{prefix_len-le-length}
use Rattle.rules.specs.Text.{is}
use Rattle.rules.specs.Opening.{up_to_blank, after_blank}
use Rattle.rules.specs.Report.{digits}
use Rattle.laws.specs.ByTest.{by_test}
use Rattle.reasons.specs.Lines.{left_behind, behind_lines, first_line}
use Rattle.reasons.proofs.Texts.{drop_step}
use Rattle.cutback.specs.Lines.{onto, lines_of, codes_ahead}
use Rattle.writing.specs.Written.{Wrote, written_nothing, written_length, join}
use Rattle.cutting.specs.Told.{lots_of, row, rows}

-- the bytes around the first that passes
module _ (p : ℕ → Bool) (F : List ℕ → List ℕ) (none : F [] ≡ []) where
  before_by : ((x : ℕ) (xs : List ℕ) → F (x ∷ xs) ≡ cond (p x) [] (x ∷ F xs)) → (xs : List ℕ) → before_first p xs ≡ F xs
  before_by step [] = sym none
  before_by step (x ∷ xs) =
      by_test (p x) (λ e. simp (step x xs, e))
      (λ e. let n : 1 + prefix_len (λ y. not (p y)) xs ≡ suc (prefix_len (λ y. not (p y)) xs) = omega arith in simp (step x xs, e, n) (ap (λ (l : List ℕ). x ∷ l) (before_by step xs)))

  after_by : ((x : ℕ) (xs : List ℕ) → F (x ∷ xs) ≡ cond (p x) xs (F xs)) → (xs : List ℕ) → after_first p xs ≡ F xs
  after_by step [] = sym none
  after_by step (x ∷ xs) =
      by_test (p x) (λ e. simp (step x xs, e))
      (λ e. let n : 1 + prefix_len (λ y. not (p y)) xs + 1 ≡ suc (prefix_len (λ y. not (p y)) xs + 1) = omega arith in simp (step x xs, e, n) (after_by step xs))

-- the place of the first that passes
pub found : (p : ℕ → Bool) (xs : List ℕ) (i : ℕ) → position p xs ≡ Some i → (i ≡ position_or_len p xs) × (i < length xs)
found p xs i h =
    by_test (nat_lt (position_or_len p xs) (length xs)) (λ e. let q : Some (position_or_len p xs) ≡ Some i = rw e at h in let s : position_or_len p xs ≡ i = cc in (sym s, omega (arith, ltb-true _ _ e)))
    (λ e. let q : None ≡ Some i = rw e at h in absurd cc)

pub missed : (p : ℕ → Bool) (xs : List ℕ) → position p xs ≡ None → position_or_len p xs ≡ length xs
missed p xs h =
    by_test (nat_lt (position_or_len p xs) (length xs)) (λ e. let q : Some (position_or_len p xs) ≡ None = rw e at h in absurd cc)
    (λ e. omega (arith, ltb-false _ _ e, prefix_len-le-length (λ x. not (p x)) xs))

pub to_blank : (l : List ℕ) → before_first (λ b. nat_eq b 32) l ≡ up_to_blank l
to_blank l = before_by (λ b. nat_eq b 32) up_to_blank refl (λ x xs. refl) l

pub past_blank : (l : List ℕ) → after_first (λ b. nat_eq b 32) l ≡ after_blank l
past_blank l = after_by (λ b. nat_eq b 32) after_blank refl (λ x xs. refl) l

pub to_feed : (l : List ℕ) → before_first (λ b. nat_eq b 10) l ≡ first_line l
to_feed l = before_by (λ b. nat_eq b 10) first_line refl (λ x xs. refl) l

pub behind_none : (s : List ℕ) → behind_lines 0 s ≡ s
behind_none [] = refl
behind_none (b ∷ s) = refl

pub past_feed : (l : List ℕ) → after_first (λ b. nat_eq b 10) l ≡ behind_lines 1 l
past_feed l =
    after_by (λ b. nat_eq b 10) (behind_lines 1) refl (λ x xs. by_test (eqb x 10) (λ e. simp e (behind_none xs)) (λ e. simp e)) l

-- the lines one after the other
pub behind_more : (k m : ℕ) (s : List ℕ) → m ≡ k + 1 → behind_lines 1 (behind_lines k s) ≡ behind_lines m s
behind_more k m [] h = refl
behind_more k m (b ∷ s) h =
    by_test (eqb k 0) (λ e. let one : 1 ≡ m = omega (arith, eqb-true k 0 e) in simp e (ap (λ n. behind_lines n (b ∷ s)) one))
    (λ e. let other : eqb m 0 ≡ false = ne_eqb m 0 (λ z. omega arith) in simp (e, other) (behind_more (left_behind k b) (left_behind m b) s (by_test (eqb b 10) (λ f. simp f (omega (arith, eqb-false k 0 e))) (λ f. simp f h))))

pub lines_first : (s : List ℕ) → 0 < length s → lines_of s ≡ first_line s ∷ lines_of (behind_lines 1 s)
lines_first [] h = absurd (omega arith)
lines_first (b ∷ []) h = by_test (is "\n" b) (λ e. simp e) (λ e. simp e)
lines_first (b ∷ x ∷ s) h = by_test (is "\n" b) (λ e. simp e) (λ e. simp e (ap (onto b) (lines_first (x ∷ s) (omega arith))))

pub lines_none : (s : List ℕ) → length s ≡ 0 → lines_of s ≡ []
lines_none [] h = refl
lines_none (b ∷ s) h = absurd (omega arith)

-- lots of the first four lines
pub record Taken (all : List (List ℕ)) (rest : List (List ℕ)) (lots : List ℕ) (k : ℕ) : Type 0 where
  pub few : k ≤ 4
  pub room : length lots ≡ 4
  pub whole : take 4 (map lots_of all) ≡ take k lots ++ take (4 - k) (map lots_of rest)

pub taken_none : (all : List (List ℕ)) (lots : List ℕ) → length lots ≡ 4 → Taken all all lots 0
taken_none all lots h = record { few = omega arith; room = h; whole = refl }

module _ {all rest : List (List ℕ)} {lots : List ℕ} {k : ℕ} (t : Taken all rest lots k) where
  pub taken_more : (line : List ℕ) (next : List (List ℕ)) (n : ℕ) → k < 4 → rest ≡ line ∷ next → n ≡ lots_of line → Taken all next (set lots k n) (k + 1)
  taken_more line next n h e f =
      let m : 4 - k ≡ suc (4 - (k + 1)) = omega arith in
      record {
        few = omega arith;
        room = simp length-set t.room;
        whole =
            t.whole ∙ ap₂ (λ (j : ℕ) (r : List (List ℕ)). take k lots ++ take j (map lots_of r)) m e ∙ ap (λ (x : ℕ). take k lots ++ (x ∷ take (4 - (k + 1)) (map lots_of next))) (sym f)
            ∙ rw (add-one, take-suc-set lots k n (omega (arith, t.room)), append_assoc);
      }

  pub taken_ended : rest ≡ [] → take k lots ≡ take 4 (map lots_of all)
  taken_ended e = sym (t.whole ∙ ap (λ (r : List (List ℕ)). take k lots ++ take (4 - k) (map lots_of r)) e ∙ ap (λ (l : List ℕ). take k lots ++ l) (take-nil (4 - k)) ∙ append-nil (take k lots))

  pub taken_all : 4 ≤ k → take k lots ≡ take 4 (map lots_of all)
  taken_all h = let z : 4 - k ≡ 0 = omega arith in sym (t.whole ∙ ap (λ j. take k lots ++ take j (map lots_of rest)) z ∙ append-nil (take k lots))

-- rows
pub row_length : (code : List ℕ) (n : ℕ) → length (row code n) ≡ length code + 2 + length (digits n)
row_length code n = simp length-append (omega arith)

rows_done : (cs : List (List ℕ)) → rows cs [] ≡ []
rows_done [] = refl
rows_done (c ∷ cs) = refl

-- what is listed when i rows are
pub record Put (entry lines cuts out rest : List ℕ) (here i : ℕ) : Type 0 where
  pub done : List ℕ
  pub wrote : Wrote 0 done entry out here
  pub whole : done ++ rows (codes_ahead rest) (drop i cuts) ≡ rows (codes_ahead lines) cuts
  pub within : i ≤ length cuts
  pub passed : i + length (lines_of rest) ≡ length (lines_of lines)
  pub same : length out ≡ length entry

pub put_none : (entry lines cuts : List ℕ) → Put entry lines cuts entry lines 0 0
put_none entry lines cuts =
    record {
      done = [];
      wrote = record { whole = sym (written_nothing 0 entry); next = refl };
      whole = refl;
      within = omega arith;
      passed = omega arith;
      same = refl;
    }

module _ {entry lines cuts out rest : List ℕ} {here i : ℕ} (p : Put entry lines cuts out rest here i) where
  pub put_all : length cuts ≤ i → Wrote 0 (rows (codes_ahead lines) cuts) entry out here
  put_all h =
      let e : drop i cuts ≡ [] = drop_of_length-le cuts h in
      let w : p.done ≡ rows (codes_ahead lines) cuts = sym (append-nil p.done) ∙ ap (λ (l : List ℕ). p.done ++ l) (sym (ap (rows (codes_ahead rest)) e ∙ rows_done (codes_ahead rest))) ∙ p.whole in
      subst (λ (x : List ℕ). Wrote 0 x entry out here) w p.wrote

  module _ (few : length cuts ≤ length (lines_of lines)) (h : i < length cuts) where
    line_there : 0 < length rest
    line_there = by_test (eqb (length rest) 0) (λ e. absurd (omega (arith, p.passed, ap length (lines_none rest (eqb-true _ _ e))))) (λ e. omega (arith, eqb-false _ _ e))

    lines_so : lines_of rest ≡ first_line rest ∷ lines_of (behind_lines 1 rest)
    lines_so = lines_first rest line_there

    module _ {code next : List ℕ} {cut : ℕ} (c : code ≡ up_to_blank (first_line rest)) (n : next ≡ behind_lines 1 rest) (g : cut ≡ get_or cuts i 0) where
      rows_so : rows (codes_ahead rest) (drop i cuts) ≡ row code cut ++ rows (codes_ahead next) (drop (i + 1) cuts)
      rows_so = rw (c, n, g) (ap₂ rows (ap (map up_to_blank) lines_so) (drop_step cuts i h))

      pub row_room : length (rows (codes_ahead lines) cuts) ≤ length entry → here + length (row code cut) ≤ length out
      row_room r =
          let all = ap length p.whole in
          let more = ap length rows_so in
          omega (arith, p.wrote.next, p.same, length-append p.done (rows (codes_ahead rest) (drop i cuts)), length-append (row code cut) (rows (codes_ahead next) (drop (i + 1) cuts)))

      pub put_more : length (rows (codes_ahead lines) cuts) ≤ length entry → {exit : List ℕ} {r : ℕ} → Wrote here (row code cut) out exit r → Put entry lines cuts exit next r (i + 1)
      put_more room {exit} {r} w =
          record {
            done = p.done ++ row code cut;
            wrote = join p.wrote w (omega arith);
            whole = append_assoc p.done (row code cut) (rows (codes_ahead next) (drop (i + 1) cuts)) ∙ ap (λ (l : List ℕ). p.done ++ l) (sym rows_so) ∙ p.whole;
            within = omega arith;
            passed = let more = ap (λ (l : List ℕ). length (lines_of l)) n in omega (arith, p.passed, ap length lines_so);
            same = ap length w.whole ∙ written_length here (row code cut) out (row_room room) ∙ p.same;
          }
