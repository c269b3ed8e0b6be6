-- The order of the refusals: the first number that is not 0 is the verdict, and where it is 0 the lots decide.
-- Assumes nothing.
use Prim.Native.Nat.{ℕ, ◌≤◌, ◌<◌}
use mathlib.Core.Path.{◌≡◌, refl, sym, ◌∙◌}
use mathlib.Core.List.{List}
use mathlib.Core.Bool.{Bool, true, false, cond, ◌||◌, or-true}
use native.Mathlib.Omega.{arith}
use lib.ListN.{length}
use Rattle.std.specs.Prelude.{Option, Some, None, Result, Ok, Err}
use lib.Dec.{ltb, eqb}
use borrow.Author.Tests.{lt-ltb, le-ltb, ne_eqb, eqb-true, eqb-false, ltb-true, ltb-false}
use Rattle.laws.specs.ByTest.{by_test, not_either}
use Rattle.cutback.specs.Limit.{tons, some_tons, may_stay}
use Rattle.cutback.specs.Seats.{seats_of, cuts_of}
use Rattle.cutback.specs.Judge.{Verdict, Refused, Cut, refuse, grams_bad, codes_bad, count_bad, lots_bad, number_of, judge}
use Rattle.cutback.specs.declared.refusal.CutRule.{CutRule}
use Rattle.cutback.specs.Walk.{Counted, early}

abbrev first : Bool → Bool → Bool → Bool → Bool → ℕ
first a b c d e = cond a 40 (cond b 41 (cond c 42 (cond d 42 (cond e 43 0))))

chain : (a b c d e : Bool) (v : Verdict) → refuse 40 a (refuse 41 b (refuse 42 (c || d) (refuse 43 e v))) ≡ cond (eqb (first a b c d e) 0) v (Refused (first a b c d e))
chain true b c d e v = refl
chain false true c d e v = refl
chain false false true d e v = refl
chain false false false true e v = refl
chain false false false false true v = refl
chain false false false false false v = refl

-- none of the five
pub record Clear (a b c d e : Bool) : Type 0 where
  pub known : a ≡ false
  pub grams : b ≡ false
  pub codes : c ≡ false
  pub coded : d ≡ false
  pub count : e ≡ false

clear : (a b c d e : Bool) → first a b c d e ≡ 0 → Clear a b c d e
clear true b c d e h = absurd (omega arith)
clear false true c d e h = absurd (omega arith)
clear false false true d e h = absurd (omega arith)
clear false false false true e h = absurd (omega arith)
clear false false false false true h = absurd (omega arith)
clear false false false false false h = record { known = refl; grams = refl; codes = refl; coded = refl; count = refl }

module _ (kind metal : List ℕ) (grams : ℕ) (codes : List (List ℕ)) (lots : List ℕ) where
  abbrev number : ℕ
  number = first (eqb (tons kind metal) 0) (grams_bad grams) (codes_bad codes) (ltb (length codes) (length lots)) (count_bad (length codes))

  abbrev last : Verdict
  last = refuse 44 (lots_bad lots || ltb (length lots) (length codes)) (Cut (cuts_of (may_stay kind metal grams) (seats_of codes lots)))

  by_number : judge kind metal grams codes lots ≡ cond (eqb number 0) last (Refused number)
  unfolding judge
  by_number = chain (eqb (tons kind metal) 0) (grams_bad grams) (codes_bad codes) (ltb (length codes) (length lots)) (count_bad (length codes)) last

  -- a rule that is broken before 44 is the verdict's, and where none is all is clear
  abbrev pub Agrees : Verdict → Option ℕ → Result (ℕ × ℕ) CutRule → Type 0
  Agrees v read (Err rule) = v ≡ Refused (number_of rule)
  Agrees v read (Ok p) =
      Clear (eqb (tons kind metal) 0) (grams_bad grams) (codes_bad codes) (ltb (length codes) (length lots)) (count_bad (length codes)) × (p.0 ≡ tons kind metal) × (read ≡ Some p.1)

  abbrev opened : Verdict
  opened =
      refuse 40 (eqb (tons kind metal) 0) (refuse 41 (grams_bad grams) (refuse 42 (codes_bad codes || ltb (length codes) (length lots)) (refuse 43 (count_bad (length codes)) last)))

  is_opened : judge kind metal grams codes lots ≡ opened
  unfolding judge
  is_opened = refl

  agrees_opened : (keys : List ℕ) (read : Option ℕ) → Counted codes keys read → Agrees opened read (early (some_tons (tons kind metal)) grams read (length lots))
  agrees_opened keys None h = by_test (eqb (tons kind metal) 0) (λ e. rw e refl) (λ e. by_test (grams_bad grams) (λ g. rw (e, g) refl) (λ g. rw (e, g, h) refl))
  agrees_opened keys (Some count) h =
      by_test (eqb (tons kind metal) 0) (λ e. rw e refl) (λ e.
      by_test (grams_bad grams) (λ g. rw (e, g) refl) (λ g.
      by_test (ltb (length codes) (length lots)) (λ l. rw (e, g, h.counted, h.good, l) refl) (λ l.
      by_test (count_bad (length codes)) (λ n. rw (e, g, h.counted, h.good, l, n) refl)
      (λ n. rw (e, g, h.counted, l, n) (record { known = e; grams = g; codes = h.good; coded = l; count = n }, refl, refl)))))

  pub agrees : (keys : List ℕ) (read : Option ℕ) → Counted codes keys read → Agrees (judge kind metal grams codes lots) read (early (some_tons (tons kind metal)) grams read (length lots))
  agrees keys read h = rw is_opened (agrees_opened keys read h)

  stops : (n : ℕ) → n ≡ number → (n ≡ 0 → ⊥) → judge kind metal grams codes lots ≡ Refused n
  stops n e h = by_number ∙ rw (← e, ne_eqb n 0 h)

  module _ (c : Clear (eqb (tons kind metal) 0) (grams_bad grams) (codes_bad codes) (ltb (length codes) (length lots)) (count_bad (length codes))) where
    goes : judge kind metal grams codes lots ≡ last
    unfolding judge
    goes = rw (c.known, c.grams, c.codes, c.coded, c.count)

    pub too_large : lots_bad lots ≡ true → judge kind metal grams codes lots ≡ Refused 44
    too_large h = goes ∙ rw h

    pub too_few : length lots < length codes → judge kind metal grams codes lots ≡ Refused 44
    too_few h = goes ∙ rw (lt-ltb (length lots) (length codes) h, or-true (lots_bad lots))

    pub cut : lots_bad lots ≡ false → length codes ≤ length lots → judge kind metal grams codes lots ≡ Cut (cuts_of (may_stay kind metal grams) (seats_of codes lots))
    cut h k = goes ∙ rw (h, le-ltb (length lots) (length codes) k)

-- what is known where there are cuts
pub record Accepted (kind metal : List ℕ) (grams : ℕ) (codes : List (List ℕ)) (lots cuts : List ℕ) : Type 0 where
  pub clear : Clear (eqb (tons kind metal) 0) (grams_bad grams) (codes_bad codes) (ltb (length codes) (length lots)) (count_bad (length codes))
  pub lots_good : lots_bad lots ≡ false
  pub even : length codes ≡ length lots
  pub few : length codes ≤ 4
  pub cut_so : cuts ≡ cuts_of (may_stay kind metal grams) (seats_of codes lots)

module _ (kind metal : List ℕ) (grams : ℕ) (codes : List (List ℕ)) (lots cuts : List ℕ) (h : judge kind metal grams codes lots ≡ Cut cuts) where
  no_refusal : (n : ℕ) → judge kind metal grams codes lots ≡ Refused n → ⊥
  no_refusal n e = let z : ◌≡◌ {A = ℕ} 0 1 = cc in omega arith

  none_early : number kind metal grams codes lots ≡ 0
  none_early =
      by_test (eqb (number kind metal grams codes lots) 0) (λ e. eqb-true (number kind metal grams codes lots) 0 e)
      (λ e. absurd (no_refusal (number kind metal grams codes lots) (stops kind metal grams codes lots (number kind metal grams codes lots) refl (eqb-false (number kind metal grams codes lots) 0 e))))

  all_clear : Clear (eqb (tons kind metal) 0) (grams_bad grams) (codes_bad codes) (ltb (length codes) (length lots)) (count_bad (length codes))
  all_clear = clear _ _ _ _ _ none_early

  lots_fine : lots_bad lots ≡ false
  lots_fine = by_test (lots_bad lots) (λ e. absurd (no_refusal 44 (too_large kind metal grams codes lots all_clear e))) (λ e. e)

  enough : length codes ≤ length lots
  enough =
      by_test (ltb (length lots) (length codes)) (λ e. absurd (no_refusal 44 (too_few kind metal grams codes lots all_clear (ltb-true (length lots) (length codes) e))))
      (λ e. ltb-false (length lots) (length codes) e)

  pub accepted : Accepted kind metal grams codes lots cuts
  accepted =
      record {
        clear = all_clear;
        lots_good = lots_fine;
        even = omega (arith, enough, ltb-false (length codes) (length lots) all_clear.coded);
        few = ltb-false 4 (length codes) (not_either (eqb (length codes) 0) (ltb 4 (length codes)) all_clear.count).1;
        cut_so = same_cuts (sym h ∙ cut kind metal grams codes lots all_clear lots_fine enough);
      }
    where
      same_cuts : {a b : List ℕ} → Cut a ≡ Cut b → a ≡ b
      same_cuts e = cc
