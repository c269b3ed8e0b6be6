-- What is judged of a call, from what its parts tell: the codes as they were counted, the rule before 44, and the lots.
-- Assumes nothing.
use Prim.Native.Nat.{ℕ, ◌-◌, ◌*◌, ◌/◌, ◌≤◌, ◌<◌, min}
use mathlib.Core.Path.{◌≡◌, refl, sym, ap, ap₂, subst, ◌∙◌}
use mathlib.Core.List.{List, ◌++◌, map}
use mathlib.Core.Bool.{true, false}
use native.Mathlib.Omega.{arith}
use lib.ListN.{length, take, drop}
use lib.Dec.{ltb, eqb}
use borrow.Author.Tests.{le-ltb, eqb-false, ltb-false}
use Rattle.std.specs.Prelude.{Option, Result, Ok, Err}
use Rattle.cutback.specs.declared.refusal.CutRule.{CutRule}
use Rattle.rules.specs.Refusal as refusal
use Rattle.rules.specs.Text.{bytes}
use Rattle.rules.specs.Codes.{same}
use Rattle.rules.specs.Answer.{fitted}
use Rattle.rules.specs.Division.{sum_of}
use Rattle.laws.specs.ByTest.{by_test, not_either}
use Rattle.laws.specs.Sums.{up_to}
use Rattle.laws.specs.Indices.{length-map_up_to}
use Rattle.laws.specs.Filled.{filled}
use Rattle.answers.specs.Answered.{Answered}
use Rattle.answers.specs.Answering.{too_small}
use Rattle.cutback.specs.Limit.{by_metal, tons, some_tons, may_stay}
use Rattle.cutback.specs.Judge.{Refused, Cut, lots_bad, grams_bad, codes_bad, count_bad, judge}
use Rattle.cutback.specs.Walk.{Counted, Sound, Judged, early}
use Rattle.cutback.specs.Keyed.{cut_at, Held}
use Rattle.cutback.proofs.Codes.{good_at, key_at}
use Rattle.cutback.proofs.Lots.{all_small}
use Rattle.cutback.proofs.Judging.{Agrees, agrees, Clear, too_large, too_few, cut}
use Rattle.cutback.proofs.Seating.{InOrder, seated}

-- no limit is above 80 tons
metal_small : (metal : List ℕ) (gold silver : ℕ) → gold ≤ 80 → silver ≤ 80 → by_metal metal gold silver ≤ 80
metal_small metal gold silver h k =
    by_test (same metal (bytes "gold")) (λ e. simp e h) (λ e. by_test (same metal (bytes "silver")) (λ f. simp (e, f) k) (λ f. simp (e, f) (omega arith)))

pub tons_small : (kind metal : List ℕ) → tons kind metal ≤ 80
unfolding tons
tons_small kind metal =
    by_test (same kind (bytes "corporate")) (λ e. simp e (metal_small metal 2 80 (omega arith) (omega arith))) (λ e.
    by_test (same kind (bytes "individual")) (λ f. simp (e, f) (metal_small metal 1 20 (omega arith) (omega arith))) (λ f. simp (e, f) (omega arith)))

-- the places for the cuts
module _ (keys lots : List ℕ) (over : ℕ) (entry : List ℕ) where
  abbrev cuts : List ℕ
  cuts = map (cut_at keys lots over) (up_to (length lots))

  size : length cuts ≡ length lots
  size = length-map_up_to (cut_at keys lots over) (length lots)

  pub no_room : length entry < length lots → Answered (fitted (length entry) cuts) (record { number = refusal.no_room; place = length lots; length = 0 }) entry entry
  no_room h = too_small cuts entry (length lots) (sym size) h

  pub room : length lots ≤ length entry → (exit : List ℕ) → exit ≡ filled (cut_at keys lots over) (length lots) entry →
      Answered (fitted (length entry) cuts) (record { number = 0; place = 0; length = length lots }) entry exit
  room h exit e =
      let f : fitted (length entry) cuts ≡ record { number = 0; place = 0; length = length cuts; report = cuts } = rw (le-ltb (length entry) (length cuts) (omega (arith, size))) in
      rw f (record { number = refl; place = refl; length = sym size; buffer = e ∙ fills })
    where
      fills : filled (cut_at keys lots over) (length lots) entry ≡ cuts ++ drop (length cuts) entry
      fills = ap (λ n. cuts ++ drop n entry) (sym size)

-- a call whose codes and metal are as they should be
pub record Early (kind metal : List ℕ) (grams : ℕ) (codes : List (List ℕ)) (lots keys : List ℕ) (tons_so count : ℕ) : Type 0 where
  pub clear : Clear (eqb (tons kind metal) 0) (grams_bad grams) (codes_bad codes) (ltb (length codes) (length lots)) (count_bad (length codes))
  pub limit : tons_so ≡ tons kind metal
  pub sound : Sound codes keys count

module _ (kind metal : List ℕ) (grams : ℕ) (codes : List (List ℕ)) (lots keys : List ℕ) (read : Option ℕ) (t : Option ℕ) (c : Counted codes keys read) (l : t ≡ some_tons (tons kind metal))
    (made : Result (ℕ × ℕ) CutRule) (m : made ≡ early t grams read (length lots)) where
  agreed : Agrees kind metal grams codes lots (judge kind metal grams codes lots) read made
  agreed = subst (Agrees kind metal grams codes lots (judge kind metal grams codes lots) read) (ap (λ x. early x grams read (length lots)) (sym l) ∙ sym m) (agrees kind metal grams codes lots keys read c)

  -- a rule that is broken before 44
  pub stopped : (rule : CutRule) → made ≡ Err rule → (r : Result ℕ CutRule) → r ≡ Err rule → Judged kind metal grams codes lots keys r
  stopped rule e r f =
      subst (Judged kind metal grams codes lots keys) (sym f) (subst (Agrees kind metal grams codes lots (judge kind metal grams codes lots) read) e agreed)

  pub earlier : (limit count : ℕ) → made ≡ Ok (limit, count) → Early kind metal grams codes lots keys limit count
  earlier limit count e =
      let a = subst (Agrees kind metal grams codes lots (judge kind metal grams codes lots) read) e agreed in
      record { clear = a.0; limit = a.1; sound = subst (Counted codes keys) a.2 c }

module _ (kind metal : List ℕ) (grams : ℕ) (codes : List (List ℕ)) (lots keys : List ℕ) (limit count : ℕ) (p : Early kind metal grams codes lots keys limit count) where
  codes_few : length codes ≤ 4
  codes_few = ltb-false 4 (length codes) (not_either (eqb (length codes) 0) (ltb 4 (length codes)) p.clear.count).1

  pub lots_few : length lots ≤ 4
  lots_few = omega (arith, ltb-false (length codes) (length lots) p.clear.coded, codes_few)

  pub grams_some : 0 < grams
  grams_some = let h = eqb-false grams 0 (not_either (eqb grams 0) (ltb 1_000_000 grams) p.clear.grams).0 in omega arith

  pub large : lots_bad lots ≡ true → judge kind metal grams codes lots ≡ Refused 44
  large h = too_large kind metal grams codes lots p.clear h

  pub missing : length lots < count → judge kind metal grams codes lots ≡ Refused 44
  missing h = too_few kind metal grams codes lots p.clear (omega (arith, p.sound.counted))

  module _ (h : lots_bad lots ≡ false) (k : count ≤ length lots) where
    even : length codes ≡ length lots
    even = omega (arith, ltb-false (length codes) (length lots) p.clear.coded, p.sound.counted)

    pub held_so : length keys ≡ 4 → Held keys lots
    held_so l = record { few = lots_few; keyed = omega (arith, lots_few); small = all_small lots h }

    order : InOrder codes lots keys
    order =
        record {
          even = even;
          coded = λ j l. good_at codes p.clear.codes j (omega (arith, even));
          keyed = λ j l. key_at codes keys codes_few (ap (λ m. take (min 4 m) keys) (sym p.sound.counted) ∙ p.sound.keyed) j (omega (arith, even));
        }

    pub shown : (sum over : ℕ) → sum ≡ sum_of (λ n. n) lots → over ≡ sum - limit * 1_000_000 / grams →
        judge kind metal grams codes lots ≡ Cut (map (cut_at keys lots over) (up_to (length lots)))
    shown sum over s e =
        let o : over ≡ sum_of (λ x. x) lots - may_stay kind metal grams = e ∙ ap₂ (λ x y. x - y * 1_000_000 / grams) s p.limit in
        cut kind metal grams codes lots p.clear h (omega (arith, even)) ∙ ap Cut (seated codes lots keys order (may_stay kind metal grams))
        ∙ ap (λ x. Cut (map (cut_at keys lots x) (up_to (length lots)))) (sym o)
