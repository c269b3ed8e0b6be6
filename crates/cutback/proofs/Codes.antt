-- The first of some codes: what it means for all of them that it is malformed, stands again, or neither; and the keys of the first four.
-- Assumes nothing.
use Prim.Native.Nat.{ℕ, zero, suc, ◌+◌, ◌-◌, ◌^◌, ◌<◌, ◌≤◌, min}
use mathlib.Core.Path.{◌≡◌, refl, sym, ap, ◌∙◌}
use mathlib.Core.List.{List, [], ◌∷◌, ◌++◌, map, append_assoc, append-nil}
use mathlib.Core.Bool.{true, false, not, ◌||◌, false≢true}
use native.Mathlib.Omega.{arith}
use lib.ListN.{length, get_or, take, length-set}
use lib.Seq.{take-nil, take-suc-set, get_or-take}
use lib.Dec.{ltb}
use borrow.Author.Tests.{ltb-true, ltb-false}
use Rattle.rules.specs.Codes.{is_code, same}
use Rattle.laws.specs.ByTest.{by_test, not_either}
use Rattle.laws.specs.Indices.{get_d_in}
use Rattle.cutback.specs.Judge.{again, codes_bad}
use Rattle.laws.specs.Keys.{key_of}
use Rattle.cutback.specs.Walk.{kept, Sound}

module _ (c d : List ℕ) (all rest : List (List ℕ)) (e : all ≡ d ∷ rest) where
  pub again_here : same c d ≡ true → again c all ≡ true
  again_here h = ap (again c) e ∙ rw h

  pub again_past : same c d ≡ false → again c all ≡ again c rest
  again_past h = ap (again c) e ∙ rw h

module _ (d : List ℕ) (all rest : List (List ℕ)) (e : all ≡ d ∷ rest) where
  pub bad_here : is_code d ≡ false → codes_bad all ≡ true
  bad_here h = ap codes_bad e ∙ rw h

  pub bad_again : is_code d ≡ true → again d rest ≡ true → codes_bad all ≡ true
  bad_again h k = ap codes_bad e ∙ rw (h, k)

  pub good_here : is_code d ≡ true → again d rest ≡ false → codes_bad all ≡ codes_bad rest
  good_here h k = ap codes_bad e ∙ rw (h, k)

-- one key more
pub keys_step : (count key : ℕ) (keys rest first : List ℕ) → length keys ≡ 4 → first ≡ take (min 4 count) keys ++ take (4 - count) (key ∷ rest) →
    first ≡ take (min 4 (count + 1)) (kept count key keys) ++ take (4 - (count + 1)) rest
keys_step count key keys rest first n h = by_test (ltb count 4) (λ e. fewer (ltb-true count 4 e) e) (λ e. enough (ltb-false count 4 e) e)
  where
    fewer : count < 4 → ltb count 4 ≡ true → first ≡ take (min 4 (count + 1)) (kept count key keys) ++ take (4 - (count + 1)) rest
    fewer l e =
        let a : min 4 count ≡ count = omega arith in
        let b : min 4 (count + 1) ≡ suc count = omega arith in
        let m : 4 - count ≡ suc (4 - (count + 1)) = omega arith in
        rw (e, b, take-suc-set keys count key (omega arith), append_assoc) (rw (a, m) at h)

    enough : 4 ≤ count → ltb count 4 ≡ false → first ≡ take (min 4 (count + 1)) (kept count key keys) ++ take (4 - (count + 1)) rest
    enough l e =
        let a : min 4 count ≡ 4 = omega arith in
        let b : min 4 (count + 1) ≡ 4 = omega arith in
        let m : 4 - count ≡ 0 = omega arith in
        let k : 4 - (count + 1) ≡ 0 = omega arith in
        rw (e, b, k) (rw (a, m) at h)

-- what the walk holds between two codes: those from here on decide, and the keys of the first four are kept or still to come
pub record Passed (all rest : List (List ℕ)) (keys : List ℕ) (count : ℕ) : Type 0 where
  pub room : length keys ≡ 4
  pub bad : codes_bad all ≡ codes_bad rest
  pub counted : count + length rest ≡ length all
  pub fits : 0 < count → length all < 2 ^ 64
  pub keyed : take 4 (map key_of all) ≡ take (min 4 count) keys ++ take (4 - count) (map key_of rest)

pub passed_none : (all : List (List ℕ)) (keys : List ℕ) → length keys ≡ 4 → Passed all all keys 0
passed_none all keys h = record { room = h; bad = refl; counted = omega arith; fits = λ h. absurd (omega arith); keyed = refl }

module _ (all rest : List (List ℕ)) (keys : List ℕ) (count : ℕ) (p : Passed all rest keys count) where
  pub passed_all : rest ≡ [] → Sound all keys count
  passed_all e =
      record {
        good = p.bad ∙ ap codes_bad e;
        counted = omega (arith, p.counted, ap length e);
        keyed = sym (p.keyed ∙ ap (λ (l : List (List ℕ)). take (min 4 count) keys ++ take (4 - count) (map key_of l)) e ∙ ap (λ (l : List ℕ). take (min 4 count) keys ++ l) (take-nil (4 - count)) ∙ append-nil (take (min 4 count) keys));
      }

  -- the number of all fits, since that of the rest did when there was no code before
  passed_fits : length rest < 2 ^ 64 → length all < 2 ^ 64
  passed_fits h = by_test (ltb 0 count) (λ e. p.fits (ltb-true 0 count e)) (λ e. let l = ltb-false 0 count e in omega (arith, p.counted))

  pub counts_on : (d : List ℕ) (next : List (List ℕ)) → rest ≡ d ∷ next → length rest < 2 ^ 64 → count + 1 < 2 ^ 64
  counts_on d next e h = omega (arith, p.counted, passed_fits h, ap length e)

  pub passed_more : (d : List ℕ) (next : List (List ℕ)) (key : ℕ) → rest ≡ d ∷ next → is_code d ≡ true → again d next ≡ false → key_of d ≡ key → length rest < 2 ^ 64 →
      Passed all next (kept count key keys) (count + 1)
  passed_more d next key e h k f few =
      record {
        room = kept_room;
        bad = p.bad ∙ good_here d rest next e h k;
        counted = omega (arith, p.counted, ap length e);
        fits = λ _. passed_fits few;
        keyed =
            keys_step count key keys (map key_of next) (take 4 (map key_of all)) p.room
            (p.keyed ∙ ap (λ (l : List (List ℕ)). take (min 4 count) keys ++ take (4 - count) (map key_of l)) e ∙ ap (λ (x : ℕ). take (min 4 count) keys ++ take (4 - count) (x ∷ map key_of next)) f);
      }
    where
      kept_room : length (kept count key keys) ≡ 4
      kept_room = by_test (ltb count 4) (λ t. rw t (simp length-set p.room)) (λ t. rw t p.room)

-- good codes, and their keys at their places
pub good_at : (all : List (List ℕ)) → codes_bad all ≡ false → (j : ℕ) → j < length all → is_code (get_or all j []) ≡ true
good_at [] h j l = absurd (omega arith)
good_at (c ∷ cs) h zero l =
    by_test (is_code c) (λ e. e) (λ e. absurd (false≢true (sym (not_either (not (is_code c)) (again c cs) (not_either (not (is_code c) || again c cs) (codes_bad cs) h).0).0 ∙ rw e)))
good_at (c ∷ cs) h (suc j) l = good_at cs (not_either (not (is_code c) || again c cs) (codes_bad cs) h).1 j (omega arith)

pub key_at : (all : List (List ℕ)) (keys : List ℕ) → length all ≤ 4 → take (min 4 (length all)) keys ≡ take 4 (map key_of all) → (j : ℕ) → j < length all →
    get_or keys j 0 ≡ key_of (get_or all j [])
key_at all keys h e j l =
    let n : j < min 4 (length all) = omega arith in
    let m : j < 4 = omega arith in
    sym (get_or-take (min 4 (length all)) keys j 0 n) ∙ ap (λ (k : List ℕ). get_or k j 0) e ∙ get_or-take 4 (map key_of all) j 0 m ∙ get_d_in key_of all j [] 0 l
