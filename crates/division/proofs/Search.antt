-- The search for the last, step by step: nobody where no lots are left over; else the edge of what is lacked, and where more reach it
-- than lots are left, the edge of the keys of those at it.
-- Assumes nothing.
use Prim.Native.Nat.{ℕ, ◌+◌, ◌-◌, ◌≤◌, ◌<◌}
use mathlib.Core.Path.{◌≡◌, sym, ◌∙◌}
use mathlib.Core.List.{List}
use native.Mathlib.Omega.{arith}
use borrow.Author.Tests.{le-ltb, ne_eqb}
use Rattle.laws.specs.Sums.{up_to, sum-zero}
use Rattle.laws.specs.Indices.{sum_below}
use Rattle.division.proofs.Counts.{lacking, none_lacking, all_lacking, up_to_edge, before_edge, none_keyed, all_keyed}
use Rattle.division.specs.Shares.{at}
use Rattle.division.specs.Parts.{lack_in, before_of, count_of, Edge, Sought, Parted, Spanned, IsLast}

-- what the code counts up to e - 1 is below e
pub below_it : (below : ℕ → ℕ) (e : ℕ) {r : ℕ} → 1 ≤ e → r ≡ below (e - 1 + 1) → r ≡ below e
below_it below e h z = let d : e - 1 + 1 ≡ e = omega arith in rw d at z

module _ {parts : List ℕ} {n spare sum : ℕ} (keys : List ℕ) (h : Parted parts n spare sum) where
  pub nobody : spare ≡ 0 → IsLast parts keys n spare 0 0
  nobody e =
      let z : before_of (λ i. lack_in (at parts i)) (at keys) n 0 (0 + 1) ≡ 0 =
      sum_below _ (λ i. 0) n (λ i l. rw (le-ltb (lack_in (at parts i)) 0 (omega arith), ne_eqb (lack_in (at parts i)) 0 (λ q. omega (arith, h.some i l)))) ∙ sum-zero (up_to n) in
      record { edge = record { enough = omega arith; least = λ ne. absurd (ne (z ∙ sym e)) } }

  pub seek_lack : (spare ≡ 0 → ⊥) → Sought (count_of parts keys 0 n) spare 1 sum
  seek_lack ne =
      let first : 0 < n = omega (arith, h.spared) in
      record {
        span = omega (arith, h.some 0 first, h.most 0 first);
        under = rw (none_lacking parts keys n 1 h.some) (omega arith);
        enough = rw (all_lacking parts keys n (sum + 1) (λ i l. omega (arith, h.most i l))) h.spared;
      }

  module _ (e : ℕ) (some : 1 ≤ e) (f : Edge (lacking parts keys n (e + 1)) (lacking parts keys n e) spare) {least most : ℕ} (s : Spanned parts keys n e least most) where
    pub all_tied : lacking parts keys n (e + 1) ≡ spare → IsLast parts keys n spare e most
    all_tied exact =
        let z : before_of (λ i. lack_in (at parts i)) (at keys) n e (most + 1) ≡ spare =
        before_edge parts keys n e some (most + 1) ∙ omega (arith, all_keyed parts keys n e some s, up_to_edge parts keys n e) in
        record { edge = record { enough = omega arith; least = λ ne. absurd (ne z) } }

    module _ (ne : lacking parts keys n (e + 1) ≡ spare → ⊥) where
      pub sooner_less : lacking parts keys n e < spare
      sooner_less = f.least ne

      pub seek_key : Sought (count_of parts keys e n) (spare - lacking parts keys n e) least most
      seek_key =
          record {
            span = s.span;
            under = rw (none_keyed parts keys n e some s) (omega (arith, sooner_less));
            enough = omega (arith, all_keyed parts keys n e some s, f.enough, up_to_edge parts keys n e);
          }

      pub some_tied : (k : ℕ) → Edge (count_of parts keys e n (k + 1)) (count_of parts keys e n k) (spare - lacking parts keys n e) → IsLast parts keys n spare e k
      some_tied k g =
          let up = before_edge parts keys n e some (k + 1) in
          let least : (before_of (λ i. lack_in (at parts i)) (at keys) n e (k + 1) ≡ spare → ⊥) → before_of (λ i. lack_in (at parts i)) (at keys) n e k < spare =
          λ z. omega (arith, before_edge parts keys n e some k, g.least (λ w. z (omega (arith, up, w, sooner_less))), sooner_less) in
          record { edge = record { enough = omega (arith, up, g.enough, sooner_less); least = least } }
