-- What a division adds to the offsets: each customer's share, which is at most its weight.
-- Assumes nothing.
use Prim.Native.Nat.{ℕ, ◌+◌, ◌≤◌, ◌<◌}
use mathlib.Core.Path.{◌≡◌, ap, ◌∙◌}
use mathlib.Core.List.{List, ◌++◌}
use native.Mathlib.Omega.{arith}
use lib.ListN.{length, drop}
use Rattle.laws.specs.Sums.{up_to}
use Rattle.laws.specs.Indices.{map_below}
use Rattle.laws.specs.Division.{share_at_most}
use Rattle.laws.specs.Filled.{filled, front_at, length_filled}
use Rattle.division.specs.Shares.{at, code_at, share_at, divided, Lent}
use Rattle.cascade.specs.State.{added_at, dealt_at, Open, Addable}

module _ {weights keys offset after : List ℕ} {count x sum : ℕ} (l : Lent weights keys count x sum) (o : Open weights offset count) (d : after ≡ divided keys count x weights) where
  lots_at_lem : (i : ℕ) → i < count → at after i ≡ share_at keys weights count x i
  unfolding divided
  lots_at_lem i h = rw d (front_at (share_at keys weights count x) count _ i 0 h)

  share_le : (i : ℕ) → share_at keys weights count x i ≤ at weights i
  unfolding share_at
  share_le i = share_at_most (code_at keys) (at weights) x (up_to count) (omega (arith, l.most, l.total)) i

  pub as_long : length after ≡ length weights
  unfolding divided
  as_long = ap length d ∙ length_filled (share_at keys weights count x) count weights l.bounded.within

  pub addable : Addable offset after count
  addable =
      record {
        offsets = o.offsets;
        given = omega (arith, as_long, l.bounded.within);
        fits = λ i h. omega (arith, lots_at_lem i h, share_le i, o.fits i h);
      }

  pub dealt_at_lem : (i : ℕ) → i < count → added_at offset after i ≡ dealt_at keys weights count x offset i
  dealt_at_lem i h = ap (λ n. at offset i + n) (lots_at_lem i h)

  pub dealt : {end : List ℕ} → end ≡ filled (added_at offset after) count offset → end ≡ filled (dealt_at keys weights count x offset) count offset
  dealt e = e ∙ ap (λ p. p ++ drop count offset) (map_below _ _ count dealt_at_lem)
