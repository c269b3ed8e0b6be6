-- Where all lots count, the order of the trades does not matter.
-- Assumes nothing.
use Rattle.std.specs.Prelude.{◌≡◌, Bool, ℕ, ltb, ℤ, ◌+ℤ◌, ◌-ℤ◌}
use Rattle.std.proofs.Math.Path.{refl, ap}
use Rattle.std.proofs.Common.{sym, ◌∙◌, le_refl}
use mathlib.Core.List.{List, [], ◌∷◌}
use Rattle.std.proofs.Math.Nat.{sub_self}
use Rattle.std.proofs.Math.IntN.{+ℤ_assoc, +ℤ_comm, +ℤ_idr}
use Rattle.rules.specs.declared.Fen.{Fen}
use Rattle.rules.specs.declared.Trade.{Trade}
use Rattle.rules.specs.Book.{opened}
use Rattle.rules.specs.Standing.{gain_of, gain_from}
use Rattle.laws.specs.ByTest.{by_test}
use Rattle.laws.specs.Gains.{lots_on, all_gain, oldest_gain, oldest_none, newest_first}
use Rattle.order.specs.Order.{placed, arranged}
use Rattle.order.specs.Trades.{when, opened_arranged}

module _ (long : Bool) (s : Fen) where
  abbrev gain_all : Trade → ℤ
  gain_all t = gain_of long s t.price (lots_on long t)

  swapped : (a b c : ℤ) → (a +ℤ b) +ℤ c ≡ (a +ℤ c) +ℤ b
  swapped a b c = +ℤ_assoc a b c ∙ ap (λ (z : ℤ). a +ℤ z) (+ℤ_comm b c) ∙ sym (+ℤ_assoc a c b)

  all_placed : (t : Trade) (us : List Trade) → all_gain long s (placed when t us) ≡ all_gain long s us +ℤ gain_all t
  unfolding all_gain
  all_placed t [] = refl
  all_placed t (u ∷ us) =
      by_test (ltb (when t) (when u))
      (λ h. rw h (ap (λ (z : ℤ). z +ℤ gain_all u) (all_placed t us) ∙ swapped (all_gain long s us) (gain_all t) (gain_all u)))
      (λ h. rw h)

  all_arranged : (ts : List Trade) → all_gain long s (arranged when ts) ≡ all_gain long s ts
  unfolding arranged all_gain
  all_arranged [] = refl
  all_arranged (t ∷ ts) = all_placed t (arranged when ts) ∙ ap (λ (z : ℤ). z +ℤ gain_all t) (all_arranged ts)

  pub gain_of_all : (ts : List Trade) → gain_from long s (opened long ts) (arranged when ts) ≡ all_gain long s ts
  gain_of_all ts =
      let held = arranged when ts in
      ap (λ (n : ℕ). gain_from long s n held) (sym (opened_arranged long ts))
      ∙ newest_first long s (opened long held) held (le_refl (opened long held))
      ∙ ap (λ (n : ℕ). all_gain long s held -ℤ oldest_gain long s n held) (sub_self (opened long held))
      ∙ ap (λ (z : ℤ). all_gain long s held -ℤ z) (oldest_none long s held)
      ∙ +ℤ_idr (all_gain long s held) ∙ all_arranged ts
