-- Trades that were read to the field that closes their group are good.
-- Assumes nothing.
use Prim.Native.Nat.{ℕ, ◌+◌}
use native.Mathlib.Omega.{arith}
use mathlib.Core.Path.{◌≡◌, refl, sym, ◌∙◌}
use mathlib.Core.List.{List, [], ◌∷◌}
use mathlib.Core.Bool.{Bool, true, false, ◌||◌}
use lib.ListN.{length}
use lib.Dec.{eqb}
use lib.IntN.{ℤ, ◌+ℤ◌}
use Rattle.rules.specs.declared.Fen.{Fen}
use Rattle.rules.specs.declared.Opening.{Opening}
use Rattle.rules.specs.declared.Opening.TheVariants.{Made, Comma, Malformed}
use Rattle.rules.specs.Refusal as refusal
use Rattle.rules.specs.Text.{is}
use Rattle.rules.specs.Opening.{opening_of}
use Rattle.rules.specs.Fields.{Field, Whole, Cut}
use Rattle.rules.specs.Book.{astray}
use Rattle.rules.specs.Standing.{gain_of}
use Rattle.laws.specs.ByTest.{by_test}
use Rattle.laws.specs.Gains.{lots_on}
use Rattle.fields.specs.declared.Refusal.{Refusal}
use Rattle.fields.specs.Reading.{refused_at}
use Rattle.trades.specs.declared.Order.{Order}
use Rattle.trades.specs.declared.TradesAt.TheVariants.{Closed, Refused}
use Rattle.trades.specs.Trades.{order_after, trades_from}
use Rattle.trades.specs.Walk.{good_in}
use Rattle.trades.proofs.Adds.{closing_no_trade}

refused_not_closed : {r : Refusal} {place sum : ℕ} {gain : ℤ} {ordered : Bool} → Refused r ≡ Closed place sum gain ordered → ⊥
refused_not_closed h = let z : ◌≡◌ {A = ℕ} 0 1 = cc in omega arith

module _ (x : ℕ) (long : Bool) (s : Fen) (place sum : ℕ) (total : ℤ) (kept : Bool) where
  pub closed_good : (fs : List Field) (at o : ℕ) (g : ℤ) (order : Order) → trades_from x long s at o g order fs ≡ Closed place sum total kept → good_in fs ≡ true
  closed_good [] at o g order h = refl
  closed_good (Cut ∷ fs) at o g order h = refl
  closed_good (Whole t v ∷ fs) at o g order h =
      go (is "C" t || is "Z" t) (is "B" t || is "A" t) (opening_of (is "B" t) v) refl refl refl (closed_good fs)
    where
      go : (c b : Bool) (read : Opening) → (is "C" t || is "Z" t) ≡ c → (is "B" t || is "A" t) ≡ b → opening_of (is "B" t) v ≡ read →
          ((at₁ o₁ : ℕ) (g₁ : ℤ) (order₁ : Order) → trades_from x long s at₁ o₁ g₁ order₁ fs ≡ Closed place sum total kept → good_in fs ≡ true) → good_in (Whole t v ∷ fs) ≡ true
      go true b read ec eb ex ih = rw (closing_no_trade t ec)
      go false false read ec eb ex ih = rw eb
      go false true Comma ec eb ex ih = absurd (refused_not_closed {r = refused_at refusal.comma at} (sym (rw (ec, eb, ex)) ∙ h))
      go false true Malformed ec eb ex ih = absurd (refused_not_closed {r = refused_at refusal.malformed at} (sym (rw (ec, eb, ex)) ∙ h))
      go false true (Made u d) ec eb ex ih =
          by_test (eqb d x)
          (λ e.
          by_test (astray s u.price)
          (λ far. absurd (refused_not_closed {r = refused_at refusal.astray at} (sym (rw (ec, eb, ex, e, far)) ∙ h)))
          (λ near. rw (eb, ex)
          (ih (at + 3 + length v) (o + lots_on long u) (g +ℤ gain_of long s u.price (lots_on long u)) (order_after long order u) (sym (rw (ec, eb, ex, e, near)) ∙ h))))
          (λ e. absurd (refused_not_closed {r = refused_at refusal.malformed at} (sym (rw (ec, eb, ex, e)) ∙ h)))
