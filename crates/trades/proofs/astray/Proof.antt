-- `trades::astray` meets its contract: either test will do.
-- Assumes nothing.
use Prim.Native.Nat.{◌*◌}
use mathlib.Core.Path.{sym, ap}
use mathlib.Core.Bool.{Bool, ◌||◌}
use lib.Dec.{ltb}
use borrow.Author.Rules.{rules}
use borrow.Author.Tests.{lt-ltb, le-ltb}
use Rattle.trades.proofs.astray.Statement.{statement}
use Rattle.trades.proofs.astray.Tie as tie

mul-if1 : tie.Need-overflow_mul-settlement
mul-if1 c = search rules

mul-result : tie.Need-overflow_mul-result
mul-result c = search rules

returns : tie.Need-returns-then-settlement-price
returns c = simp (lt-ltb _ _ c.if-settlement-price.true)

returns-2 : tie.Need-returns-else-settlement-price
returns-2 c =
    let a = c.args in
    ap (λ (b : Bool). b || ltb (5 * a.price.0) a.settlement.0) (sym (le-ltb (5 * a.settlement.0) a.price.0 c.if-settlement-price.false))

pub astray_spec : {M : Type 1} → statement M
astray_spec = tie.close (tie.spec mul-if1 mul-result returns returns-2)
