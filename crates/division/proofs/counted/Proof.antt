-- The byte of a test is the test, counted; up to a number is below the next.
-- Assumes nothing.
use Prim.Native.Nat.{◌%◌}
use mathlib.Core.Path.{◌≡◌}
use mathlib.Core.Bool.{true, false, ◌&&◌}
use lib.Dec.{leb, eqb}
use borrow.Author.Tests.{eq-eqb, ne_eqb}
use Rattle.laws.specs.Sums.{one_le}
use Rattle.division.proofs.Order.{byte, up_to}
use borrow.Author.Rules.{rules}
use Rattle.division.proofs.counted.Statement.{statement}
use Rattle.division.proofs.counted.Tie as tie

cast-result : tie.Need-overflow_cast-result
cast-result c = search rules

returns : tie.Need-returns-then-edge-eq0
returns c =
    let a = c.args in
    let lack = a.part % 4_294_967_296 in
    let e : eqb a.edge 0 ≡ true = eq-eqb a.edge 0 c.if-edge-eq0.true in
    (rw (e, byte, up_to lack a.most), rw byte (one_le (leb lack a.most)))

cast-result-2 : tie.Need-overflow_cast-result-2
cast-result-2 c = search rules

returns-2 : tie.Need-returns
returns-2 c =
    let a = c.args in
    let lack = a.part % 4_294_967_296 in
    let e : eqb a.edge 0 ≡ false = ne_eqb a.edge 0 c.if-edge-eq0.false in
    (rw (e, byte, up_to a.key a.most), rw byte (one_le (eqb lack a.edge && leb a.key a.most)))

pub counted_spec : {M : Type 1} → statement M
counted_spec = tie.close (tie.spec cast-result returns cast-result-2 returns-2)
