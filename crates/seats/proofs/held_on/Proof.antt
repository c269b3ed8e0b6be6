-- The side is the field's.
-- Assumes nothing.
use borrow.Author.Rules.{rules}
use Rattle.seats.proofs.held_on.Statement.{statement}
use Rattle.seats.proofs.held_on.Tie as tie

lots-in-requires : tie.Need-lots_in-requires
lots-in-requires c κs = search rules

lots-in-requires-2 : tie.Need-lots_in-requires-else-long
lots-in-requires-2 c κs = search rules

returns : tie.Need-returns-then-long
returns c = rw c.if-long.true c.lots_in.ensures

returns-2 : tie.Need-returns-else-long
returns-2 c = rw c.if-long.false c.lots_in-else-long.ensures

pub held_on_spec : {M : Type 1} → statement M
held_on_spec = tie.close (tie.spec lots-in-requires lots-in-requires-2 returns returns-2)
