-- The parts of the proof that are named after a test of the function: edits of must-fail/ respell them.
use Rattle.cascade.proofs.Tier.{Found}
use Rattle.cascade.proofs.Tier as law
use Rattle.cascade.proofs.Cascade.tier.Tie as tie

abbrev pub start : tie.After-staked-offered → tie.Start
start o = o.before.before.before.before

pub returns : tie.Need-returns-then-offered-eq0
returns c = let o = c in let p = (start c.before).requires in law.nobody p.0 p.1.0 p.1.1 o.staked-offered.ensures c.if-offered-eq0.true
