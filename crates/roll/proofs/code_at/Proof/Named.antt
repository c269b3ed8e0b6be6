-- The parts of the proof that are named after a test of the function: edits of must-fail/ respell them.
use borrow.Author.Tests.{le-leb, lt-leb}
use mathlib.Core.Path.{sym, ◌∙◌}
use Rattle.roll.proofs.code_at.Tie as tie

pub returns : tie.Need-returns-then-count-ge-MOST_CUSTOMERS
returns c = simp (le-leb _ _ c.if-count-ge-MOST_CUSTOMERS.true)

pub returns-2 : tie.Need-returns-then-known
returns-2 c = let g = c in let x = g in simp (lt-leb _ _ x.if-count-ge-MOST_CUSTOMERS.false, sym x.read_code.ensures ∙ x.in-Key.is, sym g.known.ensures ∙ c.if-known.true)

pub returns-3 : tie.Need-returns-else-known
returns-3 c = let g = c in let x = g in simp (lt-leb _ _ x.if-count-ge-MOST_CUSTOMERS.false, sym x.read_code.ensures ∙ x.in-Key.is, sym g.known.ensures ∙ c.if-known.false)

pub returns-4 : tie.Need-returns-in-Malformed
returns-4 c = let r = c in simp (lt-leb _ _ r.if-count-ge-MOST_CUSTOMERS.false, sym r.read_code.ensures ∙ c.in-Malformed.is)
