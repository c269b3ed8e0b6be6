-- The parts of the proof that are named after a test of the function: edits of must-fail/ respell them.
use Prim.Native.Nat.{◌^◌, ◌-◌, ◌≤◌, ◌<◌}
use mathlib.Core.Path.{◌≡◌, sym}
use lib.ListN.{length, drop}
use Rattle.codes.specs.Codes.{code_of}
use Rattle.codes.proofs.Places.{rest, too_long}
use Rattle.codes.proofs.read_code.Tie as tie

abbrev pub invariant-loop-i : tie.invariant-loop-i
invariant-loop-i v n key₀ i₀ key i = (i ≤ length v) × (key < 37 ^ i) × (code_of v ≡ rest key i (drop i v))

abbrev pub decreases-loop-i : tie.decreases-loop-i
decreases-loop-i v n key₀ i₀ key i = length v - i

pub returns-2 : tie.Need-returns-then-n-gt-LONGEST_CODE invariant-loop-i decreases-loop-i
returns-2 c = sym (too_long c.before.before.before.args.v.now c.if-n-gt-LONGEST_CODE.true)
