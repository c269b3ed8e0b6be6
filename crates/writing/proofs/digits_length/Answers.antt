use Rattle.std.proofs.Common.{length, arith, ap, length-append}
use Rattle.laws.specs.Digits.{digits_one, digits_more, digits_length_20}
use Rattle.writing.proofs.digits_length.Goals as goal

pub overflow_add-count : goal.overflow_add-count
overflow_add-count c = omega (arith, digits_length_20 c.args.n c.ranges.n.fits)

pub loop-rest-preserved : goal.loop-rest-preserved
loop-rest-preserved c = omega (arith, simp length-append at (ap length (digits_more c.loop-rest.rest c.loop-rest-test.true)))

pub returns : goal.returns
returns c = omega (arith, ap length (digits_one c.loop-rest.rest c.loop-rest-test.false), digits_length_20 c.args.n c.ranges.n.fits)
