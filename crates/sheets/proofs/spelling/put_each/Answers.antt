-- One byte more, and all of them.
use Rattle.std.proofs.Common.{sym, arith}
use Rattle.writing.specs.Written.{written_nothing}
use Rattle.sheets.proofs.Each.{each_more, each_all}
use Rattle.sheets.proofs.spelling.put_each.Goals as goal

pub loop-i-init : goal.loop-i-init
loop-i-init g c = λ f h. sym (written_nothing c.args.at c.args.out.now)

pub loop-i-preserved : goal.loop-i-preserved
loop-i-preserved g c = λ f h.
    each_more f c.args.s.now c.args.at c.args.out.now c.requires.room c.loop-i.i c.to.result c.loop-i.out c.loop-i-test.true (c.loop-i.invariant f h)
    (h _ _ (omega (arith, c.type_inv.s c.loop-i.i)) c.to.ensures)

pub returns : goal.returns
returns g c = λ f h. each_all f c.args.s.now c.args.at c.args.out.now c.requires.room c.loop-i.i c.loop-i.out c.loop-i-test.false (c.loop-i.invariant f h)
