-- To write the bytes that are left behind those that are there is to write all of s.
-- Assumes nothing.
use Rattle.std.specs.Prelude.{◌+◌, drop, slice_index_or}
use Rattle.std.proofs.Common.{◌∙◌, rules, arith, add_assoc, add-one, drop_of_length-le}
use lib.ListN.{length-set}
use lib.Seq.{drop-cons}
use Rattle.writing.specs.Written.{written_nothing, written_first}
use Rattle.writing.proofs.put_bytes.Goals as goal

pub loop-i-preserved : goal.loop-i-preserved
loop-i-preserved c =
    let s = c.args.s.now in
    let at = c.args.at in
    let i = c.loop-i.i in
    let h = c.loop-i-test.true in
    let size = c.loop-i.invariant.size in
    let stored = written_first (at + i) (slice_index_or s i 0) (drop (i + 1) s) c.loop-i.out (omega (arith, size)) in
    record {
      size = simp length-set size;
      all = rw (← add_assoc at i 1) (stored ∙ rw (add-one, ← drop-cons s i 0 (omega arith)) c.loop-i.invariant.all);
    }

pub returns : goal.returns
returns c =
    let s = c.args.s.now in
    record {
      whole = simp (drop_of_length-le s c.loop-i-test.false, written_nothing) at c.loop-i.invariant.all;
      next = search rules;
    }
