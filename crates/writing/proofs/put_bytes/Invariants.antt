-- To write the bytes that are left behind those that are there is to write all of s.
use Rattle.std.proofs.Common.{◌≡◌, ◌+◌, length, drop}
use Rattle.writing.specs.Written.{written}
use Rattle.writing.proofs.put_bytes.Given as goal

abbrev pub invariant-loop-i : goal.invariant-loop-i
invariant-loop-i l = record {
  size : length l.out ≡ length l.fn.out;
  all : written (l.at + l.i) (drop l.i l.s) l.out ≡ written l.at l.s l.fn.out;
}
