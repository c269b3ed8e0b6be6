-- To write the digits of the rest before those that are there is to write all digits of n.
use Rattle.std.proofs.Common.{◌≡◌, ◌+◌, ◌<◌, ◌≤◌, length}
use Rattle.rules.specs.Report.{digits}
use Rattle.writing.specs.Written.{written}
use Rattle.writing.proofs.fill_digits.Given as goal

abbrev pub invariant-loop-i : goal.invariant-loop-i
invariant-loop-i l = record {
  left : l.at < l.i → l.i ≡ l.at + length (digits l.rest);
  more : l.at < l.i → written l.at (digits l.rest) l.out ≡ written l.at (digits l.n) l.fn.out;
  done : l.i ≤ l.at → l.out ≡ written l.at (digits l.n) l.fn.out;
}
