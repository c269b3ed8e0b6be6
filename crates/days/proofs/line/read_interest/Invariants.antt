-- What was passed are digits, and the number so far is theirs.
-- Assumes nothing.
use Rattle.std.proofs.Common.{◌≡◌, ◌<◌, ◌^◌, drop}
use Rattle.rules.specs.Figures.{all_digits_of, number_after}
use Rattle.days.proofs.line.read_interest.Given as goal

abbrev pub invariant-loop-x : goal.invariant-loop-x
invariant-loop-x l = record {
  small : l.number < 10 ^ l.x-index;
  digits : all_digits_of l.v ≡ all_digits_of (drop l.x-index l.v);
  written : number_after 0 l.v ≡ number_after l.number (drop l.x-index l.v);
}
