-- Those counted and those of the rest are all; each byte read is one at most.
use Rattle.std.proofs.Common.{◌≡◌, ◌≤◌, ◌+◌, drop}
use Rattle.days.specs.Lines.{feeds}
use Rattle.days.proofs.count_feeds.Given as goal

abbrev pub invariant-loop-x : goal.invariant-loop-x
invariant-loop-x l = record {
  all : l.count + feeds (drop l.x-index l.s) ≡ feeds l.s;
  most : l.count ≤ l.x-index;
}
