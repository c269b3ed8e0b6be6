use Rattle.std.proofs.Common.{◌≡◌, ◌+◌, ◌-◌, ◌≤◌, length}
use Rattle.sheets.proofs.Fields.{size_from}
use Rattle.sheets.proofs.shown.sheet_size.Given as goal

abbrev pub invariant-loop-tag : goal.invariant-loop-tag
invariant-loop-tag l = (l.at ≤ length l.book) × (l.size ≤ l.at) × (l.size + size_from l.book l.at ≡ size_from l.book 0)

abbrev pub decreases-loop-tag : goal.decreases-loop-tag
decreases-loop-tag l = length l.book - l.at
