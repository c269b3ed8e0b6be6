use Rattle.std.proofs.Common.{◌≡◌, ◌+◌, ◌-◌, ◌≤◌, length}
use Rattle.writing.specs.Written.{written}
use Rattle.sheets.proofs.Fields.{rest_of, size_from}
use Rattle.sheets.proofs.shown.put_fields.Given as goal

abbrev pub invariant-loop-tag : goal.invariant-loop-tag
invariant-loop-tag l =
    (l.from ≤ length l.book) × (length l.out ≡ length l.initial.out) × (l.next + size_from l.book l.from ≡ l.at + size_from l.book 0)
    × (written l.next (rest_of l.mark l.book l.from) l.out ≡ written l.at (rest_of l.mark l.book 0) l.initial.out)

abbrev pub decreases-loop-tag : goal.decreases-loop-tag
decreases-loop-tag l = length l.book - l.from
