-- `fields::field_at` meets its contract: at each `return` the tests that led there say whether a field fits the book.
-- Assumes nothing.
use borrow.Author.Rules.{rules}
use Prim.Native.Nat.{◌+◌}
use mathlib.Core.Path.{sym}
use native.Mathlib.Omega.{arith}
use Rattle.fields.specs.Laws.{first_whole, first_short}
use Rattle.fields.proofs.field_at.Statement.{statement}
use Rattle.fields.proofs.field_at.Tie as tie

returns : tie.Need-returns-then-n-lt3
returns c = let a = c.args in sym (first_short a.book.now a.at (omega arith))

returns-2 : tie.Need-returns-then-n-at
returns-2 c = let a = c.args in sym (first_short a.book.now a.at (omega arith))

add_start : tie.Need-overflow_add-start
add_start c = search rules

add-size : tie.Need-overflow_add-size
add-size c = search rules

shared-slice-read-size : tie.Need-bounds-book-at
shared-slice-read-size c = search rules

cast-size : tie.Need-overflow_cast-size
cast-size c = omega (arith, c.shared_slice_known-1.given (c.args.at + 1))

mul-size : tie.Need-overflow_mul-size
mul-size c = omega (arith, c.shared_slice_known-1.given (c.args.at + 1))

add-size-2 : tie.Need-overflow_add-size-2
add-size-2 c = search rules

shared-slice-read-size-2 : tie.Need-bounds-book-at-2
shared-slice-read-size-2 c = search rules

cast-size-2 : tie.Need-overflow_cast-size-2
cast-size-2 c = omega (arith, c.shared_slice_known-2-1.given (c.args.at + 2))

add-size-3 : tie.Need-overflow_add-size-3
add-size-3 c = let at = c.args.at in omega (arith, c.shared_slice_known-2-1.given (at + 1), c.shared_slice_known-2-1.given (at + 2))

sub-if3 : tie.Need-overflow_sub-n-2
sub-if3 c = search rules

returns-3 : tie.Need-returns-then-n-start
returns-3 c = let a = c.args in sym (first_short a.book.now a.at (omega arith))

shared-slice-read-t14 : tie.Need-bounds-book-at-3
shared-slice-read-t14 c = search rules

add-t15 : tie.Need-overflow_add-result
add-t15 c = search rules

returns-4 : tie.Need-returns
returns-4 c = let a = c.args in sym (first_whole a.book.now a.at (omega arith))

pub field_at_spec : {M : Type 1} → statement M
field_at_spec =
    tie.close
    (tie.spec
    returns
    returns-2
    add_start
    add-size
    shared-slice-read-size
    cast-size
    mul-size
    add-size-2
    shared-slice-read-size-2
    cast-size-2
    add-size-3
    sub-if3
    returns-3
    shared-slice-read-t14
    add-t15
    returns-4)
