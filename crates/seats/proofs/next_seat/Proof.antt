-- Field after field, what was found at a place is the first of the book's fields from there.
-- Assumes nothing.
use Prim.Native.Nat.{ℕ}
use mathlib.Core.Path.{sym, ◌∙◌}
use mathlib.Core.List.{List}
use borrow.Author.Rules.{rules}
use borrow.Author.Tests.{eq-eqb, ne_eqb}
use lib.ListN.{drop}
use Rattle.rules.specs.Fields.{fields_of}
use Rattle.fields.specs.Laws.{Stands, stands, nothing}
use Rattle.seats.specs.Laws.{on_nothing, on_found, begins}
use Rattle.seats.proofs.next_seat.Statement.{statement}
use Rattle.seats.proofs.next_seat.Tie as tie

abbrev book_of : tie.Start → List ℕ
book_of s = s.args.book.now

abbrev from : tie.In-Field → tie.Start
from c = c.before.before.before

-- I, K, H and Q, each behind the one before
seat : (c : tie.In-Field) → let f = c.in-Field in Stands (book_of (from c)) (from c).args.at f.tag f.start f.end
seat c = stands _ _ _ _ _ (sym c.field_at.ensures ∙ c.in-Field.is)

abbrev first : tie.In-Field-field_at → tie.In-Field
first c = c.before.before.before

long : (c : tie.In-Field-field_at) → let f = c.in-Field-field_at in Stands (book_of (from (first c))) (first c).in-Field.end f.tag f.start f.short
long c = stands _ _ _ _ _ (sym c.field_at-2.ensures ∙ c.in-Field-field_at.is)

abbrev second : tie.In-Field-field_at-2 → tie.In-Field-field_at
second c = c.before.before

short : (c : tie.In-Field-field_at-2) → let f = c.in-Field-field_at-2 in Stands (book_of (from (first (second c)))) (second c).in-Field-field_at.short f.tag f.start f.unfilled
short c = stands _ _ _ _ _ (sym c.field_at-3.ensures ∙ c.in-Field-field_at-2.is)

abbrev third : tie.In-Field-field_at-3 → tie.In-Field-field_at-2
third c = c.before.before

unfilled : (c : tie.In-Field-field_at-3) → let f = c.in-Field-field_at-3 in Stands (book_of (from (first (second (third c))))) (third c).in-Field-field_at-2.unfilled f.tag f.start f.next
unfilled c = stands _ _ _ _ _ (sym c.field_at-4.ensures ∙ c.in-Field-field_at-3.is)

field-at-requires : tie.Need-field_at-requires
field-at-requires c κs = search rules

enum-known-tag : tie.Need-enum_known-tag
enum-known-tag c = search rules

enum_told : tie.Need-enum_told-1
enum_told c = search rules

returns : tie.Need-returns-in_default
returns c =
    let b = c in
    sym (on_nothing _ (nothing b.args.at (fields_of (drop b.args.at (book_of c.before.before.before))) (sym c.field_at.ensures ∙ c.in_default.is)) _)

returns-2 : tie.Need-returns-then-tag-ne-I
returns-2 c =
    let k = c in sym (on_found (book_of (from c.before)) (seat c.before) _ ∙ rw (ne_eqb _ _ c.if-tag-ne-I.true))

field-at-requires-2 : tie.Need-field_at-requires-2
field-at-requires-2 c κs = search rules

enum-known-short : tie.Need-enum_known-short
enum-known-short c = search rules

enum-told-2 : tie.Need-enum_told-in_default-field_at
enum-told-2 c = search rules

returns-3 : tie.Need-returns-in_default-field_at
returns-3 c =
    let k = c in
    let s = book_of (from c.before.before.before) in
    sym (begins s _ (seat c.before.before.before) (eq-eqb _ _ c.if-tag-ne-I.false)
    ∙ on_nothing _ (nothing k.in-Field.end (fields_of (drop k.in-Field.end s)) (sym c.field_at-2.ensures ∙ c.in_default-field_at.is)) _)

field-at-requires-3 : tie.Need-field_at-requires-3
field-at-requires-3 c κs = search rules

enum-known-unfilled : tie.Need-enum_known-unfilled
enum-known-unfilled c = search rules

enum-told-3 : tie.Need-enum_told-in_default-field_at-2
enum-told-3 c = search rules

returns-4 : tie.Need-returns-in_default-field_at-2
returns-4 c =
    let k = c in
    let s = book_of (from (first c.before.before)) in
    sym (begins s _ (seat (first c.before.before)) (eq-eqb _ _ k.if-tag-ne-I.false) ∙ on_found s (long c.before.before) _
    ∙ on_nothing _ (nothing k.in-Field-field_at.short (fields_of (drop k.in-Field-field_at.short s)) (sym c.field_at-3.ensures ∙ c.in_default-field_at-2.is)) _)

field-at-requires-4 : tie.Need-field_at-requires-4
field-at-requires-4 c κs = search rules

enum-known-next : tie.Need-enum_known-next
enum-known-next c = search rules

enum-told-4 : tie.Need-enum_told-in_default-field_at-3
enum-told-4 c = search rules

returns-5 : tie.Need-returns-in_default-field_at-3
returns-5 c =
    let m = c in
    let k = second c.before.before in
    let s = book_of (from (first k)) in
    sym (begins s _ (seat (first k)) (eq-eqb _ _ k.if-tag-ne-I.false) ∙ on_found s (long k) _ ∙ on_found s (short c.before.before) _
    ∙ on_nothing _ (nothing m.in-Field-field_at-2.unfilled (fields_of (drop m.in-Field-field_at-2.unfilled s)) (sym c.field_at-4.ensures ∙ c.in_default-field_at-3.is)) _)

returns-6 : tie.Need-returns
returns-6 c =
    let m = third c in
    let k = second m in
    let s = book_of (from (first k)) in
    sym (begins s _ (seat (first k)) (eq-eqb _ _ k.if-tag-ne-I.false) ∙ on_found s (long k) _ ∙ on_found s (short m) _ ∙ on_found s (unfilled c) _)

pub next_seat_spec : {M : Type 1} → statement M
next_seat_spec =
    tie.close
    (tie.spec
    field-at-requires
    enum-known-tag
    enum_told
    returns
    returns-2
    field-at-requires-2
    enum-known-short
    enum-told-2
    returns-3
    field-at-requires-3
    enum-known-unfilled
    enum-told-3
    returns-4
    field-at-requires-4
    enum-known-next
    enum-told-4
    returns-5
    returns-6)
