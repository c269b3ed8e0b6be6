-- No mark, a refused book, no room, or the sheet.
use Rattle.std.proofs.Common.{◌+◌, length, ltb, refl, sym, ap, ◌∙◌}
use Rattle.laws.specs.ByTest.{not_true, not-not}
use Rattle.sheets.proofs.Answers.{kept_so, left_so, no_mark, stopped, no_room, with_room}
use Rattle.sheets.specs.Write.{sheet_of}
use Rattle.sheets.proofs.book_to_sheet.Goals as goal

pub returns-then-no_mark : goal.returns-then-no_mark
returns-then-no_mark c = rw (c.refused.ensures, c.number.ensures) (kept_so (no_mark _ _ _ (not_true _ (sym c.no_mark.ensures ∙ c.if-no_mark.true))) refl)

pub returns-in-Err : goal.returns-in-Err
returns-in-Err c = rw c.refused-in-Err.ensures (kept_so (stopped _ _ _ (not-not _ (sym c.no_mark.ensures ∙ c.if-no_mark.false)) _ _ c.in-Err.ensures) refl)

pub returns-then-lacks_room : goal.returns-then-lacks_room
returns-then-lacks_room c =
    rw (c.refused-then-lacks_room.ensures, c.number-then-lacks_room.ensures)
    (kept_so (no_room _ _ _ (not-not _ (sym c.no_mark.ensures ∙ c.if-no_mark.false)) c.in_default.ensures
    (ap (λ n. ltb (length c.args.sheet.now) (6 + n)) (sym c.sheet_size.ensures) ∙ sym c.lacks_room.ensures ∙ c.if-lacks_room.true)) refl)

pub returns : goal.returns
returns c =
    rw c.accepted.ensures
    (left_so (sheet_of c.args.mark c.args.book.now)
    (with_room _ _ _ (not-not _ (sym c.no_mark.ensures ∙ c.if-no_mark.false)) c.in_default.ensures
    (ap (λ n. ltb (length c.args.sheet.now) (6 + n)) (sym c.sheet_size.ensures) ∙ sym c.lacks_room.ensures ∙ c.if-lacks_room.false))
    c.put_sheet-length.ensures)
