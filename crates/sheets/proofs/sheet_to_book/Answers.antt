-- The book that was made is judged, or nothing was made.
use Rattle.std.proofs.Common.{List, ℕ, subst, sym, ap, ◌∙◌}
use Rattle.rules.specs.Book.{judge}
use Rattle.sheets.specs.Shown.{IsAccepted}
use Rattle.sheets.proofs.Answers.{kept_so, left_so}
use Rattle.sheets.proofs.Judged.{stands, nothing, judged_good, judged_bad}
use Rattle.sheets.proofs.sheet_to_book.Goals as goal

pub returns-in-Ok-judge : goal.returns-in-Ok-judge
returns-in-Ok-judge c =
    let m = stands c.args.book.now c.make_book.new.book c.args.sheet.now c.in-Ok.length c.in-Ok.ensures in
    rw c.accepted.ensures
    (left_so m.book (m.answers ∙ judged_good m.book (subst (λ (b : List ℕ). IsAccepted (judge b)) m.front c.in-Ok-judge.ensures)) m.wrote)

pub returns-in-Err-judge : goal.returns-in-Err-judge
returns-in-Err-judge c =
    let m = stands c.args.book.now c.make_book.new.book c.args.sheet.now c.in-Ok.length c.in-Ok.ensures in
    left_so m.book (m.answers ∙ judged_bad m.book _ _ (ap judge (sym m.front) ∙ c.in-Err-judge.ensures)) m.wrote

pub returns-in-Err : goal.returns-in-Err
returns-in-Err c =
    let n = nothing c.args.book.now c.make_book.new.book c.args.sheet.now c.in-Err.refusal c.in-Err.ensures in
    rw (c.refused.ensures, c.number.ensures) (kept_so n.answers n.kept)
