-- The statement of requests [1] and [5] holds of every accepted book: of the answer's report, and of the bytes that a call leaves in the buffer.
-- Assumes nothing.
use Rattle.std.specs.Prelude.{ℕ, ◌≡◌, refl, List, length, take, drop}
use Rattle.std.proofs.Common.{ap₂, ◌∙◌, take_at}
use Rattle.rules.specs.Cascade.{outcome}
use Rattle.rules.specs.Report.{report}
use Rattle.rules.specs.Answer.{answer}
use Rattle.promises.specs.Statement.{Stated}
use Rattle.promises.specs.ReportStated.{report_stated}
use Rattle.promises.specs.Outcomes.{outcome_of, accepted_fits, fits_report}
use Rattle.promises.specs.Call.{Call, book_of, lent_to, left_by}
use Rattle.promises.specs.Demands.{demand_2}

-- of the answer to a book that is accepted
pub stated : (book : List ℕ) (room : ℕ) → (answer book room).number ≡ 0 → Stated book (answer book room).report
unfolding outcome_of
stated book room h =
    let f = accepted_fits book room h in
    rw (fits_report book room f, f.judged) (report_stated book f.terms f.customers f.judged)

-- and of the bytes that a call leaves in the buffer, as many as it says
pub stated_call : (c : Call) → c.answer.number ≡ 0 → Stated (book_of c) (take c.answer.length (left_by c))
stated_call c h =
    let d = demand_2 c h in
    let shown = report (outcome d.terms d.customers) in
    let front : take c.answer.length (left_by c) ≡ shown = ap₂ take d.size d.buffer ∙ take_at shown (drop (length shown) (lent_to c)) (length shown) refl in
    rw front (report_stated (book_of c) d.terms d.customers d.judged)
