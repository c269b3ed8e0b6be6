-- Wrong readings and wrong writings of sheets, each the right one but for what its name says, and a case that each fails.
-- Assumes nothing.
use Rattle.std.specs.Prelude.{ℕ, ◌≡◌, refl, List, [], ◌∷◌, ◌++◌, false, cond, get_or, eqb}
use Prim.Native.Char.{code}
use Rattle.rules.specs.Text.{is}
use Rattle.rules.specs.Figures.{written_of, figure_of}
use Rattle.rules.specs.Stamp.{stamp_of}
use Rattle.rules.specs.Opening.{opening_of}
use Rattle.rules.specs.Codes.{is_code}
use Rattle.rules.specs.Fields.{Field, Whole, Cut, fields_of}
use Rattle.rules.specs.Book.{refuse, Verdict, Refused, Accepted, within, step, judge}
use Rattle.rules.specs.Answer.{Answer, refused}
use Rattle.rules.specs.Report.{joined}
use Rattle.days.specs.Lines.{lines_of}
use Rattle.sheets.specs.Mark.{other, in_book, stands_in}
use Rattle.sheets.specs.Line.{parts_of, figured}
use Rattle.sheets.specs.Write.{field_in, mark_line}
use Rattle.sheets.specs.Answers.{left, in_room, left_book, to_book, to_sheet}
use Rattle.sheets_promises.specs.Case.{Case, holds_by}
use Rattle.sheets_promises.specs.Cases.{own_in_lots, in_code, point_in_s, both, thousand, misplaced, in_day, first_line, written_listing}
use Rattle.sheets_promises.specs.Ways.{parts_by, Way, carried_over, right, read_by, answer_of, the_end, by_line}

-- ---- wrong readings of a line

-- the other mark is taken, as it is or for a point
abbrev other_taken : Way
other_taken m v = parts_by (λ w. false) (in_book m) carried_over (parts_of v)

abbrev other_for_point : Way
other_for_point m v = parts_by (λ w. false) (λ w. in_book (other m) (in_book m w)) carried_over (parts_of v)

-- marks are dropped, as from thousands
abbrev without : ℕ → List ℕ → List ℕ
without m [] = []
without m (b ∷ v) = cond (eqb b m) (without m v) (b ∷ without m v)

abbrev own_dropped : Way
own_dropped m v = parts_by (stands_in (other m)) (without m) carried_over (parts_of v)

abbrev other_dropped : Way
other_dropped m v = parts_by (λ w. false) (λ w. in_book m (without (other m) w)) carried_over (parts_of v)

-- the mark is replaced in codes, D, X, day and time as well
abbrev all_replaced : Way
all_replaced m v = parts_by (stands_in (other m)) (in_book m) (in_book m) (parts_of v)

-- 21 before 22 in a line of a term
abbrev marks_first : Way
marks_first m v = cond (figured (get_or v 0 0)) (refuse 21 (stands_in (other m) v) (right m v)) (right m v)

abbrev IsFailing : (List ℕ → ℕ → Answer) → Case → Type 0
IsFailing reads c = holds_by reads to_sheet c ≡ false

pub other_mark_taken : IsFailing (by_line other_taken) point_in_s
unfolding lines_of parts_of judge fields_of step within figure_of written_of
other_mark_taken = refl

pub other_mark_for_a_point : IsFailing (by_line other_for_point) point_in_s
unfolding lines_of parts_of judge fields_of step within figure_of written_of
other_mark_for_a_point = refl

pub own_mark_dropped : IsFailing (by_line own_dropped) own_in_lots
unfolding lines_of parts_of judge fields_of step within figure_of written_of is_code
own_mark_dropped = refl

pub other_mark_dropped : IsFailing (by_line other_dropped) thousand
unfolding lines_of parts_of judge fields_of step within figure_of written_of
other_mark_dropped = refl

pub mark_replaced_in_a_code : IsFailing (by_line all_replaced) in_code
unfolding lines_of parts_of judge fields_of step within figure_of written_of is_code
mark_replaced_in_a_code = refl

pub mark_replaced_in_a_day : IsFailing (by_line all_replaced) in_day
unfolding lines_of parts_of judge fields_of step within figure_of written_of is_code opening_of stamp_of
mark_replaced_in_a_day = refl

pub marks_before_parts : IsFailing (by_line marks_first) both
unfolding lines_of parts_of
marks_before_parts = refl

-- ---- wrong readings of a sheet

abbrev z_twice : List ℕ → ℕ → Answer
z_twice s room = answer_of left_book room (read_by right (the_end ++ the_end) 2 s)

abbrev no_z : List ℕ → ℕ → Answer
no_z s room = answer_of left_book room (read_by right [] 2 s)

abbrev mark_line_not_counted : List ℕ → ℕ → Answer
mark_line_not_counted s room = answer_of left_book room (read_by right the_end 1 s)

-- a book that is refused is not left
abbrev left_if_good : List ℕ → Verdict → Answer
left_if_good book (Refused n place) = refused n place
left_if_good book (Accepted terms cs) = left book 0 0

abbrev refused_not_left : List ℕ → ℕ → Answer
refused_not_left s room = answer_of left_if_good room (read_by right the_end 2 s)

pub z_twice_lem : IsFailing z_twice misplaced
unfolding lines_of parts_of judge fields_of step within figure_of written_of
z_twice_lem = refl

pub no_z_lem : IsFailing no_z misplaced
unfolding lines_of parts_of judge fields_of step within figure_of written_of
no_z_lem = refl

pub mark_line_not_counted_lem : IsFailing mark_line_not_counted first_line
unfolding lines_of parts_of
mark_line_not_counted_lem = refl

pub refused_not_left_lem : IsFailing refused_not_left misplaced
unfolding lines_of parts_of judge fields_of step within figure_of written_of
refused_not_left_lem = refl

-- ---- wrong writings

abbrev sheet_by : (ℕ → Field → List ℕ) → List ℕ → ℕ → ℕ → Answer
sheet_by line book mark room = let s = mark_line mark ++ joined (line mark) (fields_of book) in in_room room s (left s 0 0)

abbrev points_kept_of : ℕ → Field → List ℕ
points_kept_of mark f = field_in (code ".") f

abbrev z_written : ℕ → Field → List ℕ
z_written mark Cut = []
z_written mark (Whole t v) = cond (is "Z" t) (code "Z" ∷ code ";" ∷ code "\n" ∷ []) (field_in mark (Whole t v))

pub points_kept : holds_by to_book (sheet_by points_kept_of) written_listing ≡ false
unfolding fields_of field_in
points_kept = refl

pub z_written_lem : holds_by to_book (sheet_by z_written) written_listing ≡ false
unfolding fields_of field_in
z_written_lem = refl
