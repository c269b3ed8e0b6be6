-- Reading a sheet over what may be done wrong: a line's way, what ends the book, the first line's number and what is left of a book. Over what is
-- right it is the definition.
-- Assumes nothing.
use Rattle.std.specs.Prelude.{ℕ, suc, ◌≡◌, refl, List, [], ◌∷◌, ◌++◌, Bool, cond, ◌||◌, length, ltb}
use Prim.Native.Char.{code}
use Rattle.std.proofs.Common.{ap}
use Rattle.rules.specs.Text.{is}
use Rattle.rules.specs.Limits.{longest_book}
use Rattle.rules.specs.Book.{Step, Stop, Next, refuse, Verdict, judge}
use Rattle.rules.specs.Answer.{Answer, refused}
use Rattle.days.specs.Lines.{Line, lines_of}
use Rattle.days.specs.Lines.{Whole as WholeLine, Cut as CutLine}
use Rattle.sheets.specs.Refusal as refusal
use Rattle.sheets.specs.Mark.{other, in_book, stands_in}
use Rattle.sheets.specs.Line.{parts_of, carried, figured, traded, field_of, line_of}
use Rattle.sheets.specs.Read.{Read, Bad, Made, first_of, headed, lines_from, sheet_from, read}
use Rattle.sheets.specs.Answers.{in_room, left_book}

-- a line where a figure is refused by this test, and figures and other parts are carried over so
module _ (strays : List ℕ → Bool) (figure carry : List ℕ → List ℕ) where
  abbrev pub one_by : ℕ → List ℕ → Step (List ℕ)
  one_by t v = cond (carried t) (Next (field_of t (carry v))) (cond (figured t) (refuse refusal.other_mark (strays v) (Next (field_of t (figure v)))) (Stop refusal.no_line))

  abbrev pub seat_by : ℕ → List ℕ → List ℕ → List ℕ → List ℕ → List ℕ
  seat_by t i k h q = field_of t (carry i) ++ field_of (code "K") (figure k) ++ field_of (code "H") (figure h) ++ field_of (code "Q") (figure q)

  abbrev pub trade_by : List ℕ → List ℕ → List ℕ → List ℕ → List ℕ
  trade_by price lots day time = figure price ++ code " " ∷ figure lots ++ code " " ∷ carry day ++ code " " ∷ carry time

  abbrev pub four_by : ℕ → List ℕ → List ℕ → List ℕ → List ℕ → Step (List ℕ)
  four_by t a b c d =
      cond (is "I" t) (refuse refusal.other_mark (strays b || strays c || strays d) (Next (seat_by t a b c d)))
      (cond (traded t) (refuse refusal.other_mark (strays a || strays b) (Next (field_of t (trade_by a b c d)))) (Stop refusal.no_line))

  abbrev pub lettered_by : ℕ → List (List ℕ) → Step (List ℕ)
  lettered_by t [] = Stop refusal.no_line
  lettered_by t (v ∷ []) = one_by t v
  lettered_by t (a ∷ b ∷ []) = Stop refusal.no_line
  lettered_by t (a ∷ b ∷ c ∷ []) = Stop refusal.no_line
  lettered_by t (a ∷ b ∷ c ∷ d ∷ []) = four_by t a b c d
  lettered_by t (a ∷ b ∷ c ∷ d ∷ e ∷ ps) = Stop refusal.no_line

  abbrev pub parts_by : List (List ℕ) → Step (List ℕ)
  parts_by [] = Stop refusal.no_line
  parts_by ([] ∷ ps) = Stop refusal.no_line
  parts_by ((t ∷ []) ∷ ps) = lettered_by t ps
  parts_by ((t ∷ u ∷ v) ∷ ps) = Stop refusal.no_line

-- a line by its mark
abbrev pub Way : Type 0
Way = ℕ → List ℕ → Step (List ℕ)

abbrev pub carried_over : List ℕ → List ℕ
carried_over v = v

abbrev pub right : Way
right m v = parts_by (stands_in (other m)) (in_book m) carried_over (parts_of v)

-- lines, a sheet and a call by a line's way, by what ends the book and by what is left of a book
abbrev pub lines_by : Way → List ℕ → ℕ → ℕ → List Line → Read
lines_by line end mark place [] = Made end
lines_by line end mark place (CutLine v ∷ ls) = Bad refusal.no_line place
lines_by line end mark place (WholeLine v ∷ ls) = first_of (line mark v) place (lines_by line end mark (suc place) ls)

abbrev pub read_by : Way → List ℕ → ℕ → List ℕ → Read
read_by line end first s = cond (ltb longest_book (length s)) (Bad 1 0) (headed (lines_of s) λ mark rest. lines_by line end mark first rest)

abbrev pub answer_of : (List ℕ → Verdict → Answer) → ℕ → Read → Answer
answer_of leave room (Bad n place) = refused n place
answer_of leave room (Made book) = in_room room book (leave book (judge book))

abbrev pub the_end : List ℕ
the_end = field_of (code "Z") []

abbrev pub by_line : Way → List ℕ → ℕ → Answer
by_line line s room = answer_of left_book room (read_by line the_end 2 s)

-- with what is right they are the definitions
right_line : (m : ℕ) (v : List ℕ) → right m v ≡ line_of m v
unfolding line_of
right_line m v = go (parts_of v)
  where
    go : (ps : List (List ℕ)) → parts_by (stands_in (other m)) (in_book m) carried_over ps ≡ Rattle.sheets.specs.Line.of_parts m ps
    go [] = refl
    go ([] ∷ ps) = refl
    go ((t ∷ []) ∷ []) = refl
    go ((t ∷ []) ∷ a ∷ []) = refl
    go ((t ∷ []) ∷ a ∷ b ∷ []) = refl
    go ((t ∷ []) ∷ a ∷ b ∷ c ∷ []) = refl
    go ((t ∷ []) ∷ a ∷ b ∷ c ∷ d ∷ []) = refl
    go ((t ∷ []) ∷ a ∷ b ∷ c ∷ d ∷ e ∷ ps) = refl
    go ((t ∷ u ∷ w) ∷ ps) = refl

right_lines : (m place : ℕ) (ls : List Line) → lines_by right the_end m place ls ≡ lines_from m place ls
unfolding lines_from
right_lines m place [] = refl
right_lines m place (CutLine v ∷ ls) = refl
right_lines m place (WholeLine v ∷ ls) = rw (right_line m v, right_lines m (suc place) ls)

pub right_reading : (s : List ℕ) → read_by right the_end 2 s ≡ read s
unfolding read sheet_from
right_reading s = ap (cond (ltb longest_book (length s)) (Bad 1 0)) (go (lines_of s))
  where
    go : (ls : List Line) → headed ls (λ mark rest. lines_by right the_end mark 2 rest) ≡ headed ls (λ mark rest. lines_from mark 2 rest)
    go [] = refl
    go (CutLine v ∷ ls) = refl
    go (WholeLine v ∷ ls) = rw (right_lines (code ",") 2 ls, right_lines (code ".") 2 ls)
