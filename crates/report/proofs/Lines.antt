-- A customer's line with the numbers that the code holds: its code has as many bytes as its field says.
-- Assumes nothing.
use Prim.Native.Nat.{ℕ, ◌+◌, ◌-◌}
use mathlib.Core.Path.{◌≡◌, sym, ap, ap₂, subst, ◌∙◌}
use mathlib.Core.Bool.{Bool}
use mathlib.Core.List.{List, [], ◌++◌}
use native.Mathlib.Omega.{arith}
use lib.ListN.{length, take, drop, length-append, length-drop}
use lib.Seq.{length-take-le}
use Rattle.rules.specs.declared.Standing.{Standing}
use Rattle.rules.specs.Report.{reported, printed}
use Rattle.writing.specs.Shown.{shown}
use Rattle.seats.specs.Dealt.{seats_at, Due}
use Rattle.entries.specs.Entries.{own_bytes, reported_length, reported_length_lem}
use Rattle.report.specs.Sheet.{size_at, line_from, seats_bytes, Seated}
use Rattle.report.proofs.SeatBytes.{reported_is}

module _ {book : List ℕ} {start : ℕ} {standing : Standing} {offset : ℕ} {long : Bool} (s : Seated book start standing offset long) {size : ℕ} (e : size ≡ size_at book start) where
  code_is : take (start + size - start) (drop start book) ≡ take (size_at book start) (drop start book)
  code_is = let k : start + size - start ≡ size_at book start = omega arith in ap (λ n. take n (drop start book)) k

  pub code_length_lem : length (take (start + size - start) (drop start book)) ≡ size
  code_length_lem = ap length code_is ∙ length-take-le (size_at book start) (drop start book) (simp length-drop (omega (arith, s.inside))) ∙ sym e

  seats_is : seats_at book (start + size_at book start) ≡ seats_at book (start + size)
  seats_is = ap (λ n. seats_at book (start + n)) (sym e)

  pub due_is : Due (seats_at book (start + size)) standing long offset
  due_is = subst (λ l. Due l standing long offset) seats_is s.due

  pub printed_line : printed (line_from book start standing offset) ≡ printed (shown (take (start + size - start) (drop start book)) [] standing offset)
  printed_line = ap (λ v. printed (shown v [] standing offset)) (sym code_is)

  pub reported_line :
      reported (line_from book start standing offset)
      ≡ own_bytes (take (start + size - start) (drop start book)) standing offset ++ seats_bytes standing long offset (seats_at book (start + size))
  reported_line =
      reported_is (line_from book start standing offset) long s.side
      ∙ ap₂ (λ v l. own_bytes v standing offset ++ seats_bytes standing long offset l) (sym code_is) seats_is

  pub line_size : length (reported (line_from book start standing offset)) ≡ reported_length size offset + length (seats_bytes standing long offset (seats_at book (start + size)))
  line_size =
      let code = take (start + size - start) (drop start book) in
      ap length reported_line
      ∙ length-append (own_bytes code standing offset) (seats_bytes standing long offset (seats_at book (start + size)))
      ∙ ap (λ n. n + length (seats_bytes standing long offset (seats_at book (start + size)))) (reported_length_lem code standing offset ∙ ap (λ n. reported_length n offset) code_length_lem)
