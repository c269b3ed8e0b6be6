-- A line of four parts that fits into the buffer leaves room for what is written of it: a trade, or a seat.
-- Assumes nothing.
use Prim.Native.Nat.{ℕ, ◌+◌, ◌≤◌}
use mathlib.Core.Path.{◌≡◌}
use mathlib.Core.List.{List}
use native.Mathlib.Omega.{arith}
use lib.ListN.{length}
use Rattle.rules.specs.Limits.{longest_book}
use Rattle.sheets.specs.Places.{between}
use Rattle.sheets.specs.Put.{Four}
use Rattle.sheets.proofs.Forms.{between_size}
use Rattle.sheets.proofs.Makes.{four_seat_length, four_trade_length}
use Rattle.sheets.specs.declared.line.Parts.{Parts}

module _ (mark : ℕ) (s : List ℕ) (at t : ℕ) (p : Parts) (place : ℕ) (buffer : List ℕ) (four : Four mark s at t p place buffer) where
  pub trade_room : (t ≡ 73 → ⊥) → let n = length (between (at + 2) p.second s) + length (between p.second p.end s) in (n ≤ longest_book) × (place + (n + 3) ≤ length buffer)
  trade_room h =
      let has = four.has in
      let short = four.short in
      let room = four.room in
      let size = four_trade_length mark t (between (at + 2) p.first s) (between (p.first + 1) p.second s) (between (p.second + 1) p.third s) (between (p.third + 1) p.end s) h in
      let q = between_size (at + 2) p.second s (omega arith) in
      let r = between_size p.second p.end s (omega arith) in (
        omega arith,
        omega (
          arith,
          between_size (at + 2) p.first s (omega arith),
          between_size (p.first + 1) p.second s (omega arith),
          between_size (p.second + 1) p.third s (omega arith),
          between_size (p.third + 1) p.end s (omega arith),
        ),
      )

  pub seat_room : t ≡ 73 →
      let n = length (between (at + 2) p.first s) + length (between (p.first + 1) p.second s) + length (between (p.second + 1) p.third s) + length (between (p.third + 1) p.end s) in
      (n ≤ longest_book) × (place + (n + 12) ≤ length buffer)
  seat_room h =
      let has = four.has in
      let short = four.short in
      let room = four.room in
      let size = four_seat_length mark t (between (at + 2) p.first s) (between (p.first + 1) p.second s) (between (p.second + 1) p.third s) (between (p.third + 1) p.end s) h in (
        omega (
          arith,
          between_size (at + 2) p.first s (omega arith),
          between_size (p.first + 1) p.second s (omega arith),
          between_size (p.second + 1) p.third s (omega arith),
          between_size (p.third + 1) p.end s (omega arith),
        ),
        omega arith,
      )
