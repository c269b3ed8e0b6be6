-- What is answered, and what is left in the buffer, by what the lines were judged to be.
-- Assumes nothing.
use Prim.Native.Nat.{ℕ, ◌≤◌, ◌<◌}
use mathlib.Core.Path.{◌≡◌, refl}
use mathlib.Core.List.{List}
use native.Mathlib.Omega.{arith}
use borrow.Author.Tests.{lt-ltb, le-ltb}
use lib.ListN.{length}
use Rattle.rules.specs.Limits.{longest_book}
use Rattle.days.specs.Lines.{lines_of}
use Rattle.writing.specs.Written.{Room, Wrote}
use Rattle.sheets.specs.declared.refusal.SheetRule.TheVariants.{NoResult}
use Rattle.sheets.specs.declared.refusal.Refusal.{Refusal}
use Rattle.std.specs.Prelude.{Ok, Err}
use Rattle.sheets.specs.Refusal.{number_of}
use Rattle.sheets.specs.Read.{Read, Bad, Made, sheet_from, read}
use Rattle.sheets.specs.Sizes.{book_of, Tells}
use Rattle.sheets.specs.Making.{Makes}

-- a sheet that is too long, and one that is not
pub read_long : (s : List ℕ) → longest_book < length s → read s ≡ Bad 1 0
unfolding read
read_long s h = rw (lt-ltb longest_book (length s) h)

pub read_short : (s : List ℕ) → length s ≤ longest_book → read s ≡ sheet_from (lines_of s)
unfolding read
read_short s h = rw (le-ltb longest_book (length s) h)

pub bad_makes : (r : Read) (entry : List ℕ) (e : Refusal) → r ≡ Bad (number_of e.rule) e.place → Makes r entry entry (Err e)
bad_makes r entry e h = rw h (record { answer = refl; buffer = refl })

module _ (entry : List ℕ) (r : Read) (n : ℕ) (told : Tells r (Ok n)) where
  pub no_room_makes : length entry < n → Makes r entry entry (Err (record { rule = NoResult; place = 0 }))
  no_room_makes h =
      let t = lt-ltb (length entry) (length (book_of r)) (omega (arith, told.1)) in
      rw told.0 (record { answer = rw t refl; buffer = rw t refl })

  pub room_takes : n ≤ length entry → (r ≡ Made (book_of r)) × Room 0 (book_of r) entry
  room_takes h = (told.0, omega (arith, told.1))

  pub wrote_makes : n ≤ length entry → {exit : List ℕ} {end : ℕ} → Wrote 0 (book_of r) entry exit end → Makes r entry exit (Ok end)
  wrote_makes h {exit} {end} w =
      let t = le-ltb (length entry) (length (book_of r)) (omega (arith, told.1)) in
      rw told.0 (record { answer = rw t (refl, omega (arith, w.next)); buffer = rw t w.whole })
