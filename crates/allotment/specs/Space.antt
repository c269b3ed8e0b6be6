-- Every listing fits 8,192 bytes: there are at most 256 lines, each of a code of at most 12, an offset of at most 10 digits and 4 bytes
-- more; and the two lines before them have at most 33.
-- Assumes nothing.
use Rattle.std.specs.Prelude.{ℕ, zero, suc, ◌+◌, ◌*◌, ◌≤◌, ◌<◌, ◌≡◌, List, [], ◌∷◌, ◌++◌, map, get_or, take, drop}
use Rattle.std.proofs.Common.{sym, ap, ◌∙◌, arith, le_refl, length-take}
use Rattle.std.proofs.Math.ListN.{length, length-append}
use Rattle.rules.specs.declared.Terms.{Terms}
use Rattle.rules.specs.Limits.{longest_code}
use Rattle.rules.specs.Book.{Customer}
use Rattle.rules.specs.Cascade.{Line}
use Rattle.rules.specs.Report.{digits, joined, printed}
use Rattle.laws.specs.Sums.{up_to}
use Rattle.laws.specs.Indices.{map_more}
use Rattle.laws.specs.Digits.{digits_length_10}
use Rattle.laws.specs.Sane.{Customers}
use Rattle.cascade.specs.Columns.{Columns, columns}
use Rattle.cascade.specs.State.{after_all, Steady}
use Rattle.cascade.specs.After.{steady_all, pending_le}
use Rattle.roll.specs.Roll.{Held, Room}
use Rattle.writing.specs.Shown.{joined_append}
use Rattle.printing.specs.Printed.{printed_length, listed_head_length}
use Rattle.report.specs.Sheet.{size_at, line_at, sheet_bytes, listing_bytes}
use Rattle.allotment.specs.Worked.{listing_room, at_first}
use Rattle.allotment.specs.Start.{start_steady}
use Rattle.allotment.specs.Shown.{page, seated}

-- n lines of at most b bytes
joined_most : (f : Line → List ℕ) (g : ℕ → Line) (b n : ℕ) → ((i : ℕ) → i < n → length (f (g i)) ≤ b) → length (joined f (map g (up_to n))) ≤ b * n
joined_most f g b zero h = omega arith
joined_most f g b (suc n) h =
    let one : n + 1 ≡ suc n = omega arith in
    let e : joined f (map g (up_to (suc n))) ≡ joined f (map g (up_to n)) ++ (f (g n) ++ []) =
    ap (λ (m : ℕ). joined f (map g (up_to m))) (sym one) ∙ ap (joined f) (map_more g n) ∙ joined_append f (map g (up_to n)) (g n ∷ []) in
    rw e (simp length-append (omega (arith, joined_most f g b n (λ i k. h i (omega arith)), h n (le_refl _))))

module _ {book : List ℕ} (terms : Terms) {cs : List Customer} {keys starts standings stakes : List ℕ} {count : ℕ}
    (k : Customers cs) (h : Held book terms cs keys starts standings stakes count) (r : Room keys starts standings stakes) where
  abbrev c : Columns
  c = columns keys standings stakes count

  first : Steady 0 c at_first
  first = start_steady terms k h r

  steady : Steady 3_072_000_000 c (after_all c at_first)
  steady = steady_all c at_first first

  line_most : (i : ℕ) → i < count → length (printed (line_at (page terms k h) i)) ≤ 26
  line_most i l =
      let p = seated terms k h i l in
      let d : length (digits (get_or (after_all c at_first).offset i 0)) ≤ 10 = digits_length_10 _ (omega (arith, steady.offset i l)) in
      let n : length (take (size_at book (get_or starts i 0)) (drop (get_or starts i 0) book)) ≤ longest_code = simp length-take (omega (arith, p.short)) in
      omega (arith, printed_length (line_at (page terms k h) i))

  pub listing_room_lem : length (listing_bytes (page terms k h)) ≤ listing_room
  unfolding sheet_bytes
  listing_room_lem =
      let g = page terms k h in
      let t : length (digits g.total) ≤ 10 = digits_length_10 _ (omega (arith, steady.total)) in
      let d : length (digits g.residue) ≤ 10 = digits_length_10 _ (omega (arith, pending_le c at_first first)) in
      simp length-append (omega (arith, listed_head_length g.total g.residue, joined_most printed (line_at g) 26 count line_most, first.few))
