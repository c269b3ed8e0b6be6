-- The lines that are left to be written: to write what they make behind what is there is to write the whole book.
-- Assumes nothing.
use Prim.Native.Nat.{ℕ, suc, ◌+◌, ◌≤◌, ◌<◌}
use mathlib.Core.Path.{◌≡◌, refl, sym, ap, ◌∙◌}
use mathlib.Core.Bool.{false}
use mathlib.Core.List.{List, [], ◌∷◌, ◌++◌}
use native.Mathlib.Omega.{arith}
use lib.Dec.{eqb}
use lib.ListN.{length, drop, length-append, length-drop, drop_of_length-le}
use lib.Seq.{drop-drop}
use Rattle.rules.specs.Limits.{longest_book}
use Rattle.rules.specs.Book.{Step, Stop, Next}
use Rattle.days.specs.Lines.{lines_of}
use Rattle.writing.specs.Written.{Room, Wrote, written, written_length, written_join}
use Rattle.sheets.specs.declared.reading.Put.{Put}
use Rattle.sheets.specs.Read.{Read, Bad, Made, first_of, lines_from}
use Rattle.sheets.specs.Places.{front_of, size_of}
use Rattle.sheets.specs.Fronts.{read_front}
use Rattle.sheets.specs.Making.{line_at, Ready, Puts, Takes}
use Rattle.sheets.specs.Sizes.{fields_in, book_of}

pub record Left (mark : ℕ) (s : List ℕ) (at place : ℕ) (out entry book : List ℕ) : Type 0 where
  pub inside : at ≤ length s
  pub line : ℕ
  pub rest : List ℕ
  pub made : lines_from mark line (lines_of (drop at s)) ≡ Made rest
  pub long : length out ≡ length entry
  pub size : place + length rest ≡ length book
  pub same : written place rest out ≡ written 0 book entry

-- at first all of them are
pub left_all : (mark : ℕ) (s : List ℕ) (start : ℕ) (entry : List ℕ) → Takes mark s start entry →
    Left mark s start 0 entry entry (book_of (lines_from mark 2 (lines_of (drop start s))))
left_all mark s start entry takes =
    record { inside = takes.inside; line = 2; rest = book_of (lines_from mark 2 (lines_of (drop start s))); made = takes.good; long = refl; size = omega arith; same = refl }

-- a line that makes its part of the rest
record First (mark : ℕ) (s : List ℕ) (at line : ℕ) (rest : List ℕ) : Type 0 where
  later : List ℕ
  good : line_at mark s at ≡ Next (fields_in (line_at mark s at))
  made : lines_from mark (suc line) (lines_of (drop (size_of (front_of (drop at s))) (drop at s))) ≡ Made later
  joins : rest ≡ fields_in (line_at mark s at) ++ later

parted : (l : Step (List ℕ)) (k : ℕ) (r : Read) (rest : List ℕ) → first_of l k r ≡ Made rest →
    (later : List ℕ) × (l ≡ Next (fields_in l)) × (r ≡ Made later) × (rest ≡ fields_in l ++ later)
parted (Stop n) k r rest e = absurd (let z : ◌≡◌ {A = ℕ} 0 1 = cc in omega arith)
parted (Next f) k (Bad n place) rest e = absurd (let z : ◌≡◌ {A = ℕ} 0 1 = cc in omega arith)
parted (Next f) k (Made later) rest e = (later, refl, refl, cc)

module _ {mark : ℕ} {s : List ℕ} {at place : ℕ} {out entry book : List ℕ} (left : Left mark s at place out entry book) where
  first : at < length s → First mark s at left.line left.rest
  first h =
      let p = parted (line_at mark s at) left.line _ left.rest (sym (read_front mark left.line (drop at s) (omega (arith, length-drop at s))) ∙ left.made) in
      record { later = p.0; good = p.1; made = p.2; joins = p.3 }

  pub left_ready : at < length s → length s ≤ longest_book → eqb 59 mark ≡ false → Room 0 book entry → Ready mark s at place out
  left_ready h short unlike room =
      let f = first h in
      let long = left.long in
      let size = left.size in
      record {
        here = h;
        short = short;
        good = f.good;
        room = omega (arith, ap length f.joins, length-append (fields_in (line_at mark s at)) f.later);
        unlike = unlike;
      }

  pub left_next : at < length s → Room 0 book entry → {exit : List ℕ} {r : Put} → Puts mark s at place out exit r → Left mark s r.next r.place exit entry book
  left_next h room {exit} {r} puts =
      let f = first h in
      let fields = fields_in (line_at mark s at) in
      let long = left.long in
      let size = left.size in
      let next = puts.wrote.next in
      let sum = ap length f.joins ∙ length-append fields f.later in
      let fits : place + length fields ≤ length out = omega arith in
      record {
        inside = puts.within;
        line = suc left.line;
        rest = f.later;
        made = ap (λ (t : List ℕ). lines_from mark (suc left.line) (lines_of t))
            (ap (λ (n : ℕ). drop n s) puts.ends ∙ sym (drop-drop (size_of (front_of (drop at s))) at s))
            ∙ f.made;
        long = ap length puts.wrote.whole ∙ written_length place fields out fits ∙ left.long;
        size = omega arith;
        same = ap (λ (n : ℕ). written n f.later exit) next ∙ ap (written (place + length fields) f.later) puts.wrote.whole
            ∙ written_join place fields f.later out (omega arith) ∙ ap (λ (t : List ℕ). written place t out) (sym f.joins) ∙ left.same;
      }

  -- at the end Z alone is
  last : length s ≤ at → left.rest ≡ 90 ∷ 0 ∷ 0 ∷ []
  unfolding lines_from lines_of
  last h =
      let e : Made (90 ∷ 0 ∷ 0 ∷ []) ≡ Made left.rest =
      sym (ap (λ (t : List ℕ). lines_from mark left.line (lines_of t)) (drop_of_length-le s h)) ∙ left.made in
      cc

  pub left_size : length s ≤ at → place + 3 ≡ length book
  left_size h = let size = left.size in omega (arith, ap length (last h))

  pub left_end : length s ≤ at → {exit : List ℕ} {r : ℕ} → Wrote place (90 ∷ 0 ∷ 0 ∷ []) out exit r → Wrote 0 book entry exit r
  left_end h {exit} {r} w =
      let next = w.next in
      record {
        whole = w.whole ∙ ap (λ (t : List ℕ). written place t out) (sym (last h)) ∙ left.same;
        next = omega (arith, left_size h);
      }
