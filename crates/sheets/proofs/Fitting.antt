-- What the line that begins at a place comes to, by its form: a refusal, or so many bytes.
-- Assumes nothing.
use Prim.Native.Nat.{ℕ, ◌+◌, ◌-◌, ◌≤◌}
use mathlib.Core.Path.{◌≡◌, ap, ◌∙◌}
use mathlib.Core.Bool.{Bool, true, false, cond}
use mathlib.Core.List.{List}
use native.Mathlib.Omega.{arith}
use lib.ListN.{length, drop}
use Rattle.rules.specs.Text.{is}
use Rattle.rules.specs.Book.{Step, Next}
use Rattle.sheets.specs.Line.{one_of, four_of}
use Rattle.sheets.specs.Places.{between, front_of, of_front, size_of, HasOne, HasFour}
use Rattle.sheets.specs.Sizes.{Judges, fields_in, one_field, four_fields, Fits, Sizes}
use Rattle.std.specs.Prelude.{Ok}
use Rattle.sheets.proofs.Forms.{between_size}
use Rattle.sheets.proofs.Makes.{one_good, one_length, four_good, four_length}

-- what the line that begins at a place comes to
module _ (mark : ℕ) (s : List ℕ) (at : ℕ) where
  abbrev line : Step (List ℕ)
  line = of_front mark (front_of (drop at s))

  module _ (tag end : ℕ) (has : HasOne s at tag end) where
    abbrev value : List ℕ
    value = between (at + 2) end s

    line_one : line ≡ one_of mark tag value
    line_one = ap (of_front mark) has.front

    fits_one : (f : List ℕ) → one_of mark tag value ≡ Next f → Fits mark s at (end + 1) (end + 1 - at)
    fits_one f e =
        let begins = has.begins in
        let ends = has.ends in
        record {
          fields = one_field mark tag value;
          good = line_one ∙ one_good mark tag value f e;
          makes = omega (arith, one_length mark tag value, between_size (at + 2) end s (omega arith));
          ends = omega (arith, ap size_of has.front);
          forward = omega arith;
          within = omega arith;
          small = omega arith;
        }

    pub one_sized : Judges (one_of mark tag value) (Ok tt) → Sizes mark s at (Ok (record { next = end + 1; size = end + 1 - at }))
    one_sized e = fits_one (fields_in (one_of mark tag value)) e

  module _ (tag a b c end : ℕ) (has : HasFour s at tag a b c end) where
    abbrev first : List ℕ
    first = between (at + 2) a s

    abbrev second : List ℕ
    second = between (a + 1) b s

    abbrev third : List ℕ
    third = between (b + 1) c s

    abbrev fourth : List ℕ
    fourth = between (c + 1) end s

    line_four : line ≡ four_of mark tag first second third fourth
    line_four = ap (of_front mark) has.front

    parts_size : length first + length second + length third + length fourth + 5 ≡ end - at
    parts_size =
        let ends = has.ends in
        omega (
          arith,
          between_size (at + 2) a s (omega arith),
          between_size (a + 1) b s (omega arith),
          between_size (b + 1) c s (omega arith),
          between_size (c + 1) end s (omega arith),
        )

    size_four : (x : Bool) → cond x 12 6 + (length first + length second + length third + length fourth) ≡ end - at + cond x 7 1
    size_four true = omega (arith, parts_size)
    size_four false = omega (arith, parts_size)

    few : (x : Bool) → cond x 7 1 ≤ 7
    few true = omega arith
    few false = omega arith

    fits_four : (f : List ℕ) → four_of mark tag first second third fourth ≡ Next f → Fits mark s at (end + 1) (end - at + cond (is "I" tag) 7 1)
    fits_four f e =
        let begins = has.begins in
        let ends = has.ends in
        record {
          fields = four_fields mark tag first second third fourth;
          good = line_four ∙ four_good mark tag first second third fourth f e;
          makes = four_length mark tag first second third fourth ∙ size_four (is "I" tag);
          ends = omega (arith, ap size_of has.front);
          forward = omega arith;
          within = omega arith;
          small = omega (arith, few (is "I" tag), parts_size);
        }

    pub four_sized : (size : ℕ) → Judges (four_of mark tag first second third fourth) (Ok tt) → size ≡ end - at + cond (is "I" tag) 7 1 →
        Sizes mark s at (Ok (record { next = end + 1; size = size }))
    four_sized size e z = rw z (fits_four (fields_in (four_of mark tag first second third fourth)) e)
