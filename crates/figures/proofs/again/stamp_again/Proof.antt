-- `figures::again::stamp_again` meets its contract: `stamp-twos` says what a stamp that was read has at its places.
-- Assumes nothing.
use Rattle.std.proofs.Common.{sym, ap, ◌∙◌, arith}
use Rattle.figures.specs.declared.number.Digits.TheVariants.{Number}
use Rattle.figures.proofs.Twos.{two_most}
use Rattle.figures.proofs.Places.{Twos, stamp_twos, same_stamp}
use Rattle.figures.proofs.again.stamp_again.Statement.{statement}
use Rattle.figures.proofs.again.stamp_again.Tie as tie

-- before anything is read
told : (c : tie.After-shared_slice_known-1) → Twos c.args.v.now c.requires.1.0
told c = stamp_twos c.args.v.now _ c.requires.0 c.requires.1.1

two-of-requires : tie.Need-two_of-requires
two-of-requires c κs = record { inside = omega (arith, c.requires.0); digits = (told c).year_digits }

two-of-requires-2 : tie.Need-two_of-requires-2
two-of-requires-2 c κs = let k = c in record { inside = omega (arith, k.requires.0); digits = (told c.before).month_digits }

two-of-requires-3 : tie.Need-two_of-requires-3
two-of-requires-3 c κs = let k = c in record { inside = omega (arith, k.requires.0); digits = (told c.before.before).day_digits }

two-of-requires-4 : tie.Need-two_of-requires-4
two-of-requires-4 c κs = let k = c in record { inside = omega (arith, k.requires.0); digits = (told c.before.before.before).hour_digits }

two-of-requires-5 : tie.Need-two_of-requires-5
two-of-requires-5 c κs = let k = c in record { inside = omega (arith, k.requires.0); digits = (told c.before.before.before.before).minute_digits }

stamp-from-requires : tie.Need-stamp_from-requires
stamp-from-requires c κs =
    let k = c in
    let v = k.args.v.now in
    let t = told c.before.before.before.before.before in (
      omega (arith, two_most v 3 t.year_digits, c.two_of.ensures),
      omega (arith, two_most v 5 t.month_digits, c.two_of-2.ensures),
      omega (arith, two_most v 7 t.day_digits, c.two_of-3.ensures),
      omega (arith, t.hour, c.two_of-4.ensures),
      omega (arith, t.minute, c.two_of-5.ensures),
    )

returns : tie.Need-returns
returns c =
    let e = c in
    let k = e in
    let y = e.two_of.ensures in
    let m = e.two_of-2.ensures in
    let d = e.two_of-3.ensures in
    let made = same_stamp _ _ _ _ _ _ _ _ _ _ _ c.stamp_from.ensures y m d e.two_of-4.ensures e.two_of-5.ensures in
    k.requires.1.1 ∙ ap Number (sym (made ∙ (told c.before.before.before.before.before.before).number))

pub stamp_again_spec : {M : Type 1} → statement M
stamp_again_spec =
    tie.close
    (tie.spec
    two-of-requires
    two-of-requires-2
    two-of-requires-3
    two-of-requires-4
    two-of-requires-5
    stamp-from-requires
    returns)
