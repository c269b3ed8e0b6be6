-- `figures::again::pair_again` meets its contract: the price ends at the first blank, and the lots are the digits after it, up to the blank
-- before the stamp.
-- Assumes nothing.
use Rattle.std.proofs.Common.{◌≡◌, ℕ, ◌+◌, ◌-◌, ◌<◌, ◌≤◌, List, ◌∷◌, ◌++◌, length, get_or, take, drop, sym, ap, ◌∙◌, arith, length-drop, length-take-le, rules, eqb-true}
use Prim.Native.Char.{code}
use Rattle.rules.specs.Opening.{up_to_blank, after_blank}
use Rattle.figures.specs.declared.pair.Pair.TheVariants.{Both}
use Rattle.figures.specs.Numbers.{run, run_number}
use Rattle.figures.specs.Pairs.{Paired}
use Rattle.figures.proofs.Lists.{to_end}
use Rattle.figures.proofs.Sizes.{at_most}
use Rattle.figures.proofs.Blanks.{after_blank_lem}
use Rattle.figures.proofs.Fronts.{blank_inside, to_blank}
use Rattle.figures.proofs.Figures.{front_start}
use Rattle.figures.proofs.Pairs.{PairRead, pair_read, pair_short, pair_start}
use Rattle.figures.proofs.Lots.{lots_read, lots_inside}
use Rattle.figures.proofs.again.pair_again.Statement.{statement}
use Rattle.figures.proofs.again.pair_again.Tie as tie

told : (v : List ℕ) (q : Paired v) → PairRead v q.price q.places q.lots
told v q = pair_read v q.price q.places q.lots q.read

-- once the price was read
module _ (c : tie.After-price_again-front) where
  abbrev value : List ℕ
  value = c.args.v.now

  abbrev cut : ℕ
  cut = c.args.cut

  abbrev pair : List ℕ
  pair = take cut value

  abbrev blank : ℕ
  blank = c.price_again-front.result.blank

  read : Paired pair
  read = c.requires.0

  stamp : get_or value cut 0 ≡ code " "
  stamp = eqb-true _ _ c.requires.1

  same : (c.price_again-front.result.price ≡ read.price) × (blank ≡ length (up_to_blank pair))
  same =
      let e = c.price_again-front.ensures in
      let s = pair_start pair read.price read.places read.lots c.price_again-front.result.price e.0 blank e.1 (told pair read) in
      (s.0, s.2)

  inside : (blank < length pair) × (length pair ≤ 16) × (length pair < length value)
  inside =
      let t = told pair read in
      let end = blank_inside value cut stamp in (
        omega (arith, same.1, t.inside),
        pair_short pair read.price read.places read.lots t,
        omega (arith, end, length-take-le cut value (omega (arith, end))),
      )

  -- the lots stand before a blank
  lots : (run (drop (blank + 1) value) ≡ length (after_blank pair)) × (run_number 0 (drop (blank + 1) value) ≡ read.lots)
  lots =
      let rest = to_blank value cut (blank + 1) stamp (omega (arith, inside.0))
      ∙ ap (λ (l : List ℕ). l ++ (code " " ∷ drop (cut + 1) value)) (after_blank_lem pair blank same.1 inside.0) in
      let l = lots_inside (after_blank pair) (drop (cut + 1) value) read.lots (lots_read (after_blank pair) read.lots (told pair read).lots) in
      (ap run rest ∙ l.0, ap (run_number 0) rest ∙ l.1)

  after : length (after_blank pair) + blank + 1 ≡ length pair
  after = omega (arith, ap length (after_blank_lem pair blank same.1 inside.0), length-drop (blank + 1) pair, inside.0)

slice-aggregate-price-again : tie.Need-slice_bounds-price_again-end
slice-aggregate-price-again c =
    let s = c in
    let v = s.args.v.now in
    let end = blank_inside v s.args.cut (eqb-true _ _ s.requires.1) in
    sym (length-take-le s.args.cut v (omega (arith, end)))

price-again-requires : tie.Need-price_again-front-requires
price-again-requires c κs =
    let s = c in
    let v = take s.args.cut s.args.v.now in
    let q = s.requires.0 in
    let t = told v q in
    record {
      price = q.price;
      places = q.places;
      end = length (up_to_blank v);
      short = pair_short v q.price q.places q.lots t;
      inside = t.inside;
      read = front_start v q.price q.places t.inside t.price;
    }

add-read-inside : tie.Need-overflow_add-front
add-read-inside c = let i = inside c.before in omega (arith, i.0, i.1)

sub-read-inside : tie.Need-slice_bounds-read_inside-count
sub-read-inside c = let i = inside c.before in omega (arith, i.0, i.2)

part-read-inside-start : tie.Need-slice_bounds-read_inside-start
part-read-inside-start c = let i = inside c.before in omega (arith, i.0, i.2)

part-read-inside-end : tie.Need-slice_bounds-read_inside-end
part-read-inside-end c = search rules

read-inside-requires : tie.Need-read_inside-lots-requires
read-inside-requires c κs =
    let k = c in
    let v = value c.before.before in
    let from = blank c.before.before + 1 in
    let rest = ap length (to_end v from) ∙ length-drop from v in
    let digits = ap run (to_end v from) ∙ (lots c.before.before).0 in
    let i = inside c.before.before in (
      omega (arith, digits, rest, after c.before.before, i.2),
      omega (arith, digits, after c.before.before, i.1),
      omega (arith, at_most (19 - run (take (length v - from) (drop from v))) 0 (omega arith)),
    )

returns : tie.Need-returns
returns c =
    let k = c in
    let q = read c.before.before.before in
    let number : c.read_inside-lots.result.number ≡ q.lots =
    c.read_inside-lots.ensures.1 ∙ ap (run_number 0) (to_end (value c.before.before.before) (blank c.before.before.before + 1)) ∙ (lots c.before.before.before).1 in
    (q.places, q.read ∙ ap (λ (p : ℕ). Both p q.places q.lots) (sym (same c.before.before.before).0) ∙ ap (λ (n : ℕ). Both k.price_again-front.result.price q.places n) (sym number))

pub pair_again_spec : {M : Type 1} → statement M
pair_again_spec =
    tie.close
    (tie.spec
    slice-aggregate-price-again
    price-again-requires
    add-read-inside
    sub-read-inside
    part-read-inside-start
    part-read-inside-end
    read-inside-requires
    returns)
