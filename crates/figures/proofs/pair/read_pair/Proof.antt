-- `figures::pair::read_pair` meets its contract: what is read stands on the two sides of the first blank.
-- Assumes nothing.
use Rattle.std.proofs.Common.{◌≡◌, ℕ, ◌+◌, ◌-◌, ◌<◌, List, length, get_or, take, drop, sym, ap, ◌∙◌, arith, length-drop, rules}
use Prim.Native.Char.{code}
use Rattle.rules.specs.declared.Written.TheVariants.{Number}
use Rattle.rules.specs.Figures.{traded_form, written_of, figure_of}
use Rattle.rules.specs.Opening.{up_to_blank, after_blank}
use Rattle.figures.specs.declared.start.Start.TheVariants.{Ends}
use Rattle.figures.specs.declared.number.Digits.{Digits}
use Rattle.figures.specs.declared.number.Digits.TheVariants.{Other}
use Rattle.figures.specs.declared.number.Digits.TheVariants.{Number as Lots}
use Rattle.figures.specs.Starts.{start_of}
use Rattle.figures.specs.Pairs.{lots_of}
use Rattle.figures.proofs.Lists.{to_end}
use Rattle.figures.proofs.Blanks.{after_blank_lem}
use Rattle.figures.proofs.Fronts.{blank_inside, before_blank_lem, front_told}
use Rattle.figures.proofs.Figures.{at_blank, front_start, front_read}
use Rattle.figures.proofs.Pairs.{PairRead, read_pair, no_pair, pair_short, pair_start, price_least, price_in}
use Rattle.figures.proofs.Lots.{lots_told}
use Rattle.figures.proofs.pair.read_pair.Statement.{statement}
use Rattle.figures.proofs.pair.read_pair.Tie as tie

-- a figure stands at the start, and a blank follows it
module _ (c : tie.In-Ends) where
  abbrev value : List ℕ
  value = c.args.v.now

  abbrev price : ℕ
  price = c.in-Ends.price

  abbrev places : ℕ
  places = c.in-Ends.decimals

  abbrev blank : ℕ
  blank = c.in-Ends.blank

  told : (start_of value ≡ Ends price places blank) × (get_or value blank 0 ≡ code " ")
  told = front_told value price places blank (sym c.read_front.ensures ∙ c.in-Ends.is)

  inside : blank < length value
  inside = blank_inside value blank told.1

  front : (blank ≡ length (up_to_blank value)) × (written_of (up_to_blank value) ≡ Number price places)
  front = front_read value price places blank told.0 inside told.1

  -- and so of any pair
  same : (p d n : ℕ) → PairRead value p d n → (price ≡ p) × (places ≡ d) × (blank ≡ length (up_to_blank value))
  same p d n r = pair_start value p d n price places blank told.0 r

-- what the lots say
lots_read :
    (c : tie.After-read_lots) (d : Digits) → c.read_lots.result ≡ d →
    let k = c in
    lots_of (figure_of traded_form (after_blank (value c.before.before.before))) ≡ d
lots_read c d h =
    let k = c in
    let v = value c.before.before.before in
    let from = blank c.before.before.before + 1 in
    let read : c.read_lots.result ≡ lots_of (figure_of traded_form (take (length v - from) (drop from v))) = c.read_lots.ensures in
    sym (read ∙ ap (λ (l : List ℕ). lots_of (figure_of traded_form l)) (to_end v from ∙ after_blank_lem v (blank c.before.before.before) (front c.before.before.before).0 (inside c.before.before.before))) ∙ h

returns : tie.Need-returns-then-v-gt-LONGEST
returns c = let v = c.args.v.now in sym (no_pair v (λ p d n r. omega (arith, pair_short v p d n r, c.if-v-gt-LONGEST.true)))

read-front-requires : tie.Need-read_front-requires
read-front-requires c κs = search rules

enum-known-price : tie.Need-enum_known-price
enum-known-price c = search rules

enum_told : tie.Need-enum_told-1
enum_told c = search rules

returns-2 : tie.Need-returns-in_default
returns-2 c =
    let s = c in
    let v = s.args.v.now in
    sym (no_pair v (λ p d n r.
    let k = sym (before_blank_lem v (start_of v) p d (length (up_to_blank v)) (front_start v p d r.inside r.price) (at_blank v r.inside))
    ∙ sym s.read_front.ensures
    ∙ c.in_default.is in
    let z : ◌≡◌ {A = ℕ} 0 1 = cc in
    omega arith))

returns-3 : tie.Need-returns-then-price-eq0
returns-3 c =
    let k = c in
    sym (no_pair (value c.before) (λ p d n r. omega (arith, (same c.before p d n r).0, price_least p d r.range, c.if-price-eq0.true)))

add-read-lots : tie.Need-overflow_add-blank
add-read-lots c = omega (arith, inside c.before)

sub-read-lots : tie.Need-slice_bounds-read_lots-count
sub-read-lots c = omega (arith, inside c.before)

part-read-lots-start : tie.Need-slice_bounds-read_lots-start
part-read-lots-start c = omega (arith, inside c.before)

part-read-lots-end : tie.Need-slice_bounds-read_lots-end
part-read-lots-end c = search rules

read-lots-requires : tie.Need-read_lots-requires
read-lots-requires c κs =
    let k = c in
    let v = value c.before.before in
    let from = blank c.before.before + 1 in
    omega (arith, ap length (to_end v from) ∙ length-drop from v, k.if-v-gt-LONGEST.false)

enum-known-lots : tie.Need-enum_known-lots
enum-known-lots c = search rules

enum-told-2 : tie.Need-enum_told-in_default-read_lots
enum-told-2 c = search rules

returns-4 : tie.Need-returns-in_default-read_lots
returns-4 c =
    let f = c in
    let k = f in
    let none = lots_read c.before Other c.in_default-read_lots.is in
    sym (no_pair (value c.before.before.before.before) (λ p d n r.
    let e = sym (ap lots_of r.lots) ∙ none in
    let z : ◌≡◌ {A = ℕ} 0 1 = cc in
    omega arith))

returns-5 : tie.Need-returns
returns-5 c =
    let f = c in
    let e = f in
    let k = e in
    let v = value c.before.before.before.before in
    let written = (front c.before.before.before.before).1 in
    sym (read_pair v (price c.before.before.before.before) (places c.before.before.before.before) _
    (record {
      inside = omega (arith, (front c.before.before.before.before).0, inside c.before.before.before.before);
      price = written;
      range = price_in (up_to_blank v) (price c.before.before.before.before) (places c.before.before.before.before) written (omega (arith, e.if-price-eq0.false));
      lots = lots_told (figure_of traded_form (after_blank v)) _ (lots_read c.before (Lots _) c.in-Number.is);
    }))

pub read_pair_spec : {M : Type 1} → statement M
read_pair_spec =
    tie.close
    (tie.spec
    returns
    read-front-requires
    enum-known-price
    enum_told
    returns-2
    returns-3
    add-read-lots
    sub-read-lots
    part-read-lots-start
    part-read-lots-end
    read-lots-requires
    enum-known-lots
    enum-told-2
    returns-4
    returns-5)
