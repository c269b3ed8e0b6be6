-- `figures::again::price_again` meets its contract: the digits of a figure that was read end at its point, or where it ends.
-- Assumes nothing.
use Rattle.std.proofs.Common.{◌≡◌, ℕ, ◌+◌, ◌-◌, ◌<◌, ◌≤◌, List, length, get_or, take, drop, sym, ap, ◌∙◌, ap₂, arith, length-drop, rules}
use Prim.Native.Char.{code}
use Rattle.figures.specs.declared.start.Start.TheVariants.{Ends}
use Rattle.figures.specs.Numbers.{run, run_number}
use Rattle.figures.proofs.Lists.{to_end}
use Rattle.figures.proofs.Runs.{run_most}
use Rattle.figures.proofs.Sizes.{at_most, run_below}
use Rattle.figures.proofs.Heads.{digits_inside, no_point, point}
use Rattle.figures.proofs.again.price_again.Statement.{statement}
use Rattle.figures.proofs.again.price_again.Tie as tie

-- once the digits at the start were read
abbrev value : tie.After-read_inside-whole → List ℕ
value c = c.args.v.now

size : (c : tie.After-read_inside-whole) → c.read_inside-whole.result.size ≡ run (value c)
size c = c.read_inside-whole.ensures.0

number : (c : tie.After-read_inside-whole) → c.read_inside-whole.result.number ≡ run_number 0 (value c)
number c = c.read_inside-whole.ensures.1

inside : (c : tie.After-read_inside-whole) → (c.read_inside-whole.result.size < length (value c)) × (length (value c) ≤ 16)
inside c =
    let f = c.requires in
    (omega (arith, size c, digits_inside (value c) f.price f.places f.end f.read f.inside), f.short)

-- behind a point they end inside too
ends-inside :
    (c : tie.After-read_inside-whole) → get_or (value c) c.read_inside-whole.result.size 0 ≡ code "." →
    let i = c.read_inside-whole.result.size in
    i + 1 + run (drop (i + 1) (value c)) < length (value c)
ends-inside c dot =
    let f = c.requires in
    let i = c.read_inside-whole.result.size in
    let told = sym f.read ∙ point (value c) f.price f.places f.end i _ (size c) (number c) f.read (inside c).0 dot in
    let end : f.end ≡ i + 1 + run (drop (i + 1) (value c)) = cc in
    omega (arith, end, f.inside)

-- and those behind the point
abbrev at : tie.After-read_inside-rest → tie.After-read_inside-whole
at c = c.before.before.before.before

places : (c : tie.After-read_inside-rest) → c.read_inside-rest.result.size ≤ length (value (at c))
places c =
    let v = value (at c) in
    let from = (at c).read_inside-whole.result.size + 1 in
    omega (arith, c.read_inside-rest.ensures.0 ∙ ap run (to_end v from), run_most (drop from v), length-drop from v)

read-inside-requires : tie.Need-read_inside-whole-requires
read-inside-requires c κs =
    let v = c.args.v.now in
    let f = c.requires in
    let end = digits_inside v f.price f.places f.end f.read f.inside in
    (end, omega (arith, end, f.short), omega (arith, at_most (19 - run v) 0 (omega arith)))

shared-slice-read-if1 : tie.Need-bounds-v-point
shared-slice-read-if1 c = (inside c.before).0

returns : tie.Need-returns-then-v-point-ne46
returns c =
    let r = c in
    let f = r.requires in
    (0, no_point (value c.before.before) f.price f.places f.end _ _ (size c.before.before) (number c.before.before) f.read (inside c.before.before).0 c.if-v-point-ne46.true)

add-read-inside : tie.Need-overflow_add-point
add-read-inside c = let i = inside c.before.before in omega (arith, i.0, i.1)

sub-read-inside : tie.Need-slice_bounds-read_inside-count
sub-read-inside c = omega (arith, (inside c.before.before).0)

part-read-inside-start : tie.Need-slice_bounds-read_inside-start
part-read-inside-start c = omega (arith, (inside c.before.before).0)

part-read-inside-end : tie.Need-slice_bounds-read_inside-end
part-read-inside-end c = search rules

read-inside-requires-2 : tie.Need-read_inside-rest-requires
read-inside-requires-2 c κs =
    let r = c in
    let v = value c.before.before.before in
    let from = r.read_inside-whole.result.size + 1 in
    let rest = ap length (to_end v from) ∙ length-drop from v in
    let digits = ap run (to_end v from) in
    let end = ends-inside c.before.before.before c.if-v-point-ne46.false in
    let room = at_most (19 - run (take (length v - from) (drop from v))) (0 + run v) (omega (arith, digits, end, size c.before.before.before, (inside c.before.before.before).1)) in (
      omega (arith, digits, rest, end),
      omega (arith, digits, end, (inside c.before.before.before).1),
      omega (arith, room, run_below 0 0 v (omega arith), number c.before.before.before),
    )

add-t8 : tie.Need-overflow_add-result
add-t8 c = let i = inside c.before.before.before.before in omega (arith, i.0, i.1)

add-t10 : tie.Need-overflow_add-result-2
add-t10 c = let i = inside (at c.before) in omega (arith, i.0, i.1, places c.before)

returns-2 : tie.Need-returns
returns-2 c =
    let k = c in
    let r = at c.before in
    let v = value r in
    let f = r.requires in
    let i = r.read_inside-whole.result.size in
    let n = r.read_inside-whole.result.number in
    let rest = to_end v (i + 1) in
    let told = point v f.price f.places f.end i n (size r) (number r) f.read (inside r).0 k.if-v-point-ne46.false in (
      run (drop (i + 1) v),
      told
          ∙ ap₂ (λ (x y : ℕ). Ends x (run (drop (i + 1) v)) (i + 1 + y))
          (sym (k.read_inside-rest.ensures.1 ∙ ap (run_number n) rest))
          (sym (k.read_inside-rest.ensures.0 ∙ ap run rest)),
    )

pub price_again_spec : {M : Type 1} → statement M
price_again_spec =
    tie.close
    (tie.spec
    read-inside-requires
    shared-slice-read-if1
    returns
    add-read-inside
    sub-read-inside
    part-read-inside-start
    part-read-inside-end
    read-inside-requires-2
    add-t8
    add-t10
    returns-2)
