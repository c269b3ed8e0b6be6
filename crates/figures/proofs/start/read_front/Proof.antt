-- `figures::start::read_front` meets its contract, as `read_start`; `two-there` says what two decimals and a blank come to.
-- Assumes nothing.
use Rattle.std.proofs.Common.{◌≡◌, ℕ, ◌+◌, ◌-◌, ◌^◌, ◌<◌, ◌≤◌, Bool, true, false, cond, List, length, take, drop, sym, ap, ◌∙◌, ap₂, arith, length-drop, length-take-le, get_or-drop, rules}
use Rattle.figures.specs.declared.start.Start.{Start}
use Rattle.figures.specs.declared.start.Start.TheVariants.{Other}
use Rattle.figures.specs.Numbers.{run, may_be_whole}
use Rattle.figures.specs.Starts.{two_alone, behind, start_of, before_blank}
use Rattle.figures.proofs.Lists.{to_end}
use Rattle.figures.proofs.Runs.{run_most}
use Rattle.figures.proofs.Sizes.{at_most, run_below}
use Rattle.figures.proofs.Fronts.{Alone, alone, alone_most, two_there, before_blank_lem}
use Rattle.figures.proofs.start.read_front.Statement.{statement}
use Rattle.figures.proofs.start.read_front.Tie as tie

abbrev value : tie.After-read_run-run → List ℕ
value c = c.args.v.now

inside : (c : tie.After-read_run-run) → c.read_run-run.result.size ≤ length (value c)
inside c = omega (arith, c.read_run-run.ensures.0, run_most (value c))

-- what may be the part before the point says
whole_read :
    (c : tie.After-may_be_whole) (b : Bool) → c.may_be_whole.result ≡ b →
    let r = c in
    let size = r.read_run-run.result.size in
    start_of (value c.before) ≡ cond b (behind size r.read_run-run.result.number (drop size (value c.before))) Other
whole_read c b h =
    let r = c in
    let v = value c.before in
    let answer : ℕ → ℕ → Start = λ i n. cond (may_be_whole (take i v)) (behind i n (drop i v)) Other in
    let size = r.read_run-run.result.size in
    ap₂ answer (sym r.read_run-run.ensures.0) (sym r.read_run-run.ensures.1)
    ∙ ap (λ (x : Bool). cond x (behind size r.read_run-run.result.number (drop size v)) Other) (sym c.may_be_whole.ensures ∙ h)

read-run-requires : tie.Need-read_run-run-requires
read-run-requires c κs = let v = c.args.v.now in (omega arith, omega (arith, at_most (19 - length v) 0 (omega arith)))

slice-aggregate-may-be-whole : tie.Need-slice_bounds-may_be_whole-end
slice-aggregate-may-be-whole c = sym (length-take-le c.read_run-run.result.size (value c) (inside c))

may-be-whole-requires : tie.Need-may_be_whole-requires
may-be-whole-requires c κs = search rules

returns : tie.Need-returns-then-not-may_be_whole
returns c = let v = value c.before.before in sym (ap (before_blank v) (whole_read c.before false (c.if-not-may_be_whole.true)))

-- a part before the point: what follows it tells
behind-told :
    (c : tie.Else-not-may_be_whole) →
    let r = c in
    let size = r.read_run-run.result.size in
    start_of (value c.before.before) ≡ behind size r.read_run-run.result.number (drop size (value c.before.before))
behind-told c = whole_read c.before true (c.if-not-may_be_whole.false)

-- so that the two digits still fit
small : (c : tie.Else-not-may_be_whole) → c.read_run-run.result.number < 10 ^ 16
small c =
    let r = c in
    let v = value c.before.before in
    omega (arith, run_below 0 0 v (omega arith), at_most 16 (0 + run v) (omega (arith, run_most v, r.requires)), r.read_run-run.ensures.1)

add-if2 : tie.Need-overflow_add-size
add-if2 c = let r = c in omega (arith, inside c.before.before, r.requires)

sub-two-alone : tie.Need-slice_bounds-two_alone-count
sub-two-alone c = inside c.before.before.before

part-two-alone-start : tie.Need-slice_bounds-two_alone-start
part-two-alone-start c = inside c.before.before.before

part-two-alone-end : tie.Need-slice_bounds-two_alone-end
part-two-alone-end c = search rules

two-alone-requires : tie.Need-two_alone-requires
two-alone-requires c κs = search rules

enum-known-two : tie.Need-enum_known-two
enum-known-two c = search rules

-- two digits and a blank
there : (c : tie.After-struct_known-1) → let t = c in let r = t in
    Alone t.in-Number.two (drop r.read_run-run.result.size (value c.before.before.before.before.before.before.before))
there c =
    let t = c in
    let r = t in
    alone _ _ (ap two_alone (sym (to_end (value c.before.before.before.before.before.before.before) r.read_run-run.result.size)) ∙ sym t.two_alone.ensures ∙ t.in-Number.is)

mul-t15 : tie.Need-overflow_mul-result
mul-t15 c = omega (arith, small c.before.before.before.before.before)

add-t16 : tie.Need-overflow_add-result
add-t16 c =
    let few = alone_most _ _ (there c) in
    omega (arith, small c.before.before.before.before.before, few)

add-t17 : tie.Need-overflow_add-result-in-Number
add-t17 c = search rules

returns-2 : tie.Need-returns-in-Number
returns-2 c =
    let e = c in
    let k = e in
    let r = k in
    let v = value c.before.before.before.before.before.before.before in
    let size = r.read_run-run.result.size in
    let n = r.read_run-run.result.number in
    let a = there c in
    sym (before_blank_lem v (start_of v) _ 2 (size + 3) (behind-told c.before.before.before.before.before ∙ two_there size n _ (drop size v) a e.if-size-le-MOST_DIGITS.true)
    (sym (get_or-drop size v 3 0) ∙ a.blank))

enum_told : tie.Need-enum_told-1
enum_told c = search rules

sub-read-behind : tie.Need-slice_bounds-read_behind-count
sub-read-behind c = inside c.before.before.before

part-read-behind-start : tie.Need-slice_bounds-read_behind-start
part-read-behind-start c = inside c.before.before.before

part-read-behind-end : tie.Need-slice_bounds-read_behind-end
part-read-behind-end c = search rules

read-behind-requires : tie.Need-read_behind-requires
read-behind-requires c κs =
    let r = c in
    let v = value c.before.before.before.before in
    let size = r.read_run-run.result.size in
    let rest = ap length (to_end v size) ∙ length-drop size v in (
      omega (arith, run_below 0 0 v (omega arith), at_most size (0 + run v) (omega (arith, r.read_run-run.ensures.0)), r.read_run-run.ensures.1),
      omega (arith, rest, inside c.before.before.before.before),
    )

before-blank-requires : tie.Need-before_blank-requires
before-blank-requires c κs = search rules

returns-3 : tie.Need-returns
returns-3 c =
    let b = c in
    let k = b in
    let r = k in
    let size = r.read_run-run.result.size in
    c.before_blank.ensures
    ∙ ap (before_blank (value c.before.before.before.before.before.before)) (b.read_behind.ensures ∙ ap (behind size r.read_run-run.result.number) (to_end (value c.before.before.before.before.before.before) size) ∙ sym (behind-told c.before.before.before.before))

pub read_front_spec : {M : Type 1} → statement M
read_front_spec =
    tie.close
    (tie.spec
    read-run-requires
    slice-aggregate-may-be-whole
    may-be-whole-requires
    returns
    add-if2
    sub-two-alone
    part-two-alone-start
    part-two-alone-end
    two-alone-requires
    enum-known-two
    mul-t15
    add-t16
    add-t17
    returns-2
    enum_told
    sub-read-behind
    part-read-behind-start
    part-read-behind-end
    read-behind-requires
    before-blank-requires
    returns-3)
