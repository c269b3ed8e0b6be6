-- `figures::start::read_start` meets its contract: the digits at the start, and what follows them.
-- Assumes nothing.
use Rattle.std.proofs.Common.{◌≡◌, ℕ, ◌+◌, ◌-◌, ◌≤◌, Bool, true, false, cond, List, length, take, drop, sym, ap, ◌∙◌, ap₂, arith, length-drop, length-take-le, rules}
use Rattle.figures.specs.declared.start.Start.{Start}
use Rattle.figures.specs.declared.start.Start.TheVariants.{Other}
use Rattle.figures.specs.Numbers.{run, may_be_whole}
use Rattle.figures.specs.Starts.{behind, start_of}
use Rattle.figures.proofs.Lists.{to_end}
use Rattle.figures.proofs.Runs.{run_most}
use Rattle.figures.proofs.Sizes.{at_most, run_below}
use Rattle.figures.proofs.start.read_start.Statement.{statement}
use Rattle.figures.proofs.start.read_start.Tie as tie

abbrev value : tie.After-read_run-run → List ℕ
value c = c.args.v.now

inside : (c : tie.After-read_run-run) → c.read_run-run.result.size ≤ length (value c)
inside c = omega (arith, c.read_run-run.ensures.0, run_most (value c))

-- what may be the part before the point says
whole_read :
    (c : tie.After-may_be_whole) (b : Bool) → c.may_be_whole.result ≡ b →
    let r = c in
    let size = r.read_run-run.result.size in
    start_of (value c.before) ≡ cond b (behind size r.read_run-run.result.number (drop size (value c.before))) Other
whole_read c b h =
    let r = c in
    let v = value c.before in
    let answer : ℕ → ℕ → Start = λ i n. cond (may_be_whole (take i v)) (behind i n (drop i v)) Other in
    let size = r.read_run-run.result.size in
    ap₂ answer (sym r.read_run-run.ensures.0) (sym r.read_run-run.ensures.1)
    ∙ ap (λ (x : Bool). cond x (behind size r.read_run-run.result.number (drop size v)) Other) (sym c.may_be_whole.ensures ∙ h)

read-run-requires : tie.Need-read_run-run-requires
read-run-requires c κs = let v = c.args.v.now in (omega arith, omega (arith, at_most (19 - length v) 0 (omega arith)))

slice-aggregate-may-be-whole : tie.Need-slice_bounds-may_be_whole-end
slice-aggregate-may-be-whole c = sym (length-take-le c.read_run-run.result.size (value c) (inside c))

may-be-whole-requires : tie.Need-may_be_whole-requires
may-be-whole-requires c κs = search rules

returns : tie.Need-returns-then-not-may_be_whole
returns c = sym (whole_read c.before false (c.if-not-may_be_whole.true))

sub-read-behind : tie.Need-slice_bounds-read_behind-count
sub-read-behind c = inside c.before.before

part-read-behind-start : tie.Need-slice_bounds-read_behind-start
part-read-behind-start c = inside c.before.before

part-read-behind-end : tie.Need-slice_bounds-read_behind-end
part-read-behind-end c = search rules

read-behind-requires : tie.Need-read_behind-requires
read-behind-requires c κs =
    let r = c in
    let v = value c.before.before.before in
    let size = r.read_run-run.result.size in
    let rest = ap length (to_end v size) ∙ length-drop size v in (
      omega (arith, run_below 0 0 v (omega arith), at_most size (0 + run v) (omega (arith, r.read_run-run.ensures.0)), r.read_run-run.ensures.1),
      omega (arith, rest, inside c.before.before.before),
    )

returns-2 : tie.Need-returns
returns-2 c =
    let k = c in
    let r = k in
    let size = r.read_run-run.result.size in
    c.read_behind.ensures
    ∙ ap (behind size r.read_run-run.result.number) (to_end (value c.before.before.before.before) size)
    ∙ sym (whole_read c.before.before.before true (k.if-not-may_be_whole.false))

pub read_start_spec : {M : Type 1} → statement M
read_start_spec =
    tie.close
    (tie.spec
    read-run-requires
    slice-aggregate-may-be-whole
    may-be-whole-requires
    returns
    sub-read-behind
    part-read-behind-start
    part-read-behind-end
    read-behind-requires
    returns-2)
