-- `figures::start::read_behind` meets its contract: the cases of `behind`, by the length of the list and its first byte.
-- Assumes nothing.
use Rattle.std.proofs.Common.{◌≡◌, ℕ, ◌-◌, ◌<◌, ◌≤◌, cond, List, [], ◌∷◌, length, get_or, take, drop, sym, refl, ap, ◌∙◌, ap₂, arith, length-drop, rules, eq-eqb, ne_eqb, le-leb}
use borrow.Author.Tests.{lt-leb}
use Rattle.rules.specs.Text.{is}
use Rattle.figures.specs.declared.start.Start.TheVariants.{Ends}
use Rattle.figures.specs.Numbers.{run, run_number}
use Rattle.figures.specs.Starts.{pointed, behind}
use Rattle.figures.proofs.Lists.{to_end}
use Rattle.figures.proofs.Runs.{run_most}
use Rattle.figures.proofs.Sizes.{at_most}
use Rattle.figures.proofs.start.read_behind.Statement.{statement}
use Rattle.figures.proofs.start.read_behind.Tie as tie

nothing : (i n : ℕ) (v : List ℕ) → length v ≡ 0 → behind i n v ≡ Ends n 0 i
nothing i n [] e = refl
nothing i n (x ∷ v) e = absurd (omega arith)

something :
    (i n : ℕ) (v : List ℕ) → 0 < length v →
    behind i n v ≡ cond (is "." (get_or v 0 0)) (pointed i (run (drop 1 v)) (run_number n (drop 1 v))) (Ends n 0 i)
something i n [] h = absurd (omega arith)
something i n (x ∷ v) h = refl

-- what the digits behind the point say
digits-read :
    (c : tie.After-read_run-run) →
    let a = c.args in
    behind a.size a.n a.v.now ≡ pointed a.size c.read_run-run.result.size c.read_run-run.result.number
digits-read c =
    let a = c.args in
    let v = a.v.now in
    something a.size a.n v (omega arith)
    ∙ simp (eq-eqb _ _ c.if-v-ne46.false)
    (ap₂ (pointed a.size)
    (sym (c.read_run-run.ensures.0 ∙ ap run (to_end v 1)))
    (sym (c.read_run-run.ensures.1 ∙ ap (run_number a.n) (to_end v 1))))

few : (c : tie.After-read_run-run) → c.read_run-run.result.size ≤ 16
few c =
    let v = c.args.v.now in
    let e = c.read_run-run.ensures.0 ∙ ap run (to_end v 1) in
    omega (arith, e, run_most (drop 1 v), length-drop 1 v)

returns : tie.Need-returns-then-v-eq0
returns c = let a = c.args in sym (nothing a.size a.n a.v.now c.if-v-eq0.true)

shared-slice-read-if2 : tie.Need-bounds-v-0
shared-slice-read-if2 c = search rules

returns-2 : tie.Need-returns-then-v-ne46
returns-2 c =
    let a = c.args in
    sym (something a.size a.n a.v.now (omega arith) ∙ simp (ne_eqb _ _ c.if-v-ne46.true))

sub-read-run : tie.Need-slice_bounds-read_run-count
sub-read-run c = search rules

part-read-run-start : tie.Need-slice_bounds-read_run-start
part-read-run-start c = search rules

part-read-run-end : tie.Need-slice_bounds-read_run-end
part-read-run-end c = search rules

read-run-requires : tie.Need-read_run-run-requires
read-run-requires c κs =
    let a = c.args in
    let v = a.v.now in
    let size = ap length (to_end v 1) ∙ length-drop 1 v in
    (omega (arith, size), omega (arith, at_most (19 - length (take (length v - 1) (drop 1 v))) a.size (omega (arith, size))))

returns-3 : tie.Need-returns-then-run-eq0
returns-3 c = sym (digits-read c.before.before ∙ simp (lt-leb 1 c.read_run-run.result.size (omega arith)))

add-if4 : tie.Need-overflow_add-size
add-if4 c = omega (arith, few c.before.before.before)

returns-4 : tie.Need-returns-then-size-run-gt-MOST_DIGITS
returns-4 c =
    let r = c in
    sym (digits-read c.before.before.before.before ∙ simp (le-leb 1 r.read_run-run.result.size (omega arith), lt-leb _ 7 c.if-size-run-gt-MOST_DIGITS.true))

add-t5 : tie.Need-overflow_add-result
add-t5 c = search rules

add-t12 : tie.Need-overflow_add-result-2
add-t12 c = search rules

returns-5 : tie.Need-returns
returns-5 c =
    let r = c in
    sym (digits-read c.before.before.before.before.before ∙ simp (le-leb 1 r.read_run-run.result.size (omega arith), le-leb _ 7 c.if-size-run-gt-MOST_DIGITS.false))

pub read_behind_spec : {M : Type 1} → statement M
read_behind_spec =
    tie.close
    (tie.spec
    returns
    shared-slice-read-if2
    returns-2
    sub-read-run
    part-read-run-start
    part-read-run-end
    read-run-requires
    returns-3
    add-if4
    returns-4
    add-t5
    add-t12
    returns-5)
