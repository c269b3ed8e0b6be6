-- `figures::read_held` meets its contract: lots that are held pass both tests, and what passes them is written as a number without decimals.
-- Assumes nothing.
use Rattle.std.proofs.Common.{◌≡◌, ℕ, ◌-◌, true, List, length, sym, ap, ◌∙◌, arith, rules}
use mathlib.Core.Bool.{false≢true}
use Rattle.rules.specs.declared.Written.TheVariants.{Number}
use Rattle.rules.specs.Figures.{held_form, written_of, asked, figure_of}
use Rattle.laws.specs.Figures.{figure_read}
use Rattle.figures.specs.Numbers.{run, may_be_whole, no_figure, refused_as_of}
use Rattle.figures.proofs.Sizes.{at_most}
use Rattle.figures.proofs.Wholes.{written_whole, whole_tested, tested_most, tested_whole, not_allowed}
use Rattle.figures.proofs.read_held.Statement.{statement}
use Rattle.figures.proofs.read_held.Tie as tie

-- a test that lots would pass fails
none_held : (v : List ℕ) → (may_be_whole v ≡ true → run v ≡ length v → ⊥) → refused_as_of (no_figure v) ≡ figure_of held_form v
none_held v h =
    sym (not_allowed held_form v (λ n e.
    let t = whole_tested v n (written_whole v n (figure_read held_form v n e).written) in
    h t.0 t.1))

held : (v : List ℕ) (n : ℕ) → written_of v ≡ Number n 0 → asked held_form (Number n 0) ≡ figure_of held_form v
unfolding figure_of
held v n e = ap (asked held_form) (sym e)

tested : (c : tie.Else-not-may_be_whole) → may_be_whole c.args.v.now ≡ true
tested c = sym c.may_be_whole.ensures ∙ c.if-not-may_be_whole.false

may-be-whole-requires : tie.Need-may_be_whole-requires
may-be-whole-requires c κs = search rules

no-value-requires : tie.Need-no_value-requires
no-value-requires c κs = search rules

returns : tie.Need-returns-then-not-may_be_whole
returns c =
    let w = c in
    let v = w.args.v.now in
    c.no_value.ensures
    ∙ none_held v (λ may e. false≢true (sym (sym w.may_be_whole.ensures ∙ c.if-not-may_be_whole.true) ∙ may))

read-run-requires : tie.Need-read_run-run-requires
read-run-requires c κs =
    let v = c.args.v.now in
    let most = tested_most v (tested c) in
    (omega (arith, most), omega (arith, at_most (19 - length v) 0 (omega arith)))

no-value-requires-2 : tie.Need-no_value-requires-then-run-v
no-value-requires-2 c κs = search rules

returns-2 : tie.Need-returns-then-run-v
returns-2 c =
    let r = c in
    let v = r.args.v.now in
    c.no_value-then-run-v.ensures ∙ none_held v (λ may e. c.if-run-v.true (r.read_run-run.ensures.0 ∙ e))

allowed-requires : tie.Need-allowed-requires
allowed-requires c κs = search rules

returns-3 : tie.Need-returns
returns-3 c =
    let r = c in
    let k = r in
    let v = k.args.v.now in
    let number = r.read_run-run.ensures.1 in
    let written = tested_whole v (tested c.before.before.before.before) (sym r.read_run-run.ensures.0 ∙ c.if-run-v.false) in
    c.allowed.ensures ∙ held v r.read_run-run.result.number (written ∙ ap (λ (n : ℕ). Number n 0) (sym number))

pub read_held_spec : {M : Type 1} → statement M
read_held_spec =
    tie.close
    (tie.spec
    may-be-whole-requires
    no-value-requires
    returns
    read-run-requires
    no-value-requires-2
    returns-2
    allowed-requires
    returns-3)
