-- `figures::pair::read_lots` meets its contract: lots that are read pass every test, and what passes them all is read.
-- Assumes nothing.
use Rattle.std.proofs.Common.{◌≡◌, ℕ, ◌-◌, List, length, sym, ap, ◌∙◌, arith, rules}
use Rattle.rules.specs.Figures.{traded_form, figure_of}
use Rattle.figures.specs.declared.number.Digits.TheVariants.{Other}
use Rattle.figures.specs.Pairs.{lots_of}
use Rattle.figures.proofs.Sizes.{at_most}
use Rattle.figures.proofs.Lots.{LotsRead, lots_read, read_lots, no_lots}
use Rattle.figures.proofs.pair.read_lots.Statement.{statement}
use Rattle.figures.proofs.pair.read_lots.Tie as tie

abbrev value : tie.After-read_run-run → List ℕ
value c = c.args.v.now

-- a test that lots would pass fails
none-there : (v : List ℕ) → ((n : ℕ) → LotsRead v n → ⊥) → lots_of (figure_of traded_form v) ≡ Other
none-there v h = no_lots (figure_of traded_form v) (λ n e. h n (lots_read v n e))

returns : tie.Need-returns-then-v-eq0
returns c = sym (none-there c.args.v.now (λ n l. omega (arith, c.if-v-eq0.true, l.some)))

shared-slice-read-if2 : tie.Need-bounds-v-0
shared-slice-read-if2 c = search rules

returns-2 : tie.Need-returns-then-v-eq48
returns-2 c = sym (none-there c.args.v.now (λ n l. l.first c.if-v-eq48.true))

read-run-requires : tie.Need-read_run-run-requires
read-run-requires c κs =
    let v = c.args.v.now in
    (omega arith, omega (arith, at_most (19 - length v) 0 (omega arith)))

returns-3 : tie.Need-returns-then-run-v
returns-3 c = let r = c in sym (none-there (value c.before.before) (λ n l. c.if-run-v.true (r.read_run-run.ensures.0 ∙ l.digits)))

returns-4 : tie.Need-returns-then-run-gt-MOST_LOTS
returns-4 c =
    let r = c in
    sym (none-there (value c.before.before.before.before) (λ n l. omega (arith, c.if-run-gt-MOST_LOTS.true, r.read_run-run.ensures.1, l.number, l.most)))

returns-5 : tie.Need-returns
returns-5 c =
    let k = c in
    let r = k in
    let f = r in
    sym (ap lots_of
    (read_lots (value c.before.before.before.before) r.read_run-run.result.number
    (record {
      some = omega (arith, f.if-v-eq0.false);
      first = f.if-v-eq48.false;
      digits = sym r.read_run-run.ensures.0 ∙ k.if-run-v.false;
      number = sym r.read_run-run.ensures.1;
      most = c.if-run-gt-MOST_LOTS.false;
    })))

pub read_lots_spec : {M : Type 1} → statement M
read_lots_spec =
    tie.close
    (tie.spec
    returns
    shared-slice-read-if2
    returns-2
    read-run-requires
    returns-3
    returns-4
    returns-5)
