-- `figures::start::before_blank` meets its contract: outside of the bytes stands no blank.
-- Assumes nothing.
mod Named
use Rattle.std.proofs.Common.{sym, arith, rules}
use Rattle.figures.proofs.Fronts.{blank_inside, before_blank_lem, no_blank}
use Rattle.figures.proofs.start.before_blank.Statement.{statement}
use Rattle.figures.proofs.start.before_blank.Proof.Named.{returns-3, returns-4}
use Rattle.figures.proofs.start.before_blank.Tie as tie

enum-known-start : tie.Need-enum_known-start
enum-known-start c = search rules

enum_told : tie.Need-enum_told-1
enum_told c = search rules

returns : tie.Need-returns-in_default
returns c = search rules

returns-2 : tie.Need-returns-then-v-end
returns-2 c =
    let k = c in
    sym (no_blank _ _ _ _ _ k.in-Ends.is (λ b. omega (arith, blank_inside k.args.v.now k.in-Ends.end b, c.if-v-end.true)))

shared-slice-read-if2 : tie.Need-bounds-v-end
shared-slice-read-if2 c = search rules

pub before_blank_spec : {M : Type 1} → statement M
before_blank_spec =
    tie.close
    (tie.spec
    enum-known-start
    enum_told
    returns
    returns-2
    shared-slice-read-if2
    returns-3
    returns-4)
