-- `codes::given` meets its contract. The loop's invariant: what is found is whether the key is among those passed.
-- Assumes nothing.
use borrow.Author.Rules.{rules}
use Prim.Native.Nat.{◌≤◌, ◌-◌}
use mathlib.Core.Path.{◌≡◌, refl}
use native.Mathlib.Omega.{arith}
use lib.ListN.{take}
use Rattle.codes.specs.Codes.{given_in}
use Rattle.codes.proofs.Laws.{given_step}
use Rattle.codes.proofs.given.Statement.{statement}
use Rattle.codes.proofs.given.Tie as tie

abbrev invariant-loop-passed : tie.invariant-loop-passed
invariant-loop-passed keys count key found₀ passed₀ found passed = (passed ≤ count) × (found ≡ given_in (take passed keys) key)

abbrev decreases-loop-passed : tie.decreases-loop-passed
decreases-loop-passed keys count key found₀ passed₀ found passed = count - passed

loop-holds : tie.Need-loop-passed-init invariant-loop-passed decreases-loop-passed
loop-holds c = (omega arith, refl)

mul-found : tie.Need-offset_bounds-keys-passed invariant-loop-passed decreases-loop-passed
mul-found c = search rules

shared-slice-read-found : tie.Need-bounds-keys-passed invariant-loop-passed decreases-loop-passed
shared-slice-read-found c = search rules

add-passed : tie.Need-overflow_add-passed invariant-loop-passed decreases-loop-passed
add-passed c = search rules

loop-less : tie.Need-loop-passed-smaller invariant-loop-passed decreases-loop-passed
loop-less c = search rules

loop-again : tie.Need-loop-passed-preserved invariant-loop-passed decreases-loop-passed
loop-again c =
    let p = c.before.before in
    (search rules, rw p.loop-passed.invariant.1 (given_step p.before.args.keys.now p.loop-passed.passed p.before.args.key (omega arith)))

returns : tie.Need-returns invariant-loop-passed decreases-loop-passed
returns c =
    let end : c.before.loop-passed.passed ≡ c.before.before.args.count = omega arith in
    rw (c.before.loop-passed.invariant.1, end)

pub given_spec : {M : Type 1} → statement M
given_spec =
    tie.close
    (tie.spec
    invariant-loop-passed
    decreases-loop-passed
    loop-holds
    mul-found
    shared-slice-read-found
    add-passed
    loop-less
    loop-again
    returns)
