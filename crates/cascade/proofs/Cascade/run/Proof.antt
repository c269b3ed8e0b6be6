-- The three tiers, one after the other: after k turns the state is that after tiers 1 to k, which the next tier takes.
-- Assumes nothing.
use Prim.Native.Nat.{◌+◌, ◌-◌, ◌≤◌}
use mathlib.Core.Path.{◌≡◌, refl, sym, ap, ◌∙◌}
use native.Mathlib.Omega.{arith}
use borrow.Author.Rules.{rules}
use Rattle.cascade.specs.Columns.{Columns, columns}
use Rattle.cascade.specs.State.{after_tier}
use Rattle.cascade.specs.After.{steady_wider, none_moved}
use Rattle.cascade.proofs.Tiers.{tiers, tiers_next, steady}
use Rattle.cascade.proofs.Cascade.run.Statement.{statement}
use Rattle.cascade.proofs.Cascade.run.Tie as tie

abbrev invariant-loop-k : tie.invariant-loop-k
invariant-loop-k keys standings stakes count owed state₀ k₀ state k = (k ≤ 3) × (state ≡ tiers k (columns keys standings stakes count) state₀)

abbrev decreases-loop-k : tie.decreases-loop-k
decreases-loop-k keys standings stakes count owed state₀ k₀ state k = 3 - k

abbrev start : tie.At-loop-k invariant-loop-k decreases-loop-k → tie.Start invariant-loop-k decreases-loop-k
start b = b.before.before.before.before.before

abbrev cols : tie.At-loop-k invariant-loop-k decreases-loop-k → Columns
cols b = let a = (start b).args in columns a.keys.now a.standings.now a.stakes.now a.count

returns : tie.Need-returns-then-owed-eq0 invariant-loop-k decreases-loop-k
returns c = let s = c in none_moved _ s.args.self s.requires.0.wide (omega (arith, s.requires.1, c.if-owed-eq0.true))

loop-holds : tie.Need-loop-k-init invariant-loop-k decreases-loop-k
loop-holds c = (search rules, refl)

add-k : tie.Need-overflow_add-k invariant-loop-k decreases-loop-k
add-k c = search rules

tier-requires : tie.Need-tier-state-requires invariant-loop-k decreases-loop-k
tier-requires c κs =
    let b = c in
    let s = start c.before in
    (rw b.loop-k.invariant.1 (steady_wider (omega arith) (steady b.loop-k.k (cols c.before) s.args.self s.requires.0)), (omega arith, omega arith))

loop-less : tie.Need-loop-k-smaller invariant-loop-k decreases-loop-k
loop-less c = search rules

loop-again : tie.Need-loop-k-preserved invariant-loop-k decreases-loop-k
loop-again c =
    let b = c in
    let worked : c.tier-state.result ≡ after_tier (b.loop-k.k + 1) (cols c.before.before) b.loop-k.state = c.tier-state.ensures in
    (search rules, worked ∙ ap (after_tier (b.loop-k.k + 1) (cols c.before.before)) b.loop-k.invariant.1 ∙ sym (tiers_next b.loop-k.k (cols c.before.before) (start c.before.before).args.self))

returns-2 : tie.Need-returns invariant-loop-k decreases-loop-k
returns-2 c = let b = c in let e : b.loop-k.k ≡ 3 = omega arith in b.loop-k.invariant.1 ∙ ap (λ k. tiers k (cols c.before) (start c.before).args.self) e

pub run_spec : {M : Type 1} → statement M
run_spec =
    tie.close
    (tie.spec
    invariant-loop-k
    decreases-loop-k
    returns
    loop-holds
    add-k
    tier-requires
    loop-less
    loop-again
    returns-2)
