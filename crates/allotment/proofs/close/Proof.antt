-- The cascade from nothing offset, and what is left of what was pending.
-- Assumes nothing.
use Prim.Native.Nat.{ℕ, ◌-◌}
use mathlib.Core.Path.{◌≡◌, ap₂, ◌∙◌}
use native.Mathlib.Omega.{arith}
use lib.ListN.{get_or-replicate}
use Rattle.rules.specs.Limits.{most_customers}
use Rattle.cascade.specs.declared.Cascade.{Cascade}
use Rattle.cascade.specs.Columns.{Columns, columns}
use Rattle.cascade.specs.State.{after_all}
use Rattle.cascade.specs.After.{owed_is}
use Rattle.allotment.specs.Worked.{at_first}
use borrow.Author.Rules.{rules}
use Rattle.allotment.proofs.close.Statement.{statement}
use Rattle.allotment.proofs.close.Tie as tie

abbrev start : tie.After-staked-owed → tie.Start
start o = o.before.before.before.before

abbrev cols : tie.After-staked-owed → Columns
cols o = let a = (start o).args in columns a.keys.now a.standings.now a.stakes.now a.count

staked-requires : tie.Need-staked-owed-requires
staked-requires c κs = let p = c.requires in record { few = p.few; stood = p.stood; staked = p.staked; small = λ i l. (p.each i l).small }

run-requires : tie.Need-run-end-requires
run-requires c κs =
    let s = start c in
    (s.requires, c.staked-owed.ensures ∙ owed_is (cols c) at_first (λ i l. get_or-replicate {A = ℕ} most_customers i 0 0 (omega (arith, s.requires.few))))

less-requires : tie.Need-less-requires
less-requires c κs = search rules

returns : tie.Need-returns
returns c =
    let r = c in
    let o = r in
    let e : r.run-end.result ≡ after_all (cols c.before.before.before) at_first = r.run-end.ensures in
    let w = o.staked-owed.ensures ∙ owed_is (cols c.before.before.before) at_first (λ i l. get_or-replicate {A = ℕ} most_customers i 0 0 (omega (arith, (start c.before.before.before).requires.few))) in
    let m = c.less.ensures ∙ ap₂ (λ (x : ℕ) (y : Cascade). x - y.total) w e in
    λ j. record { offset = (e j).offset; total = (e j).total; residue = m j }

pub close_spec : {M : Type 1} → statement M
close_spec = tie.close (tie.spec staked-requires run-requires less-requires returns)
