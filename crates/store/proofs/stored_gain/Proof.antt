-- `store::stored_gain` meets its contract: the sum by place over the store is the newest lots, where all trades fit.
-- Assumes nothing.
use mathlib.Core.Path.{◌≡◌, ap, ◌∙◌}
use native.Mathlib.Omega.{arith}
use lib.ListN.{length}
use lib.IntN.{ℤ}
use mir.Syntax.{w64}
use mir.Val.{to_z, of_z}
use borrow.Author.Rules.{rules}
use borrow.Author.Tests.{le-leb, lt-leb}
use Rattle.laws.specs.Exact.{small_fits, of_int}
use Rattle.store.specs.declared.Stored.TheVariants.{Gain}
use Rattle.store.specs.Held.{on_side_in}
use Rattle.store.proofs.Joined.{joined}
use Rattle.store.proofs.stored_gain.Statement.{statement}
use Rattle.store.proofs.stored_gain.Tie as tie

fill-requires : tie.Need-fill-count-requires
fill-requires c κs = search rules

returns : tie.Need-returns-then-count-gt-ROOM
returns c =
    let f = c.fill-count in
    let a = c.args in
    rw (lt-leb (length (on_side_in a.long a.book.now a.first)) 128 (omega (arith, f.ensures.many)))

gain-held-requires : tie.Need-gain_held-gain-requires
gain-held-requires c κs =
    let else = c in
    let h = else.fill-count.ensures.holds (omega arith) in
    record { settlement = else.requires.1.0; held = h.few; priced = h.priced }

returns-2 : tie.Need-returns
returns-2 c =
    let f = c.fill-count in
    let a = c.args in
    let g = c.gain_held-gain.result in
    let back : to_z w64 (of_z w64 g) ≡ g = (of_int g (small_fits g (omega (arith, c.gain_held-gain.ensures.size)))).num in
    let same = joined a.long a.settlement a.need a.book.now a.first f.result f.new.stamps f.new.lots f.new.prices (f.ensures.holds (omega arith)) in
    rw (le-leb (length (on_side_in a.long a.book.now a.first)) 128 (omega (arith, f.ensures.many)))
    (ap (λ (z : ℤ). Gain z) (back ∙ c.gain_held-gain.ensures.exact ∙ same))

pub stored_gain_spec : {M : Type 1} → statement M
stored_gain_spec = tie.close (tie.spec fill-requires returns gain-held-requires returns-2)
