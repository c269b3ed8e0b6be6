-- `newest::edge_gain` meets its contract: what counts by the edge is the newest lots.
-- Assumes nothing.
use mathlib.Core.Path.{◌≡◌, ◌∙◌}
use native.Mathlib.Omega.{arith}
use mir.Syntax.{w64}
use mir.Val.{to_z, of_z}
use Rattle.laws.specs.Exact.{small_fits, of_int}
use Rattle.newest.proofs.Joined.{joined}
use borrow.Author.Rules.{rules}
use Rattle.newest.proofs.edge_gain.Statement.{statement}
use Rattle.newest.proofs.edge_gain.Tie as tie

find-edge-requires : tie.Need-find_edge-edge-requires
find-edge-requires c κs = let s = c in (s.requires.0, (s.requires.1.1.0, s.requires.1.1.1))

sub-kept-gain : tie.Need-overflow_sub-edge
sub-kept-gain c = search rules

kept-gain-requires : tie.Need-kept_gain-requires
kept-gain-requires c κs = search rules

returns : tie.Need-returns
returns c =
    let f = c in
    let a = f.args in
    let g = c.kept_gain.result in
    let back : to_z w64 (of_z w64 g) ≡ g = (of_int g (small_fits g (omega (arith, c.kept_gain.ensures.size)))).num in
    back ∙ c.kept_gain.ensures.exact
    ∙ joined a.long a.settlement a.need a.book.now a.first f.find_edge-edge.result.stamp f.find_edge-edge.result.have f.find_edge-edge.ensures

pub edge_gain_spec : {M : Type 1} → statement M
edge_gain_spec = tie.close (tie.spec find-edge-requires sub-kept-gain kept-gain-requires returns)
