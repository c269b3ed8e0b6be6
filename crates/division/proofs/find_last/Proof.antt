-- The last is found: each step of the code is a step of the search.
-- Assumes nothing.
use Prim.Native.Nat.{ℕ, ◌+◌}
use mathlib.Core.Path.{◌≡◌, sym, ◌∙◌}
use mathlib.Core.List.{List}
use native.Mathlib.Omega.{arith}
use borrow.Author.Rules.{rules}
use Rattle.division.proofs.Search.{below_it, nobody, seek_lack, all_tied, sooner_less, seek_key, some_tied}
use Rattle.division.specs.Parts.{count_of}
use Rattle.division.proofs.find_last.Statement.{statement}
use Rattle.division.proofs.find_last.Tie as tie

-- once those who reach the edge are counted: e is the edge of what is lacked
module _ (g : tie.After-reached) where
  abbrev start : tie.Start
  start = g.before.before.before.before.before.before

  abbrev keys : List ℕ
  keys = start.args.keys.now

  abbrev e : ℕ
  e = g.find_edge-lack.result

  abbrev below : ℕ → ℕ
  below = count_of start.args.lots.now keys 0 start.args.count

-- more reach the edge than lots are left over
more : (c : tie.Else-reached-spare) → below c.before (e c.before + 1) ≡ (start c.before).args.spare → ⊥
more c z = c.if-reached-spare.false (c.reached.ensures ∙ z)

-- those who lack less
sooner : (c : tie.After-reached-sooner) → c.reached-sooner.result ≡ below c.before.before (e c.before.before)
sooner c = let g = c in below_it (below c.before.before) (e c.before.before) g.find_edge-lack.ensures.above c.reached-sooner.ensures

returns : tie.Need-returns-then-spare-eq0
returns c = let s = c in nobody s.args.keys.now s.requires.1 c.if-spare-eq0.true

find-edge-requires : tie.Need-find_edge-lack-requires
find-edge-requires c κs = let s = c in (s.requires.0, seek_lack s.args.keys.now s.requires.1 c.if-spare-eq0.false)

extent-requires : tie.Need-extent-span-requires
extent-requires c κs = search rules

reached-requires : tie.Need-reached-requires
reached-requires c κs = search rules

returns-2 : tie.Need-returns-then-reached-spare
returns-2 c =
    let g = c in
    let f = g.find_edge-lack.ensures in
    all_tied (keys c.before) (start c.before).requires.1 (e c.before) f.above f.edge g.extent-span.ensures (sym g.reached.ensures ∙ c.if-reached-spare.true)

sub-reached : tie.Need-overflow_sub-lack
sub-reached c = search rules

reached-requires-2 : tie.Need-reached-sooner-requires
reached-requires-2 c κs = search rules

sub-find-edge : tie.Need-overflow_sub-spare
sub-find-edge c =
    let g = c in
    let f = g.find_edge-lack.ensures in
    omega (arith, sooner c, sooner_less (keys c.before.before) (start c.before.before).requires.1 (e c.before.before) f.above f.edge g.extent-span.ensures (more c.before))

find-edge-requires-2 : tie.Need-find_edge-key-requires
find-edge-requires-2 c κs =
    let g = c in
    let f = g.find_edge-lack.ensures in
    ((start c.before.before).requires.0, rw (sooner c) (seek_key (keys c.before.before) (start c.before.before).requires.1 (e c.before.before) f.above f.edge g.extent-span.ensures (more c.before)))

returns-3 : tie.Need-returns
returns-3 c =
    let g = c in
    let f = g.find_edge-lack.ensures in
    some_tied (keys c.before.before.before) (start c.before.before.before).requires.1 (e c.before.before.before) f.above f.edge g.extent-span.ensures (more c.before.before) c.find_edge-key.result
    (rw (sooner c.before) at c.find_edge-key.ensures.edge)

pub find_last_spec : {M : Type 1} → statement M
find_last_spec =
    tie.close
    (tie.spec
    returns
    find-edge-requires
    extent-requires
    reached-requires
    returns-2
    sub-reached
    reached-requires-2
    sub-find-edge
    find-edge-requires-2
    returns-3)
