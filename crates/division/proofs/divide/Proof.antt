-- X over the weights: the parts, the last of the lots left over, and then every member's lots. Where all of it is divided, each has its
-- lots already.
-- Assumes nothing.
use Prim.Native.Nat.{ℕ}
use mathlib.Core.List.{List}
use native.Mathlib.Omega.{arith}
use borrow.Author.Rules.{rules}
use Rattle.division.proofs.Division.{given_le, parted, small, settled, all_divided}
use Rattle.division.specs.Parts.{Ready}
use Rattle.division.proofs.divide.Statement.{statement}
use Rattle.division.proofs.divide.Tie as tie

-- where less than all is divided
module _ (t : tie.After-spread) where
  abbrev start : tie.Start
  start = t.before.before.before.before.before

  abbrev keys : List ℕ
  keys = start.args.keys.now

  begun : Ready start.args.lots.now start.args.count start.args.x start.args.sum
  begun = let p = start.requires in record { bounded = p.bounded; total = p.total; less = omega (arith, p.most, t.if-x-sum.false) }

returns : tie.Need-returns-then-x-sum
returns c =
    let s = c in
    let p = s.requires in
    all_divided s.args.keys.now s.args.lots.now s.args.count s.args.x s.args.sum p.bounded.within p.total c.if-x-sum.true

spread-requires : tie.Need-spread-requires
spread-requires c κs =
    let p = c.requires in
    record { bounded = p.bounded; total = p.total; less = omega (arith, p.most, c.if-x-sum.false) }

sub-spare : tie.Need-overflow_sub-spare
sub-spare c = let t = c in given_le (keys c.before.before) (begun c.before.before) t.spread.ensures

find-last-requires : tie.Need-find_last-last-requires
find-last-requires c κs =
    let t = c in
    ((omega (arith, (start c.before.before).requires.bounded.within), (start c.before.before).requires.keyed), parted (keys c.before.before) (begun c.before.before) t.spread.ensures)

settle-requires : tie.Need-settle-requires
settle-requires c κs =
    let t = c in
    ((omega (arith, (start c.before.before.before.before).requires.bounded.within), (start c.before.before.before.before).requires.keyed), small (keys c.before.before.before.before) (begun c.before.before.before.before) t.spread.ensures)

same_length : tie.Need-shape_of-lots
same_length c = search rules

returns-2 : tie.Need-returns
returns-2 c =
    let f = c in
    let t = f in
    settled (keys c.before.before.before.before.before.before.before) (begun c.before.before.before.before.before.before.before) t.spread.ensures f.find_last-last.ensures c.settle.ensures

pub divide_spec : {M : Type 1} → statement M
divide_spec =
    tie.close
    (tie.spec
    returns
    spread-requires
    sub-spare
    find-last-requires
    settle-requires
    same_length
    returns-2)
