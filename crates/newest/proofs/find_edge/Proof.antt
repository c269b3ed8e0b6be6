-- `newest::find_edge` meets its contract: the edge lies from `low` on and before `low` + `width`.
-- Assumes nothing.
use Prim.Native.Nat.{ℕ, ◌+◌, ◌*◌, ◌/◌, ◌≤◌, ◌<◌}
use mathlib.Core.Path.{◌≡◌, sym}
use native.Mathlib.Omega.{arith}
use borrow.Author.Rules.{rules}
use Rattle.newest.proofs.Counting.{mono, wider, begins}
use Rattle.newest.proofs.Spanned.{spanned}
use Rattle.newest.specs.Search.{from_in, Range}
use Rattle.newest.proofs.find_edge.Statement.{statement}
use Rattle.newest.proofs.find_edge.Tie as tie

abbrev invariant-loop-width : tie.invariant-loop-width
invariant-loop-width book long first need opened low₀ width₀ have₀ low width have = (0 < width) × (low + 2 * width ≤ 1_000_000_000_000) × Range (from_in long book first) need low width have

abbrev decreases-loop-width : tie.decreases-loop-width
decreases-loop-width book long first need opened low₀ width₀ have₀ low width have = width

-- a turn, once its bucket is found: w is the new width
module _ (c : tie.After-find_bucket-step invariant-loop-width decreases-loop-width) where
  abbrev at-loop : tie.At-loop-width invariant-loop-width decreases-loop-width
  at-loop = c.before.before

  abbrev start : tie.Start invariant-loop-width decreases-loop-width
  start = at-loop.before.before

  abbrev w : ℕ
  w = (at-loop.loop-width.width + 71) / 72

  low-after : at-loop.loop-width.low + c.find_bucket-step.result.bucket * w < at-loop.loop-width.low + at-loop.loop-width.width
  low-after =
      let l = at-loop.loop-width in
      begins (from_in start.args.long start.args.book.now start.args.first) (mono start.args.long start.args.book.now start.args.first) start.args.need l.low l.width l.have l.invariant.2
      (l.low + c.find_bucket-step.result.bucket * w) w c.find_bucket-step.result.have c.find_bucket-step.ensures

loop-holds : tie.Need-loop-width-init invariant-loop-width decreases-loop-width
loop-holds c = let s = c in let a = s.args in (omega arith, omega arith, spanned a.long a.book.now a.first a.need a.opened s.requires.1.0)

add-width : tie.Need-overflow_add-width invariant-loop-width decreases-loop-width
add-width c = search rules

find-bucket-requires : tie.Need-find_bucket-step-requires invariant-loop-width decreases-loop-width
find-bucket-requires c κs =
    let l = c.loop-width in
    let s = c in
    let from = from_in s.args.long s.args.book.now s.args.first in
    let wide = wider from (mono s.args.long s.args.book.now s.args.first) s.args.need l.low l.width l.have l.invariant.2 (72 * ((l.width + 71) / 72)) (omega arith) in
    (s.requires.0, (omega arith, (wide, s.requires.1.1)))

mul_low : tie.Need-overflow_mul-low invariant-loop-width decreases-loop-width
mul_low c = omega (arith, low-after c.before, (at-loop c.before).loop-width.invariant.1)

add_low : tie.Need-overflow_add-low invariant-loop-width decreases-loop-width
add_low c = omega (arith, low-after c.before, (at-loop c.before).loop-width.invariant.1)

loop-less : tie.Need-loop-width-smaller invariant-loop-width decreases-loop-width
loop-less c = omega arith

loop-again : tie.Need-loop-width-preserved invariant-loop-width decreases-loop-width
loop-again c =
    let k = c in
    let l = (at-loop c.before).loop-width in
    (omega arith, omega (arith, low-after c.before, l.invariant.1), k.find_bucket-step.ensures)

returns : tie.Need-returns invariant-loop-width decreases-loop-width
returns c = let l = c.loop-width in let e : l.width ≡ 1 = omega (arith, l.invariant.0) in let r = l.invariant.2 in record { has = r.has; enough = r.enough; over = rw (sym e) r.over }

pub find_edge_spec : {M : Type 1} → statement M
find_edge_spec =
    tie.close
    (tie.spec
    invariant-loop-width
    decreases-loop-width
    loop-holds
    add-width
    find-bucket-requires
    mul_low
    add_low
    loop-less
    loop-again
    returns)
