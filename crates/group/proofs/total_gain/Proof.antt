-- `group::total_gain` meets its contract: trades in order by taking off the oldest lots, others by the edge.
-- Assumes nothing.
use Prim.Native.Nat.{ℕ, ◌*◌, ◌^◌, ◌≤◌, ◌<◌}
use mathlib.Core.Path.{◌≡◌, sym, ap, ◌∙◌}
use mathlib.Core.List.{List, []}
use native.Mathlib.Omega.{arith}
use lib.ListN.{drop}
use lib.IntN.{ℤ, nat_abs, ◌-ℤ◌}
use mir.Syntax.{w64}
use mir.Val.{SFits}
use Rattle.rules.specs.Fields.{Field, fields_of}
use Rattle.laws.specs.Exact.{of_int, op_fits, of_op}
use Rattle.order.specs.Order.{in_front, arranged}
use Rattle.order.specs.Trades.{when}
use Rattle.order.specs.Gains.{gain_of_none}
use Rattle.trades.specs.Walk.{trades_at, Readable, newest_in}
use Rattle.newest.specs.Search.{Covered}
use Rattle.group.specs.Total.{Summed}
use Rattle.group.proofs.Totals.{lots_are, all_good, all_newest, newest_left, newest_most}
use borrow.Author.Rules.{rules}
use Rattle.group.proofs.total_gain.Statement.{statement}
use Rattle.group.proofs.total_gain.Tie as tie

-- what the sums are
module _ (s : tie.Start) where
  abbrev fields : List Field
  fields = fields_of (drop s.args.first s.args.book.now)

  abbrev sums : Summed s.args.decimals s.args.long s.args.settlement s.args.book.now s.args.first s.args.need s.args.opened s.args.gain s.args.ordered
  sums = s.requires.1.1

  abbrev owed : ℤ
  owed = newest_in s.args.long s.args.settlement s.args.need s.args.book.now s.args.first

  size : nat_abs owed ≤ 9999999 * s.args.need
  size = newest_most s.args.decimals s.args.long s.args.settlement s.args.first fields sums.place s.args.opened s.args.gain s.args.ordered sums.reads s.requires.1.0 s.args.need

  readable : Readable s.args.book.now s.args.first
  readable = all_good s.args.decimals s.args.long s.args.settlement s.args.first fields sums.place s.args.opened s.args.gain s.args.ordered sums.reads

-- the oldest lots are gone over
module _ (c : tie.After-oldest_gain) where
  abbrev start : tie.Start
  start = c.before.before.before.before.before

  taken-off : start.args.gain -ℤ c.oldest_gain.result ≡ owed start
  taken-off =
      let a = start.args in
      let r = sums start in
      ap (λ (z : ℤ). a.gain -ℤ z) c.oldest_gain.ensures
      ∙ newest_left a.decimals a.long a.settlement a.first (fields start) r.place a.opened a.gain a.ordered r.reads c.if-ordered.true a.need r.covers

  gain-fits : SFits w64 start.args.gain
  gain-fits = search rules

  oldest-fits : SFits w64 c.oldest_gain.result
  oldest-fits = search rules

  room : nat_abs (start.args.gain -ℤ c.oldest_gain.result) < 2 ^ 63
  room = rw taken-off (omega (arith, size start, (sums start).few))

returns : tie.Need-returns-then-need-eq0
returns c =
    let s = c in
    let a = s.args in
    let none : a.need ≡ 0 = omega arith in
    sym (ap (λ (n : ℕ). newest_in a.long a.settlement n a.book.now a.first) none
    ∙ gain_of_none a.long a.settlement (arranged when (in_front (trades_at a.book.now a.first) [])))

returns-2 : tie.Need-returns-then-opened-need
returns-2 c =
    let s = c in
    let a = s.args in
    let r = sums c.before.before.before in
    let all : a.opened ≡ a.need = omega arith in
    let fits : SFits w64 a.gain = search rules in
    (of_int a.gain fits).num ∙ all_newest a.decimals a.long a.settlement a.first (fields c.before.before.before) r.place a.opened a.gain a.ordered r.reads
    ∙ ap (λ (n : ℕ). newest_in a.long a.settlement n a.book.now a.first) all

sub-oldest-gain : tie.Need-overflow_sub-opened
sub-oldest-gain c = (sums c.before.before.before.before).covers

oldest-gain-requires : tie.Need-oldest_gain-requires
oldest-gain-requires c κs = let s = c in (s.requires.0, (s.requires.1.0, readable c.before.before.before.before))

sub-result : tie.Need-overflow_sub-result
sub-result c = op_fits (of_int (start c).args.gain (gain-fits c)) (of_int c.oldest_gain.result (oldest-fits c)) ◌-ℤ◌ (room c)

returns-3 : tie.Need-returns-then-ordered
returns-3 c = (of_op (of_int (start c).args.gain (gain-fits c)) (of_int c.oldest_gain.result (oldest-fits c)) ◌-ℤ◌ (room c)).num ∙ taken-off c

newest-gain-requires : tie.Need-newest_gain-requires
newest-gain-requires c κs =
    let s = c in
    let a = s.args in
    let r = sums c.before.before.before.before in
    let covered : Covered a.long a.book.now a.first a.need a.opened = record { has = lots_are a.decimals a.long a.settlement a.first (fields c.before.before.before.before) r.place a.opened a.gain a.ordered r.reads; enough = r.covers } in
    (s.requires.0, (s.requires.1.0, (record { covered = covered; some = omega arith }, readable c.before.before.before.before)))

returns-4 : tie.Need-returns
returns-4 c =
    let fits : SFits w64 c.newest_gain.result = search rules in
    (of_int c.newest_gain.result fits).num ∙ c.newest_gain.ensures

pub total_gain_spec : {M : Type 1} → statement M
total_gain_spec =
    tie.close
    (tie.spec
    returns
    returns-2
    sub-oldest-gain
    oldest-gain-requires
    sub-result
    returns-3
    newest-gain-requires
    returns-4)
