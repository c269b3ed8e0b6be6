-- `group::group_of` meets its contract: the sums over the trades say what the group comes to.
-- Assumes nothing.
use Prim.Native.Nat.{ℕ, ◌*◌, ◌≤◌}
use mathlib.Core.Path.{◌≡◌, sym, ap, ap₂, ◌∙◌}
use mathlib.Core.List.{List}
use mathlib.Core.Bool.{Bool}
use native.Mathlib.Omega.{arith}
use lib.ListN.{drop}
use lib.IntN.{ℤ, pos, nat_abs}
use mir.Syntax.{w64}
use mir.Val.{SFits, to_z, of_z}
use Rattle.rules.specs.Fields.{Field, fields_of}
use Rattle.rules.specs.Book.{net}
use Rattle.rules.specs.Standing.{standing_at}
use Rattle.laws.specs.Exact.{of_int}
use Rattle.trades.specs.declared.TradesAt.TheVariants.{Closed}
use Rattle.trades.specs.Trades.{none_yet, trades_from}
use Rattle.trades.specs.Walk.{newest_in}
use Rattle.group.specs.Group.{closed_at}
use Rattle.group.proofs.GroupMeans.{summed, group_refused, group_uncovered, total, total_size, group_closed}
use borrow.Author.Rules.{rules}
use Rattle.group.proofs.group_of.Statement.{statement}
use Rattle.group.proofs.group_of.Tie as tie

-- the trades were read
module _ (c : tie.After-read_trades) where
  abbrev start : tie.Start
  start = c.before.before.before.before

  abbrev fields : List Field
  fields = fields_of (drop start.args.first start.args.book.now)

  summed-is : summed start.args.terms start.args.position start.args.place start.args.first fields ≡ c.read_trades.result
  summed-is =
      sym (c.read_trades.ensures
      ∙ ap (λ (b : Bool). trades_from start.args.terms.decimals b start.args.terms.settlement start.args.first 0 (pos 0) none_yet fields) c.net_long-long.ensures)

-- they end the group
module _ (c : tie.In-Closed) where
  abbrev place : ℕ
  place = c.in-Closed.at

  abbrev opened : ℕ
  opened = c.in-Closed.opened

  abbrev gain : ℤ
  gain = c.in-Closed.gain

  abbrev ordered : Bool
  ordered = c.in-Closed.ordered

  closed : summed (start c.before).args.terms (start c.before).args.position (start c.before).args.place (start c.before).args.first (fields c.before) ≡ Closed place opened gain ordered
  closed = summed-is c.before ∙ c.in-Closed.is

-- the trades cover the net position
module _ (c : tie.Else-opened-net) where
  abbrev ended : tie.In-Closed
  ended = c.before.before.before

  abbrev begun : tie.Start
  begun = start ended.before

  net-is : c.net_of-net.result.0 ≡ net begun.args.position
  net-is = omega (arith, c.net_of-net.ensures)

  covers : net begun.args.position ≤ opened ended
  covers = omega (arith, c.if-opened-net.false, c.net_of-net.ensures)

  gain-fits : SFits w64 (gain ended)
  gain-fits = search rules

  -- and the total gain is that of the newest lots
  abbrev owed : ℤ
  owed = total begun.args.terms begun.args.position begun.args.place begun.args.first (fields ended.before)

  size : nat_abs owed ≤ 9999999 * net begun.args.position
  size =
      total_size begun.args.terms begun.args.position begun.args.place begun.args.first (fields ended.before) (place ended) (opened ended) (gain ended) (ordered ended) (closed ended)
      begun.requires.1.0.settlement

total_is : (c : tie.After-total_gain-total) → c.total_gain-total.result ≡ owed c.before.before
total_is c =
    let e = c in
    let a = (begun c.before.before).args in
    c.total_gain-total.ensures
    ∙ ap₂ (λ (b : Bool) (n : ℕ). newest_in b a.terms.settlement n a.book.now a.first) (ended c.before.before).net_long-long.ensures (net-is c.before.before)

exact : (c : tie.After-total_gain-total) → to_z w64 (of_z w64 c.total_gain-total.result) ≡ owed c.before.before
exact c = let fits : SFits w64 c.total_gain-total.result = search rules in (of_int c.total_gain-total.result fits).num ∙ total_is c

net-long-requires : tie.Need-net_long-long-requires
net-long-requires c κs = search rules

read-trades-requires : tie.Need-read_trades-requires
read-trades-requires c κs = search rules

enum-known-at : tie.Need-enum_known-at
enum-known-at c = search rules

net-of-requires : tie.Need-net_of-net-requires
net-of-requires c κs = search rules

returns : tie.Need-returns-then-opened-net
returns c =
    let x = c in
    let a = (start c.before.before.before.before).args in
    group_uncovered a.terms a.position a.place a.first (fields c.before.before.before.before) (place c.before.before.before) (opened c.before.before.before) (gain c.before.before.before) (ordered c.before.before.before) (closed c.before.before.before) (omega (arith, c.if-opened-net.true, c.net_of-net.ensures))

total-gain-requires : tie.Need-total_gain-total-requires
total-gain-requires c κs =
    let s = begun c.before in
    let a = s.args in
    let e = ended c.before in (
      s.requires.0,
      (
        s.requires.1.0.settlement,
        record {
          place = place e;
          reads = sym e.read_trades.ensures ∙ e.in-Closed.is ∙ ap (λ (z : ℤ). Closed (place e) (opened e) z (ordered e)) (sym (of_int (gain e) (gain-fits c.before)).num);
          covers = omega (arith, covers c.before, net-is c.before);
          few = omega (arith, net-is c.before, s.requires.1.1.long, s.requires.1.1.short);
        },
      ),
    )

closed-at-requires : tie.Need-closed_at-requires
closed-at-requires c κs =
    let s = begun c.before.before in
    let t = s.requires.1.0 in
    let h = s.requires.1.1 in
    record {
      settlement = t.settlement;
      loss = t.loss;
      edge1 = t.edge1;
      edge2 = t.edge2;
      long = h.long;
      short = h.short;
      total = rw (exact c) (omega (arith, size c.before.before, h.long, h.short));
    }

enum-known-r : tie.Need-enum_known-r
enum-known-r c = search rules

returns-2 : tie.Need-returns-else-opened-net
returns-2 c holder holds =
    let b = c in
    let e = ended c.before.before.before in
    let a = (begun c.before.before.before).args in
    c.closed_at.ensures ∙ ap (λ (z : ℤ). closed_at (standing_at a.terms a.position z) a.position (place e)) (exact c.before)
    ∙ group_closed a.terms a.position a.place a.first (fields e.before) (place e) (opened e) (gain e) (ordered e) (closed e) (covers c.before.before.before) holder holds

returns-3 : tie.Need-returns-in-Refused
returns-3 c =
    let x = c in
    let a = (start c.before).args in
    group_refused a.terms a.position a.place a.first (fields c.before) x.in-Refused.r (summed-is c.before ∙ x.in-Refused.is)

pub group_of_spec : {M : Type 1} → statement M
group_of_spec =
    tie.close
    (tie.spec
    net-long-requires
    read-trades-requires
    enum-known-at
    net-of-requires
    returns
    total-gain-requires
    closed-at-requires
    enum-known-r
    returns-2
    returns-3)
