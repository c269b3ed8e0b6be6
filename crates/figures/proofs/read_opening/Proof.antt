-- `figures::read_opening` meets its contract: the value is cut before its last 14 bytes, and `Openings` says what it is by what is read there.
-- Assumes nothing.
use Rattle.std.proofs.Common.{◌≡◌, ℕ, ◌+◌, ◌-◌, List, length, take, drop, sym, ap, ◌∙◌, arith, length-take-le, rules}
use Rattle.rules.specs.declared.Trade.{Trade}
use Rattle.rules.specs.declared.Opening.TheVariants.{Made}
use Rattle.figures.specs.declared.number.Digits.{Digits}
use Rattle.figures.specs.declared.number.Digits.TheVariants.{Number, Other}
use Rattle.figures.specs.declared.pair.Pair.{Pair}
use Rattle.figures.specs.declared.pair.Pair.TheVariants.{Both}
use Rattle.figures.specs.declared.pair.Pair.TheVariants.{Other as NoPair}
use Rattle.figures.specs.Good.{trade_of}
use Rattle.figures.specs.Pairs.{pair_of}
use Rattle.figures.specs.Stamps.{stamp_in}
use Rattle.figures.proofs.Lists.{to_end}
use Rattle.figures.proofs.Openings.{too_short, no_stamp, no_pair, all_read}
use Rattle.figures.proofs.read_opening.Statement.{statement}
use Rattle.figures.proofs.read_opening.Tie as tie

-- a value that has room for a stamp, and its place
abbrev value : tie.Else-v-lt-SIZE → List ℕ
value c = c.args.v.now

abbrev cut : tie.Else-v-lt-SIZE → ℕ
cut c = length (value c) - 14

room : (c : tie.Else-v-lt-SIZE) → cut c + 14 ≡ length (value c)
room c = omega arith

abbrev at-stamp : tie.After-read_stamp → tie.Else-v-lt-SIZE
at-stamp c = c.before.before

abbrev at_pair : tie.After-read_pair → tie.Else-v-lt-SIZE
at_pair c = c.before.before.before.before

-- what the stamp says
stamp-read : (c : tie.After-read_stamp) (d : Digits) → c.read_stamp.result ≡ d → let e = at-stamp c in stamp_in (drop (cut e) (value e)) ≡ d
stamp-read c d h = let e = at-stamp c in sym (c.read_stamp.ensures ∙ ap stamp_in (to_end (value e) (cut e))) ∙ h

-- what the price and the lots say
pair_read : (c : tie.After-read_pair) (p : Pair) → c.read_pair.result ≡ p → let e = at_pair c in pair_of (take (cut e) (value e)) ≡ p
pair_read c p h = sym c.read_pair.ensures ∙ h

no-opening-requires : tie.Need-no_opening-requires
no-opening-requires c κs = search rules

returns : tie.Need-returns-then-v-lt-SIZE
returns c =
    let a = c.args in
    c.no_opening.ensures ∙ sym (too_short a.bought a.v.now (omega arith))

sub-cut : tie.Need-overflow_sub-cut
sub-cut c = search rules

sub-read-stamp : tie.Need-slice_bounds-read_stamp-count
sub-read-stamp c = search rules

part-read-stamp-start : tie.Need-slice_bounds-read_stamp-start
part-read-stamp-start c = search rules

part-read-stamp-end : tie.Need-slice_bounds-read_stamp-end
part-read-stamp-end c = search rules

read-stamp-requires : tie.Need-read_stamp-requires
read-stamp-requires c κs = search rules

enum-known-made : tie.Need-enum_known-made
enum-known-made c = search rules

enum_told : tie.Need-enum_told-1
enum_told c = search rules

no-opening-requires-2 : tie.Need-no_opening-requires-in_default
no-opening-requires-2 c κs = search rules

returns-2 : tie.Need-returns-in_default
returns-2 c =
    let r = c in
    let e = at-stamp c.before.before in
    c.no_opening-in_default.ensures ∙ sym (no_stamp _ (value e) (cut e) (room e) (stamp-read c.before.before Other c.in_default.is))

slice-aggregate-read-pair : tie.Need-slice_bounds-read_pair-end
slice-aggregate-read-pair c =
    let e = at-stamp c.before in
    sym (length-take-le (cut e) (value e) (omega arith))

read-pair-requires : tie.Need-read_pair-requires
read-pair-requires c κs = search rules

enum-known-price : tie.Need-enum_known-price
enum-known-price c = search rules

enum-told-2 : tie.Need-enum_told-in_default-read_pair
enum-told-2 c = search rules

no-opening-requires-3 : tie.Need-no_opening-requires-in_default-read_pair
no-opening-requires-3 c κs = search rules

returns-3 : tie.Need-returns-in_default-read_pair
returns-3 c =
    let r = c in
    let e = at_pair c.before.before in
    c.no_opening-in_default-read_pair.ensures ∙ sym (no_pair _ (value e) (cut e) (room e) (pair_read c.before.before NoPair c.in_default-read_pair.is))

trade-of-requires : tie.Need-trade_of-requires
trade-of-requires c κs = search rules

returns-4 : tie.Need-returns
returns-4 c =
    let k = c in
    let r = k in
    let m = r in
    let e = at_pair c.before.before in
    let bought = e.args.bought in
    let both = k.in-Both in
    let trade : c.trade_of.result ≡ trade_of bought both.price both.lots m.in-Number.made = c.trade_of.ensures in
    sym (all_read bought (value e) (cut e) _ _ _ _ (room e)
    (pair_read c.before.before (Both _ _ _) k.in-Both.is)
    (stamp-read c.before.before.before.before (Number _) m.in-Number.is)
    ∙ ap (λ (t : Trade). Made t both.decimals) (sym trade))

pub read_opening_spec : {M : Type 1} → statement M
read_opening_spec =
    tie.close
    (tie.spec
    no-opening-requires
    returns
    sub-cut
    sub-read-stamp
    part-read-stamp-start
    part-read-stamp-end
    read-stamp-requires
    enum-known-made
    enum_told
    no-opening-requires-2
    returns-2
    slice-aggregate-read-pair
    read-pair-requires
    enum-known-price
    enum-told-2
    no-opening-requires-3
    returns-3
    trade-of-requires
    returns-4)
