-- `figures::read_again` meets its contract: both parts of a trade that was read are read again, and `all_read` puts them together.
-- Assumes nothing.
use Rattle.std.proofs.Common.{◌≡◌, ℕ, ◌-◌, List, length, get_or, take, drop, sym, ap, ◌∙◌, add-zero, arith, length-drop, get_or-drop, rules, eq-eqb}
use Rattle.rules.specs.declared.Trade.{Trade}
use Rattle.rules.specs.declared.Opening.TheVariants.{Made}
use Rattle.figures.specs.Good.{trade_of}
use Rattle.figures.specs.Stamps.{stamp_in}
use Rattle.figures.proofs.Lists.{to_end}
use Rattle.figures.proofs.Stamps.{first_blank}
use Rattle.figures.proofs.Openings.{Parts, good_parts, all_read}
use Rattle.figures.proofs.read_again.Statement.{statement}
use Rattle.figures.proofs.read_again.Tie as tie

abbrev value : tie.After-shared_slice_known-1 → List ℕ
value c = c.args.v.now

abbrev cut : tie.After-shared_slice_known-1 → ℕ
cut c = length (value c) - 14

parts : (c : tie.After-shared_slice_known-1) → Parts (value c)
parts c = good_parts c.args.bought (value c) c.requires

last : (c : tie.After-shared_slice_known-1) → stamp_in (drop (cut c) (value c)) ≡ stamp_in (take (length (value c) - cut c) (drop (cut c) (value c)))
last c = ap stamp_in (sym (to_end (value c) (cut c)))

sub-cut : tie.Need-overflow_sub-cut
sub-cut c = omega (arith, (parts c).room)

pair-again-requires : tie.Need-pair_again-both-requires
pair-again-requires c κs =
    let p = parts c in
    let v = value c in
    let blank = ap (λ (i : ℕ). get_or v i 0) (sym (add-zero (cut c))) ∙ sym (get_or-drop (cut c) v 0 0) ∙ first_blank (drop (cut c) v) p.made p.stamp in
    (record { price = p.price; places = p.places; lots = p.lots; read = p.pair }, eq-eqb _ _ blank)

sub-stamp-again : tie.Need-slice_bounds-stamp_again-count
sub-stamp-again c = search rules

part-stamp-again-start : tie.Need-slice_bounds-stamp_again-start
part-stamp-again-start c = search rules

part-stamp-again-end : tie.Need-slice_bounds-stamp_again-end
part-stamp-again-end c = search rules

stamp-again-requires : tie.Need-stamp_again-made-requires
stamp-again-requires c κs =
    let k = c in
    let p = parts c.before.before in (
      ap length (to_end (value c.before.before) (cut c.before.before)) ∙ length-drop (cut c.before.before) (value c.before.before) ∙ omega (arith, p.room),
      (p.made, sym (last c.before.before) ∙ p.stamp),
    )

trade-of-requires : tie.Need-trade_of-requires
trade-of-requires c κs = search rules

returns : tie.Need-returns
returns c =
    let e = c in
    let k = e in
    let bought = k.args.bought in
    let pair = e.pair_again-both in
    let trade : c.trade_of.result ≡ trade_of bought pair.result.price pair.result.lots e.stamp_again-made.result = c.trade_of.ensures in
    let places = pair.ensures.0 in
    (places, all_read bought (value c.before.before.before.before) (cut c.before.before.before.before) _ places _ _ (parts c.before.before.before.before).room pair.ensures.1 (last c.before.before.before.before ∙ e.stamp_again-made.ensures) ∙ ap (λ (t : Trade). Made t places) (sym trade))

pub read_again_spec : {M : Type 1} → statement M
read_again_spec =
    tie.close
    (tie.spec
    sub-cut
    pair-again-requires
    sub-stamp-again
    part-stamp-again-start
    part-stamp-again-end
    stamp-again-requires
    trade-of-requires
    returns)
