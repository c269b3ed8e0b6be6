-- A trade's value cut before its last 14 bytes: what the reader finds on the two sides, where the value is written as a trade, and what the value is
-- by what is found there.
-- Assumes nothing.
use Rattle.std.proofs.Common.{◌≡◌, ℕ, ◌+◌, List, ◌∷◌, ◌++◌, length, get_or, take, drop, sym, ap, ◌∙◌, append_assoc, arith, lit<, length-append, length-drop, take-append-drop, length-take-le, drop-drop, take_at, drop_at, eqb-true}
use Prim.Native.Char.{code}
use mathlib.Core.Bool.{and-eq-true_iff}
use Rattle.rules.specs.declared.Figure.TheVariants.{Value}
use Rattle.rules.specs.Text.{is}
use Rattle.rules.specs.Stamp.{stamp_of}
use Rattle.rules.specs.Opening.{up_to_blank, after_blank}
use Rattle.figures.specs.declared.number.Digits.TheVariants.{Number}
use Rattle.figures.specs.declared.pair.Pair.TheVariants.{Both}
use Rattle.figures.specs.Numbers.{digits_after}
use Rattle.figures.specs.Pairs.{pair_of}
use Rattle.figures.specs.Stamps.{stamp_in}
use Rattle.figures.proofs.Lists.{drop_step}
use Rattle.figures.proofs.Shapes.{written_has_none}
use Rattle.figures.proofs.Blanks.{blank_inside, up_to_part, after_part}
use Rattle.figures.proofs.Pairs.{pair_read, pair_sides}
use Rattle.figures.proofs.Stamps.{figured, valued, chosen, stamp_from, stamp_written, stamp_of_lem, stamp_parts}
use Rattle.figures.proofs.Trades.{AsTrade, made}

-- Of a value that is written as a trade.

pub trade_size : (v : List ℕ) (p x n d : ℕ) (w : AsTrade v p x n d) → length v ≡ length w.price + (1 + length w.lots) + 14
trade_size v p x n d w =
    let s = stamp_parts w.day w.time d w.stamped in
    let e = ap length w.whole ∙ length-append w.price (code " " ∷ (w.lots ++ made w.day w.time)) in
    let f = length-append w.lots (made w.day w.time) in
    omega (arith, e, f, length-append w.day (code " " ∷ w.time), s.day_size, s.time_size)

pub cut_written :
    (v : List ℕ) (cut p x n d : ℕ) → cut + 14 ≡ length v → AsTrade v p x n d →
    (pair_of (take cut v) ≡ Both p x n) × (stamp_in (drop cut v) ≡ Number d)
cut_written v cut p x n d c w =
    let s = stamp_parts w.day w.time d w.stamped in
    let front = w.price ++ (code " " ∷ w.lots) in
    let e = w.whole ∙ sym (append_assoc w.price (code " " ∷ w.lots) (made w.day w.time)) in
    let size : length front ≡ cut = omega (arith, trade_size v p x n d w, length-append w.price (code " " ∷ w.lots)) in
    let no_blank = written_has_none " " w.price p x (lit< tt) w.priced in
    let from = stamp_from (digits_after 0 w.day) (digits_after 0 w.time) in (
      ap pair_of (ap (take cut) e ∙ take_at front _ cut size)
          ∙ pair_sides front w.price w.lots p x n
          (up_to_part w.price w.lots no_blank) (after_part w.price w.lots no_blank)
          w.priced w.ranged w.traded,
      ap stamp_in (ap (drop cut) e ∙ drop_at front _ cut size)
          ∙ stamp_written w.day w.time s.day_size
          ∙ valued from d (sym (stamp_of_lem w.day w.time s.day_size s.time_size) ∙ w.stamped),
    )

-- Of any value.

stamp_split :
    (w : List ℕ) (d : ℕ) → length w ≡ 14 → stamp_in w ≡ Number d →
    (w ≡ made (take 8 (drop 1 w)) (drop 10 w)) × (stamp_of (take 8 (drop 1 w)) (drop 10 w) ≡ Value d)
stamp_split w d e h =
    let day = take 8 (drop 1 w) in
    let time = drop 10 w in
    let c = chosen _ (stamp_from (digits_after 0 day) (digits_after 0 time)) d h in
    let b = (and-eq-true_iff (is " " (get_or w 0 0)) (is " " (get_or w 9 0))).0 c.0 in
    let last = drop_step w 9 (omega arith) ∙ ap (λ (x : ℕ). x ∷ time) (eqb-true _ _ b.1) in
    let rest = sym (take-append-drop 8 (drop 1 w)) ∙ ap (λ (l : List ℕ). day ++ l) (drop-drop 8 1 w ∙ last) in (
      drop_step w 0 (omega arith) ∙ ap (λ (x : ℕ). x ∷ drop 1 w) (eqb-true _ _ b.0) ∙ ap (λ (l : List ℕ). code " " ∷ l) rest,
      stamp_of_lem day time (length-take-le 8 (drop 1 w) (simp length-drop (omega arith))) (simp length-drop (omega arith)) ∙ ap (figured) c.1,
    )

pub read_trade :
    (v : List ℕ) (cut p x n d : ℕ) → cut + 14 ≡ length v → pair_of (take cut v) ≡ Both p x n → stamp_in (drop cut v) ≡ Number d → AsTrade v p x n d
read_trade v cut p x n d c pair stamp =
    let f = take cut v in
    let w = drop cut v in
    let r = pair_read f p x n pair in
    let s = stamp_split w d (length-drop cut v ∙ omega arith) stamp in
    record {
      price = up_to_blank f;
      lots = after_blank f;
      day = take 8 (drop 1 w);
      time = drop 10 w;
      whole = sym (take-append-drop cut v)
          ∙ ap (λ (l : List ℕ). l ++ w) (blank_inside f r.inside)
          ∙ ap (λ (l : List ℕ). (up_to_blank f ++ (code " " ∷ after_blank f)) ++ l) s.0
          ∙ append_assoc (up_to_blank f) (code " " ∷ after_blank f) _;
      priced = r.price;
      ranged = r.range;
      traded = r.lots;
      stamped = s.1;
    }
