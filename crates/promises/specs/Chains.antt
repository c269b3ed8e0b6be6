-- Each combinator of the rules is a chain of refusals: 4 for a comma, 5 for a value that is not of its form, and then what follows for the number or
-- the trade that the value writes. A trade is judged for its comma as a whole, so neither of its parts is.
-- Assumes nothing.
use Rattle.std.specs.Prelude.{ℕ, ◌≡◌, refl, Bool, true, false, cond, not, ◌&&◌, ◌||◌, List, [], ◌∷◌, length, eqb}
use Rattle.std.proofs.Common.{ap, ◌∙◌, true≢false}
use Rattle.rules.specs.declared.Form.{Form}
use Rattle.rules.specs.declared.Trade.{Trade}
use Rattle.rules.specs.declared.Written.TheVariants.{Number}
use Rattle.rules.specs.declared.Written.TheVariants.{Malformed as NoFigure}
use Rattle.rules.specs.declared.Figure.TheVariants.{Value, Comma, Malformed}
use Rattle.rules.specs.declared.Opening.TheVariants.{Made}
use Rattle.rules.specs.declared.Opening.TheVariants.{Malformed as NoTrade}
use Rattle.rules.specs.Refusal as refusal
use Rattle.rules.specs.Text.{is, bytes}
use Rattle.rules.specs.Figures.{number_after, fen, lots, price_form, traded_form, has, behind_point, number, is_written, in_range, written_of, asked, figure_of}
use Rattle.rules.specs.Stamp.{stamp, stamp_number, stamp_of}
use Rattle.rules.specs.Opening.{opening_of, wanted, trade_from, up_to_blank, after_blank}
use Rattle.rules.specs.Codes.{same}
use Rattle.rules.specs.Book.{Step, Stop, refuse, figure, trade, lock, places}
use Rattle.laws.specs.ByTest.{by_test}
use Rattle.promises.specs.Reasons.{is_figure, is_stamp, is_trade}

-- a figure with a comma, and one without
written_plain : (v : List ℕ) → has "," v ≡ false → written_of v ≡ cond (is_written v) (Number (number v) (length (behind_point v))) NoFigure
unfolding written_of
written_plain v e = rw e refl

figure_comma : (form : Form) (v : List ℕ) → has "," v ≡ true → figure_of form v ≡ Comma
unfolding figure_of written_of
figure_comma form v e = rw e refl

figure_plain : (form : Form) (v : List ℕ) → has "," v ≡ false → figure_of form v ≡ cond (is_figure form v) (Value (number v)) Malformed
unfolding figure_of
figure_plain form v e = rw (written_plain v e) (go (is_written v))
  where
    go : (a : Bool) →
        asked form (cond a (Number (number v) (length (behind_point v))) NoFigure)
        ≡ cond (a && eqb (length (behind_point v)) form.decimals && in_range form (number v)) (Value (number v)) Malformed
    go true = refl
    go false = refl

module _ {A : Type 0} where
  pub figure_chain : (form : Form) (v : List ℕ) (next : ℕ → Step A) → figure (figure_of form v) next ≡ refuse refusal.comma (has "," v) (refuse refusal.malformed (not (is_figure form v)) (next (number v)))
  figure_chain form v next = by_test (has "," v) (λ e. rw (e, figure_comma form v e) refl) (λ e. rw (e, figure_plain form v e) (go (is_figure form v)))
    where
      go : (b : Bool) → figure (cond b (Value (number v)) Malformed) next ≡ refuse refusal.malformed (not b) (next (number v))
      go true = refl
      go false = refl

  pub lock_chain : (v : List ℕ) (next : Bool → Step A) → lock v next ≡ refuse refusal.malformed (not (same v (bytes "D") || same v (bytes "U"))) (next (same v (bytes "D")))
  lock_chain v next = go (same v (bytes "D")) (same v (bytes "U"))
    where
      go : (a b : Bool) → cond a (next true) (cond b (next false) (Stop refusal.malformed)) ≡ refuse refusal.malformed (not (a || b)) (next a)
      go true b = refl
      go false true = refl
      go false false = refl

  pub places_chain : (v : List ℕ) (next : ℕ → Step A) → places v next ≡ refuse refusal.malformed (not (same v (bytes "0") || same v (bytes "2"))) (next (cond (same v (bytes "0")) 0 2))
  places_chain v next = go (same v (bytes "0")) (same v (bytes "2"))
    where
      go : (a b : Bool) → cond a (next 0) (cond b (next 2) (Stop refusal.malformed)) ≡ refuse refusal.malformed (not (a || b)) (next (cond a 0 2))
      go true b = refl
      go false true = refl
      go false false = refl

-- a value without a comma has none before its first blank, nor after it
comma_before : (v : List ℕ) → has "," v ≡ false → has "," (up_to_blank v) ≡ false
comma_before [] h = refl
comma_before (x ∷ v) h = go (is " " x) (is "," x) refl h (comma_before v)
  where
    go : (a b : Bool) → is "," x ≡ b → (b || has "," v) ≡ false → (has "," v ≡ false → has "," (up_to_blank v) ≡ false) → has "," (cond a [] (x ∷ up_to_blank v)) ≡ false
    go true b e k ih = refl
    go false true e k ih = absurd (true≢false k)
    go false false e k ih = rw e (ih k)

comma_after : (v : List ℕ) → has "," v ≡ false → has "," (after_blank v) ≡ false
comma_after [] h = refl
comma_after (x ∷ v) h = go (is " " x) (is "," x) h (comma_after v)
  where
    go : (a b : Bool) → (b || has "," v) ≡ false → (has "," v ≡ false → has "," (after_blank v) ≡ false) → has "," (cond a v (after_blank v)) ≡ false
    go a true k ih = absurd (true≢false k)
    go true false k ih = k
    go false false k ih = ih k

-- what stands behind the price, and behind the lots
abbrev behind_price : List ℕ → List ℕ
behind_price v = after_blank v

abbrev behind_lots : List ℕ → List ℕ
behind_lots v = after_blank (after_blank v)

abbrev made_at : List ℕ → ℕ
made_at v = stamp_number (number_after 0 (up_to_blank (behind_lots v))) (number_after 0 (after_blank (behind_lots v)))

abbrev pub trade_read : Bool → List ℕ → Trade
trade_read bought v =
    record { bought = bought; price = fen (number (up_to_blank v)); lots = lots (number (up_to_blank (behind_price v))); stamp = stamp (made_at v) }

module _ {A : Type 0} where
  -- a trade by its parts: price p with d decimals, n lots and stamp m, each where it is as it should be
  parts_chain :
      (x : ℕ) (bought : Bool) (p d n m : ℕ) (next : Trade → Step A) (written sold stamped : Bool) →
      trade x (trade_from bought (cond written (Number p d) NoFigure) (cond sold (Value n) Malformed) (cond stamped (Value m) Malformed)) next
      ≡ refuse refusal.malformed (not (written && eqb d x && in_range (price_form x) p && sold && stamped)) (next (record { bought = bought; price = fen p; lots = lots n; stamp = stamp m }))
  parts_chain x bought p d n m next false sold stamped = refl
  parts_chain x bought p d n m next true sold stamped = go (in_range (price_form x) p) sold stamped
    where
      go : (r sold stamped : Bool) →
          trade x (cond r (wanted (cond sold (Value n) Malformed) λ l. wanted (cond stamped (Value m) Malformed) λ e.
          Made (record { bought = bought; price = fen p; lots = lots l; stamp = stamp e }) d) NoTrade) next
          ≡ refuse refusal.malformed (not (eqb d x && r && sold && stamped)) (next (record { bought = bought; price = fen p; lots = lots n; stamp = stamp m }))
      go true true true = by_test (eqb d x) (λ e. rw e refl) (λ e. rw e refl)
      go true true false = by_test (eqb d x) (λ e. rw e refl) (λ e. rw e refl)
      go true false stamped = by_test (eqb d x) (λ e. rw e refl) (λ e. rw e refl)
      go false sold stamped = by_test (eqb d x) (λ e. rw e refl) (λ e. rw e refl)

  pub trade_chain :
      (x : ℕ) (bought : Bool) (v : List ℕ) (next : Trade → Step A) →
      trade x (opening_of bought v) next ≡ refuse refusal.comma (has "," v) (refuse refusal.malformed (not (is_trade x v)) (next (trade_read bought v)))
  unfolding opening_of stamp_of
  trade_chain x bought v next =
      let price = up_to_blank v in
      let sold = up_to_blank (behind_price v) in
      by_test (has "," v)
      (λ e. rw e refl)
      (λ e.
      rw (e, written_plain price (comma_before v e), figure_plain traded_form sold (comma_before (behind_price v) (comma_after v e)))
      (parts_chain x bought (number price) (length (behind_point price)) (number sold) (made_at v) next (is_written price) (is_figure traded_form sold)
      (is_stamp (up_to_blank (behind_lots v)) (after_blank (behind_lots v)))))

  -- 6, 8 and 12 are asked of a value that is of its form
  pub last_chain : (m n : ℕ) (good b : Bool) (next : Step A) → refuse m (not good) (refuse n b next) ≡ refuse m (not good) (refuse n (good && b) next)
  last_chain m n true b next = refl
  last_chain m n false b next = refl

  -- a trade that is judged by its price
  pub judged_chain :
      (x : ℕ) (bought : Bool) (v : List ℕ) (far : Trade → Bool) (next : Trade → Step A) → let t = trade_read bought v in
      trade x (opening_of bought v) (λ u. refuse refusal.astray (far u) (next u))
      ≡ refuse refusal.comma (has "," v) (refuse refusal.malformed (not (is_trade x v)) (refuse refusal.astray (is_trade x v && far t) (next t)))
  judged_chain x bought v far next =
      trade_chain x bought v (λ u. refuse refusal.astray (far u) (next u))
      ∙ ap (refuse refusal.comma (has "," v)) (last_chain refusal.malformed refusal.astray (is_trade x v) _ _)
