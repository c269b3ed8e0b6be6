-- What a trade of an accepted book is made of: a price, lots, a day and a time, and three blanks between them. Read from the trade that the book's table
-- took.
-- Assumes nothing.
use Rattle.std.specs.Prelude.{ℕ, ◌<◌, ◌≡◌, refl, List, [], ◌∷◌, ◌++◌, Bool, true, false, cond, ◌&&◌, eqb, length}
use Prim.Native.Char.{Char, code}
use Rattle.std.proofs.Common.{ap, ◌∙◌, arith, eqb-true}
use Rattle.rules.specs.Text.{is}
use Rattle.rules.specs.Figures.{all_digits_of, up_to, after}
use Rattle.rules.specs.declared.Trade.{Trade}
use Rattle.rules.specs.declared.Figure.TheVariants.{Value, Malformed}
use Rattle.rules.specs.declared.Opening.TheVariants.{Made}
use Rattle.rules.specs.Figures.{number_after, traded_form}
use Rattle.rules.specs.Stamp.{is_day, is_time, stamp_number, digits_of, stamp_of}
use Rattle.rules.specs.Opening.{up_to_blank, after_blank, opening_of}
use Rattle.laws.specs.Figures.{figure_read, behind_price, behind_lots, opening_read}
use Rattle.laws.specs.ByTest.{by_test}
use Rattle.sheets_promises.specs.Bytes.{Each, Clean, Bare, digits_bare}
use Rattle.sheets_promises.specs.Values.{both, parted_length, written_made}

-- bytes with a byte in them are those up to it, it, and those after it
pub split_up : (c : Char) (v : List ℕ) → 0 < length (after c v) → v ≡ up_to c v ++ code c ∷ after c v
split_up c [] h = absurd (omega arith)
split_up c (b ∷ v) h =
    by_test (is c b)
    (λ e. rw e (ap (λ (x : ℕ). x ∷ v) (eqb-true b (code c) e)))
    (λ e. rw e (ap (λ (l : List ℕ). b ∷ l) (split_up c v (rw e at h))))

-- a price, lots, a day and a time, with blanks between them
pub record Traded (v : List ℕ) : Type 0 where
  pub price : List ℕ
  pub lots : List ℕ
  pub day : List ℕ
  pub time : List ℕ
  pub value : v ≡ price ++ code " " ∷ (lots ++ code " " ∷ (day ++ code " " ∷ time))
  pub price_clean : Each Clean price
  pub lots_bare : Each Bare lots
  pub day_bare : Each Bare day
  pub time_bare : Each Bare time

stamp_made : (day time : List ℕ) (n : ℕ) → stamp_of day time ≡ Value n → (length day ≡ 8) × (all_digits_of day ≡ true) × (length time ≡ 4) × (all_digits_of time ≡ true)
unfolding stamp_of
stamp_made day time n h = go (digits_of 8 day && digits_of 4 time && is_day (number_after 0 day) && is_time (number_after 0 time)) refl h
  where
    go : (b : Bool) → (digits_of 8 day && digits_of 4 time && is_day (number_after 0 day) && is_time (number_after 0 time)) ≡ b →
        cond b (Value (stamp_number (number_after 0 day) (number_after 0 time))) Malformed ≡ Value n → (length day ≡ 8) × (all_digits_of day ≡ true) × (length time ≡ 4) × (all_digits_of time ≡ true)
    go false e k = absurd (let z : ◌≡◌ {A = ℕ} 0 1 = cc in omega arith)
    go true e k =
        let a = (both (digits_of 8 day && digits_of 4 time && is_day (number_after 0 day)) (is_time (number_after 0 time)) e).0 in
        let b = (both (digits_of 8 day && digits_of 4 time) (is_day (number_after 0 day)) a).0 in
        let (d, t) = both (digits_of 8 day) (digits_of 4 time) b in
        let (d₁, d₂) = both (eqb (length day) 8) (all_digits_of day) d in
        let (t₁, t₂) = both (eqb (length time) 4) (all_digits_of time) t in
        (eqb-true (length day) 8 d₁, d₂, eqb-true (length time) 4 t₁, t₂)

pub opening_made : (bought : Bool) (v : List ℕ) (t : Trade) (x : ℕ) → opening_of bought v ≡ Made t x → Traded v
opening_made bought v t x h =
    let o = opening_read bought v t x h in
    let rest = behind_price v in
    let last = behind_lots v in
    let price = written_made (up_to_blank v) t.price.0 x o.price in
    let lots = written_made (up_to_blank rest) t.lots.0 0 (figure_read traded_form (up_to_blank rest) t.lots.0 o.lots).written in
    let (eight, day, four, time) = stamp_made (up_to_blank last) (after_blank last) t.stamp.0 o.stamp in
    let behind : last ≡ up_to_blank last ++ code " " ∷ after_blank last = split_up " " last (omega arith) in
    let middle : rest ≡ up_to_blank rest ++ code " " ∷ last = split_up " " rest (omega (arith, parted_length " " last)) in
    let all : v ≡ up_to_blank v ++ code " " ∷ rest = split_up " " v (omega (arith, lots.some, parted_length " " rest)) in
    record {
      price = up_to_blank v;
      lots = up_to_blank rest;
      day = up_to_blank last;
      time = after_blank last;
      value = all ∙ ap (λ (l : List ℕ). up_to_blank v ++ code " " ∷ l) (middle ∙ ap (λ (l : List ℕ). up_to_blank rest ++ code " " ∷ l) behind);
      price_clean = price.clean;
      lots_bare = lots.bare refl;
      day_bare = digits_bare (up_to_blank last) day;
      time_bare = digits_bare (after_blank last) time;
    }
