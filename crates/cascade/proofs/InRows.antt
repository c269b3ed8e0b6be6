-- The cascade over rows is the cascade over the columns that they hold: a tier changes their offsets alone; and columns that show the same lines are
-- worked alike, whatever stands behind their customers.
-- Assumes nothing.
use Prim.Native.Nat.{ℕ, zero, suc, ◌+◌, ◌≤◌, ◌<◌}
use mathlib.Core.Path.{◌≡◌, refl, sym, ap, ap₂, subst, ◌∙◌}
use mathlib.Core.List.{List, [], ◌∷◌, ◌++◌, map, map-map, map-append}
use native.Mathlib.Omega.{arith}
use lib.ListN.{length, get_or, drop, length-map}
use Rattle.rules.specs.Cascade.{quantity, tier}
use Rattle.laws.specs.Sums.{up_to}
use Rattle.laws.specs.Indices.{map_below}
use Rattle.laws.specs.Filled.{filled, front_at, filled_same}
use Rattle.division.specs.Shares.{at, Lent}
use Rattle.cascade.specs.declared.Cascade.{Cascade}
use Rattle.cascade.specs.declared.rows.Row.{Row}
use Rattle.cascade.specs.Columns.{Columns, columns, lines_of}
use Rattle.cascade.specs.State.{offset_of, after_tier, weight_at, dealt_at, Staked, Weighed, Open}
use Rattle.cascade.specs.Rows.{key_in, standing_in, stake_in, offset_in, row_at, line_in, no_row, with_offset, offset_by, columns_of}
use Rattle.cascade.proofs.Tier.{Found}
use Rattle.cascade.proofs.Tier as law
use Rattle.cascade.proofs.Reading.{value_is}

module _ {A B : Type 0} (g : A → B) where
  map-drop : (n : ℕ) (l : List A) → map g (drop n l) ≡ drop n (map g l)
  map-drop zero l = refl
  map-drop (suc n) [] = refl
  map-drop (suc n) (a ∷ l) = map-drop n l

  map_filled : (f : ℕ → A) (n : ℕ) (l : List A) → map g (filled f n l) ≡ filled (λ i. g (f i)) n (map g l)
  map_filled f n l = map-append g (map f (up_to n)) (drop n l) ∙ ap₂ ◌++◌ (map-map g f (up_to n)) (map-drop n l)

-- rows with other offsets
pub record Kept (rows after : List Row) : Type 0 where
  pub keys : map key_in after ≡ map key_in rows
  pub standings : map standing_in after ≡ map standing_in rows
  pub stakes : map stake_in after ≡ map stake_in rows

module _ (f : ℕ → ℕ) (n : ℕ) (rows : List Row) where
  pub offsets_are : map offset_in (offset_by f n rows) ≡ filled f n (map offset_in rows)
  offsets_are = map_filled offset_in (with_offset rows f) n rows

  value_kept : (g : Row → ℕ) → g no_row ≡ 0 → ((i : ℕ) → g (with_offset rows f i) ≡ g (get_or rows i no_row)) → n ≤ length rows → map g (offset_by f n rows) ≡ map g rows
  value_kept g z same h =
      map_filled g (with_offset rows f) n rows
      ∙ filled_same (λ i. g (with_offset rows f i)) n (map g rows) 0 (omega (arith, length-map rows g)) (λ i l. same i ∙ value_is rows i g z)

  pub kept : n ≤ length rows → Kept rows (offset_by f n rows)
  kept h =
      record {
        keys = value_kept key_in refl (λ i. refl) h;
        standings = value_kept standing_in refl (λ i. refl) h;
        stakes = value_kept stake_in refl (λ i. refl) h;
      }

pub columns_kept : {rows after : List Row} → Kept rows after → (count : ℕ) → columns_of after count ≡ columns_of rows count
columns_kept k count = λ j. columns (k.keys j) (k.standings j) (k.stakes j) count

-- the same offsets, named in another way
pub offset_same : {f g : ℕ → ℕ} (n : ℕ) (rows : List Row) → ((i : ℕ) → i < n → f i ≡ g i) → offset_by f n rows ≡ offset_by g n rows
offset_same n rows e =
    ap (λ p. p ++ drop n rows) (map_below _ _ n (λ i h j. record { key = (get_or rows i no_row).key; standing = (get_or rows i no_row).standing; stake = (get_or rows i no_row).stake; offset = e i h j }))

-- columns whose first rows are the same show the same lines
pub lines_same : (count : ℕ) (keys standings stakes offset keys' standings' stakes' offset' : List ℕ) →
    ((i : ℕ) → i < count → row_at keys standings stakes offset i ≡ row_at keys' standings' stakes' offset' i) →
    lines_of (columns keys standings stakes count) offset ≡ lines_of (columns keys' standings' stakes' count) offset'
unfolding lines_of
lines_same count keys standings stakes offset keys' standings' stakes' offset' same = map_below _ _ count (λ i h. ap line_in (same i h))

-- and a tier of such columns is the same, from the same state
pub tier_same : (k : ℕ) (c d : Columns) (st : Cascade) → c.count ≡ d.count → lines_of c st.offset ≡ lines_of d st.offset → after_tier k c st ≡ after_tier k d st
unfolding after_tier
tier_same k c d st n e = λ j. record { offset = map offset_of (tier k (e j)) ++ drop (n j) st.offset; total = st.total + quantity k (e j) }

-- One tier of rows, where their keys were taken out.
module _ (k count total : ℕ) (rows : List Row) (keys : List ℕ) where
  abbrev c : Columns
  c = columns keys (map standing_in rows) (map stake_in rows) count

  abbrev st : Cascade
  st = record { offset = map offset_in rows; total = total }

  -- the keys are the rows' own
  pub own_keys : (entry : List ℕ) → keys ≡ filled (at (map key_in rows)) count entry → after_tier k c st ≡ after_tier k (columns_of rows count) st
  own_keys entry e =
      let same : (i : ℕ) → i < count → at keys i ≡ at (map key_in rows) i = λ i h. ap (λ l. at l i) e ∙ front_at (at (map key_in rows)) count (drop count entry) i 0 h in
      tier_same k c (columns_of rows count) st refl
      (lines_same count keys (map standing_in rows) (map stake_in rows) (map offset_in rows) (map key_in rows) (map standing_in rows) (map stake_in rows) (map offset_in rows)
      (λ i h j. record { key = same i h j; standing = at (map standing_in rows) i; stake = at (map stake_in rows) i; offset = at (map offset_in rows) i }))

  module _ {x offered pending : ℕ} (f : Found k c st x offered pending) {entry weights : List ℕ}
      (w : Weighed (weight_at 0 (map standing_in rows) (map stake_in rows) (map offset_in rows)) count entry weights pending)
      {closed : List Row} (d : closed ≡ offset_by (dealt_at keys weights count x (map offset_in rows)) count rows) where
    -- the first division changed offsets alone
    still : Kept rows closed
    still = subst (Kept rows) (sym d) (kept (dealt_at keys weights count x (map offset_in rows)) count rows (omega (arith, f.steady.stood, length-map rows standing_in)))

    middle : map offset_in closed ≡ filled (dealt_at keys weights count x (map offset_in rows)) count (map offset_in rows)
    middle = ap (map offset_in) d ∙ offsets_are (dealt_at keys weights count x (map offset_in rows)) count rows

    pub closed_staked : Staked (map standing_in closed) (map stake_in closed) (map offset_in closed) count
    closed_staked = rw (still.standings, still.stakes) (law.mid_staked f w middle)

    module _ {entry' weights' : List ℕ} {r : ℕ}
        (v : Weighed (weight_at k (map standing_in closed) (map stake_in closed) (map offset_in closed)) count entry' weights' r) where
      weighed : Weighed (weight_at k (map standing_in rows) (map stake_in rows) (map offset_in closed)) count entry' weights' r
      weighed = rw (still.standings, still.stakes) at v

      pub closed_lent : Lent weights' keys count x offered
      closed_lent = law.offered_lent f w middle weighed

      pub closed_open : Open weights' (map offset_in closed) count
      closed_open = law.offered_open f w middle weighed

      module _ {given : List Row} (g : given ≡ offset_by (dealt_at keys weights' count x (map offset_in closed)) count closed) where
        -- and so did the second
        pub given_columns : columns_of given count ≡ columns_of rows count
        given_columns =
            let long : count ≤ length closed = omega (arith, f.steady.stood, ap length still.standings, length-map closed standing_in) in
            columns_kept (subst (Kept closed) (sym g) (kept (dealt_at keys weights' count x (map offset_in closed)) count closed long)) count ∙ columns_kept still count

        pub given_state : record { offset = map offset_in given; total = total + x } ≡ after_tier k c st
        given_state = law.worked f w middle weighed (ap (map offset_in) g ∙ offsets_are (dealt_at keys weights' count x (map offset_in closed)) count closed)
