-- Columns turned into rows show the same lines; and the cascade over columns that show the same lines gives the same offsets and total, so that the cascade
-- over rows, turned back, is the cascade over columns.
-- Assumes nothing.
use Prim.Native.Nat.{ℕ, ◌+◌, ◌<◌}
use mathlib.Core.Path.{◌≡◌, refl, sym, ap, ap₂, ◌∙◌}
use mathlib.Core.List.{List, ◌++◌, map, map-map}
use native.Mathlib.Omega.{arith}
use lib.ListN.{length, get_or, drop, length-map, length-replicate}
use lib.Seq.{drop_at}
use Rattle.rules.specs.Limits.{most_customers}
use Rattle.rules.specs.Cascade.{quantity, tier}
use Rattle.laws.specs.Sums.{up_to}
use Rattle.laws.specs.Indices.{length-map_up_to}
use Rattle.laws.specs.Filled.{filled, front_at, filled_same, length_filled}
use Rattle.division.specs.Shares.{at}
use Rattle.cascade.specs.declared.Cascade.{Cascade}
use Rattle.cascade.specs.declared.rows.Row.{Row}
use Rattle.cascade.specs.Columns.{Columns, columns, line_at, lines_of}
use Rattle.cascade.specs.State.{offset_of, after_tier, after_all, Steady}
use Rattle.cascade.specs.After.{line_after_of, offset_after, total_after, lines_after, steady_all}
use Rattle.cascade.specs.Rows.{key_in, standing_in, stake_in, offset_in, row_at, no_row, no_rows, columns_of}
use Rattle.cascade.proofs.Reading.{value_is}
use Rattle.cascade.proofs.InRows.{lines_same}

-- two layouts, each with its state, that show the same lines
record Alike (c d : Columns) (st su : Cascade) : Type 0 where
  lines : lines_of c st.offset ≡ lines_of d su.offset
  total : st.total ≡ su.total

alike_after : (k : ℕ) (c d : Columns) (st su : Cascade) → Alike c d st su → Alike c d (after_tier k c st) (after_tier k d su)
alike_after k c d st su a =
    record {
      lines = lines_after k c st ∙ ap (tier k) a.lines ∙ sym (lines_after k d su);
      total = total_after k c st ∙ ap₂ (λ m n. m + n) a.total (ap (quantity k) a.lines) ∙ sym (total_after k d su);
    }

alike_all : (c d : Columns) (st su : Cascade) → Alike c d st su → Alike c d (after_all c st) (after_all d su)
alike_all c d st su a = alike_after 3 c d _ _ (alike_after 2 c d _ _ (alike_after 1 c d st su a))

-- what stands behind the customers is as it was
behind : (k : ℕ) (c : Columns) (st : Cascade) → drop c.count (after_tier k c st).offset ≡ drop c.count st.offset
behind k c st = ap (drop c.count) (offset_after k c st) ∙ drop_at (map (λ i. offset_of (line_after_of k c st i)) (up_to c.count)) (drop c.count st.offset) c.count (length-map_up_to _ c.count)

-- a state after the tiers: its own offsets over those from before
own_offsets : (c : Columns) (st : Cascade) → Steady 0 c st → filled (at (after_all c st).offset) c.count st.offset ≡ (after_all c st).offset
own_offsets c st s =
    let all = (after_all c st).offset in
    let e = behind 3 c (after_tier 2 c (after_tier 1 c st)) ∙ behind 2 c (after_tier 1 c st) ∙ behind 1 c st in
    ap (λ l. map (at all) (up_to c.count) ++ l) (sym e) ∙ filled_same (at all) c.count all 0 (steady_all c st s).wide (λ i h. refl)

offsets_of : (c : Columns) (offset : List ℕ) → map offset_of (lines_of c offset) ≡ map (at offset) (up_to c.count)
unfolding lines_of
offsets_of c offset = map-map offset_of (line_at c offset) (up_to c.count)

-- Columns turned into rows, and back.
module _ (keys standings stakes : List ℕ) (count : ℕ) (st : Cascade) (s : Steady 0 (columns keys standings stakes count) st)
    (rows : List Row) (turned : rows ≡ filled (row_at keys standings stakes st.offset) count no_rows) where
  abbrev c : Columns
  c = columns keys standings stakes count

  abbrev state : Cascade
  state = record { offset = map offset_in rows; total = st.total }

  row_is : (i : ℕ) → i < count → get_or rows i no_row ≡ row_at keys standings stakes st.offset i
  row_is i h = ap (λ (l : List Row). get_or l i no_row) turned ∙ front_at (row_at keys standings stakes st.offset) count (drop count no_rows) i no_row h

  pub value_at : (g : Row → ℕ) → g no_row ≡ 0 → (i : ℕ) → i < count → at (map g rows) i ≡ g (row_at keys standings stakes st.offset i)
  value_at g z i h = sym (value_is rows i g z) ∙ ap g (row_is i h)

  turned_lines : lines_of c st.offset ≡ lines_of (columns_of rows count) (map offset_in rows)
  turned_lines =
      lines_same count keys standings stakes st.offset (map key_in rows) (map standing_in rows) (map stake_in rows) (map offset_in rows) (λ i h j. record {
        key = sym (value_at key_in refl i h) j;
        standing = sym (value_at standing_in refl i h) j;
        stake = sym (value_at stake_in refl i h) j;
        offset = sym (value_at offset_in refl i h) j;
      })

  rows_long : length rows ≡ most_customers
  rows_long = ap length turned ∙ length_filled (row_at keys standings stakes st.offset) count no_rows (omega (arith, s.few, length-replicate most_customers no_row)) ∙ length-replicate most_customers no_row

  pub turned_steady : Steady 0 (columns_of rows count) state
  turned_steady =
      record {
        few = s.few;
        keyed = omega (arith, s.few, rows_long, length-map rows key_in);
        stood = omega (arith, s.few, rows_long, length-map rows standing_in);
        staked = omega (arith, s.few, rows_long, length-map rows stake_in);
        wide = omega (arith, s.few, rows_long, length-map rows offset_in);
        each = λ i h. record {
          within = λ z. let w = (s.each i h).within (sym (value_at standing_in refl i h) ∙ z) in omega (arith, value_at offset_in refl i h, value_at stake_in refl i h);
          small = omega (arith, (s.each i h).small, value_at stake_in refl i h);
        };
        offset = λ i h. omega (arith, s.offset i h, value_at offset_in refl i h);
        total = s.total;
      }

  -- the cascade over the rows, turned back
  pub turned_back : (end : Cascade) → end ≡ after_all (columns_of rows count) state →
      record { offset = filled (at end.offset) count st.offset; total = end.total } ≡ after_all c st
  turned_back end e =
      let a = alike_all c (columns_of rows count) st state (record { lines = turned_lines; total = refl }) in
      let same = ap (λ (x : Cascade). map (at x.offset) (up_to count)) e ∙ sym (offsets_of (columns_of rows count) _) ∙ ap (map offset_of) (sym a.lines) ∙ offsets_of c (after_all c st).offset in
      let offset = ap (λ l. l ++ drop count st.offset) same ∙ own_offsets c st s in
      let total = ap (λ (x : Cascade). x.total) e ∙ sym a.total in
      λ j. record { offset = offset j; total = total j }
