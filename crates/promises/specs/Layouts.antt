-- Request [10]: "show that both layouts hold the same customers and give the same reports". Of the code, from its contracts: columns turned into rows and back,
-- and rows turned into columns and back, are the same; the report of a call in rows is that of a call in columns; and what a viewer sees in its columns is
-- what the report says.
-- Assumes nothing.
use Rattle.std.specs.Prelude.{ℕ, ◌≤◌, ◌<◌, ◌≡◌, refl, List, map, length, get_or, drop}
use Rattle.std.proofs.Common.{sym, ap, ap₂, ◌∙◌}
use Rattle.std.proofs.lemmas.Simd.{map-map}
use Rattle.std.proofs.Math.ListN.{get_or-map}
use Rattle.rules.specs.declared.Terms.{Terms}
use Rattle.rules.specs.Book.{Customer}
use Rattle.rules.specs.Cascade.{Line, line_of, after, tier, cascade, outcome}
use Rattle.rules.specs.Report.{letter}
use Rattle.rules.specs.Answer.{answer, lent}
use Rattle.rules.specs.Answer.{Answer as Answer01}
use Rattle.laws.specs.Filled.{filled, front_at, filled_same}
use Rattle.division.specs.Shares.{at}
use Rattle.cascade.specs.declared.rows.Row.{Row}
use Rattle.cascade.specs.State.{offset_of}
use Rattle.cascade.specs.Rows.{key_in, standing_in, stake_in, offset_in, row_at, no_row, no_rows, Turnable, Turned}
use Rattle.columns.specs.Layouts.{standing_of}
use Rattle.columns.specs.View.{view}
use Rattle.promises.specs.Call.{Call, book_of, lent_to, left_by}

-- Columns into rows, and these into the same columns: nothing changes.
module _ {keys standings stakes offset keys' standings' stakes' offset' : List ℕ} {count : ℕ} {rows : List Row}
    (wide : Turnable keys standings stakes offset count)
    (there : rows ≡ filled (row_at keys standings stakes offset) count no_rows)
    (back : Turned rows count keys standings stakes offset keys' standings' stakes' offset') where
  run_back : (g : Row → ℕ) → g no_row ≡ 0 → (run : List ℕ) → count ≤ length run → ((i : ℕ) → g (row_at keys standings stakes offset i) ≡ at run i) → filled (at (map g rows)) count run ≡ run
  run_back g z run h same =
      filled_same (at (map g rows)) count run 0 h (λ i l.
      ap (get_or (map g rows) i) (sym z) ∙ get_or-map g rows i no_row
      ∙ ap (λ (r : List Row). g (get_or r i no_row)) there ∙ ap g (front_at (row_at keys standings stakes offset) count (drop count no_rows) i no_row l) ∙ same i)

  pub columns_again : (keys' ≡ keys) × (standings' ≡ standings) × (stakes' ≡ stakes) × (offset' ≡ offset)
  columns_again = (
    back.keyed ∙ run_back key_in refl keys wide.keyed (λ i. refl),
    back.stood ∙ run_back standing_in refl standings wide.stood (λ i. refl),
    back.staked ∙ run_back stake_in refl stakes wide.staked (λ i. refl),
    back.wide ∙ run_back offset_in refl offset wide.wide (λ i. refl),
  )

-- Rows into columns, and these into rows: the customers' rows are as they were.
pub rows_again : {rows rows' : List Row} {count : ℕ} {keys₀ standings₀ stakes₀ offset₀ keys standings stakes offset : List ℕ} →
    Turned rows count keys₀ standings₀ stakes₀ offset₀ keys standings stakes offset → rows' ≡ filled (row_at keys standings stakes offset) count no_rows →
    (i : ℕ) → i < count → get_or rows' i no_row ≡ get_or rows i no_row
rows_again {rows} {rows'} {count} {keys₀} {standings₀} {stakes₀} {offset₀} {keys} {standings} {stakes} {offset} there back i h =
    ap (λ (r : List Row). get_or r i no_row) back ∙ front_at (row_at keys standings stakes offset) count (drop count no_rows) i no_row h
    ∙ (λ j. record { key = value key_in refl keys₀ there.keyed j; standing = value standing_in refl standings₀ there.stood j; stake = value stake_in refl stakes₀ there.staked j; offset = value offset_in refl offset₀ there.wide j })
  where
    value : (g : Row → ℕ) → g no_row ≡ 0 → {run : List ℕ} (run₀ : List ℕ) → run ≡ filled (at (map g rows)) count run₀ → at run i ≡ g (get_or rows i no_row)
    value g z run₀ e = ap (λ l. at l i) e ∙ front_at (at (map g rows)) count (drop count run₀) i 0 h ∙ ap (get_or (map g rows) i) (sym z) ∙ get_or-map g rows i no_row

-- Two calls with the same book and buffer, in whatever layout (`of-allot-in`), give the same answer and leave the same bytes.
pub same_reports : (c d : Call) → book_of c ≡ book_of d → lent_to c ≡ lent_to d → (c.answer ≡ d.answer) × (left_by c ≡ left_by d)
same_reports c d book buffer =
    let e : answer (book_of c) (length (lent_to c)) ≡ answer (book_of d) (length (lent_to d)) = ap₂ (λ s b. answer s (length b)) book buffer in
    let number = c.contract.number ∙ ap (λ (a : Answer01). a.number) e ∙ sym d.contract.number in
    let place = c.contract.place ∙ ap (λ (a : Answer01). a.place) e ∙ sym d.contract.place in
    let size = c.contract.length ∙ ap (λ (a : Answer01). a.length) e ∙ sym d.contract.length in (
      λ i. record { number = number i; place = place i; length = size i },
      c.contract.buffer ∙ ap₂ lent e buffer ∙ sym d.contract.buffer,
    )

-- What a viewer sees is what the report says: the standings and the offsets of the outcome's lines, in book order.
standings_kept : (k : ℕ) (ls : List Line) → map standing_of (tier k ls) ≡ map standing_of ls
unfolding after
standings_kept k ls = map-map standing_of (after k ls) ls

pub view_tells : (terms : Terms) (cs : List Customer) →
    ((view terms cs).standings ≡ map letter (map standing_of (outcome terms cs).lines)) × ((view terms cs).offsets ≡ map offset_of (outcome terms cs).lines)
unfolding view outcome cascade
view_tells terms cs =
    let ls = map (line_of terms) cs in
    (ap (map letter) (sym (standings_kept 3 (tier 2 (tier 1 ls)) ∙ standings_kept 2 (tier 1 ls) ∙ standings_kept 1 ls)), refl)
