-- The seats as the code has them: a key for each code, in the order of the codes, and the lots beside it.
-- Assumes nothing.
use Rattle.std.specs.Prelude.{ℕ, ◌-◌, ◌≤◌, ◌<◌, min, Bool, true, false, cond, ◌&&◌, ◌||◌, ◌≡◌, List, length, get_or, ltb, eqb, Option, Some, None}
use Rattle.rules.specs.Division.{sum_of}
use Rattle.laws.specs.Sums.{up_to}
use Rattle.cutback.specs.Judge.{lots_bad}

abbrev pub at : List ℕ → ℕ → ℕ
at l i = get_or l i 0

-- whether the seat of a key and its lots goes before another
abbrev pub before_by : ℕ → ℕ → ℕ → ℕ → Bool
before_by key n other m = ltb m n || eqb m n && ltb key other

-- the lots of seat j where it goes before seat i
abbrev pub before_at : List ℕ → List ℕ → ℕ → ℕ → ℕ
before_at keys lots i j = cond (before_by (at keys j) (at lots j) (at keys i) (at lots i)) (at lots j) 0

unfoldable pub lots_before_at : List ℕ → List ℕ → ℕ → ℕ
lots_before_at keys lots i = sum_of (before_at keys lots i) (up_to (length lots))

unfoldable pub cut_at : List ℕ → List ℕ → ℕ → ℕ → ℕ
cut_at keys lots over i = min (at lots i) (over - lots_before_at keys lots i)

pub record Held (keys lots : List ℕ) : Type 0 where
  pub few : length lots ≤ 4
  pub keyed : length lots ≤ length keys
  pub small : (i : ℕ) → i < length lots → at lots i ≤ 1_000_000

-- none where lots are too many at one seat; and otherwise their sum
abbrev pub Summed : List ℕ → Option ℕ → Type 0
Summed lots None = lots_bad lots ≡ true
Summed lots (Some sum) = (lots_bad lots ≡ false) × (sum ≡ sum_of (λ n. n) lots)
