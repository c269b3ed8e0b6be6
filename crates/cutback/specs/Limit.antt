-- docs/POSITION-LIMIT.md. Request [13], "Article 34: a corporate customer may hold 2 metric tons of deferred gold or 80 of silver, an
-- individual 1 or 20".
-- Assumes nothing.
use Rattle.std.specs.Prelude.{ℕ, ◌*◌, ◌/◌, cond, List, Option, Some, None, eqb}
use Rattle.rules.specs.Text.{bytes}
use Rattle.rules.specs.Codes.{same}

-- "a ton being 1,000,000 grams"
abbrev pub ton : ℕ
ton = 1_000_000

-- "gold or silver, and nothing else": 0 where the metal is another
abbrev pub by_metal : List ℕ → ℕ → ℕ → ℕ
by_metal metal gold silver = cond (same metal (bytes "gold")) gold (cond (same metal (bytes "silver")) silver 0)

-- Article 34, table 2, in metric tons; 0 where the type or the metal is unknown
unfoldable pub tons : List ℕ → List ℕ → ℕ
tons kind metal =
    cond (same kind (bytes "corporate")) (by_metal metal 2 80) (
    cond (same kind (bytes "individual")) (by_metal metal 1 20) 0)

-- "What may stay is the whole part of limit / grams."
abbrev pub may_stay : List ℕ → List ℕ → ℕ → ℕ
may_stay kind metal grams = tons kind metal * ton / grams

-- the same as code has it: none where the metal is another, and where the limit is 0
abbrev pub in_metal : List ℕ → ℕ → ℕ → Option ℕ
in_metal metal gold silver = cond (same metal (bytes "gold")) (Some gold) (cond (same metal (bytes "silver")) (Some silver) None)

abbrev pub some_tons : ℕ → Option ℕ
some_tons n = cond (eqb n 0) None (Some n)
