-- docs/RULES.md, section 15. Document 01: the sizes that it sets, a name for each.
-- Assumes nothing.
use Rattle.std.specs.Prelude.{ℕ}

-- "the book has more than 60,000 bytes"
abbrev pub longest_book : ℕ
longest_book = 60_000

-- "Customers, 0 to 256 groups"
abbrev pub most_customers : ℕ
most_customers = 256

-- "customer code: 1 to 12 bytes"
abbrev pub longest_code : ℕ
longest_code = 12

-- "1 to 4 seats"
abbrev pub most_seats : ℕ
most_seats = 4
