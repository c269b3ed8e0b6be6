-- What the code says of a sheet by places in its bytes: where a part ends, and the parts of the line that begins at a place.
-- Assumes nothing.
use Rattle.std.specs.Prelude.{ℕ, suc, ◌+◌, ◌-◌, ◌≤◌, ◌<◌, ◌≡◌, List, [], ◌∷◌, Bool, true, false, cond, ◌||◌, length, get_or, take, drop, eqb, Option, Some, None}
use Rattle.rules.specs.Text.{is}
use Rattle.rules.specs.Book.{Step, Stop}
use Rattle.sheets.specs.declared.line.Line.{Line}
use Rattle.sheets.specs.declared.line.Line.TheVariants.{One, Four}
use Rattle.sheets.specs.declared.line.Parts.{Parts as Ends}
use Rattle.sheets.specs.Refusal as refusal
use Rattle.sheets.specs.Mark.{stands_in}
use Rattle.sheets.specs.Line.{onto, of_parts}

-- a byte that ends a part, and the bytes up to the first such
abbrev pub stops : ℕ → Bool
stops b = is "\n" b || is ";" b

abbrev pub stopless : List ℕ → List ℕ
stopless [] = []
stopless (x ∷ v) = cond (stops x) [] (x ∷ stopless v)

-- a byte stands in front
abbrev pub leads : ℕ → List ℕ → Bool
leads b [] = false
leads b (x ∷ v) = eqb x b

-- where the part ends that begins at a place; none where another byte stands there
abbrev pub PartUpTo : List ℕ → ℕ → ℕ → Option ℕ → Type 0
PartUpTo s from b None = leads b (drop (from + length (stopless (drop from s))) s) ≡ false
PartUpTo s from b (Some end) = (end ≡ from + length (stopless (drop from s))) × (leads b (drop end s) ≡ true)

-- the bytes from one place up to another, as Rattle has a part of a slice
abbrev pub between : ℕ → ℕ → List ℕ → List ℕ
between from to s = take (to - from) (drop from s)

-- no semicolon stands in a part
abbrev pub Plain : List ℕ → Type 0
Plain v = stands_in 59 v ≡ false

-- the line at the front of some bytes: its parts, and how many bytes it has with its line feed; or no line feed ends it
pub data Front : Type 0 where
  Unended : Front
  Parts : List (List ℕ) → ℕ → Front

abbrev pub with_part : List ℕ → Front → Front
with_part p Unended = Unended
with_part p (Parts ps n) = Parts (p ∷ ps) (suc (length p + n))

abbrev pub with_byte : ℕ → Front → Front
with_byte x Unended = Unended
with_byte x (Parts ps n) = Parts (onto x ps) (suc n)

unfoldable pub front_of : List ℕ → Front
front_of [] = Unended
front_of (x ∷ v) = cond (is "\n" x) (Parts ([] ∷ []) 1) (cond (is ";" x) (with_part [] (front_of v)) (with_byte x (front_of v)))

-- what it comes to, and its bytes
abbrev pub of_front : ℕ → Front → Step (List ℕ)
of_front mark Unended = Stop refusal.no_line
of_front mark (Parts ps n) = of_parts mark ps

abbrev pub size_of : Front → ℕ
size_of Unended = 0
size_of (Parts ps n) = n

-- a line of one part behind its letter; of four, of which the first three end at a, b and c
pub record HasOne (s : List ℕ) (at tag end : ℕ) : Type 0 where
  pub front : front_of (drop at s) ≡ Parts ((tag ∷ []) ∷ between (at + 2) end s ∷ []) (suc end - at)
  pub begins : at + 2 ≤ end
  pub ends : end < length s

pub record HasFour (s : List ℕ) (at tag a b c end : ℕ) : Type 0 where
  pub front : front_of (drop at s)
      ≡ Parts ((tag ∷ []) ∷ between (at + 2) a s ∷ between (a + 1) b s ∷ between (b + 1) c s ∷ between (c + 1) end s ∷ []) (suc end - at)
  pub begins : at + 2 ≤ a
  pub second : a < b
  pub third : b < c
  pub fourth : c < end
  pub ends : end < length s
  pub parted : (get_or s a 0 ≡ 59) × (get_or s b 0 ≡ 59) × (get_or s c 0 ≡ 59)
  pub plain : Plain (between (at + 2) a s) × Plain (between (a + 1) b s) × Plain (between (b + 1) c s) × Plain (between (c + 1) end s)

abbrev pub HasParts : List ℕ → ℕ → ℕ → Ends → Type 0
HasParts s at tag p = HasFour s at tag p.first p.second p.third p.end

abbrev pub Shows : List ℕ → ℕ → Option Line → Type 0
Shows s at (Some (One tag end)) = HasOne s at tag end
Shows s at (Some (Four tag parts)) = HasParts s at tag parts
Shows s at None = (mark : ℕ) → of_front mark (front_of (drop at s)) ≡ Stop refusal.no_line

-- a line's letter and its first part are read, and a semicolon follows
pub record Begun (s : List ℕ) (at a : ℕ) : Type 0 where
  pub front : front_of (drop at s) ≡ with_part (get_or s at 0 ∷ []) (with_part (between (at + 2) a s) (front_of (drop (a + 1) s)))
  pub begins : at + 2 ≤ a
  pub inside : a < length s
  pub parted : get_or s a 0 ≡ 59
  pub plain : Plain (between (at + 2) a s)
