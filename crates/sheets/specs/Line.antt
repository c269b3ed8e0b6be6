-- docs/SHEETS.md. Request [8]: "then one line per term (S;400,00), customer (C;P1), seat (I;code;K;H;Q) or trade (B;price;lots;day;time)".
-- What one line comes to: its fields of the book, or the number of its refusal.
-- Assumes nothing.
use Rattle.std.specs.Prelude.{ℕ, ◌/◌, ◌%◌, List, [], ◌∷◌, ◌++◌, Bool, cond, ◌||◌, length}
use Prim.Native.Char.{code}
use Rattle.rules.specs.Text.{is}
use Rattle.rules.specs.Book.{Step, Stop, Next, refuse}
use Rattle.sheets.specs.Refusal as refusal
use Rattle.sheets.specs.Mark.{other, in_book, stands_in}

-- "parts between semicolons": one more than there are semicolons; "Empty parts are parts"
abbrev pub onto : ℕ → List (List ℕ) → List (List ℕ)
onto b [] = (b ∷ []) ∷ []
onto b (p ∷ ps) = (b ∷ p) ∷ ps

unfoldable pub parts_of : List ℕ → List (List ℕ)
parts_of [] = [] ∷ []
parts_of (b ∷ v) = cond (is ";" b) ([] ∷ parts_of v) (onto b (parts_of v))

-- "Codes, D, X, day and time are carried over as they are."
abbrev pub carried : ℕ → Bool
carried t = is "D" t || is "X" t || is "C" t

-- "a price, rate or lots figure (S, L, U, V; K, H, Q; price and lots of a trade)"
abbrev pub figured : ℕ → Bool
figured t = is "S" t || is "L" t || is "U" t || is "V" t

abbrev pub traded : ℕ → Bool
traded t = is "B" t || is "A" t

-- "a one-byte tag, a two-byte length (high byte first) and that many bytes of value"
abbrev pub field_of : ℕ → List ℕ → List ℕ
field_of t v = t ∷ length v / 256 ∷ length v % 256 ∷ v

module _ (mark : ℕ) where
  -- "21: the other mark in a .. figure"
  abbrev pub strays : List ℕ → Bool
  strays v = stands_in (other mark) v

  -- "D, X, S, L, U, V, C one"; "Each line makes its field"
  abbrev pub one_of : ℕ → List ℕ → Step (List ℕ)
  one_of t v =
      cond (carried t) (Next (field_of t v))
      (cond (figured t) (refuse refusal.other_mark (strays v) (Next (field_of t (in_book mark v))))
      (Stop refusal.no_line))

  -- "I four (code, K, H, Q)"; "an I line its four"
  abbrev pub seat_of : ℕ → List ℕ → List ℕ → List ℕ → List ℕ → List ℕ
  seat_of t i k h q = field_of t i ++ field_of (code "K") (in_book mark k) ++ field_of (code "H") (in_book mark h) ++ field_of (code "Q") (in_book mark q)

  -- "B and A four (price, lots, day, time)"; "a trade's parts joined by one blank"
  abbrev pub trade_of : List ℕ → List ℕ → List ℕ → List ℕ → List ℕ
  trade_of price lots day time = in_book mark price ++ code " " ∷ in_book mark lots ++ code " " ∷ day ++ code " " ∷ time

  abbrev pub four_of : ℕ → List ℕ → List ℕ → List ℕ → List ℕ → Step (List ℕ)
  four_of t a b c d =
      cond (is "I" t) (refuse refusal.other_mark (strays b || strays c || strays d) (Next (seat_of t a b c d)))
      (cond (traded t) (refuse refusal.other_mark (strays a || strays b) (Next (field_of t (trade_of a b c d))))
      (Stop refusal.no_line))

  -- "another number of parts"
  abbrev pub lettered : ℕ → List (List ℕ) → Step (List ℕ)
  lettered t [] = Stop refusal.no_line
  lettered t (v ∷ []) = one_of t v
  lettered t (a ∷ b ∷ []) = Stop refusal.no_line
  lettered t (a ∷ b ∷ c ∷ []) = Stop refusal.no_line
  lettered t (a ∷ b ∷ c ∷ d ∷ []) = four_of t a b c d
  lettered t (a ∷ b ∷ c ∷ d ∷ e ∷ ps) = Stop refusal.no_line

  -- "a letter that is none of these (an empty line, K, Q, Z, two letters, another mark line)"
  abbrev pub of_parts : List (List ℕ) → Step (List ℕ)
  of_parts [] = Stop refusal.no_line
  of_parts ([] ∷ ps) = Stop refusal.no_line
  of_parts ((t ∷ []) ∷ ps) = lettered t ps
  of_parts ((t ∷ u ∷ v) ∷ ps) = Stop refusal.no_line

  unfoldable pub line_of : List ℕ → Step (List ℕ)
  line_of v = of_parts (parts_of v)
