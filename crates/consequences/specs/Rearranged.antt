-- "Rearrange an accepted book's customers, or take out those who are neither pending nor in a tier, or both": a book in parts, and the
-- book of some of its customers in some order.
-- Assumes nothing.
use Rattle.std.specs.Prelude.{ℕ, zero, suc, ◌+◌, ◌*◌, ◌<◌, ◌≡◌, List, [], ◌∷◌, ◌++◌, map, Bool, false, cond, ◌||◌, length, get_or, take, drop, eqb}
use Rattle.rules.specs.declared.Standing.TheVariants.{Neither}
use Rattle.rules.specs.Text.{is}
use Rattle.rules.specs.Report.{joined}
use Rattle.rules.specs.Cascade.{Line}
use Rattle.rules.specs.declared.Trade.{Trade}
use Rattle.rules.specs.declared.Opening.{Opening}
use Rattle.rules.specs.declared.Opening.TheVariants.{Made}
use Rattle.rules.specs.declared.Opening.TheVariants.{Comma as CommaIn}
use Rattle.rules.specs.declared.Opening.TheVariants.{Malformed as NoTrade}
use Rattle.rules.specs.Figures.{fen, lots}
use Rattle.rules.specs.Stamp.{stamp}
use Rattle.rules.specs.Opening.{opening_of}
use Rattle.order.specs.Order.{Rearranged as InOtherOrder}

-- the bytes of each field as they stand, one field after the other
abbrev pub cut_in : ℕ → List ℕ → List (List ℕ)
cut_in zero s = []
cut_in (suc most) [] = []
cut_in (suc most) (tag ∷ []) = (tag ∷ []) ∷ []
cut_in (suc most) (tag ∷ high ∷ []) = (tag ∷ high ∷ []) ∷ []
cut_in (suc most) (tag ∷ high ∷ low ∷ s) =
    let n = high * 256 + low in
    (tag ∷ high ∷ low ∷ take n s) ∷ cut_in most (drop n s)

-- A book's bytes in parts: its terms, each customer's group from its C on, and what stands from Z on
pub record Parts : Type 0 where
  pub terms : List ℕ
  pub groups : List (List ℕ)
  pub end : List ℕ

-- the parts put together
abbrev pub together : Parts → List ℕ
together p = p.terms ++ joined (λ g. g) p.groups ++ p.end

-- the parts of a book that has one field more in front: a C takes what stands before the next C or Z into its group
abbrev pub behind : List ℕ → Parts → Parts
behind f p =
    cond (is "C" (get_or f 0 0)) (record { terms = []; groups = (f ++ p.terms) ∷ p.groups; end = p.end })
    (cond (is "Z" (get_or f 0 0)) (record { terms = []; groups = []; end = f ++ together p })
    (record { terms = f ++ p.terms; groups = p.groups; end = p.end }))

abbrev pub parts_in : List (List ℕ) → Parts
parts_in [] = record { terms = []; groups = []; end = [] }
parts_in (f ∷ fs) = behind f (parts_in fs)

unfoldable pub parts_of : List ℕ → Parts
parts_of s = parts_in (cut_in (length s) s)

-- the members of a list that stand at some indices, in the order of the indices
abbrev pub picked : {A : Type 0} → A → List A → List ℕ → List A
picked none l is = map (λ i. get_or l i none) is

-- a book with other groups between its terms and its end
unfoldable pub regrouped : List ℕ → List (List ℕ) → List ℕ
regrouped s gs = together (record { terms = (parts_of s).terms; groups = gs; end = (parts_of s).end })

-- the book of some of its customers, by their indices in the book, in any order
abbrev pub rearranged : List ℕ → List ℕ → List ℕ
rearranged s is = regrouped s (picked [] (parts_of s).groups is)

-- Request [2]: "Demand 3 now lets a customer's own trades be rearranged too, so long as trades of equal day and minute keep their order."
-- Request [5]: "Demand 3 keeps a customer's seats in their order." A group's fields are its C and its seats', and from the first B or A on its trades
abbrev pub is_trade : List ℕ → Bool
is_trade f = is "B" (get_or f 0 0) || is "A" (get_or f 0 0)

abbrev pub before_trades : List (List ℕ) → List (List ℕ)
before_trades [] = []
before_trades (f ∷ fs) = cond (is_trade f) [] (f ∷ before_trades fs)

abbrev pub from_trades : List (List ℕ) → List (List ℕ)
from_trades [] = []
from_trades (f ∷ fs) = cond (is_trade f) (f ∷ fs) (from_trades fs)

abbrev pub front_of : List ℕ → List (List ℕ)
front_of g = before_trades (cut_in (length g) g)

abbrev pub trades_of : List ℕ → List (List ℕ)
trades_of g = from_trades (cut_in (length g) g)

abbrev pub trade_in : Opening → Trade
trade_in (Made t x) = t
trade_in CommaIn = record { bought = false; price = fen 0; lots = lots 0; stamp = stamp 0 }
trade_in NoTrade = record { bought = false; price = fen 0; lots = lots 0; stamp = stamp 0 }

-- the trade that a field's bytes write, and when it was made
abbrev pub trade_at : List ℕ → Trade
trade_at f = trade_in (opening_of (is "B" (get_or f 0 0)) (drop 3 f))

abbrev pub made_at : List ℕ → ℕ
made_at f = (trade_at f).stamp.0

-- one group is another with its trades in another order: of every day and minute the same fields, in the same order
pub record Retraded (g h : List ℕ) : Type 0 where
  pub front : front_of g ≡ front_of h
  pub trades : InOtherOrder made_at (trades_of g) (trades_of h)

abbrev pub among : ℕ → List ℕ → Bool
among i [] = false
among i (j ∷ js) = eqb i j || among i js

abbrev pub Below : ℕ → List ℕ → Type 0
Below n [] = Unit
Below n (i ∷ is) = (i < n) × Below n is

abbrev pub Once : List ℕ → Type 0
Once [] = Unit
Once (i ∷ is) = (among i is ≡ false) × Once is

-- nobody's line, where an index is none of the book's
abbrev pub nobody : Line
nobody = record { code = []; seats = []; standing = Neither; offered = 0; pending = 0; offset = 0 }

-- indices of the lines, none twice, and whoever is left out is neither pending nor in a tier
pub record Chosen (ls : List Line) (is : List ℕ) : Type 0 where
  pub below : Below (length ls) is
  pub once : Once is
  pub bystanders : (i : ℕ) → i < length ls → among i is ≡ false → (get_or ls i nobody).standing ≡ Neither
