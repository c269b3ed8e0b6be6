-- The table of crowded books holds. Its books begin alike, and most of the computing is there: who was given before is asked of each of 255
-- customers. So the walk is computed once up to there, with the rest of the book left open, and each case goes on from where it stands.
-- Assumes nothing.
use Rattle.std.specs.Prelude.{ℕ, zero, suc, ◌-◌, ◌≡◌, refl, List, [], ◌∷◌, ◌++◌, Bool, true, false, cond, length, take, ltb}
use Prim.Native.String.{String}
use Rattle.std.proofs.Common.{sym, ap, subst, ◌∙◌}
use Rattle.rules.specs.declared.Terms.{Terms}
use Rattle.rules.specs.Text.{bytes}
use Rattle.rules.specs.Refusal as refusal
use Rattle.rules.specs.Limits.{longest_book}
use Rattle.rules.specs.Figures.{fen, rate, written_of, figure_of}
use Rattle.rules.specs.Stamp.{stamp_of}
use Rattle.rules.specs.Opening.{opening_of}
use Rattle.rules.specs.Codes.{is_code}
use Rattle.rules.specs.Fields.{fields_in, fields_of}
use Rattle.rules.specs.Book.{Customer, begun, seat_at, joined_by, DueSeat, Open, DueD, AtTerm, InGroup, no_terms, Reading, Stage, within, step, Verdict, Refused, walk, judge}
use Rattle.rules.specs.Answer.{answer_of, answer}
use Rattle.cases.specs.Tables.{the_seat, begins, end}
use Rattle.cases.specs.Case.{refuses, answered, holds, Holds, so, AllHold, done, ◌&◌}
use Rattle.cases.specs.Refusals.{idle, lacking}
use Rattle.cases.specs.Crowded.{nth, crowd, the256th, crowded}

abbrev gold_terms : Terms
gold_terms = record { down = true; decimals = 2; settlement = fen 40_000; loss = rate 8_000; edge1 = rate 8_000; edge2 = rate 4_000 }

-- a customer of one seat without a position
abbrev idle_of : ℕ → Customer
idle_of n = joined_by (begun (nth n)) (seat_at (bytes the_seat) 0 0 0)

abbrev read_before : List Customer → ℕ → List Customer
read_before rest zero = rest
read_before rest (suc n) = read_before (idle_of n ∷ rest) n

abbrev start : Stage
start = Reading (AtTerm DueD no_terms)

-- where the walk stands after 255 customers
unfoldable here : Stage
here = Reading (InGroup gold_terms (read_before [] 254) (Open DueSeat (idle_of 254)))

-- how many fields that is; and a bound with so many more
unfoldable many : ℕ
many = length (fields_of (crowd 255))

abbrev beyond : ℕ → ℕ → ℕ
beyond zero most = most
beyond (suc n) most = suc (beyond n most)

walked : (rest : List ℕ) (most : ℕ) → walk start 0 0 (fields_in (beyond many most) (crowd 255 ++ rest)) ≡ walk here (length (crowd 254)) (length (crowd 255)) (fields_in most rest)
unfolding written_of figure_of opening_of stamp_of is_code fields_of within step crowd here many
walked rest most = refl

judged : (s : List ℕ) (most : ℕ) → ltb longest_book (length s) ≡ false → length s ≡ most → judge s ≡ walk start 0 0 (fields_in most s)
unfolding judge fields_of
judged s most short enough = ap (λ b. cond b (Refused refusal.too_long 0) (walk start 0 0 (fields_in (length s) s))) short ∙ ap (λ m. walk start 0 0 (fields_in m s)) enough

abbrev upheld : ℕ → ℕ → Verdict → Bool
upheld number place v = answered (answer_of 0 v) number place []

abbrev most_in : List ℕ → ℕ
most_in rest = length (crowd 255 ++ rest) - many

-- the walk goes on through the rest to this number and place
record Ends (rest : List ℕ) (number place : ℕ) : Type 0 where
  short : ltb longest_book (length (crowd 255 ++ rest)) ≡ false
  enough : length (crowd 255 ++ rest) ≡ beyond many (most_in rest)
  verdict : upheld number place (walk here (length (crowd 254)) (length (crowd 255)) (fields_in (most_in rest) rest)) ≡ true

holding : (n : String) (rest : List ℕ) (number place : ℕ) → Ends rest number place → Holds n (holds (refuses n (crowd 255 ++ rest) number place))
unfolding answer
holding n rest number place e =
    let goes = judged (crowd 255 ++ rest) (beyond many (most_in rest)) e.short e.enough ∙ walked rest (most_in rest) in
    subst (Holds n) (sym e.verdict ∙ ap (upheld number place) (sym goes)) so

passes : Ends ((the256th ++ end) ++ (0 ∷ [])) 3 (length (crowd 255 ++ (the256th ++ end)))
unfolding written_of figure_of opening_of stamp_of is_code fields_of within step crowd here many
passes = record { short = refl; enough = refl; verdict = refl }

no_code : Ends (the256th ++ begins []) 10 (length (crowd 255 ++ the256th))
unfolding written_of figure_of opening_of stamp_of is_code fields_of within step crowd here many
no_code = record { short = refl; enough = refl; verdict = refl }

known : Ends (the256th ++ begins (nth 0)) 10 (length (crowd 255 ++ the256th))
unfolding written_of figure_of opening_of stamp_of is_code fields_of within step crowd here many
known = record { short = refl; enough = refl; verdict = refl }

cut : Ends (the256th ++ take 3 (begins (bytes "A"))) 2 (length (crowd 255 ++ the256th))
unfolding written_of figure_of opening_of stamp_of is_code fields_of within step crowd here many
cut = record { short = refl; enough = refl; verdict = refl }

lacks : Ends ([] ++ (lacking ++ idle "B" ++ end)) 9 (length (crowd 255 ++ []))
unfolding written_of figure_of opening_of stamp_of is_code fields_of within step crowd here many
lacks = record { short = refl; enough = refl; verdict = refl }

pub crowded_hold : AllHold crowded
unfolding crowded
crowded_hold =
    holding _ _ _ _ passes
    & holding _ _ _ _ no_code
    & holding _ _ _ _ known
    & holding _ _ _ _ cut
    & holding _ _ _ _ lacks
    & done
