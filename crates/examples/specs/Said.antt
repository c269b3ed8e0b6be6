-- What is said of refusals and what command lines ask for, computed: docs/RULES.md, sections 16 and 17.
-- Assumes nothing.
use Rattle.std.specs.Prelude.{ℕ, ◌+◌, ◌≡◌, refl, List, [], ◌∷◌, map, length, false, cond}
use Prim.Native.String.{String}
use Rattle.rules.specs.Text.{bytes}
use Rattle.rules.specs.Report.{digits}
use Rattle.cases.specs.Cases.{the_listing}
use Rattle.reasons.specs.Lines.{line_of}
use Rattle.reasons.specs.Reason.{tags, place_in, no_tag, field_at, with_field, of_book, known, reason, said}
use Rattle.command.specs.declared.Asked.{Asked}
use Rattle.command.specs.declared.Asked.TheVariants.{Nothing, Input, Named, Usage, Number, Unknown, Second}
use Rattle.command.specs.declared.Seen.{Seen}
use Rattle.command.specs.Asked.{word_of, meant_of, step_of, settled_of}

-- the comma in document 01's listing
pub of_the_comma : said (bytes "allot") 4 17 (field_at (the_listing "8,000") 17) ≡ bytes "allot: refused 4 at 17: a comma in the loss edge L\n"
unfolding digits line_of with_field of_book known reason
of_the_comma = refl

-- every field by its tag, and a byte that is none
pub of_fields :
    map (λ (t : ℕ). reason 2 0 (place_in t tags)) (bytes "DXSLUVCIKHQBAZx") ≡
    map bytes (
    "the book ends before the end of the limit D"
    ∷ "the book ends before the end of the decimals X"
    ∷ "the book ends before the end of the settlement price S"
    ∷ "the book ends before the end of the loss edge L"
    ∷ "the book ends before the end of the tier 1 edge U"
    ∷ "the book ends before the end of the tier 2 edge V"
    ∷ "the book ends before the end of the customer code C"
    ∷ "the book ends before the end of the seat code I"
    ∷ "the book ends before the end of the lots held long K"
    ∷ "the book ends before the end of the lots held short H"
    ∷ "the book ends before the end of the unfilled lots Q"
    ∷ "the book ends before the end of the bought trade B"
    ∷ "the book ends before the end of the sold trade A"
    ∷ "the book ends before the end of the end Z"
    ∷ "the book ends before the end of a field"
    ∷ []
    )
unfolding line_of with_field of_book known reason
of_fields = refl

-- every number at the settlement price S, whose place among the tags is 2; and numbers that are none
pub of_numbers :
    map (λ (n : ℕ). reason n 7 2) (0 ∷ 1 ∷ 2 ∷ 3 ∷ 4 ∷ 5 ∷ 6 ∷ 7 ∷ 8 ∷ 9 ∷ 10 ∷ 11 ∷ 12 ∷ 13 ∷ 14 ∷ 19 ∷ 24 ∷ 29 ∷ 34 ∷ 39 ∷ 45 ∷ 4294967296 ∷ []) ≡
    map bytes (
    "accepted"
    ∷ "more than 60,000 bytes"
    ∷ "the book ends before the end of the settlement price S"
    ∷ "a tag that does not belong here: the settlement price S"
    ∷ "a comma in the settlement price S"
    ∷ "not of its form or range: the settlement price S"
    ∷ "the tier 1 edge U is not greater than the tier 2 edge V"
    ∷ "this customer code was given before"
    ∷ "the unfilled lots Q exceed the lots held on the locked side"
    ∷ "this customer's opening trades on its net side sum to less than its net position"
    ∷ "more than 256 customers"
    ∷ "the report is longer than the buffer"
    ∷ "this trade's price is above five times the settlement price S or below a fifth of it"
    ∷ "this customer has a seat of this code already"
    ∷ "no such number"
    ∷ "no such number"
    ∷ "no such number"
    ∷ "no such number"
    ∷ "no such number"
    ∷ "no such number"
    ∷ "no such number"
    ∷ "no such number"
    ∷ []
    )
unfolding line_of with_field of_book known reason
of_numbers = refl

-- what has no field: a sheet, a list of days and cutting back, at place 0 and at another, where 20 and 33 say something else
pub of_others :
    map (λ (n : ℕ). reason n 0 no_tag) (20 ∷ 21 ∷ 22 ∷ 23 ∷ 30 ∷ 31 ∷ 32 ∷ 33 ∷ 40 ∷ 41 ∷ 42 ∷ 43 ∷ 44 ∷ []) ≡
    map bytes (
    "the mark is neither a comma nor a point"
    ∷ "the other mark in a price, a rate or lots"
    ∷ "a letter that begins no line, another number of parts, or no line feed"
    ∷ "no room for the result"
    ∷ "more than 2,001 line feeds"
    ∷ "a zero price or zero open interest"
    ∷ "a letter that is no mark"
    ∷ "the first line is neither gold nor silver"
    ∷ "the customer's type or the metal is unknown"
    ∷ "the grams in one lot are not a whole figure from 1 to 1,000,000"
    ∷ "a seat code is malformed or given twice"
    ∷ "no seat, or more than four"
    ∷ "the lots of a seat are not a whole figure from 0 to 1,000,000"
    ∷ []
    )
unfolding line_of with_field of_book known reason
of_others = refl

pub of_others_elsewhere :
    map (λ (n : ℕ). reason n 3 no_tag) (20 ∷ 21 ∷ 22 ∷ 23 ∷ 30 ∷ 31 ∷ 32 ∷ 33 ∷ 40 ∷ 41 ∷ 42 ∷ 43 ∷ 44 ∷ []) ≡
    map bytes (
    "the first line is neither mark, nor mark."
    ∷ "the other mark in a price, a rate or lots"
    ∷ "a letter that begins no line, another number of parts, or no line feed"
    ∷ "no room for the result"
    ∷ "more than 2,001 line feeds"
    ∷ "a zero price or zero open interest"
    ∷ "a letter that is no mark"
    ∷ "a line that is not of a day's form"
    ∷ "the customer's type or the metal is unknown"
    ∷ "the grams in one lot are not a whole figure from 1 to 1,000,000"
    ∷ "a seat code is malformed or given twice"
    ∷ "no seat, or more than four"
    ∷ "the lots of a seat are not a whole figure from 0 to 1,000,000"
    ∷ []
    )
unfolding line_of with_field of_book known reason
of_others_elsewhere = refl

-- no tag stands at the place, and no byte does: an empty book, one without Z, and a line feed behind Z
pub without_a_field :
    map (λ (b : List ℕ). reason 2 (length b) (field_at b (length b))) ([] ∷ bytes "D" ∷ []) ≡
    map bytes ("the book ends where a field is due" ∷ "the book ends where a field is due" ∷ [])
unfolding line_of with_field of_book known reason
without_a_field = refl

pub behind_the_end : (reason 3 0 (field_at (bytes "\n") 0) ≡ bytes "a byte that is no tag, or that follows Z") × (reason 9 0 15 ≡ reason 9 0 5)
unfolding line_of with_field of_book known reason
behind_the_end = (refl, refl)

-- what a command line asks for: the words behind the program's name, each with its place
abbrev asked : ℕ → Seen → List String → Asked
asked i seen [] = seen.asked
asked i seen (w ∷ rest) = cond (settled_of seen.asked) seen.asked (asked (i + 1) (step_of seen (meant_of (word_of (bytes w)) seen.ended) i) rest)

abbrev line : List String → Asked
line = asked 1 (record { asked = Nothing; ended = false })

pub of_lines :
    map line (
    []
    ∷ ("-" ∷ [])
    ∷ ("desk.book" ∷ [])
    ∷ ("desk.book" ∷ "--help" ∷ [])
    ∷ ("--version" ∷ "--none" ∷ [])
    ∷ ("--none" ∷ "--help" ∷ [])
    ∷ ("--helpful" ∷ [])
    ∷ ("-h" ∷ [])
    ∷ ("desk.book" ∷ "other.book" ∷ "--help" ∷ [])
    ∷ ("-" ∷ "desk.book" ∷ [])
    ∷ ("--" ∷ "--help" ∷ [])
    ∷ ("--" ∷ "-" ∷ [])
    ∷ ("--" ∷ "--" ∷ [])
    ∷ ("" ∷ [])
    ∷ []
    ) ≡
    Nothing ∷ Input ∷ Named 1 ∷ Usage ∷ Number ∷ Unknown 1 ∷ Unknown 1 ∷ Unknown 1 ∷ Second 2 ∷ Second 2 ∷ Named 2 ∷ Input ∷ Named 2 ∷ Named 1 ∷ []
unfolding word_of
of_lines = refl
