-- docs/RULES.md, section 16. What a refusal says in words: its number, its place, and the field there where it is a book's.
-- Assumes nothing.
use Rattle.std.specs.Prelude.{ℕ, suc, ◌-◌, Bool, false, cond, List, [], ◌∷◌, ◌++◌, length, get_or, eqb, ltb, leb}
use Rattle.rules.specs.Text.{bytes}
use Rattle.rules.specs.Report.{digits}
use Rattle.reasons.specs.Lines.{line_of}

-- the tags of a book, in the order of their names below
abbrev pub tags : List ℕ
tags = bytes "DXSLUVCIKHQBAZ"

-- the place of a byte among them; their number where it is none of them
abbrev pub place_in : ℕ → List ℕ → ℕ
place_in t [] = 0
place_in t (x ∷ xs) = cond (eqb x t) 0 (suc (place_in t xs))

-- where no tag stands, or there is no book
abbrev pub no_tag : ℕ
no_tag = 14

-- the field that begins at a place of the book, as a place among the names; 14 where a byte is no tag, and 15 where the book has ended
abbrev pub field_at : List ℕ → ℕ → ℕ
field_at book place = cond (ltb place (length book)) (place_in (get_or book place 0) tags) 15

abbrev pub names : List ℕ
names =
    bytes "the limit D\n" ++
    bytes "the decimals X\n" ++
    bytes "the settlement price S\n" ++
    bytes "the loss edge L\n" ++
    bytes "the tier 1 edge U\n" ++
    bytes "the tier 2 edge V\n" ++
    bytes "the customer code C\n" ++
    bytes "the seat code I\n" ++
    bytes "the lots held long K\n" ++
    bytes "the lots held short H\n" ++
    bytes "the unfilled lots Q\n" ++
    bytes "the bought trade B\n" ++
    bytes "the sold trade A\n" ++
    bytes "the end Z\n"

-- what stands before a field's name, for the numbers 0 to 5
abbrev pub leads : List ℕ
leads =
    bytes "\n" ++
    bytes "\n" ++
    bytes "the book ends before the end of \n" ++
    bytes "a tag that does not belong here: \n" ++
    bytes "a comma in \n" ++
    bytes "not of its form or range: \n"

-- the words of a book's numbers, 0 to 13, where no field is named; then those of 2 where the book has ended
abbrev pub book : List ℕ
book =
    bytes "accepted\n" ++
    bytes "more than 60,000 bytes\n" ++
    bytes "the book ends before the end of a field\n" ++
    bytes "a byte that is no tag, or that follows Z\n" ++
    bytes "a comma in a figure\n" ++
    bytes "a value that is not of its form or range\n" ++
    bytes "the tier 1 edge U is not greater than the tier 2 edge V\n" ++
    bytes "this customer code was given before\n" ++
    bytes "the unfilled lots Q exceed the lots held on the locked side\n" ++
    bytes "this customer's opening trades on its net side sum to less than its net position\n" ++
    bytes "more than 256 customers\n" ++
    bytes "the report is longer than the buffer\n" ++
    bytes "this trade's price is above five times the settlement price S or below a fifth of it\n" ++
    bytes "this customer has a seat of this code already\n" ++
    bytes "the book ends where a field is due\n"

-- those of a sheet, 20 to 23; then those of 20 away from place 0
abbrev pub sheet : List ℕ
sheet =
    bytes "the mark is neither a comma nor a point\n" ++
    bytes "the other mark in a price, a rate or lots\n" ++
    bytes "a letter that begins no line, another number of parts, or no line feed\n" ++
    bytes "no room for the result\n" ++
    bytes "the first line is neither mark, nor mark.\n"

-- those of a list of days, 30 to 33; then those of 33 away from place 0
abbrev pub days : List ℕ
days =
    bytes "more than 2,001 line feeds\n" ++
    bytes "a zero price or zero open interest\n" ++
    bytes "a letter that is no mark\n" ++
    bytes "the first line is neither gold nor silver\n" ++
    bytes "a line that is not of a day's form\n"

-- those of cutting back, 40 to 44
abbrev pub cuts : List ℕ
cuts =
    bytes "the customer's type or the metal is unknown\n" ++
    bytes "the grams in one lot are not a whole figure from 1 to 1,000,000\n" ++
    bytes "a seat code is malformed or given twice\n" ++
    bytes "no seat, or more than four\n" ++
    bytes "the lots of a seat are not a whole figure from 0 to 1,000,000\n"

-- 2, 3, 4 and 5 name the field, where there is one
abbrev pub named : ℕ → ℕ → Bool
named n f = cond (ltb f 14) (cond (leb 2 n) (leb n 5) false) false

unfoldable pub with_field : ℕ → ℕ → List ℕ
with_field n f = line_of n leads ++ line_of f names

abbrev pub book_line : ℕ → ℕ → ℕ
book_line n f = cond (eqb f 15) (cond (eqb n 2) 14 n) n

unfoldable pub of_book : ℕ → ℕ → List ℕ
of_book n f = cond (named n f) (with_field n f) (line_of (book_line n f) book)

-- the line of a number in the text that begins with the words of `first`; away from place 0 the number `split` has line 4
abbrev pub line_from : ℕ → ℕ → ℕ → ℕ → ℕ
line_from first split n place = cond (eqb n split) (cond (eqb place 0) (n - first) 4) (n - first)

-- every number that a call or a program answers
abbrev pub has_words : ℕ → Bool
has_words n = cond (ltb n 20) (leb n 13) (cond (ltb n 30) (leb n 23) (cond (ltb n 40) (leb n 33) (leb n 44)))

unfoldable pub known : ℕ → ℕ → ℕ → List ℕ
known n place f =
    cond (ltb n 20) (of_book n f)
    (cond (ltb n 30) (line_of (line_from 20 20 n place) sheet)
    (cond (ltb n 40) (line_of (line_from 30 33 n place) days)
    (line_of (n - 40) cuts)))

unfoldable pub reason : ℕ → ℕ → ℕ → List ℕ
reason n place f = cond (has_words n) (known n place f) (bytes "no such number")

-- the line of a program on standard error: `allot: refused 4 at 17: a comma in the loss edge L`
abbrev pub why : ℕ → ℕ → ℕ → List ℕ
why n place f = bytes ": " ++ (reason n place f ++ bytes "\n")

abbrev pub said : List ℕ → ℕ → ℕ → ℕ → List ℕ
said program n place f = program ++ ((bytes ": refused " ++ digits n) ++ ((bytes " at " ++ digits place) ++ why n place f))
