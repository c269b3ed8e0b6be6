-- `terms::letter_at` meets its contract: the field that stands there has the tag, and its value is one byte.
-- Assumes nothing.
use borrow.Author.Tests.{eq-eqb, ne_eqb}
use Prim.Native.Nat.{ℕ, ◌≤◌, ◌+◌, ◌-◌}
use native.Mathlib.Omega.{arith}
use mathlib.Core.Path.{◌≡◌, sym, ap, ◌∙◌}
use mathlib.Core.List.{List}
use mathlib.Core.Bool.{true, false, cond}
use lib.ListN.{length, take, drop, get_or}
use lib.Dec.{eqb}
use Rattle.rules.specs.Refusal as refusal
use Rattle.rules.specs.Fields.{fields_of}
use Rattle.fields.specs.Laws.{Stands, stands}
use Rattle.terms.proofs.Found.{letter_short, letter_found}
use Rattle.terms.specs.declared.LetterAt.{LetterAt}
use Rattle.terms.specs.declared.LetterAt.TheVariants.{Chosen}
use Rattle.terms.specs.declared.LetterAt.TheVariants.{Refused as NoLetter}
use Rattle.fields.specs.Reading.{refused_at}
use Rattle.terms.specs.Terms.{letter_at_of, letter_from}
use Rattle.terms.proofs.OneByte.{letter_long, letter_one}
use borrow.Author.Rules.{rules}
use Rattle.terms.proofs.letter_at.Statement.{statement}
use Rattle.terms.proofs.letter_at.Tie as tie

-- the field that was found
module _ (c : tie.In-Field) where
  abbrev start_of : tie.Start
  start_of = c.before.before.before

  abbrev book : List ℕ
  book = start_of.args.book.now

  abbrev at : ℕ
  at = start_of.args.at

  abbrev tag : ℕ
  tag = c.in-Field.found

  abbrev start : ℕ
  start = c.in-Field.start

  abbrev end : ℕ
  end = c.in-Field.end

  abbrev answer : LetterAt
  answer = letter_from at start_of.args.tag start_of.args.first start_of.args.second (fields_of (drop at book))

  there : Stands book at tag start end
  there = stands book at _ _ _ (sym c.field_at.ensures ∙ c.in-Field.is)

  -- it has the tag, and its value is compared
  found : tag ≡ start_of.args.tag → answer ≡ letter_at_of at start_of.args.first start_of.args.second end (take (end - start) (drop start book))
  found t = letter_found book at _ start end there _ _ _ ∙ rw (eq-eqb tag start_of.args.tag t)

  one : tag ≡ start_of.args.tag → end ≡ start + 1 →
      answer ≡ cond (eqb (get_or book start 0) start_of.args.first) (Chosen true end)
      (cond (eqb (get_or book start 0) start_of.args.second) (Chosen false end) (NoLetter (refused_at refusal.malformed at)))
  one t e =
      let n : end - start ≡ 1 = omega arith in
      found t ∙ ap (λ (k : ℕ). letter_at_of at start_of.args.first start_of.args.second end (take k (drop start book))) n
      ∙ letter_one at _ _ end book start (omega (arith, there.inside))

  another : tag ≡ start_of.args.tag → (end ≡ start + 1 → ⊥) → answer ≡ NoLetter (refused_at refusal.malformed at)
  another t e =
      let n = take (end - start) (drop start book) in
      let o : (length n ≡ 1) → ⊥ = λ (z : length n ≡ 1). e (let w : end - start ≡ 1 = sym there.size ∙ z in let l : start ≤ end = there.order in omega arith) in
      found t ∙ letter_long at _ _ end n o

field-at-requires : tie.Need-field_at-requires
field-at-requires c κs = search rules

enum-known-found : tie.Need-enum_known-found
enum-known-found c = search rules

enum_told : tie.Need-enum_told-1
enum_told c = search rules

no-letter-requires : tie.Need-no_letter-requires
no-letter-requires c κs = search rules

returns : tie.Need-returns-in_default
returns c =
    let b = c in
    let a = b.args in
    c.no_letter.ensures ∙ sym (letter_short a.at (fields_of (drop a.at a.book.now)) (sym b.field_at.ensures ∙ c.in_default.is) _ _ _)

no-letter-requires-2 : tie.Need-no_letter-requires-then-found-tag
no-letter-requires-2 c κs = search rules

returns-2 : tie.Need-returns-then-found-tag
returns-2 c = let k = c in c.no_letter-then-found-tag.ensures ∙ simp (letter_found (book c.before.before) (at c.before.before) (tag c.before.before) (start c.before.before) (end c.before.before) (there c.before.before) (start_of c.before.before).args.tag (start_of c.before.before).args.first (start_of c.before.before).args.second, ne_eqb _ _ c.if-found-tag.true)

add-if2 : tie.Need-overflow_add-start
add-if2 c = let k = there c.before in omega (arith, k.order, k.inside, k.begins)

no-letter-requires-3 : tie.Need-no_letter-requires-then-end-start
no-letter-requires-3 c κs = search rules

returns-3 : tie.Need-returns-then-end-start
returns-3 c = let e = c in c.no_letter-then-end-start.ensures ∙ sym (another c.before.before.before e.if-found-tag.false c.if-end-start.true)

shared-slice-read-if3 : tie.Need-bounds-book-start
shared-slice-read-if3 c = omega (arith, (there c.before.before.before).inside, c.if-end-start.false)

returns-4 : tie.Need-returns-then-book-start
returns-4 c = let e = c in simp (one c.before.before.before.before e.if-found-tag.false e.if-end-start.false, eq-eqb _ _ c.if-book-start.true)

shared-slice-read-if4 : tie.Need-bounds-book-start-2
shared-slice-read-if4 c = let e = c in omega (arith, (there c.before.before.before.before.before).inside, e.if-end-start.false)

returns-5 : tie.Need-returns-then-book-start-2
returns-5 c = let f = c in let e = f in simp (one c.before.before.before.before.before.before e.if-found-tag.false e.if-end-start.false, ne_eqb _ _ f.if-book-start.false, eq-eqb _ _ c.if-book-start-2.true)

no-letter-requires-4 : tie.Need-no_letter-requires-2
no-letter-requires-4 c κs = search rules

returns-6 : tie.Need-returns
returns-6 c = let f = c in let e = f in c.no_letter-2.ensures ∙ simp (one c.before.before.before.before.before.before.before e.if-found-tag.false e.if-end-start.false, ne_eqb _ _ f.if-book-start.false, ne_eqb _ _ c.if-book-start-2.false)

pub letter_at_spec : {M : Type 1} → statement M
letter_at_spec =
    tie.close
    (tie.spec
    field-at-requires
    enum-known-found
    enum_told
    no-letter-requires
    returns
    no-letter-requires-2
    returns-2
    add-if2
    no-letter-requires-3
    returns-3
    shared-slice-read-if3
    returns-4
    shared-slice-read-if4
    returns-5
    no-letter-requires-4
    returns-6)
