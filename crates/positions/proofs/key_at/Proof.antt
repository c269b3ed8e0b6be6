-- `positions::key_at` meets its contract: 2, 3, 5 and 13 in the definition's order.
-- Assumes nothing.
use Prim.Native.Nat.{ℕ, ◌-◌}
use mathlib.Core.Path.{◌≡◌, sym, ◌∙◌}
use mathlib.Core.Bool.{Bool, true, false, cond}
use mathlib.Core.List.{List}
use lib.ListN.{take, drop}
use borrow.Author.Tests.{eq-eqb, ne_eqb}
use Rattle.rules.specs.Refusal as refusal
use Rattle.rules.specs.Text.{is}
use Rattle.rules.specs.Fields.{fields_of}
use Rattle.fields.specs.Laws.{Stands, stands}
use Rattle.fields.specs.Reading.{refused_at}
use Rattle.codes.specs.declared.Code.TheVariants.{Key}
use Rattle.codes.specs.Codes.{code_of, given_in}
use Rattle.positions.specs.declared.KeyAt.TheVariants.{New as NewKey}
use Rattle.positions.specs.declared.KeyAt.TheVariants.{Refused as NoKey}
use Rattle.positions.specs.Seats.{new_key, key_from}
use Rattle.positions.proofs.Found.{key_short, key_found, key_coded}
use borrow.Author.Rules.{rules}
use Rattle.positions.proofs.key_at.Statement.{statement}
use Rattle.positions.proofs.key_at.Tie as tie

-- the field that was found
module _ (c : tie.In-Field) where
  abbrev start_of : tie.Start
  start_of = c.before.before.before

  abbrev book : List ℕ
  book = start_of.args.book.now

  abbrev tag : ℕ
  tag = c.in-Field.tag

  abbrev start : ℕ
  start = c.in-Field.start

  abbrev end : ℕ
  end = c.in-Field.end

  there : Stands book start_of.args.at tag start end
  there = stands book start_of.args.at _ _ _ (sym c.field_at.ensures ∙ c.in-Field.is)

  abbrev before : List ℕ
  before = take start_of.args.count start_of.args.keys.now

  turned : key_from before start_of.args.at (fields_of (drop start_of.args.at book))
      ≡ cond (is "I" tag) (new_key before start_of.args.at end (code_of (take (end - start) (drop start book)))) (NoKey (refused_at refusal.misplaced start_of.args.at))
  turned = key_found book start_of.args.at tag start end there before

-- the field is an I
module _ (c : tie.Else-tag-ne-I) where
  abbrev found : tie.In-Field
  found = c.before

  a_seat : is "I" (tag found) ≡ true
  a_seat = eq-eqb _ _ c.if-tag-ne-I.false

  coded : (x : ℕ) (g : Bool) → code_of (take (end found - start found) (drop (start found) (book found))) ≡ Key x → given_in (before found) x ≡ g →
      key_from (before found) (start_of found).args.at (fields_of (drop (start_of found).args.at (book found)))
      ≡ cond g (NoKey (refused_at refusal.seat_twice (start_of found).args.at)) (NewKey x (end found))
  coded x g h e = key_coded (book found) (start_of found).args.at (tag found) (start found) (end found) (there found) (before found) x g a_seat h e

field-at-requires : tie.Need-field_at-requires
field-at-requires c κs = search rules

enum-known-tag : tie.Need-enum_known-tag
enum-known-tag c = search rules

enum_told : tie.Need-enum_told-1
enum_told c = search rules

no-key-requires : tie.Need-no_key-requires
no-key-requires c κs = search rules

returns : tie.Need-returns-in_default
returns c = let f = c in let a = f.args in c.no_key.ensures ∙ sym (key_short (take a.count a.keys.now) a.at (fields_of (drop a.at a.book.now)) (sym f.field_at.ensures ∙ c.in_default.is))

no-key-requires-2 : tie.Need-no_key-requires-then-tag-ne-I
no-key-requires-2 c κs = search rules

returns-2 : tie.Need-returns-then-tag-ne-I
returns-2 c = let t = c in simp (c.no_key-then-tag-ne-I.ensures, turned c.before.before, ne_eqb _ _ c.if-tag-ne-I.true)

sub-read-code : tie.Need-slice_bounds-read_code-count
sub-read-code c = (there c.before).order

part-read-code-start : tie.Need-slice_bounds-read_code-start
part-read-code-start c = let l = (there c.before).order in let m = (there c.before).inside in search rules

part-read-code-end : tie.Need-slice_bounds-read_code-end
part-read-code-end c = let l = (there c.before).order in let m = (there c.before).inside in search rules

read-code-requires : tie.Need-read_code-requires
read-code-requires c κs = search rules

enum-known-key : tie.Need-enum_known-key
enum-known-key c = search rules

given-requires : tie.Need-given-requires
given-requires c κs = search rules

no-key-requires-3 : tie.Need-no_key-requires-then-given
no-key-requires-3 c κs = search rules

returns-3 : tie.Need-returns-then-given
returns-3 c =
    let n = c in
    let g = n in
    let x = g in
    let e = x in
    c.no_key-then-given.ensures ∙ sym (coded c.before.before.before.before.before.before.before _ true (sym x.read_code.ensures ∙ x.in-Key.is) (sym g.given.ensures ∙ n.if-given.true))

enum-told-2 : tie.Need-enum_told-in-Malformed
enum-told-2 c = search rules

no-key-requires-4 : tie.Need-no_key-requires-in-Malformed
no-key-requires-4 c κs = search rules

returns-4 : tie.Need-returns-else-given
returns-4 c =
    let g = c in
    let x = g in
    let e = x in
    sym (coded c.before.before.before.before.before.before _ false (sym x.read_code.ensures ∙ x.in-Key.is) (sym g.given.ensures ∙ c.if-given.false))

returns-5 : tie.Need-returns-in-Malformed
returns-5 c =
    let n = c in
    let r = n in
    let e = r in
    simp (c.no_key-in-Malformed.ensures, turned (found c.before.before.before.before), a_seat c.before.before.before.before, sym r.read_code.ensures ∙ n.in-Malformed.is)

pub key_at_spec : {M : Type 1} → statement M
key_at_spec =
    tie.close
    (tie.spec
    field-at-requires
    enum-known-tag
    enum_told
    no-key-requires
    returns
    no-key-requires-2
    returns-2
    sub-read-code
    part-read-code-start
    part-read-code-end
    read-code-requires
    enum-known-key
    given-requires
    no-key-requires-3
    returns-3
    enum-told-2
    no-key-requires-4
    returns-4
    returns-5)
