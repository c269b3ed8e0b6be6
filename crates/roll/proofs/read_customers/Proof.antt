-- The loop's invariant: the columns hold the customers read so far, and the walk over the book is the walk from here on with these
-- customers; the keys have their marks; and the columns are as long as they were.
-- Assumes nothing.
use borrow.Author.Rules.{rules}
use Prim.Native.Nat.{ℕ, suc, ◌+◌, ◌-◌, ◌≤◌, ◌<◌}
use native.Mathlib.Omega.{arith}
use mathlib.Core.Path.{◌≡◌, refl, sym, subst, ◌∙◌}
use mathlib.Core.List.{List}
use lib.ListN.{length, drop, length-set}
use Rattle.rules.specs.Limits.{most_customers}
use Rattle.rules.specs.Fields.{fields_of}
use Rattle.codes.specs.Codes.{Marked}
use Rattle.codes.proofs.Marks.{mark_below, marked_none, marked_more}
use Rattle.fields.specs.declared.Found.TheVariants.{Field as FieldAt}
use Rattle.fields.specs.First.{first_at}
use Rattle.fields.specs.Laws.{Stands, stands}
use Rattle.roll.specs.Roll.{Room, Rolled, Columns, columns, stored, filled_from}
use Rattle.roll.proofs.Filling.{stays_short, stays_other, stays_refused, fills}
use Rattle.roll.proofs.Turns.{Between, Lasting, begun, turn_short, turn_other, turn_ended}
use Rattle.roll.proofs.Customer.{turn_no_customer, More, turn_customer, size_said}
use Rattle.roll.proofs.read_customers.Statement.{statement}
use Rattle.roll.proofs.read_customers.Tie as tie

abbrev invariant-loop-tag : tie.invariant-loop-tag
invariant-loop-tag book terms first keys₀ starts₀ standings₀ stakes₀ marks₀ count₀ at₀ keys starts standings stakes marks count at =
    Between book terms first at count keys starts standings stakes × Marked keys marks count × Lasting keys₀ starts₀ standings₀ stakes₀ keys starts standings stakes
    × (filled_from most_customers book terms first 0 (columns keys₀ starts₀ standings₀ stakes₀) ≡ filled_from (most_customers - count) book terms at count (columns keys starts standings stakes))

abbrev decreases-loop-tag : tie.decreases-loop-tag
decreases-loop-tag book terms first keys₀ starts₀ standings₀ stakes₀ marks₀ count₀ at₀ keys starts standings stakes marks count at =
    length book - at

abbrev begin : tie.At-loop-tag invariant-loop-tag decreases-loop-tag → tie.Start invariant-loop-tag decreases-loop-tag
begin b = b.before.before.before.before.before.before

-- the columns of a turn, and how many customers they may still take
abbrev held : tie.At-loop-tag invariant-loop-tag decreases-loop-tag → Columns
held b = columns b.loop-tag.keys b.loop-tag.starts b.loop-tag.standings b.loop-tag.stakes

abbrev free : tie.At-loop-tag invariant-loop-tag decreases-loop-tag → ℕ
free b = most_customers - b.loop-tag.count

-- the field of a turn
module _ (c : tie.In-Field invariant-loop-tag decreases-loop-tag) where
  abbrev at-loop : tie.At-loop-tag invariant-loop-tag decreases-loop-tag
  at-loop = c.before.before

  abbrev book : List ℕ
  book = (begin at-loop).args.book.now

  abbrev tag : ℕ
  tag = c.in-Field.tag

  abbrev start : ℕ
  start = c.in-Field.start

  abbrev end : ℕ
  end = c.in-Field.end

  said : first_at at-loop.loop-tag.at (fields_of (drop at-loop.loop-tag.at book)) ≡ FieldAt tag start end
  said = sym c.field_at.ensures ∙ c.in-Field.is

  there : Stands book at-loop.loop-tag.at tag start end
  there = stands book at-loop.loop-tag.at _ _ _ said

  order : start ≤ end
  order = there.order

  inside : end ≤ length book
  inside = there.inside

  -- under a known tag
  as-tag : (t : ℕ) → tag ≡ t → Stands book at-loop.loop-tag.at t start end
  as-tag t e = subst (λ (x : ℕ). Stands book at-loop.loop-tag.at x start end) e there

-- C
module _ (c : tie.After-customer_at invariant-loop-tag decreases-loop-tag) where
  abbrev field_of_lem : tie.In-Field invariant-loop-tag decreases-loop-tag
  field_of_lem = c.before.before.before.before

  a_c : Stands (book field_of_lem) (at-loop field_of_lem).loop-tag.at 67 (start field_of_lem) (end field_of_lem)
  a_c = as-tag field_of_lem 67 c.if-tag-ne-C.false

-- a new customer, with the columns that hold it too
module _ (c : tie.In-New invariant-loop-tag decreases-loop-tag) where
  abbrev asked : tie.After-customer_at invariant-loop-tag decreases-loop-tag
  asked = c.before

  abbrev field-read : tie.In-Field invariant-loop-tag decreases-loop-tag
  field-read = field_of_lem asked

  abbrev state : tie.At-loop-tag invariant-loop-tag decreases-loop-tag
  state = at-loop field-read

  more : More state.loop-tag.invariant.0 (a_c asked) c.in-New.key c.in-New.place c.in-New.standing c.in-New.stake
  more = turn_customer state.loop-tag.invariant.0 (a_c asked) _ _ _ _ (size_said (book field-read) state.loop-tag.at (tag field-read) (start field-read) (end field-read) (said field-read)) (sym asked.customer_at.ensures ∙ c.in-New.is)

  room : state.loop-tag.count < most_customers
  room = more.room

  -- there is room in each column
  wide : Room state.loop-tag.keys state.loop-tag.starts state.loop-tag.standings state.loop-tag.stakes
  wide = state.loop-tag.invariant.0.room

  -- and filled with it
  one-filled :
      filled_from (free state) (book field-read) (begin state).args.terms state.loop-tag.at state.loop-tag.count (held state)
      ≡ filled_from (most_customers - (state.loop-tag.count + 1)) (book field-read) (begin state).args.terms c.in-New.place (state.loop-tag.count + 1)
      (stored (held state) state.loop-tag.count c.in-New.key (start field-read) c.in-New.standing c.in-New.stake)
  one-filled =
      let less : free state ≡ suc (most_customers - (state.loop-tag.count + 1)) = omega (arith, room) in
      rw less (fills (book field-read) (begin state).args.terms state.loop-tag.at state.loop-tag.count (held state) (most_customers - (state.loop-tag.count + 1)) (said field-read) asked.if-tag-ne-C.false (sym asked.customer_at.ensures ∙ c.in-New.is))

loop-holds : tie.Need-loop-tag-init invariant-loop-tag decreases-loop-tag
loop-holds c = let s = c in (begun s.args.book.now s.args.terms s.args.first s.requires.1.1, marked_none _, record { keys_last = refl; starts_last = refl; standings_last = refl; stakes_last = refl }, refl)

field-at-requires : tie.Need-field_at-requires invariant-loop-tag decreases-loop-tag
field-at-requires c κs = search rules

enum-known-tag : tie.Need-enum_known-tag invariant-loop-tag decreases-loop-tag
enum-known-tag c = search rules

enum_told : tie.Need-enum_told-1 invariant-loop-tag decreases-loop-tag
enum_told c = search rules

refused-requires : tie.Need-refused-requires invariant-loop-tag decreases-loop-tag
refused-requires c κs = search rules

same_length : tie.Need-shape_of-keys-in_default invariant-loop-tag decreases-loop-tag
same_length c = c.loop-tag.invariant.2.keys_last

same-length-2 : tie.Need-shape_of-starts-in_default invariant-loop-tag decreases-loop-tag
same-length-2 c = c.loop-tag.invariant.2.starts_last

same-length-3 : tie.Need-shape_of-standings-in_default invariant-loop-tag decreases-loop-tag
same-length-3 c = c.loop-tag.invariant.2.standings_last

same-length-4 : tie.Need-shape_of-stakes-in_default invariant-loop-tag decreases-loop-tag
same-length-4 c = c.loop-tag.invariant.2.stakes_last

returns : tie.Need-returns-in_default invariant-loop-tag decreases-loop-tag
returns c =
    let f = c in
    let b = f in
    let none = sym f.field_at.ensures ∙ c.in_default.is in
    record {
      rolled = subst (λ v. Rolled (begin c.before.before.before).args.book.now v b.loop-tag.keys b.loop-tag.starts b.loop-tag.standings b.loop-tag.stakes c.refused.result) (sym (turn_short b.loop-tag.invariant.0 none)) c.refused.ensures;
      filled = sym (b.loop-tag.invariant.3 ∙ stays_short (begin c.before.before.before).args.book.now (begin c.before.before.before).args.terms b.loop-tag.at b.loop-tag.count (held c.before.before.before) (free c.before.before.before) none);
    }

end-at-requires : tie.Need-end_at-last-requires invariant-loop-tag decreases-loop-tag
end-at-requires c κs = search rules

ended-requires : tie.Need-ended-requires invariant-loop-tag decreases-loop-tag
ended-requires c κs = search rules

same-length-5 : tie.Need-shape_of-keys-then-tag-eq-Z invariant-loop-tag decreases-loop-tag
same-length-5 c = (at-loop c.before.before.before).loop-tag.invariant.2.keys_last

same-length-6 : tie.Need-shape_of-starts-then-tag-eq-Z invariant-loop-tag decreases-loop-tag
same-length-6 c = (at-loop c.before.before.before).loop-tag.invariant.2.starts_last

same-length-7 : tie.Need-shape_of-standings-then-tag-eq-Z invariant-loop-tag decreases-loop-tag
same-length-7 c = (at-loop c.before.before.before).loop-tag.invariant.2.standings_last

same-length-8 : tie.Need-shape_of-stakes-then-tag-eq-Z invariant-loop-tag decreases-loop-tag
same-length-8 c = (at-loop c.before.before.before).loop-tag.invariant.2.stakes_last

returns-2 : tie.Need-returns-then-tag-eq-Z invariant-loop-tag decreases-loop-tag
returns-2 c =
    let x = c in
    let k = x in
    let b = at-loop c.before.before.before in
    let z = x.if-tag-eq-Z.true in
    record {
      rolled = rw c.ended.ensures (turn_ended b.loop-tag.invariant.0 (as-tag c.before.before.before 90 z) x.end_at-last.result x.end_at-last.ensures);
      filled = sym (b.loop-tag.invariant.3 ∙ stays_other (book c.before.before.before) (begin b).args.terms b.loop-tag.at b.loop-tag.count (held b) (free b) (said c.before.before.before) (λ e. omega (arith, z, e)));
    }

refused-requires-2 : tie.Need-refused-requires-then-tag-ne-C invariant-loop-tag decreases-loop-tag
refused-requires-2 c κs = search rules

same-length-9 : tie.Need-shape_of-keys-then-tag-ne-C invariant-loop-tag decreases-loop-tag
same-length-9 c = (at-loop c.before.before.before).loop-tag.invariant.2.keys_last

same-length-10 : tie.Need-shape_of-starts-then-tag-ne-C invariant-loop-tag decreases-loop-tag
same-length-10 c = (at-loop c.before.before.before).loop-tag.invariant.2.starts_last

same-length-11 : tie.Need-shape_of-standings-then-tag-ne-C invariant-loop-tag decreases-loop-tag
same-length-11 c = (at-loop c.before.before.before).loop-tag.invariant.2.standings_last

same-length-12 : tie.Need-shape_of-stakes-then-tag-ne-C invariant-loop-tag decreases-loop-tag
same-length-12 c = (at-loop c.before.before.before).loop-tag.invariant.2.stakes_last

returns-3 : tie.Need-returns-then-tag-ne-C invariant-loop-tag decreases-loop-tag
returns-3 c =
    let e = c in
    let k = e in
    let b = at-loop c.before.before.before in
    record {
      rolled = subst (λ v. Rolled (book c.before.before.before) v b.loop-tag.keys b.loop-tag.starts b.loop-tag.standings b.loop-tag.stakes c.refused-then-tag-ne-C.result) (sym (turn_other b.loop-tag.invariant.0 (there c.before.before.before) c.if-tag-ne-C.true e.if-tag-eq-Z.false)) c.refused-then-tag-ne-C.ensures;
      filled = sym (b.loop-tag.invariant.3 ∙ stays_other (book c.before.before.before) (begin b).args.terms b.loop-tag.at b.loop-tag.count (held b) (free b) (said c.before.before.before) c.if-tag-ne-C.true);
    }

customer-at-requires : tie.Need-customer_at-requires invariant-loop-tag decreases-loop-tag
customer-at-requires c κs =
    let k = c in
    let b = at-loop c.before.before.before in
    let s = begin b in
    let i = b.loop-tag.invariant in
    (s.requires.0, (s.requires.1.0, ((order c.before.before.before, inside c.before.before.before), (omega (arith, i.0.room.for_keys, i.0.held.counted, i.0.few), i.1))))

enum-known-key : tie.Need-enum_known-key invariant-loop-tag decreases-loop-tag
enum-known-key c = search rules

mul-keys : tie.Need-offset_bounds-keys-count invariant-loop-tag decreases-loop-tag
mul-keys c = omega (arith, room c)

slice-write-keys : tie.Need-bounds-keys-count invariant-loop-tag decreases-loop-tag
slice-write-keys c = omega (arith, room c, (wide c).for_keys)

mark-of-requires : tie.Need-mark_of-mark-requires invariant-loop-tag decreases-loop-tag
mark-of-requires c κs = search rules

array-write-marks : tie.Need-bounds-marks-mark invariant-loop-tag decreases-loop-tag
array-write-marks c = omega (arith, mark_below c.in-New.key, c.mark_of-mark.ensures)

cast-starts : tie.Need-overflow_cast-starts invariant-loop-tag decreases-loop-tag
cast-starts c = let o = c in let k = field-read c.before in omega (arith, (begin (state c.before)).requires.0, order k, inside k)

mul-starts : tie.Need-offset_bounds-starts-count invariant-loop-tag decreases-loop-tag
mul-starts c = let o = c in omega (arith, room c.before)

slice-write-starts : tie.Need-bounds-starts-count invariant-loop-tag decreases-loop-tag
slice-write-starts c = let o = c in omega (arith, room c.before, (wide c.before).for_starts)

slice-write-standings : tie.Need-bounds-standings-count invariant-loop-tag decreases-loop-tag
slice-write-standings c = let o = c in omega (arith, room c.before, (wide c.before).for_standings)

mul-stakes : tie.Need-offset_bounds-stakes-count invariant-loop-tag decreases-loop-tag
mul-stakes c = let o = c in omega (arith, room c.before)

slice-write-stakes : tie.Need-bounds-stakes-count invariant-loop-tag decreases-loop-tag
slice-write-stakes c = let o = c in omega (arith, room c.before, (wide c.before).for_stakes)

add-count : tie.Need-overflow_add-count invariant-loop-tag decreases-loop-tag
add-count c = let o = c in omega (arith, room c.before)

loop-less : tie.Need-loop-tag-smaller invariant-loop-tag decreases-loop-tag
loop-less c = let o = c in let k = there (field-read c.before) in omega (arith, (more c.before).later, k.begins, k.order, k.inside)

loop-again : tie.Need-loop-tag-preserved invariant-loop-tag decreases-loop-tag
loop-again c =
    let o = c in
    let l = (state c.before).loop-tag in
    let z = l.invariant.2 in (
      (more c.before).next,
      rw c.mark_of-mark.ensures (marked_more l.keys l.marks l.count _ (omega (arith, room c.before, (wide c.before).for_keys)) l.invariant.1),
      record {
        keys_last = simp length-set z.keys_last;
        starts_last = simp length-set z.starts_last;
        standings_last = simp length-set z.standings_last;
        stakes_last = simp length-set z.stakes_last;
      },
      l.invariant.3 ∙ one-filled c.before,
    )

enum-known-r : tie.Need-enum_known-r invariant-loop-tag decreases-loop-tag
enum-known-r c = search rules

refused-requires-3 : tie.Need-refused-requires-in-Refused invariant-loop-tag decreases-loop-tag
refused-requires-3 c κs = search rules

same-length-13 : tie.Need-shape_of-keys-in-Refused invariant-loop-tag decreases-loop-tag
same-length-13 c = (at-loop (field_of_lem c.before.before)).loop-tag.invariant.2.keys_last

same-length-14 : tie.Need-shape_of-starts-in-Refused invariant-loop-tag decreases-loop-tag
same-length-14 c = (at-loop (field_of_lem c.before.before)).loop-tag.invariant.2.starts_last

same-length-15 : tie.Need-shape_of-standings-in-Refused invariant-loop-tag decreases-loop-tag
same-length-15 c = (at-loop (field_of_lem c.before.before)).loop-tag.invariant.2.standings_last

same-length-16 : tie.Need-shape_of-stakes-in-Refused invariant-loop-tag decreases-loop-tag
same-length-16 c = (at-loop (field_of_lem c.before.before)).loop-tag.invariant.2.stakes_last

returns-4 : tie.Need-returns-in-Refused invariant-loop-tag decreases-loop-tag
returns-4 c =
    let x = c in
    let d = x in
    let k = field_of_lem c.before.before in
    let b = at-loop k in
    let no = sym d.customer_at.ensures ∙ x.in-Refused.is in
    record {
      rolled = subst (λ v. Rolled (book k) v b.loop-tag.keys b.loop-tag.starts b.loop-tag.standings b.loop-tag.stakes c.refused-in-Refused.result) (sym (turn_no_customer b.loop-tag.invariant.0 (a_c c.before.before) x.in-Refused.r no)) c.refused-in-Refused.ensures;
      filled = sym (b.loop-tag.invariant.3 ∙ stays_refused (book k) (begin b).args.terms b.loop-tag.at b.loop-tag.count (held b) (free b) (said k) d.if-tag-ne-C.false no);
    }

pub read_customers_spec : {M : Type 1} → statement M
read_customers_spec =
    tie.close
    (tie.spec
    invariant-loop-tag
    decreases-loop-tag
    loop-holds
    field-at-requires
    enum-known-tag
    enum_told
    refused-requires
    same_length
    same-length-2
    same-length-3
    same-length-4
    returns
    end-at-requires
    ended-requires
    same-length-5
    same-length-6
    same-length-7
    same-length-8
    returns-2
    refused-requires-2
    same-length-9
    same-length-10
    same-length-11
    same-length-12
    returns-3
    customer-at-requires
    enum-known-key
    mul-keys
    slice-write-keys
    mark-of-requires
    array-write-marks
    cast-starts
    mul-starts
    slice-write-starts
    slice-write-standings
    mul-stakes
    slice-write-stakes
    add-count
    loop-less
    loop-again
    enum-known-r
    refused-requires-3
    same-length-13
    same-length-14
    same-length-15
    same-length-16
    returns-4)
