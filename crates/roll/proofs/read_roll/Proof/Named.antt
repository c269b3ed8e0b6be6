-- The parts of the proof that are named after a test of the function: edits of must-fail/ respell them.
use Prim.Native.Nat.{ℕ, ◌<◌}
use mathlib.Core.Path.{◌≡◌, refl, sym, subst, ◌∙◌}
use mathlib.Core.List.{List}
use native.Mathlib.Omega.{arith}
use lib.ListN.{length}
use borrow.Author.Tests.{lt-ltb}
use Rattle.rules.specs.Limits.{longest_book}
use Rattle.rules.specs.Refusal as refusal
use Rattle.rules.specs.Book.{Verdict, Refused, judge}
use Rattle.terms.proofs.Within.{SoundAt, terms_within}
use Rattle.roll.specs.declared.Roll.{Roll}
use Rattle.roll.specs.Roll.{Columns, Rolled, Left, filled_by}
use Rattle.roll.proofs.read_roll.Tie as tie

pub too_long : (s : List ℕ) → longest_book < length s → judge s ≡ Refused refusal.too_long 0
unfolding judge
too_long s h = rw (lt-ltb longest_book (length s) h)

-- the columns: untouched, or filled behind the terms
pub long_filled : (s : List ℕ) (c : Columns) → longest_book < length s → filled_by s c ≡ c
unfolding filled_by
long_filled s c h = rw (lt-ltb longest_book (length s) h) refl

-- the same under an equal verdict and equal columns
pub as-judged : (s keys starts standings stakes : List ℕ) {v w : Verdict} {f g : Columns} (r : Roll) → w ≡ v → g ≡ f → Left s v f keys starts standings stakes r → Left s w g keys starts standings stakes r
as-judged s keys starts standings stakes r e d h =
    record { rolled = subst (λ x. Rolled s x keys starts standings stakes r) (sym e) h.rolled; filled = h.filled ∙ sym d }

pub returns : tie.Need-returns-then-book-gt-LONGEST_BOOK
returns c =
    let s = c.args in
    let h = c.if-book-gt-LONGEST_BOOK.true in
    as-judged s.book.now s.keys.now s.starts.now s.standings.now s.stakes.now c.refused.result (too_long s.book.now h) (long_filled s.book.now _ h)
    (record { rolled = c.refused.ensures; filled = refl })

pub read-customers-requires : tie.Need-read_customers-requires
read-customers-requires c κs =
    let x = c in
    let t = x in
    let s = t in
    (omega (arith, t.if-book-gt-LONGEST_BOOK.false), (subst (SoundAt s.args.book.now) (sym t.read_terms.ensures ∙ x.in-Read.is) (terms_within s.args.book.now), s.requires))
