-- Number 1 first, then the terms, then the customers.
-- Assumes nothing.
mod Named
use Prim.Native.Nat.{ℕ, ◌≤◌}
use mathlib.Core.Path.{◌≡◌, refl, sym, ap, ◌∙◌}
use mathlib.Core.List.{List}
use lib.ListN.{length}
use borrow.Author.Tests.{le-ltb}
use Rattle.rules.specs.Limits.{longest_book}
use Rattle.rules.specs.Refusal as refusal
use Rattle.rules.specs.Book.{judge}
use Rattle.terms.specs.declared.TermsAt.{TermsAt}
use Rattle.terms.specs.Terms.{terms_of}
use Rattle.terms.proofs.Terms.{then_walk, terms_mean}
use Rattle.roll.specs.Roll.{Columns, filled_after, filled_by}
use borrow.Author.Rules.{rules}
use Rattle.roll.proofs.read_roll.Statement.{statement}
use Rattle.roll.proofs.read_roll.Proof.Named.{as-judged, returns, read-customers-requires}
use Rattle.roll.proofs.read_roll.Tie as tie

-- a book that is not too long is judged from its terms on
judged : (s : List ℕ) → length s ≤ longest_book → (t : TermsAt) → terms_of s ≡ t → judge s ≡ then_walk s t
unfolding judge
judged s h t e = rw (le-ltb longest_book (length s) h) (terms_mean s ∙ ap (then_walk s) e)

terms-filled : (s : List ℕ) (c : Columns) → length s ≤ longest_book → (t : TermsAt) → terms_of s ≡ t → filled_by s c ≡ filled_after s t c
unfolding filled_by
terms-filled s c h t e = rw (le-ltb longest_book (length s) h, e) refl

refused-requires : tie.Need-refused-requires
refused-requires c κs = search rules

read-terms-requires : tie.Need-read_terms-requires
read-terms-requires c κs = search rules

enum-known-terms : tie.Need-enum_known-terms
enum-known-terms c = search rules

enum-known-r : tie.Need-enum_known-r
enum-known-r c = search rules

refused-requires-2 : tie.Need-refused-requires-in-Refused
refused-requires-2 c κs = search rules

same_length : tie.Need-shape_of-keys
same_length c = search rules

same-length-2 : tie.Need-shape_of-starts
same-length-2 c = search rules

same-length-3 : tie.Need-shape_of-standings
same-length-3 c = search rules

same-length-4 : tie.Need-shape_of-stakes
same-length-4 c = search rules

returns-2 : tie.Need-returns-in-Read
returns-2 c =
    let m = c in
    let x = m in
    let t = x in
    let s = t in
    let l = m.read_customers.new in
    let h = t.if-book-gt-LONGEST_BOOK.false in
    let e = sym t.read_terms.ensures ∙ x.in-Read.is in
    as-judged s.args.book.now l.keys l.starts l.standings l.stakes m.read_customers.result (judged s.args.book.now h _ e) (terms-filled s.args.book.now _ h _ e) m.read_customers.ensures

returns-3 : tie.Need-returns-in-Refused
returns-3 c =
    let x = c in
    let t = x in
    let s = t.args in
    let h = t.if-book-gt-LONGEST_BOOK.false in
    let e = sym t.read_terms.ensures ∙ x.in-Refused.is in
    as-judged s.book.now s.keys.now s.starts.now s.standings.now s.stakes.now c.refused-in-Refused.result (judged s.book.now h _ e) (terms-filled s.book.now _ h _ e)
    (record { rolled = c.refused-in-Refused.ensures; filled = refl })

pub read_roll_spec : {M : Type 1} → statement M
read_roll_spec =
    tie.close
    (tie.spec
    refused-requires
    returns
    read-terms-requires
    enum-known-terms
    read-customers-requires
    enum-known-r
    refused-requires-2
    same_length
    same-length-2
    same-length-3
    same-length-4
    returns-2
    returns-3)
