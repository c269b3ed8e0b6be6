-- `terms::terms_after` meets its contract: X, and then the other terms.
-- Assumes nothing.
use Prim.Native.Nat.{ℕ}
use mathlib.Core.Path.{sym, ap, ◌∙◌}
use Rattle.terms.specs.Terms.{after_places}
use borrow.Author.Rules.{rules}
use Rattle.terms.proofs.terms_after.Statement.{statement}
use Rattle.terms.proofs.terms_after.Tie as tie

letter-at-requires : tie.Need-letter_at-requires
letter-at-requires c κs = search rules

enum-known-first : tie.Need-enum_known-first
enum-known-first c = search rules

decimals-of-requires : tie.Need-decimals_of-requires
decimals-of-requires c κs = search rules

prices-after-requires : tie.Need-prices_after-requires
prices-after-requires c κs = search rules

enum-known-r : tie.Need-enum_known-r
enum-known-r c = search rules

returns : tie.Need-returns-in-Chosen
returns c =
    let d = c in
    let x = d in
    let a = x.args in
    c.prices_after.ensures
    ∙ ap (λ (n : ℕ). after_places a.book.now a.down n x.in-Chosen.next) d.decimals_of.ensures
    ∙ simp (sym x.letter_at.ensures ∙ x.in-Chosen.is)

returns-2 : tie.Need-returns-in-Refused
returns-2 c = let x = c in simp (sym x.letter_at.ensures ∙ x.in-Refused.is)

pub terms_after_spec : {M : Type 1} → statement M
terms_after_spec =
    tie.close
    (tie.spec
    letter-at-requires
    enum-known-first
    decimals-of-requires
    prices-after-requires
    enum-known-r
    returns
    returns-2)
