-- `terms::read_terms` meets its contract: D, and then the other terms.
-- Assumes nothing.
use mathlib.Core.Path.{sym, ◌∙◌}
use Rattle.terms.specs.Terms.{terms_of}
use borrow.Author.Rules.{rules}
use Rattle.terms.proofs.read_terms.Statement.{statement}
use Rattle.terms.proofs.read_terms.Tie as tie

letter-at-requires : tie.Need-letter_at-requires
letter-at-requires c κs = search rules

enum-known-first : tie.Need-enum_known-first
enum-known-first c = search rules

terms-after-requires : tie.Need-terms_after-requires
terms-after-requires c κs = search rules

enum-known-r : tie.Need-enum_known-r
enum-known-r c = search rules

returns : tie.Need-returns-in-Chosen
unfolding terms_of
returns c = let x = c in c.terms_after.ensures ∙ simp (sym x.letter_at.ensures ∙ x.in-Chosen.is)

returns-2 : tie.Need-returns-in-Refused
unfolding terms_of
returns-2 c = let x = c in simp (sym x.letter_at.ensures ∙ x.in-Refused.is)

pub read_terms_spec : {M : Type 1} → statement M
read_terms_spec =
    tie.close
    (tie.spec letter-at-requires enum-known-first terms-after-requires enum-known-r returns returns-2)
