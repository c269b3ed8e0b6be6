-- `fields::refusal_in` meets its contract: each arm is one of the definition's cases.
-- Assumes nothing.
use borrow.Author.Rules.{rules}
use Rattle.fields.proofs.refusal_in.Statement.{statement}
use Rattle.fields.proofs.refusal_in.Tie as tie

enum_told : tie.Need-enum_told-1
enum_told c = search rules

enum-known-f : tie.Need-enum_known-f
enum-known-f c = search rules

returns : tie.Need-returns-in-Value
returns c = simp c.in-Value.is

returns-2 : tie.Need-returns-in-Refused
returns-2 c = search rules

pub refusal_in_spec : {M : Type 1} → statement M
refusal_in_spec = tie.close (tie.spec enum_told enum-known-f returns returns-2)
