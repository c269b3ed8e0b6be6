-- The code, and then the group.
-- Assumes nothing.
use mathlib.Core.Path.{sym, ap₂, ◌∙◌}
use Rattle.roll.specs.declared.CustomerAt.TheVariants.{New as NewCustomer}
use Rattle.roll.specs.Roll.{customer_of}
use borrow.Author.Rules.{rules}
use Rattle.roll.proofs.customer_at.Statement.{statement}
use Rattle.roll.proofs.customer_at.Tie as tie

code-at-requires : tie.Need-code_at-requires
code-at-requires c κs = search rules

enum-known-key : tie.Need-enum_known-key
enum-known-key c = search rules

read-group-requires : tie.Need-read_group-requires
read-group-requires c κs = search rules

enum-known-place : tie.Need-enum_known-place
enum-known-place c = search rules

byte-of-requires : tie.Need-byte_of-requires
byte-of-requires c κs = search rules

stake-of-requires : tie.Need-stake_of-requires
stake-of-requires c κs = search rules

enum-known-r : tie.Need-enum_known-r
enum-known-r c = search rules

enum-known-r-2 : tie.Need-enum_known-r-in-Refused-code_at
enum-known-r-2 c = search rules

returns : tie.Need-returns-in-Closed
returns c =
    let p = c in let g = p in let k = g in
    ap₂ (NewCustomer k.in-Key.key p.in-Closed.place) c.byte_of.ensures c.stake_of.ensures
    ∙ sym (ap₂ customer_of (sym k.code_at.ensures ∙ k.in-Key.is) (sym (g.read_group.ensures _) ∙ p.in-Closed.is))

returns-2 : tie.Need-returns-in-Refused-read_group
returns-2 c =
    let p = c in let g = p in let k = g in
    sym (ap₂ customer_of (sym k.code_at.ensures ∙ k.in-Key.is) (sym (g.read_group.ensures _) ∙ p.in-Refused-read_group.is))

returns-3 : tie.Need-returns-in-Refused
returns-3 c = let p = c in simp (sym p.code_at.ensures ∙ p.in-Refused.is)

pub customer_at_spec : {M : Type 1} → statement M
customer_at_spec =
    tie.close
    (tie.spec
    code-at-requires
    enum-known-key
    read-group-requires
    enum-known-place
    byte-of-requires
    stake-of-requires
    enum-known-r
    enum-known-r-2
    returns
    returns-2
    returns-3)
