-- `group::offered_by` meets its contract: each arm is one of the definition's cases.
-- Assumes nothing.
use mathlib.Core.Path.{◌∙◌}
use borrow.Author.Rules.{rules}
use Rattle.group.proofs.offered_by.Statement.{statement}
use Rattle.group.proofs.offered_by.Tie as tie

enum_told : tie.Need-enum_told-1
enum_told c = search rules

enum-told-2 : tie.Need-enum_told-in-Tier1
enum-told-2 c = search rules

net-of-requires : tie.Need-net_of-requires
net-of-requires c κs = search rules

enum-told-3 : tie.Need-enum_told-in-Tier2
enum-told-3 c = search rules

net-of-requires-2 : tie.Need-net_of-requires-in-Tier2
net-of-requires-2 c κs = search rules

enum-told-4 : tie.Need-enum_told-in-Tier3
enum-told-4 c = search rules

net-of-requires-3 : tie.Need-net_of-requires-in-Tier3
net-of-requires-3 c κs = search rules

enum-told-5 : tie.Need-enum_told-in-Neither
enum-told-5 c = search rules

returns : tie.Need-returns-in-Pending
returns c = search rules

returns-2 : tie.Need-returns-in-Tier1
returns-2 c = c.net_of.ensures ∙ simp c.in-Tier1.is

returns-3 : tie.Need-returns-in-Tier2
returns-3 c = c.net_of-in-Tier2.ensures ∙ simp c.in-Tier2.is

returns-4 : tie.Need-returns-in-Tier3
returns-4 c = c.net_of-in-Tier3.ensures ∙ simp c.in-Tier3.is

returns-5 : tie.Need-returns-in-Neither
returns-5 c = search rules

pub offered_by_spec : {M : Type 1} → statement M
offered_by_spec =
    tie.close
    (tie.spec
    enum_told
    enum-told-2
    net-of-requires
    enum-told-3
    net-of-requires-2
    enum-told-4
    net-of-requires-3
    enum-told-5
    returns
    returns-2
    returns-3
    returns-4
    returns-5)
