-- `group::pending_by` meets its contract: each arm is one of the definition's cases.
-- Assumes nothing.
use mathlib.Core.Path.{◌∙◌}
use borrow.Author.Rules.{rules}
use Rattle.group.proofs.pending_by.Statement.{statement}
use Rattle.group.proofs.pending_by.Tie as tie

enum_told : tie.Need-enum_told-1
enum_told c = search rules

counted-pending-requires : tie.Need-counted_pending-requires
counted-pending-requires c κs = search rules

enum-told-2 : tie.Need-enum_told-in-Tier1
enum-told-2 c = search rules

enum-told-3 : tie.Need-enum_told-in-Tier2
enum-told-3 c = search rules

enum-told-4 : tie.Need-enum_told-in-Tier3
enum-told-4 c = search rules

enum-told-5 : tie.Need-enum_told-in-Neither
enum-told-5 c = search rules

returns : tie.Need-returns-in-Pending
returns c = c.counted_pending.ensures ∙ simp c.in-Pending.is

returns-2 : tie.Need-returns-in-Tier1
returns-2 c = search rules

returns-3 : tie.Need-returns-in-Tier2
returns-3 c = search rules

returns-4 : tie.Need-returns-in-Tier3
returns-4 c = search rules

returns-5 : tie.Need-returns-in-Neither
returns-5 c = search rules

pub pending_by_spec : {M : Type 1} → statement M
pending_by_spec =
    tie.close
    (tie.spec
    enum_told
    counted-pending-requires
    enum-told-2
    enum-told-3
    enum-told-4
    enum-told-5
    returns
    returns-2
    returns-3
    returns-4
    returns-5)
