-- Each standing names its field.
-- Assumes nothing.
use borrow.Author.Rules.{rules}
use Rattle.seats.proofs.weight_of.Statement.{statement}
use Rattle.seats.proofs.weight_of.Tie as tie

enum_told : tie.Need-enum_told-1
enum_told c = search rules

lots-in-requires : tie.Need-lots_in-requires
lots-in-requires c κs = search rules

enum-told-2 : tie.Need-enum_told-in-Tier1
enum-told-2 c = search rules

held-on-requires : tie.Need-held_on-requires
held-on-requires c κs = search rules

enum-told-3 : tie.Need-enum_told-in-Tier2
enum-told-3 c = search rules

held-on-requires-2 : tie.Need-held_on-requires-in-Tier2
held-on-requires-2 c κs = search rules

enum-told-4 : tie.Need-enum_told-in-Tier3
enum-told-4 c = search rules

held-on-requires-3 : tie.Need-held_on-requires-in-Tier3
held-on-requires-3 c κs = search rules

enum-told-5 : tie.Need-enum_told-in-Neither
enum-told-5 c = search rules

returns : tie.Need-returns-in-Pending
returns c = rw c.in-Pending.is c.lots_in.ensures

returns-2 : tie.Need-returns-in-Tier1
returns-2 c = rw c.in-Tier1.is c.held_on.ensures

returns-3 : tie.Need-returns-in-Tier2
returns-3 c = rw c.in-Tier2.is c.held_on-in-Tier2.ensures

returns-4 : tie.Need-returns-in-Tier3
returns-4 c = rw c.in-Tier3.is c.held_on-in-Tier3.ensures

returns-5 : tie.Need-returns-in-Neither
returns-5 c = search rules

pub weight_of_spec : {M : Type 1} → statement M
weight_of_spec =
    tie.close
    (tie.spec
    enum_told
    lots-in-requires
    enum-told-2
    held-on-requires
    enum-told-3
    held-on-requires-2
    enum-told-4
    held-on-requires-3
    enum-told-5
    returns
    returns-2
    returns-3
    returns-4
    returns-5)
