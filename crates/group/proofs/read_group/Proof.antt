-- `group::read_group` meets its contract: the seats, and then the trades.
-- Assumes nothing.
use mathlib.Core.Path.{refl, sym, ap, subst, ◌∙◌}
use mathlib.Core.List.{[]}
use Rattle.rules.specs.Book.{DueI}
use Rattle.rules.specs.Limits.{most_seats}
use Rattle.positions.proofs.Means.{Means, group_means, with_seats}
use Rattle.positions.proofs.Within.{FewAt, seats_within}
use Rattle.group.specs.Group.{group_at}
use borrow.Author.Rules.{rules}
use Rattle.group.proofs.read_group.Statement.{statement}
use Rattle.group.proofs.read_group.Tie as tie

read-seats-requires : tie.Need-read_seats-requires
read-seats-requires c κs = search rules

enum-known-position : tie.Need-enum_known-position
enum-known-position c = search rules

group-of-requires : tie.Need-group_of-requires
group-of-requires c κs =
    let x = c in
    let s = x in
    let a = s.args in
    (s.requires.0, (s.requires.1, subst (FewAt a.book.now a.terms 4_000_000) (sym x.read_seats.ensures ∙ x.in-Read.is) (seats_within a.book.now a.terms a.at)))

enum-known-r : tie.Need-enum_known-r
enum-known-r c = search rules

returns : tie.Need-returns-in-Read
returns c = λ code.
    let x = c in
    let a = x.args in
    let m = subst (Means a.terms a.place a.book.now code [] DueI most_seats a.at) (sym x.read_seats.ensures ∙ x.in-Read.is) (group_means a.terms a.place a.book.now code a.at) in
    c.group_of.ensures (with_seats code m.more) (record { sums = m.sums; untraded = refl }) ∙ sym (ap (group_at a.terms) m.reads)

returns-2 : tie.Need-returns-in-Refused
returns-2 c = λ code.
    let x = c in
    let a = x.args in
    let m = subst (Means a.terms a.place a.book.now code [] DueI most_seats a.at) (sym x.read_seats.ensures ∙ x.in-Refused.is) (group_means a.terms a.place a.book.now code a.at) in
    sym (ap (group_at a.terms) m)

pub read_group_spec : {M : Type 1} → statement M
read_group_spec =
    tie.close
    (tie.spec
    read-seats-requires
    enum-known-position
    group-of-requires
    enum-known-r
    returns
    returns-2)
