-- `positions::read_seat` meets its contract: I, then K, H and Q.
-- Assumes nothing.
use mathlib.Core.Path.{sym, ◌∙◌}
use Rattle.positions.specs.Seats.{seat_of}
use borrow.Author.Rules.{rules}
use Rattle.positions.proofs.read_seat.Statement.{statement}
use Rattle.positions.proofs.read_seat.Tie as tie

key-at-requires : tie.Need-key_at-requires
key-at-requires c κs = search rules

enum-known-key : tie.Need-enum_known-key
enum-known-key c = search rules

read-position-requires : tie.Need-read_position-requires
read-position-requires c κs = search rules

enum-known-position : tie.Need-enum_known-position
enum-known-position c = search rules

enum-known-r : tie.Need-enum_known-r
enum-known-r c = search rules

enum-known-r-2 : tie.Need-enum_known-r-in-Refused-key_at
enum-known-r-2 c = search rules

returns : tie.Need-returns-in-Read
unfolding seat_of
returns c =
    let y = c in
    let x = y in
    simp (sym x.key_at.ensures ∙ x.in-New.is, sym y.read_position.ensures ∙ y.in-Read.is)

returns-2 : tie.Need-returns-in-Refused-read_position
unfolding seat_of
returns-2 c =
    let y = c in
    let x = y in
    simp (sym x.key_at.ensures ∙ x.in-New.is, sym y.read_position.ensures ∙ y.in-Refused-read_position.is)

returns-3 : tie.Need-returns-in-Refused
unfolding seat_of
returns-3 c = let x = c in simp (sym x.key_at.ensures ∙ x.in-Refused.is)

pub read_seat_spec : {M : Type 1} → statement M
read_seat_spec =
    tie.close
    (tie.spec
    key-at-requires
    enum-known-key
    read-position-requires
    enum-known-position
    enum-known-r
    enum-known-r-2
    returns
    returns-2
    returns-3)
