-- "Every public function's contract determines all it returns and all lent bytes, on refusal too; show that any two results it allows are
-- equal." The contracts are those that the kit publishes of the source, `Learnt`. Here the functions that read a book, which lend nothing.
-- Assumes nothing.
use Rattle.std.specs.Prelude.{◌≡◌, refl, []}
use Rattle.std.proofs.Common.{sym, ap, ◌∙◌}
use contract.Lifetimes.{Lfts}
use denote.Triple.Entry.{Args, Res}
use denote.Triple.Clauses.{Ended, Lasts, AtExit, at_exit}
use Rattle.rules.specs.declared.Lots.{Lots}
use Rattle.consequences.specs.Rearranged.{trade_in}
use Rattle.rules.proofs as rules
use Rattle.rules.specs.contracts as rules_contracts
use Rattle.answers.proofs as answers
use Rattle.answers.specs.contracts as answers_contracts
use Rattle.figures.proofs as figures
use Rattle.figures.specs.contracts as figures_contracts
use Rattle.codes.proofs as codes
use Rattle.codes.specs.contracts as codes_contracts
use Rattle.gain.proofs as gain
use Rattle.gain.specs.contracts as gain_contracts
use Rattle.fields.proofs as fields
use Rattle.fields.specs.contracts as fields_contracts
use Rattle.terms.proofs as terms
use Rattle.terms.specs.contracts as terms_contracts
use Rattle.trades.proofs as trades
use Rattle.trades.specs.contracts as trades_contracts
use Rattle.store.proofs as store
use Rattle.store.specs.contracts as store_contracts
use Rattle.newest.proofs as newest
use Rattle.newest.specs.contracts as newest_contracts
use Rattle.positions.proofs as positions
use Rattle.positions.specs.contracts as positions_contracts
use Rattle.group.proofs as group
use Rattle.group.specs.contracts as group_contracts
use Rattle.seats.proofs as seats
use Rattle.seats.specs.contracts as seats_contracts
use Rattle.command.proofs as command
use Rattle.command.specs.contracts as command_contracts

-- what a contract says of the arguments, the result and the arguments at exit, for a signature
abbrev pub Contract : Ended → Type 1
Contract T = (κs : Lfts T.signature.lifetimes) → Args T.signature κs → Res T.signature κs → AtExit T κs → Type 0

-- For the same arguments, and the same values behind all that is lent: any two results are equal, and so are the values that
-- two calls leave behind all that is lent (`Lasts` has one for each `&mut` of the signature).
abbrev pub Determined : (T : Ended) → Contract T → Type 0
Determined T Learnt =
    (κs : Lfts T.signature.lifetimes) (a : Args T.signature κs) (r q : Res T.signature κs) (s t : Lasts T κs a) →
    Learnt κs a r (at_exit T κs a s) → Learnt κs a q (at_exit T κs a t) → (r ≡ q) × (s ≡ t)

lots : (r q : Lots) → r.0 ≡ q.0 → r ≡ q
lots r q e = ap (λ n. record { 0 = n }) e

-- rules
pub lesser : Determined rules_contracts.lesser.ended rules.lesser.Reads.Learnt
lesser κs a r q s t e f = (e ∙ sym f, refl)

pub number_of_a_rule : Determined rules_contracts.refusal.Rule.number.ended rules.refusal.Rule.number.Reads.Learnt
number_of_a_rule κs a r q s t e f = (e ∙ sym f, refl)

-- answers
pub accepted : Determined answers_contracts.Answer.accepted.ended answers.Answer.accepted.Reads.Learnt
accepted κs a r q s t e f = (e ∙ sym f, refl)

pub refused : Determined answers_contracts.Answer.refused.ended answers.Answer.refused.Reads.Learnt
refused κs a r q s t e f = (e ∙ sym f, refl)

-- figures
pub price_form : Determined figures_contracts.price_form.ended figures.price_form.Reads.Learnt
price_form κs a r q s t e f = (e ∙ sym f, refl)

pub read_written : Determined figures_contracts.read_written.ended figures.read_written.Reads.Learnt
read_written κs a r q s t e f = (e ∙ sym f, refl)

pub read_figure : Determined figures_contracts.read_figure.ended figures.read_figure.Reads.Learnt
read_figure κs a r q s t e f = (e ∙ sym f, refl)

pub read_held : Determined figures_contracts.read_held.ended figures.read_held.Reads.Learnt
read_held κs a r q s t e f = (e ∙ sym f, refl)

pub read_opening : Determined figures_contracts.read_opening.ended figures.read_opening.Reads.Learnt
read_opening κs a r q s t e f = (e ∙ sym f, refl)

pub read_again : Determined figures_contracts.read_again.ended figures.read_again.Reads.Learnt
read_again κs a r q s t e f = (ap trade_in (sym e.1 ∙ f.1), refl)

-- codes
pub read_code : Determined codes_contracts.read_code.ended codes.read_code.Reads.Learnt
read_code κs a r q s t e f = (e ∙ sym f, refl)

pub given : Determined codes_contracts.given.ended codes.given.Reads.Learnt
given κs a r q s t e f = (e ∙ sym f, refl)

pub mark_of : Determined codes_contracts.mark_of.ended codes.mark_of.Reads.Learnt
mark_of κs a r q s t e f = (e ∙ sym f, refl)

pub known : Determined codes_contracts.known.ended codes.known.Reads.Learnt
known κs a r q s t e f = (e ∙ sym f, refl)

-- gain
pub gain_of : Determined gain_contracts.gain_of.ended gain.gain_of.Reads.Learnt
gain_of κs a r q s t e f = (e.exact ∙ sym f.exact, refl)

pub net_of : Determined gain_contracts.net_of.ended gain.net_of.Reads.Learnt
net_of κs a r q s t e f = (lots r q (e ∙ sym f), refl)

pub net_long : Determined gain_contracts.net_long.ended gain.net_long.Reads.Learnt
net_long κs a r q s t e f = (e ∙ sym f, refl)

pub counted_pending : Determined gain_contracts.counted_pending.ended gain.counted_pending.Reads.Learnt
counted_pending κs a r q s t e f = (lots r q (e ∙ sym f), refl)

pub standing_of : Determined gain_contracts.standing_of.ended gain.standing_of.Reads.Learnt
standing_of κs a r q s t e f = (e ∙ sym f, refl)

-- fields
pub field_at : Determined fields_contracts.field_at.ended fields.field_at.Reads.Learnt
field_at κs a r q s t e f = (e ∙ sym f, refl)

pub refusal_in : Determined fields_contracts.refusal_in.ended fields.refusal_in.Reads.Learnt
refusal_in κs a r q s t e f = (e ∙ sym f, refl)

pub figure_at : Determined fields_contracts.figure_at.ended fields.figure_at.Reads.Learnt
figure_at κs a r q s t e f = (e ∙ sym f, refl)

pub held_at : Determined fields_contracts.held_at.ended fields.held_at.Reads.Learnt
held_at κs a r q s t e f = (e ∙ sym f, refl)

-- terms
pub read_terms : Determined terms_contracts.read_terms.ended terms.read_terms.Reads.Learnt
read_terms κs a r q s t e f = (e ∙ sym f, refl)

-- trades
pub read_trades : Determined trades_contracts.read_trades.ended trades.read_trades.Reads.Learnt
read_trades κs a r q s t e f = (e ∙ sym f, refl)

pub oldest_gain : Determined trades_contracts.oldest_gain.ended trades.oldest_gain.Reads.Learnt
oldest_gain κs a r q s t e f = (e ∙ sym f, refl)

pub lots_on : Determined trades_contracts.lots_on.ended trades.lots_on.Reads.Learnt
lots_on κs a r q s t e f = (e ∙ sym f, refl)

pub next_trade : Determined trades_contracts.next_trade.ended trades.next_trade.Reads.Learnt
next_trade κs a r q s t e f = (e ∙ sym f, refl)

-- store
pub stored_gain : Determined store_contracts.stored_gain.ended store.stored_gain.Reads.Learnt
stored_gain κs a r q s t e f = (e ∙ sym f, refl)

-- newest
pub newest_gain : Determined newest_contracts.newest_gain.ended newest.newest_gain.Reads.Learnt
newest_gain κs a r q s t e f = (e ∙ sym f, refl)

-- positions
pub read_seats : Determined positions_contracts.read_seats.ended positions.read_seats.Reads.Learnt
read_seats κs a r q s t e f = (e ∙ sym f, refl)

-- group: whatever the code
pub read_group : Determined group_contracts.read_group.ended group.read_group.Reads.Learnt
read_group κs a r q s t e f = (e [] ∙ sym (f []), refl)

-- seats
pub next_seat : Determined seats_contracts.next_seat.ended seats.next_seat.Reads.Learnt
next_seat κs a r q s t e f = (e ∙ sym f, refl)

pub only_seat : Determined seats_contracts.only_seat.ended seats.only_seat.Reads.Learnt
only_seat κs a r q s t e f = (e ∙ sym f, refl)

pub seat_lots : Determined seats_contracts.seat_lots.ended seats.seat_lots.Reads.Learnt
seat_lots κs a r q s t e f = (e ∙ sym f, refl)

-- command
pub word_of : Determined command_contracts.word_of.ended command.word_of.Reads.Learnt
word_of κs a r q s t e f = (e ∙ sym f, refl)

pub next : Determined command_contracts.next.ended command.next.Reads.Learnt
next κs a r q s t e f = (e ∙ sym f, refl)

pub settled : Determined command_contracts.settled.ended command.settled.Reads.Learnt
settled κs a r q s t e f = (e ∙ sym f, refl)
