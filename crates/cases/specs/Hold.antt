-- The tables hold, all of their cases, by computation; HoldCrowded has the one of crowded books.
-- Assumes nothing.
use Rattle.rules.specs.Figures.{written_of, figure_of}
use Rattle.rules.specs.Stamp.{stamp_of}
use Rattle.rules.specs.Opening.{opening_of}
use Rattle.rules.specs.Codes.{is_code}
use Rattle.rules.specs.Fields.{fields_of}
use Rattle.rules.specs.Book.{within, step, judge}
use Rattle.rules.specs.Standing.{gain_from, total_gain, standing}
use Rattle.rules.specs.Division.{left_over_of, rank, share_of, share}
use Rattle.rules.specs.Cascade.{line_of, quantity, after, cascade, outcome}
use Rattle.rules.specs.Seats.{seat_lots}
use Rattle.rules.specs.Report.{digits, reported_seat, reported, report, listing}
use Rattle.rules.specs.Answer.{answer}
use Rattle.cases.specs.Case.{so, AllHold, done, ◌&◌}
use Rattle.cases.specs.Cases.{cases}
use Rattle.cases.specs.Refusals.{refusals}
use Rattle.cases.specs.Forms.{forms}
use Rattle.cases.specs.Order.{order}
use Rattle.cases.specs.Outcomes.{outcomes}
use Rattle.cases.specs.Nights.{nights}
use Rattle.cases.specs.Silver.{silver}
use Rattle.cases.specs.LostPoints.{lost_points}
use Rattle.cases.specs.Seats.{seats}

-- "The marked cases are proved together as a table under a single statement about the definitions"
pub marked_cases : AllHold cases
unfolding cases written_of figure_of opening_of stamp_of is_code fields_of within step judge gain_from total_gain standing left_over_of rank share_of share line_of quantity after cascade outcome digits listing
marked_cases = so & so & so & so & so & so & so & so & so & so & so & so & so & so & so & so & so & done

pub refusals_hold : AllHold refusals
unfolding refusals written_of figure_of opening_of stamp_of is_code fields_of within step judge gain_from total_gain standing left_over_of rank share_of share line_of quantity after cascade outcome seat_lots digits reported_seat reported report answer
refusals_hold =
    so & so & so & so & so & so & so & so & so & so & so & so & so & so & so & so & so & so & so & so
    & so & so & so & so & so & so & so & so & so & so & so & so & so & so & so & so & so & so & so & so
    & so & so & so & so & so & so & so & so & so & so & done

pub forms_hold : AllHold forms
unfolding forms written_of figure_of opening_of stamp_of is_code fields_of within step judge gain_from total_gain standing left_over_of rank share_of share line_of quantity after cascade outcome seat_lots digits reported_seat reported report answer
forms_hold =
    so & so & so & so & so & so & so & so & so & so & so & so & so & so & so & so & so & so & so & so
    & so & so & so & so & so & so & so & so & so & done

pub order_holds : AllHold order
unfolding order written_of figure_of opening_of stamp_of is_code fields_of within step judge answer
order_holds = so & so & so & so & so & so & so & so & so & so & so & so & so & so & so & so & so & done

pub outcomes_hold : AllHold outcomes
unfolding outcomes written_of figure_of opening_of stamp_of is_code fields_of within step judge gain_from total_gain standing left_over_of rank share_of share line_of quantity after cascade outcome seat_lots digits reported_seat reported report listing answer
outcomes_hold = so & so & so & so & so & so & so & so & so & so & so & so & so & so & so & so & so & done

pub nights_hold : AllHold nights
unfolding nights written_of figure_of opening_of stamp_of is_code fields_of within step judge gain_from total_gain standing left_over_of rank share_of share line_of quantity after cascade outcome digits listing answer
nights_hold =
    so & so & so & so & so & so & so & so & so & so & so & so & so & so & so & so & so & so & so & so
    & so & so & so & so & so & so & so & so & so & so & so & so & so & so & so & so & so & so & so & so
    & so & so & so & so & so & so & so & so & so & so & so & so & done

pub silver_holds : AllHold silver
unfolding silver written_of figure_of opening_of stamp_of is_code fields_of within step judge gain_from total_gain standing left_over_of rank share_of share line_of quantity after cascade outcome seat_lots digits reported_seat reported report listing answer
silver_holds =
    so & so & so & so & so & so & so & so & so & so & so & so & so & so & so & so & so & so & so & so
    & so & so & so & so & so & so & so & so & so & so & so & so & so & so & so & so & so & so & so & so
    & so & so & so & so & so & so & so & so & so & so & so & so & so & so & so & so & so & so & so & so
    & so & so & so & so & so & so & so & so & so & so & so & so & so & so & so & so & so & so & so & so
    & so & so & so & so & so & so & so & so & so & so & so & so & so & so & so & so & so & so & so & so
    & so & so & so & so & so & so & so & so & so & so & so & so & so & so & so & so & so & so & so & so
    & so & so & so & so & so & so & done

pub lost_points_hold : AllHold lost_points
unfolding lost_points written_of figure_of opening_of stamp_of is_code fields_of within step judge gain_from total_gain standing left_over_of rank share_of share line_of quantity after cascade outcome digits listing answer
lost_points_hold =
    so & so & so & so & so & so & so & so & so & so & so & so & so & so & so & so & so & so & so & so
    & so & so & so & so & so & so & so & so & so & so & so & so & so & so & so & so & so & so & so & so
    & so & so & so & so & so & so & so & so & so & so & so & so & so & so & so & so & so & so & so & so
    & so & so & so & so & so & so & so & so & so & so & so & done

pub seats_hold : AllHold seats
unfolding seats written_of figure_of opening_of stamp_of is_code fields_of within step judge gain_from total_gain standing left_over_of rank share_of share line_of quantity after cascade outcome seat_lots digits reported_seat reported report listing answer
seats_hold =
    so & so & so & so & so & so & so & so & so & so & so & so & so & so & so & so & so & so & so & so
    & so & so & so & so & so & so & so & so & so & so & so & so & so & so & so & so & so & so & so & so
    & so & so & so & so & so & so & so & so & so & so & so & so & so & so & so & so & so & done
