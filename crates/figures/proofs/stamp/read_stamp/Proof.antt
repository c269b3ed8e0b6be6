-- `figures::stamp::read_stamp` meets its contract: `Tests` says what the stamp is by the twos of digits at its places.
-- Assumes nothing.
use Rattle.std.proofs.Common.{◌≡◌, ◌+◌, true, sym, ◌∙◌, arith, rules}
use Rattle.rules.specs.Stamp.{is_date}
use Rattle.figures.specs.Stamps.{stamp_in}
use Rattle.figures.proofs.Stamps.{no_first, no_second}
use Rattle.figures.proofs.Dates.{date_range}
use Rattle.figures.proofs.Tests.{no_century_tens, no_century_ones, no_date, no_hour, no_minute, twos_stamp, told_so}
use Rattle.figures.proofs.stamp.read_stamp.Statement.{statement}
use Rattle.figures.proofs.stamp.read_stamp.Tie as tie

-- where the function begins
abbrev start : tie.After-two_at-y → tie.Start
start c = c.before.before.before.before.before.before.before.before.before.before

abbrev at-date : tie.After-is_date → tie.Start
at-date c = c.before.before.before.before.before.before.before.before.before.before.before.before.before

-- at the end: the day is one
good-date :
    (c : tie.Else-not-is_date) →
    let d = c in
    is_date (2_000 + d.two_at-y.result) d.two_at-month.result d.two_at-day.result ≡ true
good-date c = sym c.is_date.ensures ∙ c.if-not-is_date.false

shared-slice-read-if1 : tie.Need-bounds-v-0
shared-slice-read-if1 c = search rules

returns : tie.Need-returns-then-v-ne32
returns c = sym (no_first c.args.v.now c.if-v-ne32.true)

shared-slice-read-if2 : tie.Need-bounds-v-9
shared-slice-read-if2 c = search rules

returns-2 : tie.Need-returns-then-v-ne32-2
returns-2 c = sym (no_second c.args.v.now c.if-v-ne32-2.true)

shared-slice-read-if3 : tie.Need-bounds-v-1
shared-slice-read-if3 c = search rules

returns-3 : tie.Need-returns-then-v-ne50
returns-3 c =
    let s = c in
    sym (no_century_tens s.args.v.now s.requires c.if-v-ne50.true)

shared-slice-read-if4 : tie.Need-bounds-v-2
shared-slice-read-if4 c = search rules

returns-4 : tie.Need-returns-then-v-ne48
returns-4 c =
    let s = c in
    sym (no_century_ones s.args.v.now s.requires c.if-v-ne48.true)

two-at-requires : tie.Need-two_at-y-requires
two-at-requires c κs = search rules

two-at-requires-2 : tie.Need-two_at-month-requires
two-at-requires-2 c κs = search rules

two-at-requires-3 : tie.Need-two_at-day-requires
two-at-requires-3 c κs = search rules

is-date-requires : tie.Need-is_date-requires
is-date-requires c κs = search rules

returns-5 : tie.Need-returns-then-not-is_date
returns-5 c =
    let k = c in
    let s = at-date c.before in
    let d = k in
    sym (no_date s.args.v.now _ _ _ s.requires d.two_at-y.ensures d.two_at-month.ensures d.two_at-day.ensures
    (sym k.is_date.ensures ∙ c.if-not-is_date.true))

two-at-requires-4 : tie.Need-two_at-hour-requires
two-at-requires-4 c κs = search rules

returns-6 : tie.Need-returns-then-hour-gt23
returns-6 c =
    let s = at-date c.before.before.before in
    sym (no_hour s.args.v.now _ s.requires c.two_at-hour.ensures c.if-hour-gt23.true)

two-at-requires-5 : tie.Need-two_at-minute-requires
two-at-requires-5 c κs = search rules

returns-7 : tie.Need-returns-then-minute-gt59
returns-7 c =
    let s = at-date c.before.before.before.before.before in
    sym (no_minute s.args.v.now _ s.requires c.two_at-minute.ensures c.if-minute-gt59.true)

stamp-from-requires : tie.Need-stamp_from-requires
stamp-from-requires c κs =
    let e = c in
    let d = e in
    let range = date_range (2_000 + d.two_at-y.result) d.two_at-month.result d.two_at-day.result (good-date c.before.before.before.before) in (
      omega (arith, range.year_most),
      omega (arith, range.month_most),
      omega (arith, range.day_most),
      omega arith,
      omega arith,
    )

returns-8 : tie.Need-returns
returns-8 c =
    let n = c in
    let h = n in
    let e = h in
    let d = e in
    let ones = d in
    let tens = ones in
    let blanks = tens in
    let s = at-date c.before.before.before.before.before.before in
    let read = twos_stamp s.args.v.now _ _ _ _ _ s.requires
    blanks.if-v-ne32.false
    blanks.if-v-ne32-2.false
    (record {
      century_tens = tens.if-v-ne50.false;
      century_ones = ones.if-v-ne48.false;
      year = d.two_at-y.ensures;
      month = d.two_at-month.ensures;
      day = d.two_at-day.ensures;
      hour = h.two_at-hour.ensures;
      minute = n.two_at-minute.ensures;
      date = good-date c.before.before.before.before.before;
      hour_most = h.if-hour-gt23.false;
      minute_most = n.if-minute-gt59.false;
    }) in
    told_so (stamp_in s.args.v.now) c.stamp_from.result _ read c.stamp_from.ensures

pub read_stamp_spec : {M : Type 1} → statement M
read_stamp_spec =
    tie.close
    (tie.spec
    shared-slice-read-if1
    returns
    shared-slice-read-if2
    returns-2
    shared-slice-read-if3
    returns-3
    shared-slice-read-if4
    returns-4
    two-at-requires
    two-at-requires-2
    two-at-requires-3
    is-date-requires
    returns-5
    two-at-requires-4
    returns-6
    two-at-requires-5
    returns-7
    stamp-from-requires
    returns-8)
