-- A day more, the end of the days, and a line that is none.
-- Assumes nothing.
use Rattle.std.specs.Prelude.{◌≡◌, ◌∷◌, [], length}
use Rattle.std.proofs.Common.{sym, ap, ◌∙◌, inl, arith}
use Rattle.days.specs.Places.{days_left, days_of}
use Rattle.days.specs.Formed.{left_small}
use Rattle.writing.specs.Written.{written_front}
use Rattle.watch.specs.Window.{small_shift}
use Rattle.watch.specs.Filling.{watched_none, watched_more, watched_all}
use Rattle.watch.proofs.fill.Goals as goal

pub loop-i-init : goal.loop-i-init
loop-i-init c =
    let a = c.args in
    let source = ap (λ x. x.iter) c.into_iter-i-iterator.ensures.into_iter_gives ∙ c.enumerate-i-items.ensures.source in
    let count = ap (λ x. x.count) c.into_iter-i-iterator.ensures.into_iter_gives ∙ c.enumerate-i-items.ensures.count in
    record {
      can = (tt, tt, inl (omega (arith, count, ap (λ d. length (days_left d)) source)));
      finite = tt;
      watched = rw (source, count) (watched_none a.list.metal a.spans.now (days_left a.list.days) c.requires);
    }

pub returns-in_default : goal.returns-in_default
returns-in_default c =
    let none : days_of (days_left c.loop-i.i-iterator.iter) ≡ [] = ap days_of c.in-Some.ensures.steps.0 ∙ rw c.in_default.is in
    watched_all c.loop-i.invariant.watched none ∙ sym (written_front _ _)

pub byte_of-requires : goal.byte_of-requires
byte_of-requires c =
    let it = c.loop-i.i-iterator.iter in
    let left = c.in-Some.ensures.steps.0 ∙ ap (λ x. x ∷ days_left c.next.new.self.iter) c.in-Ok.is in
    let small = left_small it.long it.list.now it.at c.in-Ok.day _ left in
    rw c.shift.ensures (small_shift _ c.loop-i.window (omega (arith, small.0)) small.1 c.loop-i.invariant.watched.small)

pub loop-i-preserved : goal.loop-i-preserved
loop-i-preserved c =
    let it = c.loop-i.i-iterator.iter in
    let s = c.in-Some.ensures.steps in
    let left = s.0 ∙ ap (λ x. x ∷ days_left c.next.new.self.iter) c.in-Ok.is in
    let small = left_small it.long it.list.now it.at c.in-Ok.day _ left in
    let w = watched_more c.loop-i.invariant.watched c.in-Ok.day _ left (omega (arith, small.0)) small.1 _ c.shift.ensures _ (rw s.1 at c.byte_of.ensures) in
    record { can = (tt, tt, inl (omega (arith, w.room, s.2))); finite = tt; watched = rw (s.1, s.2) w }

pub returns : goal.returns
returns c =
    let none : days_of (days_left c.loop-i.i-iterator.iter) ≡ [] = ap days_of c.in-None.ensures.steps.0.0 in
    watched_all c.loop-i.invariant.watched none ∙ sym (written_front _ _)
