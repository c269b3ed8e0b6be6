-- What is written of a text with 11 in mind: nothing, or all of it at the front.
-- Assumes nothing.
use Rattle.std.specs.Prelude.{ℕ, ◌+◌, ◌≤◌, ◌<◌, ◌≡◌, refl, List, length}
use Rattle.std.proofs.Common.{sym, ap, ◌∙◌, arith, zero-add, lt-ltb, le-ltb}
use Rattle.rules.specs.Refusal as refusal
use Rattle.rules.specs.Answer.{fitted}
use Rattle.rules.specs.Answer.{refused as refused01}
use Rattle.writing.specs.Written.{written, written_front}
use Rattle.answers.specs.Answered.{Answered}

-- a refusal leaves the buffer as it was
pub refused_so : (n place : ℕ) (entry : List ℕ) → Answered (refused01 n place) (record { number = n; place = place; length = 0 }) entry entry
refused_so n place entry = record { number = refl; place = refl; length = refl; buffer = refl }

-- 11, and no 11
pub too_small : (r entry : List ℕ) (needed : ℕ) → needed ≡ length r → length entry < needed →
    Answered (fitted (length entry) r) (record { number = refusal.no_room; place = needed; length = 0 }) entry entry
too_small r entry needed e h =
    let f : fitted (length entry) r ≡ refused01 refusal.no_room needed = rw (lt-ltb (length entry) (length r) (omega arith)) (ap (refused01 refusal.no_room) (sym e)) in
    rw f (refused_so refusal.no_room needed entry)

pub fits : (r entry exit : List ℕ) (next : ℕ) → length r ≤ length entry → exit ≡ written 0 r entry → next ≡ 0 + length r →
    Answered (fitted (length entry) r) (record { number = 0; place = 0; length = next }) entry exit
fits r entry exit next h e n =
    let f : fitted (length entry) r ≡ record { number = 0; place = 0; length = length r; report = r } = rw (le-ltb (length entry) (length r) h) in
    rw f (record { number = refl; place = refl; length = n ∙ zero-add (length r); buffer = e ∙ written_front r entry })
