-- What such a program tells, by what it wrote: the lines of a refusal have room, and every status is 0, 1 or 2.
-- Assumes nothing.
use Rattle.std.specs.Prelude.{ℕ, zero, suc, ◌+◌, ◌≤◌, ◌≡◌, refl, List, [], ◌++◌, length, take, drop, pos}
use Rattle.std.proofs.Common.{sym, ap, subst, ◌∙◌, ⊎_elim, arith, zero-add, add-zero, take_at, le-ltb, Fits, SFits, to_z}
use Rattle.std.specs.Int.{w32, w64}
use Rattle.rules.specs.Report.{listing_of}
use Rattle.rules.specs.Book.{Refused as BookRefused}
use Rattle.rules.specs.Answer.{fitted}
use Rattle.laws.specs.Digits.{digits_length_20}
use Rattle.answers.specs.declared.Answer.{Answer}
use Rattle.answers.specs.Answered.{Answered}
use Rattle.printing.specs.Printed.{refusal_length}
use Rattle.days.specs.Listed.{Verdict, Refused, Accepted}
use Rattle.writing.specs.Written.{Wrote, written_nothing, written_length}
use Rattle.reasons.specs.Reason.{no_tag, said}
use Rattle.reasons.specs.Sizes.{reason_short, said_length}
use Rattle.intake.specs.Told.{Put, status_by, Ends, Exit}

pub short : (program : List ℕ) (n place : ℕ) → length program ≤ 32 → Fits w64 n → Fits w64 place → length (said program n place no_tag) ≤ 256
short program n place f h g =
    omega (arith, said_length program n place no_tag, reason_short n place no_tag, digits_length_20 n (omega (arith, h)), digits_length_20 place (omega (arith, g)))

pub refusal_short : (n place : ℕ) → Fits w64 n → Fits w64 place → length (listing_of (BookRefused n place)) ≤ 256
refusal_short n place h g = omega (arith, refusal_length n place, digits_length_20 n (omega (arith, h)), digits_length_20 place (omega (arith, g)))

-- what was written
pub put_so : {s t a b : List ℕ} {r : ℕ} → Wrote 0 s a b r → s ≡ t → length s ≤ length a → Put t a b r
put_so {s} {t} {a} {b} {r} w e h =
    subst (λ (x : List ℕ). Put x a b r) e (record { buffer = w.whole; size = w.next ∙ zero-add _; room = omega (arith, w.next) })

pub put_none : {t : List ℕ} (a : List ℕ) → [] ≡ t → Put t a a 0
put_none a e = subst (λ (x : List ℕ). Put x a a 0) e (record { buffer = sym (written_nothing 0 a); size = refl; room = omega arith })

pub put_same : {s t a b : List ℕ} {r : ℕ} → s ≡ t → Put s a b r → Put t a b r
put_same {a = a} {b} {r} e p = subst (λ (x : List ℕ). Put x a b r) e p

-- where a call's numbers fit the run, they stand at its front
pub fits_run : (bs entry exit : List ℕ) (r : Answer) → length bs ≤ length entry → Answered (fitted (length entry) bs) r entry exit →
    (r.number ≡ 0) × (r.length ≡ length bs) × (exit ≡ bs ++ drop (length bs) entry)
fits_run bs entry exit r h a =
    let b : Answered (record { number = 0; place = 0; length = length bs; report = bs }) r entry exit = rw (le-ltb (length entry) (length bs) h) at a in
    (b.number, b.length, b.buffer)

pub front_of : (bs rest exit : List ℕ) (n : ℕ) → n ≡ length bs → exit ≡ bs ++ rest → take n exit ≡ bs
front_of bs rest exit n e h = ap (take n) h ∙ take_at bs rest n (sym e)

-- every status is 0, 1 or 2
pub small : (v : Verdict) (r : ℕ) → Ends v r → r ≤ 2
small v r = ⊎_elim (λ e. omega arith) (go v)
  where
    go : (w : Verdict) → r ≡ status_by w → r ≤ 2
    go (Refused n place) h = omega arith
    go (Accepted metal ds) h = omega arith

-- and an i32 holds it
pub held : (k : ℕ) → k ≤ 2 → SFits w32 (pos k)
held k h = omega arith

pub exits : (k : ℕ) → k ≤ 2 → Exit (to_z w32 k)
exits zero h = omega arith
exits (suc zero) h = omega arith
exits (suc (suc zero)) h = omega arith
exits (suc (suc (suc k))) h = absurd (omega arith)

-- a text under another name; the buffer stays as long as it was; and nothing
pub same_wrote : {at r : ℕ} {s t a b : List ℕ} → s ≡ t → Wrote at s a b r → Wrote at t a b r
same_wrote {at} {r} {a = a} {b} e h = subst (λ (x : List ℕ). Wrote at x a b r) e h

pub wrote_length : {at r : ℕ} {s a b : List ℕ} → Wrote at s a b r → at + length s ≤ length a → length b ≡ length a
wrote_length {at} {s = s} {a} w h = ap length w.whole ∙ written_length at s a h

pub nothing : (at : ℕ) (out : List ℕ) → Wrote at [] out out at
nothing at out = record { whole = sym (written_nothing at out); next = sym (add-zero at) }
