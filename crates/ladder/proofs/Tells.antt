-- What is told of a list, by its verdict.
-- Assumes nothing.
use Prim.Native.Nat.{ℕ, ◌≤◌}
use mathlib.Core.Path.{◌≡◌, refl, ap, ◌∙◌}
use mathlib.Core.Bool.{true}
use mathlib.Core.List.{List, [], map}
use native.Mathlib.Omega.{arith}
use lib.ListN.{length, take, drop, length-append}
use Rattle.rules.specs.Text.{bytes}
use Rattle.rules.specs.Report.{listing_of}
use Rattle.rules.specs.Book.{Refused as BookRefused}
use Rattle.answers.specs.declared.Answer.{Answer}
use Rattle.answers.specs.Answered.{Answered}
use Rattle.days.specs.declared.Mark.TheVariants.{Unlocked}
use Rattle.days.specs.declared.Day.{Day}
use Rattle.days.specs.Lines.{feeds}
use Rattle.days.specs.Listed.{Verdict, Refused, Accepted, verdict_of}
use Rattle.days.specs.Few.{accepted_few}
use Rattle.days.specs.Above.{refused_above}
use Rattle.reasons.specs.Reason.{no_tag, said}
use Rattle.intake.specs.Told.{status_by, said_by}
use Rattle.intake.specs.Telling.{fits_run, front_of}
use Rattle.locks.specs.Ladder.{steps}
use Rattle.locks.specs.Listing.{rung_of, answer_of, ladder_in, listed, listing_by}
use Rattle.locks.specs.Rungs.{step_of, steps_rungs}
use Rattle.locks.specs.Climbing.{rungs_length}
use Rattle.ladder.specs.Sizes.{listing_room, listed_short}

-- an accepted list, and a refused one
pub record Took (v : Verdict) (r : Answer) (exit : List ℕ) : Type 0 where
  pub inside : r.length ≤ length exit
  pub listing : listed (map step_of (take r.length exit)) ≡ listing_by v
  pub short : length (listed (map step_of (take r.length exit))) ≤ listing_room
  pub silent : [] ≡ said_by (bytes "ladder") v
  pub status : 0 ≡ status_by v

pub record Not (v : Verdict) (r : Answer) : Type 0 where
  pub listing : listing_of (BookRefused r.number r.place) ≡ listing_by v
  pub line : said (bytes "ladder") r.number r.place no_tag ≡ said_by (bytes "ladder") v
  pub status : 1 ≡ status_by v

abbrev rungs : List Day → List ℕ
rungs ds = map rung_of (steps ds)

rungs_size : (ds : List Day) → length (rungs ds) ≡ length ds
unfolding steps
rungs_size ds = rungs_length Unlocked 0 ds

module _ (total : ℕ) (s entry exit : List ℕ) (r : Answer) (least : feeds s ≤ total) (room : 2_000 ≤ length entry) where
  took_by : (v : Verdict) → verdict_of true total s ≡ v → Answered (answer_of (length entry) v) r entry exit → r.number ≡ 0 → Took v r exit
  took_by (Refused n place) e a z = absurd (omega (arith, a.number, refused_above true total s n place e))
  took_by (Accepted metal ds) e a z =
      let few = accepted_few true total s metal ds least e in
      let size = rungs_size ds in
      let f = fits_run (rungs ds) entry exit r (omega arith) a in
      let same : listed (map step_of (take r.length exit)) ≡ listed (steps ds) =
      ap (λ (l : List ℕ). listed (map step_of l)) (front_of (rungs ds) (drop (length (rungs ds)) entry) exit r.length f.1 f.2) ∙ ap listed (steps_rungs (steps ds)) in
      record {
        inside = omega (arith, f.1, ap length f.2 ∙ length-append (rungs ds) (drop (length (rungs ds)) entry));
        listing = same;
        short = omega (arith, ap length same, listed_short ds few);
        silent = refl;
        status = refl;
      }

  not_by : (v : Verdict) → verdict_of true total s ≡ v → Answered (answer_of (length entry) v) r entry exit → (r.number ≡ 0 → ⊥) → Not v r
  not_by (Refused n place) e a z =
      record {
        listing = ap (λ k. listing_of (BookRefused k r.place)) a.number ∙ ap (λ k. listing_of (BookRefused n k)) a.place;
        line = ap (λ k. said (bytes "ladder") k r.place no_tag) a.number ∙ ap (λ k. said (bytes "ladder") n k no_tag) a.place;
        status = refl;
      }
  not_by (Accepted metal ds) e a z =
      let few = accepted_few true total s metal ds least e in
      let size = rungs_size ds in
      absurd (z (fits_run (rungs ds) entry exit r (omega arith) a).0)

  pub took : Answered (ladder_in total s (length entry)) r entry exit → r.number ≡ 0 → Took (verdict_of true total s) r exit
  unfolding ladder_in
  took a z = took_by (verdict_of true total s) refl a z

  pub not_taken : Answered (ladder_in total s (length entry)) r entry exit → (r.number ≡ 0 → ⊥) → Not (verdict_of true total s) r
  unfolding ladder_in
  not_taken a z = not_by (verdict_of true total s) refl a z
