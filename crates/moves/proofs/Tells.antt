-- What is told of a list, by its verdict.
-- Assumes nothing.
use Prim.Native.Nat.{ℕ, ◌≤◌}
use mathlib.Core.Path.{◌≡◌, refl, ap, ◌∙◌}
use mathlib.Core.Bool.{false}
use mathlib.Core.List.{List, []}
use native.Mathlib.Omega.{arith}
use lib.ListN.{length, take, drop, length-append}
use Rattle.rules.specs.Text.{bytes}
use Rattle.rules.specs.Report.{listing_of}
use Rattle.rules.specs.Book.{Refused as BookRefused}
use Rattle.answers.specs.declared.Answer.{Answer}
use Rattle.answers.specs.Answered.{Answered}
use Rattle.days.specs.declared.Metal.{Metal}
use Rattle.days.specs.declared.Day.{Day}
use Rattle.days.specs.Lines.{feeds}
use Rattle.days.specs.Listed.{Verdict, Refused, Accepted, verdict_of}
use Rattle.days.specs.Few.{accepted_few}
use Rattle.reasons.specs.Reason.{no_tag, said}
use Rattle.watch.specs.Watch.{spans}
use Rattle.watch.specs.Filling.{spans_length}
use Rattle.watch.specs.Moves.{answer_of, moves_in, listed, listing_by}
use Rattle.intake.specs.Told.{status_by, said_by}
use Rattle.intake.specs.Telling.{fits_run, front_of}
use Rattle.days.specs.Above.{refused_above}

-- an accepted list, and a refused one
pub record Took (v : Verdict) (r : Answer) (exit : List ℕ) : Type 0 where
  pub few : r.length ≤ 2_000
  pub inside : r.length ≤ length exit
  pub listing : listed (take r.length exit) ≡ listing_by v
  pub silent : [] ≡ said_by (bytes "moves") v
  pub status : 0 ≡ status_by v

pub record Not (v : Verdict) (r : Answer) : Type 0 where
  pub listing : listing_of (BookRefused r.number r.place) ≡ listing_by v
  pub line : said (bytes "moves") r.number r.place no_tag ≡ said_by (bytes "moves") v
  pub status : 1 ≡ status_by v

spans_size : (metal : Metal) (ds : List Day) → length (spans metal ds) ≡ length ds
unfolding spans
spans_size metal ds = spans_length metal [] ds

module _ (total : ℕ) (s entry exit : List ℕ) (r : Answer) (least : feeds s ≤ total) (room : 2_000 ≤ length entry) where
  took_by : (v : Verdict) → verdict_of false total s ≡ v → Answered (answer_of (length entry) v) r entry exit → r.number ≡ 0 → Took v r exit
  took_by (Refused n place) e a z = absurd (omega (arith, a.number, refused_above false total s n place e))
  took_by (Accepted metal ds) e a z =
      let few = accepted_few false total s metal ds least e in
      let size = spans_size metal ds in
      let f = fits_run (spans metal ds) entry exit r (omega arith) a in
      record {
        few = omega (arith, f.1);
        inside = omega (arith, f.1, ap length f.2 ∙ length-append (spans metal ds) (drop (length (spans metal ds)) entry));
        listing = ap listed (front_of (spans metal ds) (drop (length (spans metal ds)) entry) exit r.length f.1 f.2);
        silent = refl;
        status = refl;
      }

  not_by : (v : Verdict) → verdict_of false total s ≡ v → Answered (answer_of (length entry) v) r entry exit → (r.number ≡ 0 → ⊥) → Not v r
  not_by (Refused n place) e a z =
      record {
        listing = ap (λ k. listing_of (BookRefused k r.place)) a.number ∙ ap (λ k. listing_of (BookRefused n k)) a.place;
        line = ap (λ k. said (bytes "moves") k r.place no_tag) a.number ∙ ap (λ k. said (bytes "moves") n k no_tag) a.place;
        status = refl;
      }
  not_by (Accepted metal ds) e a z =
      let few = accepted_few false total s metal ds least e in
      let size = spans_size metal ds in
      absurd (z (fits_run (spans metal ds) entry exit r (omega arith) a).0)

  pub took : Answered (moves_in total s (length entry)) r entry exit → r.number ≡ 0 → Took (verdict_of false total s) r exit
  unfolding moves_in
  took a z = took_by (verdict_of false total s) refl a z

  pub not_taken : Answered (moves_in total s (length entry)) r entry exit → (r.number ≡ 0 → ⊥) → Not (verdict_of false total s) r
  unfolding moves_in
  not_taken a z = not_by (verdict_of false total s) refl a z
