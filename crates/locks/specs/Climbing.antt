-- A run of rungs, filled day after day: what is asked of the list, and what the loop holds.
-- Assumes nothing.
use Rattle.std.specs.Prelude.{ℕ, suc, ◌+◌, ◌≤◌, ◌<◌, ◌≡◌, refl, List, [], ◌∷◌, ◌++◌, map, length, drop, set, Option, Some, None, Result, Ok, Err}
use Rattle.std.proofs.Common.{sym, ap, ◌∙◌, append_assoc, arith, length-append}
use Rattle.std.proofs.lemmas.List.{length-map}
use Rattle.rules.specs.declared.Rate.{Rate}
use Rattle.days.specs.declared.Mark.{Mark}
use Rattle.days.specs.declared.Mark.TheVariants.{Unlocked, Up, Down}
use Rattle.days.specs.declared.Day.{Day}
use Rattle.days.specs.declared.refusal.ListRule.{ListRule}
use Rattle.days.specs.Places.{days_of}
use Rattle.watch.specs.Filling.{put_more, put_all}
use Rattle.locks.specs.declared.Raise.{Raise}
use Rattle.locks.specs.declared.Raise.TheVariants.{NoDay}
use Rattle.locks.specs.declared.Step.{Step}
use Rattle.locks.specs.Ladder.{checked, raise_of, step_by, running, step_on, steps_from, steps}
use Rattle.locks.specs.Listing.{rung_of}

-- the rungs of the days that are read
abbrev pub rungs_in : List (Result Day ListRule) → List ℕ
rungs_in items = map rung_of (steps (days_of items))

pub rungs_length : (before : Mark) (days : ℕ) (ds : List Day) → length (map rung_of (steps_from before days ds)) ≡ length ds
rungs_length before days [] = refl
rungs_length before days (d ∷ ds) = ap suc (rungs_length d.mark (running (step_on before days d ds)) ds)

-- the check of a locked day with this limit, by what is read of the next day
abbrev pub raise_at : Option Rate → Option (Result Day ListRule) → Raise
raise_at limit (Some (Ok d)) = checked limit d.limit
raise_at limit (Some (Err rule)) = NoDay
raise_at limit None = NoDay

-- what is read are so many days, and no more than any list may have
pub record Countable (items : List (Result Day ListRule)) (count : ℕ) : Type 0 where
  pub days : List Day
  pub read : items ≡ map Ok days
  pub size : length days ≡ count
  pub few : count ≤ 2_000

-- and a run that has room for them
pub record Climbable (items : List (Result Day ListRule)) (count : ℕ) (run : List ℕ) : Type 0 where
  pub counted : Countable items count
  pub room : count ≤ length run

-- what was read ahead, and what is left behind it
abbrev pub with_ahead : Option (Result Day ListRule) → List (Result Day ListRule) → List (Result Day ListRule)
with_ahead None rest = rest
with_ahead (Some r) rest = r ∷ rest

-- i days were passed: what stands ahead and is left, and the rungs put down
pub record Climbed (entry whole : List ℕ) (count : ℕ) (before : Mark) (days : ℕ) (left : List (Result Day ListRule)) (i : ℕ) (run : List ℕ) : Type 0 where
  pub put : List ℕ
  pub left_count : i + length left ≡ count
  pub few : days ≤ i
  pub all : whole ≡ put ++ map rung_of (steps_from before days (days_of left))
  pub size : length put ≡ i
  pub filled : run ≡ put ++ drop i entry

-- the check of a day is by the day after it
raise_ahead : (limit : Option Rate) (ahead : Option (Result Day ListRule)) (rest : List (Result Day ListRule)) → (ahead ≡ None → rest ≡ []) →
    raise_at limit ahead ≡ raise_of limit (days_of (with_ahead ahead rest))
raise_ahead limit (Some (Ok d)) rest none = refl
raise_ahead limit (Some (Err rule)) rest none = refl
raise_ahead limit None rest none = rw (none refl)

-- one day more running at most
pub step_few : (before mark : Mark) (days : ℕ) (raise : Raise) → running (step_by before mark days raise) ≤ suc days
step_few before Unlocked days raise = omega arith
step_few Unlocked Up days raise = omega arith
step_few Up Up days raise = omega arith
step_few Down Up days raise = omega arith
step_few Unlocked Down days raise = omega arith
step_few Up Down days raise = omega arith
step_few Down Down days raise = omega arith

module _ {entry whole : List ℕ} {count : ℕ} {before : Mark} {days : ℕ} {left : List (Result Day ListRule)} {i : ℕ} {run : List ℕ} (c : Climbed entry whole count before days left i run) where
  pub climbed_next : (d : Day) (ahead : Option (Result Day ListRule)) (rest : List (Result Day ListRule)) → left ≡ Ok d ∷ with_ahead ahead rest → (ahead ≡ None → rest ≡ []) →
      (step : Step) → step ≡ step_by before d.mark days (raise_at d.limit ahead) → (rung : ℕ) → rung ≡ rung_of step → (more : ℕ) → more ≡ running step → i < length entry →
      Climbed entry whole count d.mark more (with_ahead ahead rest) (i + 1) (set run i rung)
  climbed_next d ahead rest more none step es rung eg m em h =
      let next = days_of (with_ahead ahead rest) in
      let on : step ≡ step_on before days d next = es ∙ ap (step_by before d.mark days) (raise_ahead d.limit ahead rest none) in
      record {
        put = c.put ++ (rung ∷ []);
        left_count = omega (arith, ap length more, c.left_count);
        few = omega (arith, em, ap running es, step_few before d.mark days (raise_at d.limit ahead), c.few);
        all = rw (eg, em) (rw (more, ← on) at c.all ∙ rw append_assoc);
        size = simp length-append (omega (arith, c.size));
        filled = rw c.filled (put_more c.put entry i rung c.size h);
      }

  -- where no day is left, or what is left is none
  pub climbed_all : days_of left ≡ [] → run ≡ whole ++ drop (length whole) entry
  climbed_all none =
      let same : whole ≡ c.put ++ [] = c.all ∙ ap (λ (l : List Day). c.put ++ map rung_of (steps_from before days l)) none in
      c.filled ∙ ap (λ (n : ℕ). c.put ++ drop n entry) (sym c.size) ∙ put_all c.put entry whole same

-- before the first day
pub climbed_none : (entry : List ℕ) (items : List (Result Day ListRule)) (count : ℕ) → Climbable items count entry → Climbed entry (rungs_in items) count Unlocked 0 items 0 entry
unfolding steps
climbed_none entry items count h =
    record {
      put = [];
      left_count = omega (arith, ap length h.counted.read, length-map {A = Day} {B = Result Day ListRule} h.counted.days Ok, h.counted.size);
      few = omega arith;
      all = refl;
      size = refl;
      filled = refl;
    }
