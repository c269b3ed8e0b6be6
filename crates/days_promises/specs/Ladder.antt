-- docs/MOVES.md. What a day's step depends on, and that the days running are right.
-- Assumes nothing.
use Rattle.std.specs.Prelude.{ℕ, zero, suc, ◌<◌, ◌≡◌, refl, Bool, true, false, cond, List, [], ◌∷◌, ◌++◌, length, get_or, Option}
use Rattle.std.proofs.Common.{sym, ap, ◌∙◌, arith}
use Rattle.std.proofs.lemmas.Bool.{false≢true}
use Rattle.laws.specs.ByTest.{by_test}
use Rattle.rules.specs.declared.Rate.{Rate}
use Rattle.days.specs.declared.Mark.{Mark}
use Rattle.days.specs.declared.Mark.TheVariants.{Unlocked, Up, Down}
use Rattle.days.specs.declared.Day.{Day}
use Rattle.locks.specs.declared.Raise.{Raise}
use Rattle.locks.specs.declared.Raise.TheVariants.{NoDay}
use Rattle.locks.specs.declared.Step.{Step}
use Rattle.locks.specs.declared.Step.TheVariants.{NotLocked, First}
use Rattle.locks.specs.Ladder.{checked, raise_of, step_by, running, step_on, steps_from, steps}

-- the marks of some days, newest first; those in hand stand before them
abbrev pub backwards : List Mark → List Day → List Mark
backwards ms [] = ms
backwards ms (d ∷ ds) = backwards (d.mark ∷ ms) ds

abbrev pub alike : Mark → Mark → Bool
alike Unlocked Unlocked = true
alike Unlocked Up = false
alike Unlocked Down = false
alike Up Unlocked = false
alike Up Up = true
alike Up Down = false
alike Down Unlocked = false
alike Down Up = false
alike Down Down = true

-- how many of the newest days have this mark, one after the other
abbrev pub same_run : Mark → List Mark → ℕ
same_run m [] = 0
same_run m (x ∷ ms) = cond (alike m x) (suc (same_run m ms)) 0

-- how many days running the newest day is locked in its direction
abbrev pub lock_run : List Mark → ℕ
lock_run [] = 0
lock_run (Unlocked ∷ ms) = 0
lock_run (Up ∷ ms) = suc (same_run Up ms)
lock_run (Down ∷ ms) = suc (same_run Down ms)

-- the mark of the newest day
abbrev pub newest_of : List Mark → Mark
newest_of [] = Unlocked
newest_of (m ∷ ms) = m

running_step : (m : Mark) (ms : List Mark) (raise : Raise) → running (step_by (newest_of ms) m (lock_run ms) raise) ≡ lock_run (m ∷ ms)
running_step Unlocked ms raise = refl
running_step Up [] raise = refl
running_step Up (Unlocked ∷ ms) raise = refl
running_step Up (Up ∷ ms) raise = refl
running_step Up (Down ∷ ms) raise = refl
running_step Down [] raise = refl
running_step Down (Unlocked ∷ ms) raise = refl
running_step Down (Up ∷ ms) raise = refl
running_step Down (Down ∷ ms) raise = refl

-- the step of a day that stands between others
abbrev pub step_among : List Day → Day → List Day → Step
step_among front d back = get_or (steps (front ++ (d ∷ back))) (length front) NotLocked

step_from : (ms : List Mark) (front : List Day) (d : Day) (back : List Day) →
    get_or (steps_from (newest_of ms) (lock_run ms) (front ++ (d ∷ back))) (length front) NotLocked ≡
    step_on (newest_of (backwards ms front)) (lock_run (backwards ms front)) d back
step_from ms [] d back = refl
step_from ms (x ∷ front) d back =
    rw (running_step x.mark ms (raise_of x.limit (front ++ (d ∷ back)))) (step_from (x.mark ∷ ms) front d back)

-- it is that of Article 17's words, by the mark of the day before and the days running on it
pub step_among_lem : (front : List Day) (d : Day) (back : List Day) → let before = backwards [] front in step_among front d back ≡ step_on (newest_of before) (lock_run before) d back
unfolding steps
step_among_lem front d back = step_from [] front d back

-- days running are right: on every day they are the length of its run
pub running_right : (front : List Day) (d : Day) (back : List Day) → running (step_among front d back) ≡ lock_run (d.mark ∷ backwards [] front)
running_right front d back = ap running (step_among_lem front d back) ∙ running_step d.mark (backwards [] front) (raise_of d.limit back)

alike_same : (m x : Mark) → alike m x ≡ true → m ≡ x
alike_same Unlocked Unlocked e = refl
alike_same Unlocked Up e = absurd (false≢true e)
alike_same Unlocked Down e = absurd (false≢true e)
alike_same Up Unlocked e = absurd (false≢true e)
alike_same Up Up e = refl
alike_same Up Down e = absurd (false≢true e)
alike_same Down Unlocked e = absurd (false≢true e)
alike_same Down Up e = absurd (false≢true e)
alike_same Down Down e = refl

alike_self : (m : Mark) → alike m m ≡ true
alike_self Unlocked = refl
alike_self Up = refl
alike_self Down = refl

-- every day of a run has its mark
pub run_alike : (m : Mark) (ms : List Mark) (k : ℕ) → k < same_run m ms → get_or ms k Unlocked ≡ m
run_alike m [] k h = absurd (omega arith)
run_alike m (x ∷ ms) zero h = by_test (alike m x) (λ b. sym (alike_same m x b)) (λ b. absurd (omega (arith, simp b at h)))
run_alike m (x ∷ ms) (suc k) h = by_test (alike m x) (λ b. run_alike m ms k (omega (arith, simp b at h))) (λ b. absurd (omega (arith, simp b at h)))

-- and the day before a run has another
pub run_ends : (m : Mark) (ms : List Mark) → same_run m ms < length ms → get_or ms (same_run m ms) Unlocked ≡ m → ⊥
run_ends m [] h = λ e. omega arith
run_ends m (x ∷ ms) h = by_test (alike m x)
    (λ b. simp b (run_ends m ms (omega (arith, simp b at h))))
    (λ b. simp b (λ e. false≢true (sym b ∙ ap (alike m) e ∙ alike_self m)))

-- the marks of the newest days for as long as they are locked: the run of locked days, in whichever directions
abbrev pub locked_marks : List Mark → List Mark
locked_marks [] = []
locked_marks (Unlocked ∷ ms) = []
locked_marks (Up ∷ ms) = Up ∷ locked_marks ms
locked_marks (Down ∷ ms) = Down ∷ locked_marks ms

newest_locked : (ms : List Mark) → newest_of (locked_marks ms) ≡ newest_of ms
newest_locked [] = refl
newest_locked (Unlocked ∷ ms) = refl
newest_locked (Up ∷ ms) = refl
newest_locked (Down ∷ ms) = refl

same_up : (ms : List Mark) → same_run Up (locked_marks ms) ≡ same_run Up ms
same_up [] = refl
same_up (Unlocked ∷ ms) = refl
same_up (Up ∷ ms) = ap suc (same_up ms)
same_up (Down ∷ ms) = refl

same_down : (ms : List Mark) → same_run Down (locked_marks ms) ≡ same_run Down ms
same_down [] = refl
same_down (Unlocked ∷ ms) = refl
same_down (Up ∷ ms) = refl
same_down (Down ∷ ms) = ap suc (same_down ms)

run_locked : (ms : List Mark) → lock_run (locked_marks ms) ≡ lock_run ms
run_locked [] = refl
run_locked (Unlocked ∷ ms) = refl
run_locked (Up ∷ ms) = ap suc (same_up ms)
run_locked (Down ∷ ms) = ap suc (same_down ms)

-- the limit of the day that follows, where one does
abbrev pub next_limit : List Day → List (Option Rate)
next_limit [] = []
next_limit (d ∷ ds) = d.limit ∷ []

raise_by : Option Rate → List (Option Rate) → Raise
raise_by limit [] = NoDay
raise_by limit (next ∷ ls) = checked limit next

raise_by_lem : (limit : Option Rate) (ds : List Day) → raise_of limit ds ≡ raise_by limit (next_limit ds)
unfolding raise_by
raise_by_lem limit [] = refl
raise_by_lem limit (d ∷ ds) = refl

-- a first lock: the day is locked, and the day before is not
abbrev pub opens : Mark → Mark → Bool
opens before Unlocked = false
opens Unlocked Up = true
opens Up Up = false
opens Down Up = false
opens Unlocked Down = true
opens Up Down = false
opens Down Down = false

same_step : (before mark : Mark) (days : ℕ) (q r : Raise) → (opens before mark ≡ true → q ≡ r) → step_by before mark days q ≡ step_by before mark days r
same_step before Unlocked days q r h = refl
same_step Unlocked Up days q r h = ap First (h refl)
same_step Up Up days q r h = refl
same_step Down Up days q r h = refl
same_step Unlocked Down days q r h = ap First (h refl)
same_step Up Down days q r h = refl
same_step Down Down days q r h = refl

-- a day's step depends on its mark and the run of locked days before it and, for a first lock, on its limit and the next day's alone: of two lists
pub alone : (front : List Day) (d : Day) (back other : List Day) (e : Day) (rest : List Day) → d.mark ≡ e.mark →
    locked_marks (backwards [] front) ≡ locked_marks (backwards [] other) →
    (opens (newest_of (backwards [] front)) d.mark ≡ true → (d.limit ≡ e.limit) × (next_limit back ≡ next_limit rest)) →
    step_among front d back ≡ step_among other e rest
alone front d back other e rest mark run limits =
    let ms = backwards [] front in
    let ns = backwards [] other in
    let newest : newest_of ms ≡ newest_of ns = sym (newest_locked ms) ∙ ap newest_of run ∙ newest_locked ns in
    let days : lock_run ms ≡ lock_run ns = sym (run_locked ms) ∙ ap lock_run run ∙ run_locked ns in
    let q = raise_of d.limit back in
    let r = raise_of e.limit rest in
    step_among_lem front d back
    ∙ same_step (newest_of ms) d.mark (lock_run ms) q r
    (λ o. raise_by_lem d.limit back ∙ ap (λ l. raise_by l (next_limit back)) (limits o).0 ∙ ap (raise_by e.limit) (limits o).1 ∙ sym (raise_by_lem e.limit rest))
    ∙ ap (λ b. step_by b d.mark (lock_run ms) r) newest
    ∙ ap (λ m. step_by (newest_of ns) m (lock_run ms) r) mark
    ∙ ap (λ n. step_by (newest_of ns) e.mark n r) days
    ∙ sym (step_among_lem other e rest)
