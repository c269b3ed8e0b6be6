-- Acceptance without places: a book is accepted where its fields, one step after the other, lead to its end. A place is only said of a
-- refusal, so that the same fields elsewhere lead on alike.
-- Assumes nothing.
use Rattle.std.specs.Prelude.{ℕ, ◌+◌, ◌≤◌, List, [], ◌∷◌, ◌++◌, Bool, length}
use Rattle.std.proofs.Math.Path.{◌≡◌, refl}
use Rattle.std.proofs.Math.Bool.{true, false, cond}
use Rattle.std.proofs.Math.Dec.{ltb}
use Rattle.std.proofs.Common.{ltb-false, le-ltb, arith}
use Rattle.rules.specs.declared.Terms.{Terms}
use Rattle.rules.specs.Refusal as refusal
use Rattle.rules.specs.Limits.{longest_book}
use Rattle.rules.specs.Text.{is}
use Rattle.rules.specs.Fields.{Field, Whole, Cut, fields_of}
use Rattle.rules.specs.Book.{Customer, Step, Stop, Next, at_front, Stage, Reading, Ended, step, Refused, Accepted, placed, walk, judge}

-- the next step, where this one is no refusal
abbrev pub then : {A B : Type 0} → Step A → (A → Step B) → Step B
then (Stop n) next = Stop n
then (Next a) next = next a

abbrev pub run : Stage → List Field → Step Stage
run stage [] = Next stage
run (Ended terms cs) (f ∷ fs) = Stop refusal.misplaced
run (Reading due) (Cut ∷ fs) = Stop refusal.cut_short
run (Reading due) (Whole t v ∷ fs) = then (step due t v) λ stage. run stage fs

pub run_append : (stage : Stage) (fs gs : List Field) → run stage (fs ++ gs) ≡ then (run stage fs) λ next. run next gs
run_append stage [] gs = refl
run_append (Ended terms cs) (f ∷ fs) gs = refl
run_append (Reading due) (Cut ∷ fs) gs = refl
run_append (Reading due) (Whole t v ∷ fs) gs = go (step due t v) (λ next. run_append next fs gs)
  where
    go : (r : Step Stage) → ((next : Stage) → run next (fs ++ gs) ≡ then (run next fs) λ last. run last gs) →
        then r (λ next. run next (fs ++ gs)) ≡ then (then r λ next. run next fs) λ last. run last gs
    go (Stop n) h = refl
    go (Next next) h = h next

-- a refusal is no acceptance
pub stop_not : {A : Type 0} {n : ℕ} {a : A} {G : Type 0} → ◌≡◌ {A = Step A} (Stop n) (Next a) → G
stop_not e = absurd (let z : ◌≡◌ {A = ℕ} 0 1 = cc in omega arith)

pub then_next :
    {A B : Type 0} (r : Step A) (next : A → Step B) (b : B) → then r next ≡ Next b → (a : A) × (r ≡ Next a) × (next a ≡ Next b)
then_next (Stop n) next b e = stop_not e
then_next (Next a) next b e = (a, refl, e)

module _ (terms : Terms) (cs : List Customer) where
  pub walk_runs : (stage : Stage) (last_c at : ℕ) (fs : List Field) → walk stage last_c at fs ≡ Accepted terms cs → run stage fs ≡ Next (Ended terms cs)
  walk_runs (Ended terms' ds) last_c at [] e = cc
  walk_runs (Ended terms' ds) last_c at (f ∷ fs) e = cc
  walk_runs (Reading due) last_c at [] e = cc
  walk_runs (Reading due) last_c at (Cut ∷ fs) e = cc
  walk_runs (Reading due) last_c at (Whole t v ∷ fs) e = go (step due t v) e (λ next. walk_runs next (cond (is "C" t) at last_c) (at + 3 + length v) fs)
    where
      go : (r : Step Stage) → placed last_c at r (λ next. walk next (cond (is "C" t) at last_c) (at + 3 + length v) fs) ≡ Accepted terms cs →
          ((next : Stage) → walk next (cond (is "C" t) at last_c) (at + 3 + length v) fs ≡ Accepted terms cs → run next fs ≡ Next (Ended terms cs)) →
          then r (λ next. run next fs) ≡ Next (Ended terms cs)
      go (Stop n) e h = cc
      go (Next next) e h = h next e

  pub run_walks : (stage : Stage) (last_c at : ℕ) (fs : List Field) → run stage fs ≡ Next (Ended terms cs) → walk stage last_c at fs ≡ Accepted terms cs
  run_walks (Ended terms' ds) last_c at [] e = cc
  run_walks (Ended terms' ds) last_c at (f ∷ fs) e = cc
  run_walks (Reading due) last_c at [] e = cc
  run_walks (Reading due) last_c at (Cut ∷ fs) e = cc
  run_walks (Reading due) last_c at (Whole t v ∷ fs) e = go (step due t v) e (λ next. run_walks next (cond (is "C" t) at last_c) (at + 3 + length v) fs)
    where
      go : (r : Step Stage) → then r (λ next. run next fs) ≡ Next (Ended terms cs) →
          ((next : Stage) → run next fs ≡ Next (Ended terms cs) → walk next (cond (is "C" t) at last_c) (at + 3 + length v) fs ≡ Accepted terms cs) →
          placed last_c at r (λ next. walk next (cond (is "C" t) at last_c) (at + 3 + length v) fs) ≡ Accepted terms cs
      go (Stop n) e h = cc
      go (Next next) e h = h next e

  pub accepted_runs : (s : List ℕ) → judge s ≡ Accepted terms cs → (length s ≤ longest_book) × (run (Reading at_front) (fields_of s) ≡ Next (Ended terms cs))
  unfolding judge
  accepted_runs s e = go (ltb longest_book (length s)) refl e
    where
      go : (b : Bool) → ltb longest_book (length s) ≡ b → cond b (Refused refusal.too_long 0) (walk (Reading at_front) 0 0 (fields_of s)) ≡ Accepted terms cs →
          (length s ≤ longest_book) × (run (Reading at_front) (fields_of s) ≡ Next (Ended terms cs))
      go true l e = absurd (let z : ◌≡◌ {A = ℕ} 0 1 = cc in omega arith)
      go false l e = (ltb-false longest_book (length s) l, walk_runs (Reading at_front) 0 0 (fields_of s) e)

  pub runs_accepted : (s : List ℕ) → length s ≤ longest_book → run (Reading at_front) (fields_of s) ≡ Next (Ended terms cs) → judge s ≡ Accepted terms cs
  unfolding judge
  runs_accepted s h e = rw (le-ltb longest_book (length s) h) (run_walks (Reading at_front) 0 0 (fields_of s) e)
