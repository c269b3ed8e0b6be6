-- Whatever holds of what is left of the fields, by what is due, if each step keeps it, holds of an accepted book from its front.
-- Assumes nothing.
use Rattle.std.specs.Prelude.{ℕ, ◌≡◌, refl, List, [], ◌∷◌}
use Rattle.std.proofs.Common.{arith}
use Rattle.rules.specs.declared.Terms.{Terms}
use Rattle.rules.specs.Fields.{Field, Whole, Cut, fields_of}
use Rattle.rules.specs.Book.{Customer, Next, Due, at_front, Stage, Reading, Ended, step, Accepted, judge}
use Rattle.consequences.specs.Runs.{run, stop_not, then_next, accepted_runs}
use Rattle.sheets_promises.specs.Views.{Stepped}
use Rattle.sheets_promises.specs.GroupViews.{step_view}

-- it holds of what is left, and nothing is left behind Z
abbrev pub After : (Due → List Field → Type 0) → Stage → List Field → Type 0
After R (Reading due) fs = R due fs
After R (Ended terms cs) fs = fs ≡ []

module _ (R : Due → List Field → Type 0) (one : (due : Due) (t : ℕ) (v : List ℕ) (st : Stage) → Stepped due t v st → (fs : List Field) → After R st fs → R due (Whole t v ∷ fs))
    (terms : Terms) (cs : List Customer) where
  after : (st : Stage) (fs : List Field) → run st fs ≡ Next (Ended terms cs) → ((next : Due) → run (Reading next) fs ≡ Next (Ended terms cs) → R next fs) → After R st fs
  after (Reading due) fs e ih = ih due e
  after (Ended us ds) [] e ih = refl
  after (Ended us ds) (f ∷ fs) e ih = stop_not e

  from : (fs : List Field) (due : Due) → run (Reading due) fs ≡ Next (Ended terms cs) → R due fs
  from [] due e = absurd (let z : ◌≡◌ {A = ℕ} 0 1 = cc in omega arith)
  from (Cut ∷ fs) due e = stop_not e
  from (Whole t v ∷ fs) due e =
      let (st, w, r) = then_next (step due t v) (λ st. run st fs) (Ended terms cs) e in
      one due t v st (step_view due t v st w) fs (after st fs r (from fs))

  pub accepted_holds : (s : List ℕ) → judge s ≡ Accepted terms cs → R at_front (fields_of s)
  accepted_holds s e = from (fields_of s) at_front (accepted_runs terms cs s e).1
