-- One field, exactly: a step stops with number n where n is the first rule in order that the field breaks, and leads on where the field is sound,
-- and nowhere else. The rules asked one after another give the one way; the other needs no more than that a field has at most one first
-- rule, and none where it is sound.
-- Assumes nothing.
use Rattle.std.specs.Prelude.{ℕ, ◌≡◌, refl, Bool, true, false, List, [], ◌∷◌, ◌↔◌}
use Rattle.std.proofs.Common.{sym, ap, subst, ◌∙◌, true≢false}
use Rattle.rules.specs.Book.{Step, Stop, Next, refuse, Due, Stage, step}
use Rattle.laws.specs.Keeps.{Keeps}
use Rattle.promises.specs.Reasons.{Rule, in_order, FirstOf, here, after, NoneOf, done, kept, First, Sound}
use Rattle.promises.specs.Given.{leads}
use Rattle.promises.specs.Stepwise.{asked, step_asked}

module _ (due : Due) (t : ℕ) (v : List ℕ) where
  -- what rules asked in order say of the field, and what is left where none is broken
  abbrev Judged : List Rule → Step Stage → Type 0
  Judged rs p = Keeps (FirstOf due t v rs) (λ (stage : Stage). NoneOf due t v rs × (leads due t v ≡ stage)) p

  asked_judged : (rs : List Rule) → Judged rs (asked due t v rs (Next (leads due t v)))
  asked_judged [] = (done, refl)
  asked_judged (r ∷ rs) = go (r.breaks due t v) refl (asked due t v rs (Next (leads due t v))) (asked_judged rs)
    where
      go : (b : Bool) → r.breaks due t v ≡ b → (p : Step Stage) → Judged rs p → Judged (r ∷ rs) (refuse r.number b p)
      go true e p h = here e
      go false e (Stop n) h = after e h
      go false e (Next stage) h = (kept e h.0, h.1)

  step_judged : Judged in_order (step due t v)
  step_judged = subst (Judged in_order) (sym (step_asked due t v)) (asked_judged in_order)

  one_first : {rs : List Rule} {m n : ℕ} → FirstOf due t v rs m → FirstOf due t v rs n → m ≡ n
  one_first (here e) (here f) = refl
  one_first (here e) (after f q) = absurd (true≢false (sym e ∙ f))
  one_first (after e p) (here f) = absurd (true≢false (sym f ∙ e))
  one_first (after e p) (after f q) = one_first p q

  not_both : {rs : List Rule} {n : ℕ} → FirstOf due t v rs n → NoneOf due t v rs → ⊥
  not_both (here e) (kept f q) = true≢false (sym e ∙ f)
  not_both (after e p) (kept f q) = not_both p q

  pub stops_exactly : (n : ℕ) → (step due t v ≡ Stop n) ↔ First due t v n
  stops_exactly n = (λ e. subst (Judged in_order) e step_judged, λ f. go (step due t v) step_judged f)
    where
      go : (p : Step Stage) → Judged in_order p → First due t v n → p ≡ Stop n
      go (Stop m) h f = ap Stop (one_first h f)
      go (Next stage) h f = absurd (not_both f h.0)

  pub leads_exactly : (stage : Stage) → (step due t v ≡ Next stage) ↔ (Sound due t v × (leads due t v ≡ stage))
  leads_exactly stage = (λ e. subst (Judged in_order) e step_judged, λ f. go (step due t v) step_judged f)
    where
      go : (p : Step Stage) → Judged in_order p → Sound due t v × (leads due t v ≡ stage) → p ≡ Next stage
      go (Stop m) h f = absurd (not_both h f.0)
      go (Next other) h f = ap Next (sym h.1 ∙ f.1)
