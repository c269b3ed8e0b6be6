-- "Given exactly when", proved. Where the fields before a place are sound, the judgement of the book is the walk from there; so a book gets what it is
-- given, and is accepted where it is sound. Every book is one or the other, and `judge` says one thing of it: so it gets nothing else.
-- Assumes nothing.
use Rattle.std.specs.Prelude.{ℕ, zero, suc, ◌+◌, ◌≤◌, ◌<◌, ◌≡◌, cond, List, ◌↔◌, length, drop, leb}
use Rattle.std.proofs.Math.Path.{refl, ap}
use Rattle.std.proofs.Common.{sym, ap₂, subst, ◌∙◌, length-take, length-drop, leb-true, leb-false, lt-ltb, le-ltb, arith}
use Rattle.rules.specs.declared.Terms.{Terms}
use Rattle.rules.specs.Limits.{longest_book}
use Rattle.rules.specs.Text.{is}
use Rattle.rules.specs.Fields.{fields_of}
use Rattle.rules.specs.Book.{Customer, Step, Stop, Next, Due, Stage, Reading, Ended, step, Refused, Accepted, placed, walk, judge}
use Rattle.laws.specs.Fields.{fields_end, fields_cut, fields_whole}
use Rattle.laws.specs.ByTest.{by_test}
use Rattle.promises.specs.Reasons.{First, Sound}
use Rattle.promises.specs.Exactly.{stops_exactly, leads_exactly}
use Rattle.promises.specs.Given.{leads, tag_at, value_at, end_at, Reached, front, further}
use Rattle.promises.specs.Given.{Given, too_long, cut_short, after_end, broken, SoundBook, Decided, refused, accepted}

-- `cc` shows 0 and 1 equal where two constructors would be
differ : ◌≡◌ {A = ℕ} 0 1 → ⊥
differ e = omega arith

module _ (s : List ℕ) where
  -- a whole field's value is as long as it says
  size : (at : ℕ) → end_at s at ≤ length s → at + 3 + length (value_at s at) ≡ end_at s at
  size at h = simp (length-take, length-drop) (omega arith)

  reached_inside : {stage : Stage} {last_c at : ℕ} → Reached s stage last_c at → at ≤ length s
  reached_inside (front h) = omega arith
  reached_inside (further r h sound) = h

  -- the walk at a whole field
  field_walk :
      (due : Due) (last_c at : ℕ) → end_at s at ≤ length s → (p : Step Stage) → step due (tag_at s at) (value_at s at) ≡ p →
      walk (Reading due) last_c at (fields_of (drop at s))
      ≡ placed last_c at p (λ stage. walk stage (cond (is "C" (tag_at s at)) at last_c) (end_at s at) (fields_of (drop (end_at s at) s)))
  field_walk due last_c at h p e =
      ap (walk (Reading due) last_c at) (fields_whole s at h)
      ∙ ap₂ (λ (to : ℕ) (q : Step Stage). placed last_c at q (λ stage. walk stage (cond (is "C" (tag_at s at)) at last_c) to (fields_of (drop (end_at s at) s)))) (size at h) e

  -- the judgement is the walk from any place that is reached
  reached_walk : {stage : Stage} {last_c at : ℕ} → Reached s stage last_c at → judge s ≡ walk stage last_c at (fields_of (drop at s))
  unfolding judge
  reached_walk (front h) = rw (le-ltb longest_book (length s) h) refl
  reached_walk (further {due = due} {last_c = last_c} {at = at} r h sound) =
      let stage = leads due (tag_at s at) (value_at s at) in
      reached_walk r ∙ field_walk due last_c at h (Next stage) ((leads_exactly due (tag_at s at) (value_at s at) stage).1 (sound, refl))

  given_refused : {n place : ℕ} → Given s n place → judge s ≡ Refused n place
  unfolding judge
  given_refused (too_long h) = rw (lt-ltb longest_book (length s) h) refl
  given_refused (cut_short {due = due} {last_c = last_c} {at = at} r h) =
      reached_walk r
      ∙ by_test (leb (length s) at)
      (λ e. ap (walk (Reading due) last_c at) (fields_end s at (leb-true _ _ e)))
      (λ e. ap (walk (Reading due) last_c at) (fields_cut s at (leb-false _ _ e) h))
  given_refused (after_end {terms = terms} {cs = cs} {last_c = last_c} {at = at} r h) =
      reached_walk r
      ∙ by_test (leb (end_at s at) (length s))
      (λ e. ap (walk (Ended terms cs) last_c at) (fields_whole s at (leb-true _ _ e)))
      (λ e. ap (walk (Ended terms cs) last_c at) (fields_cut s at h (leb-false _ _ e)))
  given_refused (broken {due = due} {last_c = last_c} {at = at} {n = n} r h f) =
      reached_walk r ∙ field_walk due last_c at h (Stop n) ((stops_exactly due (tag_at s at) (value_at s at) n).1 f)

  sound_accepted : {terms : Terms} {cs : List Customer} → SoundBook s terms cs → judge s ≡ Accepted terms cs
  sound_accepted {terms = terms} {cs = cs} b = reached_walk b.whole ∙ ap (walk (Ended terms cs) b.last_c (length s)) (fields_end s (length s) (omega arith))

  -- a whole field breaks a rule, or is sound
  by_step : (due : Due) (t : ℕ) (v : List ℕ) → ((n : ℕ) → First due t v n → Decided s) → (Sound due t v → Decided s) → Decided s
  by_step due t v stops next = go (step due t v) refl
    where
      go : (p : Step Stage) → step due t v ≡ p → Decided s
      go (Stop n) e = stops n ((stops_exactly due t v n).0 e)
      go (Next stage) e = next ((leads_exactly due t v stage).0 e).0

  -- from a place that is reached, no more than the bytes that are left
  decided_from : (left : ℕ) (stage : Stage) (last_c at : ℕ) → length s < at + left → Reached s stage last_c at → Decided s
  decided_from zero stage last_c at h r = let k = reached_inside r in absurd (omega arith)
  decided_from (suc left) (Ended terms cs) last_c at h r =
      by_test (leb (length s) at)
      (λ e.
      let here : at ≡ length s = omega (arith, leb-true, reached_inside r) in
      accepted (record { last_c = last_c; whole = subst (Reached s (Ended terms cs) last_c) here r }))
      (λ e. refused (after_end r (leb-false _ _ e)))
  decided_from (suc left) (Reading due) last_c at h r =
      by_test (leb (end_at s at) (length s))
      (λ e.
      let inside : end_at s at ≤ length s = leb-true _ _ e in
      by_step due (tag_at s at) (value_at s at)
      (λ n f. refused (broken r inside f))
      (λ sound. decided_from left _ _ (end_at s at) (omega arith) (further r inside sound)))
      (λ e. refused (cut_short r (leb-false _ _ e)))

  pub decided : Decided s
  decided =
      by_test (leb (length s) longest_book)
      (λ e. decided_from (suc (length s)) _ 0 0 (omega arith) (front (leb-true _ _ e)))
      (λ e. refused (too_long (leb-false _ _ e)))

  -- A book gets a number at a place exactly when they are given, and is accepted exactly when it is sound.
  pub refused_exactly : (n place : ℕ) → (judge s ≡ Refused n place) ↔ Given s n place
  refused_exactly n place = (λ e. go decided e, λ g. given_refused g)
    where
      go : Decided s → judge s ≡ Refused n place → Given s n place
      go (refused {n = m} {place = at} g) e =
          let both : Refused m at ≡ Refused n place = sym (given_refused g) ∙ e in
          let number : m ≡ n = cc in
          let there : at ≡ place = cc in
          subst (λ (x : ℕ). Given s x place) number (subst (Given s m) there g)
      go (accepted {terms = terms} {cs = cs} b) e = let both : Accepted terms cs ≡ Refused n place = sym (sound_accepted b) ∙ e in absurd (differ cc)

  pub accepted_exactly : (terms : Terms) (cs : List Customer) → (judge s ≡ Accepted terms cs) ↔ SoundBook s terms cs
  accepted_exactly terms cs = (λ e. go decided e, λ b. sound_accepted b)
    where
      go : Decided s → judge s ≡ Accepted terms cs → SoundBook s terms cs
      go (refused {n = m} {place = at} g) e = let both : Refused m at ≡ Accepted terms cs = sym (given_refused g) ∙ e in absurd (differ cc)
      go (accepted {terms = ts} {cs = ds} b) e =
          let both : Accepted ts ds ≡ Accepted terms cs = sym (sound_accepted b) ∙ e in
          let same-terms : ts ≡ terms = cc in
          let same_customers : ds ≡ cs = cc in
          subst (λ (x : Terms). SoundBook s x cs) same-terms (subst (SoundBook s ts) same_customers b)

  -- at most one number and one place is given, and none to a book that is sound
  pub given_once : {m n p q : ℕ} → Given s m p → Given s n q → (m ≡ n) × (p ≡ q)
  given_once {m = m} {n = n} {p = p} {q = q} g h = let both : Refused m p ≡ Refused n q = sym (given_refused g) ∙ given_refused h in (cc, cc)

  pub never_both : {n place : ℕ} {terms : Terms} {cs : List Customer} → Given s n place → SoundBook s terms cs → ⊥
  never_both {n = n} {place = place} {terms = terms} {cs = cs} g b = let both : Refused n place ≡ Accepted terms cs = sym (given_refused g) ∙ sound_accepted b in differ cc
