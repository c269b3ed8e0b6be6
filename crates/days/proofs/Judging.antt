-- What a list comes to, by its first line and the days behind it.
-- Assumes nothing.
use Rattle.std.specs.Prelude.{ℕ, ◌≤◌, ◌<◌, ◌≡◌, Bool, List, length, drop, Some, None, Ok, Err}
use Rattle.std.proofs.Common.{◌∙◌, lt-ltb, le-ltb}
use Rattle.std.proofs.lemmas.Result.{MatchResult-at_ok, MatchResult-at_err}
use Rattle.days.specs.declared.Day.{Day}
use Rattle.days.specs.declared.Head.{Head}
use Rattle.days.specs.declared.refusal.Refusal.{Refusal}
use Rattle.days.specs.Refusal as refusal
use Rattle.days.specs.Refusal.{number_of}
use Rattle.days.specs.Lines.{lines_of}
use Rattle.days.specs.Listed.{Refused, Accepted, days_from, of_metal, list_of, verdict_of}
use Rattle.days.specs.Places.{head_of, count_of}
use Rattle.days.specs.Heads.{head_of_lem, head_other, judged_taken}

module _ (long : Bool) (total : ℕ) (s : List ℕ) where
  pub too_many : 2_001 < total → verdict_of long total s ≡ Refused refusal.too_many_days 0
  unfolding verdict_of
  too_many h = simp (lt-ltb 2_001 total h)

  few : total ≤ 2_001 → verdict_of long total s ≡ list_of long (lines_of s)
  unfolding verdict_of
  few h = simp (le-ltb 2_001 total h)

  pub no_head : total ≤ 2_001 → head_of s ≡ None → verdict_of long total s ≡ Refused refusal.no_day 0
  no_head h e = few h ∙ head_other s e long

  module _ (h : total ≤ 2_001) (head : Head) (e : head_of s ≡ Some head) where
    by_days : verdict_of long total s ≡ of_metal head.metal (days_from long 1 (lines_of (drop head.start s)))
    by_days = few h ∙ (head_of_lem s head.metal head.start e).days long

    pub list_taken : (n : ℕ) → count_of (days_from long 1 (lines_of (drop head.start s))) ≡ Ok n → (ds : List Day) × (verdict_of long total s ≡ Accepted head.metal ds) × (n ≡ length ds)
    list_taken n k =
        let r = days_from long 1 (lines_of (drop head.start s)) in
        let (ds, a, b) = MatchResult-at_ok (λ (m : ℕ). (ds : List Day) × (of_metal head.metal r ≡ Accepted head.metal ds) × (m ≡ length ds)) (λ (f : Refusal). of_metal head.metal r ≡ Refused (number_of f.rule) f.place) n k (judged_taken head.metal r) in
        (ds, by_days ∙ a, b)

    pub list_not_taken : (f : Refusal) → count_of (days_from long 1 (lines_of (drop head.start s))) ≡ Err f → verdict_of long total s ≡ Refused (number_of f.rule) f.place
    list_not_taken f k =
        let r = days_from long 1 (lines_of (drop head.start s)) in
        by_days ∙ MatchResult-at_err (λ (m : ℕ). (ds : List Day) × (of_metal head.metal r ≡ Accepted head.metal ds) × (m ≡ length ds)) (λ (g : Refusal). of_metal head.metal r ≡ Refused (number_of g.rule) g.place) f k (judged_taken head.metal r)
