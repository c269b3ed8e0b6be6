-- Document 01's listing in columns (request [10]), of every call that the contract of `frundavel_columns` allows: what stands in runs of six places; and wrong
-- answers that no call gives. Computed.
-- Assumes nothing.
use Rattle.std.specs.Prelude.{ℕ, ◌≡◌, replicate}
use Rattle.std.proofs.Common.{sym, ◌∙◌}
use Rattle.std.proofs.Math.Path.{ap, ap₂}
use mathlib.Core.List.{List, [], ◌∷◌}
use Rattle.std.proofs.Math.ListN.{get_or}
use native.Mathlib.Omega.{arith}
use Rattle.rules.specs.Text.{bytes}
use Rattle.rules.specs.Figures.{written_of, figure_of}
use Rattle.rules.specs.Stamp.{stamp_of}
use Rattle.rules.specs.Opening.{opening_of}
use Rattle.rules.specs.Codes.{is_code}
use Rattle.rules.specs.Fields.{fields_of}
use Rattle.rules.specs.Book.{within, step, judge}
use Rattle.rules.specs.Standing.{gain_from, total_gain, standing}
use Rattle.rules.specs.Division.{left_over_of, rank, share_of, share}
use Rattle.rules.specs.Cascade.{line_of, quantity, after, cascade, outcome}
use Rattle.rules.specs.Answer.{lent}
use Rattle.cases.specs.Cases.{the_listing}
use Rattle.columns.specs.View.{Runs, runs, view, places_of, viewed}
use Rattle.promises.specs.ViewCall.{ViewCall, book_of, lent_to, left_by, of_contract}

-- runs of six places, for five customers
abbrev six : Runs
six = runs (bytes "xxxxxx") (replicate 6 7) (replicate 6 7) (replicate 6 7)

-- what a run is left as
abbrev left : (Runs → List ℕ) → List ℕ → Runs → List ℕ
left run s entry = lent (viewed s (places_of entry) run) (run entry)

module _ (c : ViewCall) (places : lent_to c ≡ six) where
  module _ (book : book_of c ≡ the_listing "8.000") where
    pub listed : (c.answer.number ≡ 0) × (c.answer.place ≡ 0) × (c.answer.length ≡ 5)
    unfolding viewed view written_of figure_of opening_of stamp_of is_code fields_of within step judge gain_from total_gain standing left_over_of rank share_of share line_of quantity after cascade outcome
    listed = (
      (of_contract c).number ∙ ap₂ (λ s e. (viewed s (places_of e) (λ v. v.standings)).number) book places,
      (of_contract c).place ∙ ap₂ (λ s e. (viewed s (places_of e) (λ v. v.standings)).place) book places,
      (of_contract c).length ∙ ap₂ (λ s e. (viewed s (places_of e) (λ v. v.standings)).length) book places,
    )

    pub standings : (left_by c).standings ≡ bytes "3P1P2x"
    unfolding viewed view written_of figure_of opening_of stamp_of is_code fields_of within step judge gain_from total_gain standing left_over_of rank share_of share line_of quantity after cascade outcome
    standings = (of_contract c).standings ∙ ap₂ (left (λ v. v.standings)) book places

    pub offered : (left_by c).offered ≡ 1 ∷ 0 ∷ 3 ∷ 0 ∷ 5 ∷ 7 ∷ []
    unfolding viewed view written_of figure_of opening_of stamp_of is_code fields_of within step judge gain_from total_gain standing left_over_of rank share_of share line_of quantity after cascade outcome
    offered = (of_contract c).offered ∙ ap₂ (left (λ v. v.offered)) book places

    pub pending : (left_by c).pending ≡ 0 ∷ 4 ∷ 0 ∷ 6 ∷ 0 ∷ 7 ∷ []
    unfolding viewed view written_of figure_of opening_of stamp_of is_code fields_of within step judge gain_from total_gain standing left_over_of rank share_of share line_of quantity after cascade outcome
    pending = (of_contract c).pending ∙ ap₂ (left (λ v. v.pending)) book places

    pub offsets : (left_by c).offsets ≡ 1 ∷ 3 ∷ 3 ∷ 6 ∷ 5 ∷ 7 ∷ []
    unfolding viewed view written_of figure_of opening_of stamp_of is_code fields_of within step judge gain_from total_gain standing left_over_of rank share_of share line_of quantity after cascade outcome
    offsets = (of_contract c).offsets ∙ ap₂ (left (λ v. v.offsets)) book places

    -- a place at which a run is not what a wrong program leaves there
    differs : (run wrong right : List ℕ) (i : ℕ) → run ≡ wrong → run ≡ right → get_or wrong i 0 ≡ get_or right i 0
    differs run wrong right i e f = ap (λ (l : List ℕ). get_or l i 0) (sym e ∙ f)

    pub not_offsets_for_pending : (left_by c).pending ≡ 0 ∷ 3 ∷ 0 ∷ 6 ∷ 0 ∷ 7 ∷ [] → ⊥
    not_offsets_for_pending w = omega (arith, differs _ _ _ 1 w pending)

    -- everybody with the first customer's stake
    pub not_the_first_stake : (left_by c).pending ≡ 0 ∷ 1 ∷ 0 ∷ 1 ∷ 0 ∷ 7 ∷ [] → ⊥
    not_the_first_stake w = omega (arith, differs _ _ _ 1 w pending)

    pub not_a_place_too_far : (left_by c).offsets ≡ 1 ∷ 3 ∷ 3 ∷ 6 ∷ 5 ∷ 0 ∷ [] → ⊥
    not_a_place_too_far w = omega (arith, differs _ _ _ 5 w offsets)

    -- the customers by code: P1, P2, W1, W2, W3
    pub not_another_order : (left_by c).standings ≡ bytes "PP123x" → ⊥
    not_another_order w = omega (arith, differs _ _ _ 0 w standings)

  -- refused, with a comma in L: 4 at 17, and a run's first place is altered
  pub not_altered_on_refusal : book_of c ≡ the_listing "8,000" → (left_by c).standings ≡ bytes "Nxxxxx" → ⊥
  unfolding viewed written_of figure_of opening_of stamp_of is_code fields_of within step judge
  not_altered_on_refusal book w =
      let kept : (left_by c).standings ≡ bytes "xxxxxx" = (of_contract c).standings ∙ ap₂ (left (λ v. v.standings)) book places in
      let e : get_or (bytes "Nxxxxx") 0 0 ≡ get_or (bytes "xxxxxx") 0 0 = ap (λ (l : List ℕ). get_or l 0 0) (sym w ∙ kept) in
      omega arith

  -- every refusal told as 11
  pub not_told_as_no_room : book_of c ≡ the_listing "8,000" → c.answer.number ≡ 11 → ⊥
  unfolding viewed written_of figure_of opening_of stamp_of is_code fields_of within step judge
  not_told_as_no_room book w =
      let told : c.answer.number ≡ 4 = (of_contract c).number ∙ ap₂ (λ s e. (viewed s (places_of e) (λ v. v.standings)).number) book places in
      omega arith

-- runs that just have the places
abbrev five : Runs
five = runs (bytes "xxxxx") (replicate 5 7) (replicate 5 7) (replicate 5 7)

module _ (c : ViewCall) (places : lent_to c ≡ five) (book : book_of c ≡ the_listing "8.000") where
  pub not_no_room_where_there_is : c.answer.number ≡ 11 → ⊥
  unfolding viewed view written_of figure_of opening_of stamp_of is_code fields_of within step judge gain_from total_gain standing left_over_of rank share_of share line_of quantity after cascade outcome
  not_no_room_where_there_is w =
      let told : c.answer.number ≡ 0 = (of_contract c).number ∙ ap₂ (λ s e. (viewed s (places_of e) (λ v. v.standings)).number) book places in
      omega arith
