-- What a viewer sees of some customers in some order is what it sees of all, picked in that order.
-- Assumes nothing.
use Rattle.std.specs.Prelude.{ℕ, ◌≡◌, refl, length}
use Rattle.std.proofs.Math.Path.{sym, ap}
use Rattle.std.proofs.Common.{◌∙◌}
use mathlib.Core.List.{List, [], ◌∷◌, ◌++◌, map, map-map}
use Rattle.std.proofs.Math.ListN.{get_or-append}
use Rattle.std.proofs.lemmas.List.{length-map}
use Rattle.rules.specs.declared.Terms.{Terms}
use Rattle.rules.specs.Book.{Customer}
use Rattle.rules.specs.Cascade.{Line, Outcome, line_of, pending_of, outcome}
use Rattle.rules.specs.Report.{letter}
use Rattle.consequences.specs.Rearranged.{picked, Below, nobody, Chosen}
use Rattle.consequences.specs.Picks.{picked_map}
use Rattle.consequences.specs.Lines.{lines_many}
use Rattle.consequences.specs.Chosen.{chosen_after, outcome_chosen}
use Rattle.cascade.specs.State.{offset_of}
use Rattle.columns.specs.Layouts.{standing_of, offered_of}
use Rattle.columns.specs.View.{view}
use Rattle.promises.specs.Outcomes.{no_customer}

pub picked_front : (l m is : List ℕ) → Below (length l) is → picked 0 (l ++ m) is ≡ picked 0 l is
picked_front l m [] b = refl
picked_front l m (i ∷ is) b = rw (get_or-append l m 0 i b.0, picked_front l m is b.1)

-- the view of customers that are picked is picked from the view
module _ (terms : Terms) (cs : List Customer) (is : List ℕ) (chosen : Chosen (outcome terms cs).lines is) where
  abbrev pub some : List Customer
  some = picked no_customer cs is

  abbrev lines : List Line
  lines = map (line_of terms) cs

  pub below : Below (length cs) is
  below = rw (lines_many terms cs) at chosen.below

  values_picked : (f : Line → ℕ) → map f (map (line_of terms) some) ≡ picked 0 (map f lines) is
  values_picked f =
      sym (picked_map f nobody 0 lines is (rw (length-map cs (line_of terms)) below) ∙ ap (map f) (picked_map (line_of terms) no_customer nobody cs is below))

  pub standings_picked : (view terms some).standings ≡ picked 0 (view terms cs).standings is
  unfolding view
  standings_picked =
      map-map letter standing_of (map (line_of terms) some)
      ∙ values_picked (λ l. letter l.standing)
      ∙ sym (ap (λ (l : List ℕ). picked 0 l is) (map-map letter standing_of lines))

  pub offered_picked : (view terms some).offered ≡ picked 0 (view terms cs).offered is
  unfolding view
  offered_picked = values_picked offered_of

  pub pending_picked : (view terms some).pending ≡ picked 0 (view terms cs).pending is
  unfolding view
  pending_picked = values_picked pending_of

  pub offsets_picked : (view terms some).offsets ≡ picked 0 (view terms cs).offsets is
  unfolding view outcome
  offsets_picked =
      ap (λ (o : Outcome). map offset_of o.lines) (outcome_chosen terms cs no_customer is (chosen_after lines is chosen))
      ∙ sym (picked_map offset_of nobody 0 (outcome terms cs).lines is chosen.below)
