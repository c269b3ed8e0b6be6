-- Which of the lines are picked, and in what order, does not matter to the cascade, as long as whoever is left out is neither pending nor in
-- a tier: such a line is idle, so the picked lines are alike to all of them, before each tier and after it.
-- Assumes nothing.
use Rattle.std.specs.Prelude.{ℕ, ◌≡◌, length, get_or}
use Rattle.std.proofs.Common.{sym, subst, ◌∙◌}
use mathlib.Core.List.Memᴰ
use mathlib.Core.List.{List, map, Memᴰ}
use Rattle.std.proofs.lemmas.List.{length-map}
use Rattle.rules.specs.declared.Terms.{Terms}
use Rattle.rules.specs.declared.Standing.TheVariants.{Neither}
use Rattle.rules.specs.Book.{Customer}
use Rattle.rules.specs.Cascade.{Line, Outcome, line_of, pending_of, quantity, after, tier, cascade, outcome}
use Rattle.consequences.specs.Rearranged.{picked, Below, nobody, Chosen}
use Rattle.laws.specs.Recode.{map_cong}
use Rattle.laws.specs.Indices.{get_d_mem, get_d_in}
use Rattle.consequences.specs.Picks.{picked_map, sum_chosen}
use Rattle.consequences.specs.Alike.{Idle, Alike, quantity_alike, after_alike, tier_alike}

-- lines picked from a list, alike to all of it
record Enough (ls : List Line) (is : List ℕ) : Type 0 where
  below : Below (length ls) is
  alike : Alike (picked nobody ls is) ls

module _ (k : ℕ) (ls : List Line) (is : List ℕ) (e : Enough ls is) where
  tier_picked : tier k (picked nobody ls is) ≡ picked nobody (tier k ls) is
  tier_picked =
      map_cong _ _ (picked nobody ls is) (λ l m. after_alike k (picked nobody ls is) ls e.alike l)
      ∙ sym (picked_map (after k ls) nobody nobody ls is e.below)

  tier_enough : Enough (tier k ls) is
  tier_enough =
      record {
        below = rw (length-map ls (after k ls)) e.below;
        alike = subst (λ (ms : List Line). Alike ms (tier k ls)) tier_picked (tier_alike k (picked nobody ls is) ls e.alike);
      }

  quantity_picked : quantity k (picked nobody ls is) ≡ quantity k ls
  quantity_picked = quantity_alike k (picked nobody ls is) ls e.alike

-- an outcome of which some lines are picked
abbrev pub picked_of : Outcome → List ℕ → Outcome
picked_of o is = record { total = o.total; residue = o.residue; lines = picked nobody o.lines is }

cascade_picked : (ls : List Line) (is : List ℕ) → Enough ls is → cascade (picked nobody ls is) ≡ picked_of (cascade ls) is
unfolding cascade
cascade_picked ls is e =
    let e₂ = tier_enough 1 ls is e in
    let e₃ = tier_enough 2 (tier 1 ls) is e₂ in
    rw (
      quantity_picked 1 ls is e,
      tier_picked 1 ls is e,
      quantity_picked 2 (tier 1 ls) is e₂,
      tier_picked 2 (tier 1 ls) is e₂,
      quantity_picked 3 (tier 2 (tier 1 ls)) is e₃,
      tier_picked 3 (tier 2 (tier 1 ls)) is e₃,
      e.alike.sums pending_of (λ l i. i.1),
    )

pub cascade_chosen : (ls : List Line) (is : List ℕ) → Chosen ls is → ((l : Line) → Memᴰ l ls → l.standing ≡ Neither → Idle l) →
    cascade (picked nobody ls is) ≡ picked_of (cascade ls) is
cascade_chosen ls is c h =
    cascade_picked ls is (record {
      below = c.below;
      alike = record {
        sums = λ f z. sum_chosen f nobody ls is c.below c.once (λ i l q. z (get_or ls i nobody) (h (get_or ls i nobody) (get_d_mem ls i nobody l) (c.bystanders i l q)));
      };
    })

-- a tier keeps every standing, so who may be left out after it may be left out before it
chosen_before : (k : ℕ) (ls : List Line) (is : List ℕ) → Chosen (tier k ls) is → Chosen ls is
unfolding after
chosen_before k ls is c =
    let size : length (tier k ls) ≡ length ls = length-map ls (after k ls) in
    record {
      below = rw size at c.below;
      once = c.once;
      bystanders = λ i l q. rw (get_d_in (after k ls) ls i nobody nobody l) at (c.bystanders i (rw size l) q);
    }

pub chosen_after : (ls : List Line) (is : List ℕ) → Chosen (cascade ls).lines is → Chosen ls is
unfolding cascade
chosen_after ls is c = chosen_before 1 ls is (chosen_before 2 (tier 1 ls) is (chosen_before 3 (tier 2 (tier 1 ls)) is c))

-- who is neither pending nor in a tier is idle
line_idle : (terms : Terms) (c : Customer) → (line_of terms c).standing ≡ Neither → Idle (line_of terms c)
unfolding line_of
line_idle terms c e = (rw e, rw e)

pub outcome_chosen : (terms : Terms) (cs : List Customer) (d : Customer) (is : List ℕ) → Chosen (map (line_of terms) cs) is →
    outcome terms (picked d cs is) ≡ picked_of (outcome terms cs) is
unfolding outcome
outcome_chosen terms cs d is c =
    rw (sym (picked_map (line_of terms) d nobody cs is (rw (length-map cs (line_of terms)) at c.below)))
    (cascade_chosen (map (line_of terms) cs) is c idle)
  where
    idle : (l : Line) → Memᴰ l (map (line_of terms) cs) → l.standing ≡ Neither → Idle l
    idle l m e =
        let b = Memᴰ.of_map (line_of terms) cs m in
        subst (λ (k : Line). k.standing ≡ Neither → Idle k) b.2 (line_idle terms b.0) e
