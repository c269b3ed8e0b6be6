-- Demand 3 in the words of request [2]: "Demand 3 now lets a customer's own trades be rearranged too, so long as trades of equal day and minute keep their
-- order." A rearrangement is one list of indices for the customers and, for each customer that is still in the book, one for its trades: each trade once,
-- and of two of equal day and minute the one that stood first is first.
-- Assumes nothing.
use Rattle.std.specs.Prelude.{ℕ, ◌≡◌, refl, List, [], ◌∷◌}
use Rattle.rules.specs.Answer.{answer}
use Rattle.laws.specs.All2.{All2}
use Rattle.consequences.specs.Rearranged.{parts_of, picked, regrouped, rearranged, Chosen, Retraded}
use Rattle.consequences.specs.Picks.{all2_picked}
use Rattle.consequences.specs.Lines.{lines_many}
use Rattle.consequences.specs.Described.{Describes}
use Rattle.consequences.specs.Accepted.{accepted_built}
use Rattle.consequences.specs.Reindexed.{Reindexes, each_reindexed, each_retraded}
use Rattle.promises.specs.Outcomes.{no_customer, outcome_of, accepted_fits}
use Rattle.promises.specs.Demand3.{Stays, demand_3, outcome_is}

-- the groups of the customers at the indices, in their order
abbrev pub groups_at : List ℕ → List ℕ → List (List ℕ)
groups_at s is = picked [] (parts_of s).groups is

pub by_indices : (s : List ℕ) (room : ℕ) → (answer s room).number ≡ 0 → (is : List ℕ) → Chosen (outcome_of s).lines is →
    (js : List (List ℕ)) → All2 Reindexes (groups_at s is) js → Stays s (regrouped s (each_reindexed (groups_at s is) js)) is room
by_indices s room h is c js r =
    let f = accepted_fits s room h in
    let d = (accepted_built s f.terms f.customers f.judged).groups in
    let below = rw (outcome_is s room f, lines_many f.terms f.customers) at c.below in
    let now = all2_picked (Describes f.terms) [] no_customer (parts_of s).groups f.customers d is below in
    demand_3 s room h is c (each_reindexed (groups_at s is) js) (each_retraded f.terms (groups_at s is) (picked no_customer f.customers is) now js r)

-- Demand 3 as it was before that request: the customers alone, each group as it stands
unmoved : (gs : List (List ℕ)) → All2 Retraded gs gs
unmoved [] = tt
unmoved (g ∷ gs) = (record { front = refl; trades = record { same = λ d. refl } }, unmoved gs)

pub customers_alone : (s : List ℕ) (room : ℕ) → (answer s room).number ≡ 0 → (is : List ℕ) → Chosen (outcome_of s).lines is → Stays s (rearranged s is) is room
customers_alone s room h is c = demand_3 s room h is c (groups_at s is) (unmoved (groups_at s is))
