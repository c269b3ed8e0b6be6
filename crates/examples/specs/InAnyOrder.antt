-- "so long as trades of equal day and minute keep their order": without these words demand 3 is false. The book of TradesMoved, with W1's two trades of one
-- minute in each other's place, is accepted, and W1 is tier 2.
-- Assumes nothing.
use Rattle.std.specs.Prelude.{ℕ, ◌≡◌, refl, true, List, [], ◌∷◌, length, get_or}
use Rattle.std.proofs.Common.{ap, arith}
use Rattle.rules.specs.Text.{bytes}
use Rattle.rules.specs.Figures.{written_of, figure_of}
use Rattle.rules.specs.Stamp.{stamp_of}
use Rattle.rules.specs.Opening.{opening_of}
use Rattle.rules.specs.Codes.{is_code}
use Rattle.rules.specs.Fields.{fields_of}
use Rattle.rules.specs.Book.{within, step, judge}
use Rattle.rules.specs.Standing.{gain_from, total_gain, standing}
use Rattle.rules.specs.Division.{left_over_of, rank, share_of, share}
use Rattle.rules.specs.Cascade.{Line, line_of, quantity, after, cascade, outcome}
use Rattle.rules.specs.Report.{digits, listing}
use Rattle.rules.specs.Answer.{answer}
use Rattle.laws.specs.All2.{All2}
use Rattle.consequences.specs.Rearranged.{parts_of, regrouped, trades_of, among, nobody, Chosen}
use Rattle.consequences.specs.Reordered.{Reordered, as_they_stand}
use Rattle.consequences.specs.Reindexed.{each_reindexed}
use Rattle.promises.specs.Outcomes.{outcome_of}
use Rattle.promises.specs.Demand3.{Stays}
use Rattle.promises.specs.ByIndices.{groups_at}
use Rattle.examples.specs.TradesMoved.{four, three, below_four, trades_shown}

-- every trade of a group once, as if no two were of one day and minute
abbrev pub Permutes : List ℕ → List ℕ → Type 0
Permutes g is = Reordered (λ i. i) (length (trades_of g)) is

-- what `by-indices` says, with that in place of `Reindexes`
abbrev pub InAnyOrder : Type 0
InAnyOrder =
    (s : List ℕ) (room : ℕ) → (answer s room).number ≡ 0 → (is : List ℕ) → Chosen (outcome_of s).lines is →
    (js : List (List ℕ)) → All2 Permutes (groups_at s is) js → Stays s (regrouped s (each_reindexed (groups_at s is) js)) is room

abbrev pub exchanged : List (List ℕ)
exchanged = (0 ∷ []) ∷ (0 ∷ 1 ∷ 3 ∷ 2 ∷ []) ∷ (0 ∷ []) ∷ []

permutes : All2 Permutes (groups_at four three) exchanged
unfolding parts_of
permutes = (
  as_they_stand _ 1,
  (
    record {
      below = (omega arith, (omega arith, (omega arith, (omega arith, tt))));
      all = below_four (λ i. among i (0 ∷ 1 ∷ 3 ∷ 2 ∷ []) ≡ true) refl refl refl refl;
      order = ((λ e. omega arith, (λ e. omega arith, (λ e. omega arith, tt))), ((λ e. omega arith, (λ e. omega arith, tt)), ((λ e. omega arith, tt), (tt, tt))));
    },
    (as_they_stand _ 1, tt),
  ),
)

-- by `TradesMoved` W1 is tier 1, with all four lots
pub tier_2 : listing (regrouped four (each_reindexed (groups_at four three) exchanged)) ≡ bytes "total 4\nleft 0\nW2 2 1\nW1 2 3\nP1 P 4\n"
unfolding regrouped parts_of written_of figure_of opening_of stamp_of is_code fields_of within step judge gain_from total_gain standing left_over_of rank share_of share line_of quantity after cascade outcome digits listing
tier_2 = refl

pub not_in_any_order : InAnyOrder → ⊥
unfolding regrouped parts_of outcome_of written_of figure_of opening_of stamp_of is_code fields_of within step judge gain_from total_gain standing left_over_of rank share_of share line_of quantity after cascade outcome
not_in_any_order d =
    let k = d four 200 trades_shown.accepted three trades_shown.chosen exchanged permutes in
    let lots : ◌≡◌ {A = ℕ} 3 4 = ap (λ (ls : List Line). (get_or ls 1 nobody).offset) k.lines in
    omega arith
