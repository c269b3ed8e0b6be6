-- What a tier does to the lines. Its quantity is at most what is pending and what is offered, so no line gives more than it offers or closes
-- more than it has pending; and where no two codes are the same the lots given, and the lots closed, add up to the quantity.
-- Assumes nothing.
use Rattle.std.specs.Prelude.{ℕ, ◌+◌, ◌-◌, ◌≤◌, ◌≡◌, refl, List, [], ◌∷◌, map}
use Rattle.std.proofs.Common.{sym}
use mathlib.Core.List.Memᴰ
use native.Mathlib.Omega.{arith}
use Rattle.rules.specs.Division.{sum_of, share}
use Rattle.rules.specs.Cascade.{Line, code_of, pending_of, offered_in, quantity, after, tier}
use Rattle.laws.specs.Sums.{sum-map, sum_cong, sum-add}
use Rattle.laws.specs.Division.{share_at_most}
use Rattle.laws.specs.ShareSum.{Distinct, share_sum}

-- members that take their codes along are distinct still
pub distinct_map : {A B : Type 0} (code : A → List ℕ) (code' : B → List ℕ) (g : A → B) → ((a : A) → code' (g a) ≡ code a) → (l : List A) → Distinct code l → Distinct code' (map g l)
distinct_map code code' g h [] d = tt
distinct_map code code' g h (a ∷ l) (d, ds) = (
  (λ b m. let (c, n, e) = Memᴰ.of_map g l m in rw (h a, sym e, h c) (d c n)),
  distinct_map code code' g h l ds,
)

module _ (k : ℕ) (ls : List Line) where
  -- what a line gives in tier k, and what it closes
  abbrev pub gives : Line → ℕ
  gives l = share code_of (offered_in k) (quantity k ls) ls l

  abbrev pub closes : Line → ℕ
  closes l = share code_of pending_of (quantity k ls) ls l

  within_pending : quantity k ls ≤ sum_of pending_of ls
  unfolding quantity
  within_pending = omega arith

  within_offered : quantity k ls ≤ sum_of (offered_in k) ls
  unfolding quantity
  within_offered = omega arith

  pub gives_at_most : (l : Line) → gives l ≤ offered_in k l
  gives_at_most = share_at_most code_of (offered_in k) (quantity k ls) ls within_offered

  pub closes_at_most : (l : Line) → closes l ≤ pending_of l
  closes_at_most = share_at_most code_of pending_of (quantity k ls) ls within_pending

  -- what each offers stays the same
  pub offered_after : (j : ℕ) → sum_of (offered_in j) (tier k ls) ≡ sum_of (offered_in j) ls
  unfolding after
  offered_after j = sum-map (offered_in j) (after k ls) ls

  module _ (d : Distinct code_of ls) where
    pub gives_sum : sum_of gives ls ≡ quantity k ls
    gives_sum = share_sum code_of (offered_in k) (quantity k ls) ls within_offered d

    pub closes_sum : sum_of closes ls ≡ quantity k ls
    closes_sum = share_sum code_of pending_of (quantity k ls) ls within_pending d

    -- pending goes down by the quantity
    pub pending_after : sum_of pending_of (tier k ls) + quantity k ls ≡ sum_of pending_of ls
    unfolding after
    pending_after =
        omega (
          arith,
          sum-map pending_of (after k ls) ls,
          sum-add (λ l. pending_of l - closes l) closes ls,
          sum_cong (λ l. (pending_of l - closes l) + closes l) pending_of ls (λ l m. omega (arith, closes_at_most l)),
          closes_sum,
        )

    pub distinct_after : Distinct code_of (tier k ls)
    unfolding after
    distinct_after = distinct_map code_of code_of (after k ls) (λ l. refl) ls d
