-- Wrong lots that the contract of the division, as the kit publishes it of the source, does not allow: 7 lots over weights of 5, 5 and 4, where the second
-- member has the smallest key. Each gets 2; the first two have the same remainder, and the lot left over goes to the second.
-- Assumes nothing.
use Rattle.std.specs.Prelude.{ℕ, Bool, true, false, not, ◌≡◌, List, [], ◌∷◌}
use Prim.Native.String.{String}
use Rattle.std.proofs.Math.Path.{refl}
use Rattle.std.proofs.Common.{sym, ap, ◌∙◌, arith}
use contract.Lifetimes.{Lfts}
use denote.Triple.Entry.{Args, Res}
use denote.Triple.Clauses.{AtExit}
use Rattle.rules.specs.Codes.{same}
use Rattle.rules.specs.Division.{one_if, left_over_of, rank, share_of, share}
use Rattle.cases.specs.Case.{Holds, so}
use Rattle.division.specs.Shares.{share_at, divided}
use Rattle.division.proofs as division
use Rattle.division.specs.contracts as division_contracts
use Rattle.examples.specs.Allowed.{same_self}

-- lots, under the name of the wrong program that comes to them
pub record Wrong : Type 0 where
  pub name : String
  pub lots : List ℕ

abbrev wrong : String → List ℕ → Wrong
wrong name lots = record { name = name; lots = lots }

abbrev pub right : List ℕ
right = 2 ∷ 3 ∷ 2 ∷ []

abbrev pub wrongs : List Wrong
wrongs =
    wrong "the spare lot by place" (3 ∷ 2 ∷ 2 ∷ [])
    ∷ wrong "the spare lot to nobody" (2 ∷ 2 ∷ 2 ∷ [])
    ∷ wrong "a lot for all who lack the same" (3 ∷ 3 ∷ 2 ∷ [])
    ∷ wrong "the spare lot to the smallest remainder" (2 ∷ 2 ∷ 3 ∷ [])
    ∷ wrong "rounded up" (3 ∷ 3 ∷ 2 ∷ [])
    ∷ wrong "all of the weights, whatever is divided" (5 ∷ 5 ∷ 4 ∷ [])
    -- the part of the first, 2 times 2 to the 32 and 7, divided as if it were still the weight
    ∷ wrong "a weight read after it was changed" (4_294_967_299 ∷ 4_294_967_300 ∷ 4_294_967_303 ∷ [])
    ∷ []

infixr 20 ◌&◌
pub data NoneRight : List Wrong → Type 0 where
  done : NoneRight []
  ◌&◌ : {w : Wrong} {ws : List Wrong} → Holds w.name (not (same w.lots right)) → NoneRight ws → NoneRight (w ∷ ws)

module _ (κs : Lfts 2) (a : Args division_contracts.divide.signature κs) (r : Res division_contracts.divide.signature κs) (s : AtExit division_contracts.divide.ended κs) (h : division.divide.Reads.Learnt κs a r s)
    (weights : a.0.now ≡ 5 ∷ 5 ∷ 4 ∷ []) (keys : a.1.0.now ≡ 2 ∷ 1 ∷ 3 ∷ []) (count : a.1.1.0 ≡ 3) (x : a.1.1.1.0 ≡ 7) where
  pub divided_so : s.0.now ≡ right
  unfolding divided share_at share share_of left_over_of rank
  divided_so = h ∙ rw (weights, keys, count, x) refl

  -- none of these is ever left
  abbrev pub Contradicted : List Wrong → Type 0
  Contradicted [] = Unit {0}
  Contradicted (w ∷ ws) = (s.0.now ≡ w.lots → ⊥) × Contradicted ws

  not_both : {n : String} (b : Bool) → b ≡ true → Holds n (not b) → ⊥
  not_both false e so = absurd (omega (arith, ap one_if e))
  not_both {n = n} true e x3 = elim x3 [ ]

  none_left : (ws : List Wrong) → NoneRight ws → Contradicted ws
  none_left [] done = tt
  none_left (w ∷ ws) (n & ns) = (λ e. not_both (same w.lots right) (ap (λ l. same l right) (sym e ∙ divided_so) ∙ same_self right) n, none_left ws ns)

  pub contradicted : Contradicted wrongs
  contradicted = none_left wrongs (so & so & so & so & so & so & so & done)

-- the same with a fourth place, which no member has: what stands there stays
module _ (κs : Lfts 2) (a : Args division_contracts.divide.signature κs) (r : Res division_contracts.divide.signature κs) (s : AtExit division_contracts.divide.ended κs) (h : division.divide.Reads.Learnt κs a r s)
    (weights : a.0.now ≡ 5 ∷ 5 ∷ 4 ∷ 9 ∷ []) (keys : a.1.0.now ≡ 2 ∷ 1 ∷ 3 ∷ 4 ∷ []) (count : a.1.1.0 ≡ 3) (x : a.1.1.1.0 ≡ 7) where
  pub behind_stays : s.0.now ≡ 2 ∷ 3 ∷ 2 ∷ 9 ∷ []
  unfolding divided share_at share share_of left_over_of rank
  behind_stays = h ∙ rw (weights, keys, count, x) refl
