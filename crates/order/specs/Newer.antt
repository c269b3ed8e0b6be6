-- The gain of the newest lots as a sum by place: of each trade counts the smaller of its lots and of what is still needed after all newer ones.
-- Newer are those of a later stamp, and of its own stamp those at a later place.
-- Assumes nothing.
use Prim.Native.Nat.{ℕ, ◌+◌, ◌-◌, min}
use Rattle.std.specs.Prelude.{◌≡◌, ltb, leb, ℤ}
use Rattle.std.proofs.Math.Path.{refl, sym, ap, ap₂}
use Rattle.std.proofs.Common.{◌∙◌}
use mathlib.Core.List.{List, [], ◌∷◌}
use Rattle.std.proofs.Math.Bool.{cond}
use native.Mathlib.Omega.{arith}
use Rattle.std.proofs.Math.IntN.{pos, ◌+ℤ◌, +ℤ_assoc, +ℤ_comm, +ℤ_idl, +ℤ_idr}
use borrow.Author.Tests.{ltb-true, ltb-false, le-leb, lt-leb}
use Rattle.laws.specs.ByTest.{by_test}
use Rattle.order.specs.Order.{in_front, placed, arranged, NoneNewer, InOrder, lots_from, newest}
use Rattle.order.specs.Sorted.{none_below, order_arranged}
use Rattle.order.specs.Sums.{none_from, sum_arranged}

swap : (a b c : ℤ) → a +ℤ (b +ℤ c) ≡ b +ℤ (a +ℤ c)
swap a b c = sym (+ℤ_assoc a b c) ∙ ap (λ (z : ℤ). z +ℤ c) (+ℤ_comm a b) ∙ +ℤ_assoc b a c

-- the lots of a stamp or later, with a trade more
abbrev pub with : {A : Type 0} (stamp lots : A → ℕ) → A → (ℕ → ℕ) → ℕ → ℕ
with stamp lots t from e = cond (leb e (stamp t)) (lots t) 0 + from e

module _ {A : Type 0} (stamp lots : A → ℕ) (gain : A → ℕ → ℤ) (need : ℕ) where
  -- a trade's gain, where so many lots are newer
  abbrev pub gain_after : A → ℕ → ℤ
  gain_after t newer = gain t (min (lots t) (need - newer))

  -- by place, the first place first; `before e` are the lots of stamp e or later at the places before
  unfoldable pub by_place_of : (ℕ → ℕ) → List A → ℤ
  by_place_of before [] = pos 0
  by_place_of before (t ∷ later) = gain_after t (before (stamp t + 1) + lots_from stamp lots (stamp t) later) +ℤ by_place_of (with stamp lots t before) later

  -- the same from the last place on, as trades are held; `later e` are the lots of stamp e or later at the later places
  unfoldable from_last : (ℕ → ℕ) → List A → ℤ
  from_last later [] = pos 0
  from_last later (t ∷ before) = gain_after t (lots_from stamp lots (stamp t + 1) before + later (stamp t)) +ℤ from_last (with stamp lots t later) before

  -- the same over a list in order, whose own newer lots are those passed
  unfoldable passing : ℕ → (ℕ → ℕ) → List A → ℤ
  passing over later [] = pos 0
  passing over later (u ∷ us) = gain_after u (over + later (stamp u)) +ℤ passing (over + lots u) later us

  newest_passing : (over : ℕ) (us : List A) → newest lots gain (need - over) us ≡ passing over (λ e. 0) us
  unfolding newest passing
  newest_passing over [] = refl
  newest_passing over (u ∷ us) =
      let rest : need - over - min (lots u) (need - over) ≡ need - (over + lots u) = omega arith in
      let here : need - over ≡ need - (over + 0) = omega arith in
      ap₂ ◌+ℤ◌ (ap (λ (n : ℕ). gain u (min (lots u) n)) here) (ap (λ (n : ℕ). newest lots gain n us) rest ∙ newest_passing (over + lots u) us)

  -- one that is newer than all of a list may stand among those at later places
  passing_later : (t : A) (over : ℕ) (later : ℕ → ℕ) (us : List A) → NoneNewer stamp (stamp t) us → passing (over + lots t) later us ≡ passing over (with stamp lots t later) us
  unfolding passing
  passing_later t over later [] n = refl
  passing_later t over later (u ∷ us) n =
      let a : over + lots t + later (stamp u) ≡ over + (lots t + later (stamp u)) = omega arith in
      let b : over + lots t + lots u ≡ over + lots u + lots t = omega arith in
      rw (le-leb (stamp u) (stamp t) n.0, a, b, passing_later t (over + lots u) later us n.1)

  passing_placed : (t : A) (over : ℕ) (later : ℕ → ℕ) (us : List A) → InOrder stamp us →
      passing over later (placed stamp t us) ≡ gain_after t (over + (lots_from stamp lots (stamp t + 1) us + later (stamp t))) +ℤ passing over (with stamp lots t later) us
  unfolding passing
  passing_placed t over later [] i = ap (λ (n : ℕ). gain_after t n +ℤ pos 0) (omega arith)
  passing_placed t over later (u ∷ us) i =
      by_test (ltb (stamp t) (stamp u))
      (λ h.
      let l = ltb-true (stamp t) (stamp u) h in
      let f = lots_from stamp lots (stamp t + 1) us + later (stamp t) in
      let a : over + lots u + f ≡ over + (lots u + lots_from stamp lots (stamp t + 1) us + later (stamp t)) = omega arith in
      let b : over + later (stamp u) ≡ over + (0 + later (stamp u)) = omega arith in
      rw (h, passing_placed t (over + lots u) later us i.1)
      (swap (gain_after u (over + later (stamp u))) (gain_after t (over + lots u + f)) (passing (over + lots u) (with stamp lots t later) us)
      ∙ rw (lt-leb (stamp u) (stamp t) l, le-leb (stamp t + 1) (stamp u) (omega arith), a, b)))
      (λ h.
      let l = ltb-false (stamp t) (stamp u) h in
      let none : NoneNewer stamp (stamp t) (u ∷ us) = (l, none_below stamp (stamp u) (stamp t) us l i.0) in
      let z : lots_from stamp lots (stamp t + 1) (u ∷ us) ≡ 0 = none_from stamp lots (stamp t) (stamp t + 1) (u ∷ us) (omega arith) none in
      let e : over + later (stamp t) ≡ over + (lots_from stamp lots (stamp t + 1) (u ∷ us) + later (stamp t)) = omega arith in
      let first : passing over later (placed stamp t (u ∷ us)) ≡ passing over later (t ∷ u ∷ us) = rw h in
      first ∙ ap₂ ◌+ℤ◌ (ap (gain_after t) e) (passing_later t over later (u ∷ us) none))

  passing_arranged : (later : ℕ → ℕ) (ts : List A) → passing 0 later (arranged stamp ts) ≡ from_last later ts
  unfolding arranged passing from_last
  passing_arranged later [] = refl
  passing_arranged later (t ∷ ts) =
      let same = sum_arranged stamp (λ x. cond (leb (stamp t + 1) (stamp x)) (lots x) 0) ts in
      let m : 0 + (lots_from stamp lots (stamp t + 1) (arranged stamp ts) + later (stamp t)) ≡ lots_from stamp lots (stamp t + 1) ts + later (stamp t) = omega (arith, same) in
      passing_placed t 0 later (arranged stamp ts) (order_arranged stamp ts) ∙ ap₂ ◌+ℤ◌ (ap (gain_after t) m) (passing_arranged (with stamp lots t later) ts)

  -- from the last place on, or from the first
  last_first : (ts before : List A) →
      from_last (λ e. 0) (in_front ts before) ≡ by_place_of (λ e. lots_from stamp lots e before) ts +ℤ from_last (λ e. lots_from stamp lots e ts) before
  unfolding from_last by_place_of
  last_first [] before = sym (+ℤ_idl (from_last (λ e. 0) before))
  last_first (t ∷ ts) before =
      let here = gain_after t (lots_from stamp lots (stamp t + 1) before + lots_from stamp lots (stamp t) ts) in
      let passed = by_place_of (λ e. lots_from stamp lots e (t ∷ before)) ts in
      let rest = from_last (λ e. lots_from stamp lots e (t ∷ ts)) before in
      last_first ts (t ∷ before) ∙ swap passed here rest ∙ sym (+ℤ_assoc here passed rest)

  -- the newest lots in any order of the trades
  pub newest_by_place : (ts : List A) → newest lots gain need (arranged stamp (in_front ts [])) ≡ by_place_of (λ e. 0) ts
  unfolding from_last
  newest_by_place ts =
      let held = in_front ts [] in
      ap (λ (n : ℕ). newest lots gain n (arranged stamp held)) (omega arith)
      ∙ newest_passing 0 (arranged stamp held)
      ∙ passing_arranged (λ e. 0) held
      ∙ last_first ts []
      ∙ +ℤ_idr (by_place_of (λ e. 0) ts)
