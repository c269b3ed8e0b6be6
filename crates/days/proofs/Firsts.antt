-- The first byte of its kind, by its place: the bytes up to it and those behind it.
-- Assumes nothing.
use Prim.Native.Char.{Char, code}
use Rattle.std.specs.Prelude.{ℕ, suc, ◌+◌, ◌-◌, ◌<◌, ◌≡◌, refl, List, [], length, take, drop, ltb, Some, None, position}
use Rattle.std.proofs.Common.{sym, ap, ◌∙◌, arith, ltb-true, ltb-false, length-drop, drop_of_length-le}
use Rattle.std.proofs.lemmas.List.{take_all}
use Rattle.std.specs.List.{position_or_len}
use Rattle.std.proofs.lemmas.List.Recursion.{is_position_or_len}
use Rattle.rules.specs.Text.{is}
use Rattle.rules.specs.Figures.{up_to, after}
use Rattle.laws.specs.ByTest.{by_test}
use Rattle.days.specs.Places.{up_to_byte}
use Rattle.days.specs.Parts.{same_bytes, take_up_to, drop_after, cut_most, cut_front, cut_behind}

module _ (c : Char) (v : List ℕ) where
  -- the place that is found is where the bytes up to it end
  place_is : length (up_to_byte (code c) v) ≡ position_or_len (is c) v
  place_is = is_position_or_len (λ l. length (up_to_byte (code c) l)) (is c) refl (λ x xs. by_test (is c x) (λ e. simp e) (λ e. simp e (omega arith))) v

  found : (i : ℕ) → position (is c) v ≡ Some i → (i ≡ length (up_to_byte (code c) v)) × (i < length v)
  found i = by_test (ltb (position_or_len (is c) v) (length v))
      (λ b e. let q : position_or_len (is c) v ≡ i = let w = simp b at e in cc in (sym (place_is ∙ q), omega (arith, ltb-true _ _ b)))
      (λ b e. let w = simp b at e in cc)

  -- it stands there
  pub first_some : (i : ℕ) → position (is c) v ≡ Some i → (i ≡ length (up_to c v)) × (i < length v)
  first_some i e = ((found i e).0 ∙ ap length (same_bytes c v), (found i e).1)

  pub first_none : position (is c) v ≡ None → length (up_to c v) ≡ length v
  first_none = by_test (ltb (position_or_len (is c) v) (length v))
      (λ b e. let w = simp b at e in cc)
      (λ b e. ap length (sym (same_bytes c v)) ∙ omega (arith, ltb-false _ _ b, place_is, cut_most c v _ refl))

  pub front_some : (i : ℕ) → position (is c) v ≡ Some i → take i v ≡ up_to c v
  front_some i e = cut_front c v i (found i e).0

  pub behind_some : (i : ℕ) → position (is c) v ≡ Some i → take (length v - (i + 1)) (drop (i + 1) v) ≡ after c v
  behind_some i e =
      take_all (length v - (i + 1)) (drop (i + 1) v) (simp length-drop (omega arith)) ∙ cut_behind c v i (found i e).0

  pub front_none : position (is c) v ≡ None → v ≡ up_to c v
  front_none e = sym (take_all (length (up_to c v)) v (omega (arith, first_none e))) ∙ take_up_to c v

  pub behind_none : position (is c) v ≡ None → [] ≡ after c v
  behind_none e = sym (drop_of_length-le v {i = suc (length (up_to c v))} (omega (arith, first_none e))) ∙ drop_after c v
