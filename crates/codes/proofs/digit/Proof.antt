-- `codes::digit` meets its contract: below 'A' only a number is between the bounds, and from there on only a letter. Assumes nothing.
use Prim.Native.Nat.{ℕ, ◌≤◌, ◌<◌}
use borrow.Author.Rules.{rules}
use borrow.Author.Tests.{ltb-true, ltb-false}
use mathlib.Core.Bool.{Bool, true, false, cond}
use mathlib.Core.Logic.{◌⊎◌, inl, inr, ⊎_elim}
use mathlib.Core.Path.{◌≡◌, refl, sym, ◌∙◌}
use native.Mathlib.Omega.{arith}
use lib.Dec.{ltb}
use Rattle.laws.specs.Keys.{of_number, of_letter, of_other}
use Rattle.codes.proofs.digit.Statement.{statement}
use Rattle.codes.proofs.digit.Tie as tie

-- what is chosen by the side of 'A'
chosen : (x a b r : ℕ) → r ≡ cond (ltb x 65) a b → ((x < 65) × (r ≡ a)) ⊎ ((65 ≤ x) × (r ≡ b))
chosen x a b r e = go (ltb x 65) refl
  where
    go : (t : Bool) → ltb x 65 ≡ t → ((x < 65) × (r ≡ a)) ⊎ ((65 ≤ x) × (r ≡ b))
    go true h = inl (ltb-true x 65 h, e ∙ rw h)
    go false h = inr (ltb-false x 65 h, e ∙ rw h)

either-requires : tie.Need-either-least-requires
either-requires c κs = search rules

returns : tie.Need-returns-then-x-least
returns c =
    let x = c.before.before.args.x in
    ⊎_elim (λ w. sym (of_other x (λ p q. omega (arith, w.1, c.if-x-least.true)) (λ p q. omega (arith, w.0))))
    (λ w. sym (of_other x (λ p q. omega (arith, w.0)) (λ p q. omega (arith, w.1, c.if-x-least.true))))
    (chosen x 48 65 _ c.before.either-least.ensures)

either-requires-2 : tie.Need-either-most-requires
either-requires-2 c κs = search rules

returns-2 : tie.Need-returns-then-most-x
returns-2 c =
    let x = c.before.before.before.before.args.x in
    ⊎_elim (λ w. sym (of_other x (λ p q. omega (arith, w.1, c.if-most-x.true)) (λ p q. omega (arith, w.0))))
    (λ w. sym (of_other x (λ p q. omega (arith, w.0)) (λ p q. omega (arith, w.1, c.if-most-x.true))))
    (chosen x 57 90 _ c.before.either-most.ensures)

either-requires-3 : tie.Need-either-none-requires
either-requires-3 c κs = search rules

-- a byte between the bounds of its side
module _ (c : tie.After-either-none) where
  abbrev byte : ℕ
  byte = c.before.before.before.before.before.args.x

  between : ((48 ≤ byte) × (byte ≤ 57) × (c.either-none.result ≡ 47)) ⊎ ((65 ≤ byte) × (byte ≤ 90) × (c.either-none.result ≡ 54))
  between =
      let l = c.before.before.before in
      let m = c.before in
      ⊎_elim
      (λ w. inl (
        ⊎_elim (λ v. omega (arith, v.1, l.if-x-least.false)) (λ v. absurd (omega (arith, v.0, w.0))) (chosen byte 48 65 _ l.before.either-least.ensures),
        ⊎_elim (λ v. omega (arith, v.1, m.if-most-x.false)) (λ v. absurd (omega (arith, v.0, w.0))) (chosen byte 57 90 _ m.before.either-most.ensures),
        w.1,
      ))
      (λ w. inr (
        w.0,
        ⊎_elim (λ v. absurd (omega (arith, v.0, w.0))) (λ v. omega (arith, v.1, m.if-most-x.false)) (chosen byte 57 90 _ m.before.either-most.ensures),
        w.1,
      ))
      (chosen byte 47 54 _ c.either-none.ensures)

sub-result : tie.Need-overflow_sub-result
sub-result c = ⊎_elim (λ w. omega (arith, w.0, w.2)) (λ w. omega (arith, w.0, w.2)) (between c)

cast-result : tie.Need-overflow_cast-result
cast-result c = search rules

returns-3 : tie.Need-returns
returns-3 c =
    ⊎_elim (λ w. omega (arith, w.2, of_number (byte c) w.0 w.1))
    (λ w. omega (arith, w.2, of_letter (byte c) w.0 w.1))
    (between c)

pub digit_spec : {M : Type 1} → statement M
digit_spec =
    tie.close
    (tie.spec
    either-requires
    returns
    either-requires-2
    returns-2
    either-requires-3
    sub-result
    cast-result
    returns-3)
