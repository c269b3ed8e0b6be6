-- A line by where its parts end, one part after the other: what is no line, and what a line of one part and of four is.
-- Assumes nothing.
use Prim.Native.Nat.{ℕ, suc, ◌+◌, ◌-◌, ◌≤◌, ◌<◌}
use mathlib.Core.Path.{◌≡◌, sym, ap, ◌∙◌}
use mathlib.Core.Bool.{true, false}
use mathlib.Core.List.{List, [], ◌∷◌}
use native.Mathlib.Omega.{arith}
use lib.ListN.{length, get_or, drop}
use Rattle.rules.specs.Book.{Stop}
use Rattle.sheets.specs.Mark.{stands_in}
use Rattle.sheets.specs.Places.{stopless, leads, between, Front, Parts, with_part, front_of, of_front, HasOne, HasFour, Begun}
use Rattle.sheets.proofs.Forms.{between_size, between_one, standing, plain_at, front_at, front_fed, front_on, no_letter, no_part, no_end, no_third, no_fourth, no_feed}

-- a place where a part ends that begins at another
abbrev pub Stops : List ℕ → ℕ → ℕ → Type 0
Stops s from r = r ≡ from + length (stopless (drop from s))

-- the line that begins at a place is none
abbrev pub NoLine : List ℕ → ℕ → Type 0
NoLine s at = (mark : ℕ) → of_front mark (front_of (drop at s)) ≡ Stop 22

module _ (s : List ℕ) (at a : ℕ) (begun : Begun s at a) (b : ℕ) (sb : Stops s (a + 1) b) where
  abbrev t : ℕ
  t = get_or s at 0

  abbrev first : List ℕ
  first = between (at + 2) a s

  abbrev second : List ℕ
  second = between (a + 1) b s

  abbrev upto : Front → Front
  upto f = with_part (t ∷ []) (with_part first f)

  pub no_third_at : leads 59 (drop b s) ≡ false → NoLine s at
  no_third_at e mark = ap (of_front mark) (begun.front ∙ ap upto (front_at s (a + 1) b sb)) ∙ no_third mark t first second (drop b s) e

  module _ (lb : leads 59 (drop b s) ≡ true) (c : ℕ) (sc : Stops s (b + 1) c) where
    abbrev third : List ℕ
    third = between (b + 1) c s

    front_b : front_of (drop at s) ≡ upto (with_part second (front_of (drop (b + 1) s)))
    front_b = begun.front ∙ ap upto (front_on s (a + 1) b sb lb)

    pub no_fourth_at : leads 59 (drop c s) ≡ false → NoLine s at
    no_fourth_at e mark =
        ap (of_front mark) (front_b ∙ ap (λ f. upto (with_part second f)) (front_at s (b + 1) c sc)) ∙ no_fourth mark t first second third (drop c s) e

    module _ (lc : leads 59 (drop c s) ≡ true) (d : ℕ) (sd : Stops s (c + 1) d) where
      abbrev fourth : List ℕ
      fourth = between (c + 1) d s

      front_c : front_of (drop at s) ≡ upto (with_part second (with_part third (front_of (drop (c + 1) s))))
      front_c = front_b ∙ ap (λ f. upto (with_part second f)) (front_on s (b + 1) c sc lc)

      pub no_feed_at : leads 10 (drop d s) ≡ false → NoLine s at
      no_feed_at e mark =
          ap (of_front mark) (front_c ∙ ap (λ f. upto (with_part second (with_part third f))) (front_at s (c + 1) d sd))
          ∙ no_feed mark t first second third fourth (drop d s) e

      pub has_four : leads 10 (drop d s) ≡ true → HasFour s at t a b c d
      has_four e =
          let end = standing s d 10 e in
          let inside = end.inside in
          let size : suc (1 + suc (length first + suc (length second + suc (length third + suc (length fourth))))) ≡ suc d - at =
          omega (arith, begun.begins, between_size (at + 2) a s (omega arith), between_size (a + 1) b s (omega arith), between_size (b + 1) c s (omega arith), between_size (c + 1) d s (omega arith)) in
          record {
            front = front_c ∙ ap (λ f. upto (with_part second (with_part third f))) (front_fed s (c + 1) d sd e)
                ∙ ap (Parts ((t ∷ []) ∷ first ∷ second ∷ third ∷ fourth ∷ [])) size;
            begins = begun.begins;
            second = omega arith;
            third = omega arith;
            fourth = omega arith;
            ends = inside;
            parted = (begun.parted, (standing s b 59 lb).byte, (standing s c 59 lc).byte);
            plain = (begun.plain, plain_at s (a + 1) b sb, plain_at s (b + 1) c sc, plain_at s (c + 1) d sd);
          }

-- the letter's part
module _ (s : List ℕ) (at : ℕ) (here : at < length s) (l : ℕ) (sl : Stops s at l) (within : l ≤ length s) where
  pub no_letter_at : (l ≡ at + 1 → ⊥) → NoLine s at
  no_letter_at h mark =
      ap (of_front mark) (front_at s at l sl) ∙ no_letter mark (between at l s) (drop l s) (λ e. h (omega (arith, between_size at l s within)))

  pub no_part_at : leads 59 (drop l s) ≡ false → NoLine s at
  no_part_at e mark = ap (of_front mark) (front_at s at l sl) ∙ no_part mark (between at l s) (drop l s) e

  -- one byte, and the first part behind its semicolon
  module _ (one : l ≡ at + 1) (ll : leads 59 (drop l s) ≡ true) (a : ℕ) (sa : Stops s (l + 1) a) where
    letter : between at l s ≡ get_or s at 0 ∷ []
    letter = ap (λ (n : ℕ). between at n s) one ∙ between_one at s here

    behind : l + 1 ≡ at + 2
    behind = omega arith

    part : between (l + 1) a s ≡ between (at + 2) a s
    part = ap (λ (n : ℕ). between n a s) behind

    front_l : front_of (drop at s) ≡ with_part (get_or s at 0 ∷ []) (front_of (drop (l + 1) s))
    front_l = front_on s at l sl ll ∙ ap (λ (p : List ℕ). with_part p (front_of (drop (l + 1) s))) letter

    pub no_end_at : leads 10 (drop a s) ≡ false → leads 59 (drop a s) ≡ false → NoLine s at
    no_end_at e h mark =
        ap (of_front mark) (front_l ∙ ap (with_part (get_or s at 0 ∷ [])) (front_at s (l + 1) a sa)) ∙ no_end mark (get_or s at 0) (between (l + 1) a s) (drop a s) h e

    pub has_one : leads 10 (drop a s) ≡ true → HasOne s at (get_or s at 0) a
    has_one e =
        let inside = (standing s a 10 e).inside in
        let size : suc (1 + suc (length (between (at + 2) a s))) ≡ suc a - at = omega (arith, between_size (at + 2) a s (omega arith)) in
        record {
          front = front_l ∙ ap (with_part (get_or s at 0 ∷ [])) (front_fed s (l + 1) a sa e ∙ ap (λ (p : List ℕ). Parts (p ∷ []) (suc (length p))) part)
              ∙ ap (Parts ((get_or s at 0 ∷ []) ∷ between (at + 2) a s ∷ [])) size;
          begins = omega arith;
          ends = inside;
        }

    pub begun_at : leads 59 (drop a s) ≡ true → Begun s at a
    begun_at e =
        let here = standing s a 59 e in
        record {
          front = front_l ∙ ap (with_part (get_or s at 0 ∷ [])) (front_on s (l + 1) a sa e ∙ ap (λ (p : List ℕ). with_part p (front_of (drop (a + 1) s))) part);
          begins = omega arith;
          inside = here.inside;
          parted = here.byte;
          plain = ap (stands_in 59) (sym part) ∙ plain_at s (l + 1) a sa;
        }
