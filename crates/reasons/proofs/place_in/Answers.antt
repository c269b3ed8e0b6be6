-- The place of the first byte that is the same, or how many there are.
use Rattle.std.proofs.Common.{◌≡◌, ◌∙◌, ℕ, suc, ◌+◌, ◌==◌, List, Bool, cond, refl, sym, ap, rules, tests, arith}
use Rattle.std.specs.List.{position_or_len}
use Rattle.std.proofs.lemmas.Iterator.{YieldsList-from_slice}
use Rattle.std.proofs.lemmas.Iterator.Search.{position_from_yields_List}
use Rattle.std.proofs.lemmas.List.Recursion.{is_position_or_len}
use Rattle.reasons.specs.Reason.{place_in}
use Rattle.reasons.proofs.Texts.{place_or_end}
use Rattle.reasons.proofs.place_in.Goals as goal

first_same : (t : ℕ) (xs : List ℕ) → place_in t xs ≡ position_or_len (λ x. x == t) xs
first_same t xs =
    is_position_or_len (place_in t) (λ x. x == t) refl
    (λ y ys. let one : suc (place_in t ys) ≡ 1 + place_in t ys = omega arith in ap (λ (n : ℕ). cond (y == t) 0 n) one)
    xs

pub returns : goal.returns
returns c =
    let all = c.args.all.now in
    let same : ℕ → Bool = λ x. x == c.args.byte in
    let found = position_from_yields_List same _ _ c.position.result c.position.ensures.ran (YieldsList-from_slice all cc) (λ x b q k. search (rules, tests)) in
    place_or_end same all c.position.result c.unwrap_or.result found c.unwrap_or.ensures ∙ sym (first_same c.args.byte all)
