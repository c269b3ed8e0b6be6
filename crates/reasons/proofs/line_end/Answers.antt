-- The line ends at the first line feed, or where the text ends.
use Rattle.std.proofs.Common.{◌≡◌, ◌∙◌, ℕ, ◌-◌, ◌==◌, List, length, take, drop, Bool, refl, sym, ap, rules, tests, arith}
use Rattle.std.specs.List.{position_or_len}
use Rattle.std.proofs.lemmas.Iterator.{YieldsList-from_slice}
use Rattle.std.proofs.lemmas.Iterator.Search.{position_from_yields_List}
use Rattle.std.proofs.lemmas.List.Recursion.{is_position_or_len}
use Rattle.std.proofs.lemmas.Slice.{between_to_end}
use Rattle.rules.specs.Text.{is}
use Rattle.laws.specs.ByTest.{by_test}
use Rattle.reasons.specs.Lines.{first_line}
use Rattle.reasons.proofs.Texts.{place_or_end}
use Rattle.reasons.proofs.line_end.Goals as goal

first_feed : (s : List ℕ) → length (first_line s) ≡ position_or_len (λ x. x == 10) s
first_feed s = is_position_or_len (λ t. length (first_line t)) (λ x. x == 10) refl (λ y ys. by_test (is "\n" y) (λ e. simp e) (λ e. simp e (omega arith))) s

pub returns : goal.returns
returns c =
    let text = c.args.text.now in
    let from = c.args.from in
    let rest = take (length text - from) (drop from text) in
    let whole : rest ≡ drop from text = between_to_end text from (length text) (omega arith) in
    let feed : ℕ → Bool = λ x. x == 10 in
    let found = position_from_yields_List feed _ _ c.position.result c.position.ensures.ran (YieldsList-from_slice rest cc) (λ x b q k. search (rules, tests)) in
    let place : c.unwrap_or.result ≡ length (first_line rest) = place_or_end feed rest c.position.result c.unwrap_or.result found c.unwrap_or.ensures ∙ sym (first_feed rest) in
    omega (arith, ap (λ (s : List ℕ). length (first_line s)) whole)
