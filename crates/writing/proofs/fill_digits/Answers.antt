-- The last digit of the rest is stored, and the digits of its tenth are still to be written before it; or it was the first digit.
use Rattle.std.proofs.Common.{◌≡◌, ◌∙◌, ℕ, ◌+◌, ◌-◌, ◌/◌, ◌%◌, ◌<◌, ◌≤◌, List, [], ◌∷◌, ◌++◌, length, set, ltb, ap, sym, rules, arith, length-append, ltb-true, ltb-false}
use Rattle.rules.specs.Report.{digit, digits}
use Rattle.laws.specs.ByTest.{by_test}
use Rattle.laws.specs.Digits.{digits_one, digits_more, digits_some}
use Rattle.writing.specs.Written.{written, written_one, written_last}
use Rattle.writing.proofs.fill_digits.Goals as goal

several : (n : ℕ) → 1 < length (digits n) → 10 ≤ n
several n h = by_test (ltb n 10) (λ e. absurd (omega (arith, ap length (digits_one n (ltb-true n 10 e))))) (λ e. ltb-false n 10 e)

single : (n : ℕ) → length (digits n) ≤ 1 → n < 10
single n h =
    by_test (ltb n 10)
    (λ e. ltb-true n 10 e)
    (λ e. absurd (omega (arith, simp length-append at (ap length (digits_more n (ltb-false n 10 e))), digits_some (n / 10))))

module _ (at i n : ℕ) (out : List ℕ) (left : i ≡ at + length (digits n)) (room : i ≤ length out) where
  tenth : at < i - 1 → digits n ≡ digits (n / 10) ++ (digit (n % 10) ∷ [])
  tenth h = digits_more n (several n (omega arith))

  place : at < i - 1 → i - 1 ≡ at + length (digits (n / 10))
  place h = omega (arith, simp length-append at (ap length (tenth h)))

  stored : at < i - 1 → written at (digits (n / 10)) (set out (i - 1) (digit (n % 10))) ≡ written at (digits n) out
  stored h = rw (place h, tenth h) (written_last at (digit (n % 10)) (digits (n / 10)) out (omega (arith, place h)))

  first : i - 1 ≤ at → set out (i - 1) (digit (n % 10)) ≡ written at (digits n) out
  first h =
      let small : n < 10 = single n (omega arith) in
      let front : i - 1 ≡ at = omega (arith, digits_some n) in
      let whole : n % 10 ≡ n = omega arith in
      rw (front, whole, digits_one n small) (sym (written_one at (digit n) out (omega (arith, digits_some n))))

pub loop-i-init : goal.loop-i-init
loop-i-init c = record { left = search rules; more = search rules; done = λ h. absurd (omega (arith, digits_some c.args.n)) }

pub loop-i-preserved : goal.loop-i-preserved
loop-i-preserved c =
    let l = c.loop-i in
    let left = l.invariant.left c.loop-i-test.true in
    let more = l.invariant.more c.loop-i-test.true in
    record {
      left = place c.args.at l.i l.rest l.out left (omega arith);
      more = λ h. stored c.args.at l.i l.rest l.out left (omega arith) h ∙ more;
      done = λ h. first c.args.at l.i l.rest l.out left (omega arith) h ∙ more;
    }
