-- docs/MOVES.md. When the check of a first lock comes to what.
-- Assumes nothing.
use Rattle.std.specs.Prelude.{◌+◌, ◌≤◌, ◌<◌, ◌≡◌, refl, List, [], ◌∷◌, leb, Option, Some, None}
use Rattle.std.proofs.Common.{arith, leb-true, leb-false, le-leb}
use Rattle.std.proofs.lemmas.Bool.{lt-leb}
use Rattle.rules.specs.declared.Rate.{Rate}
use Rattle.laws.specs.ByTest.{by_test}
use Rattle.days.specs.declared.Day.{Day}
use Rattle.locks.specs.declared.Raise.{Raise}
use Rattle.locks.specs.declared.Raise.TheVariants.{Holds, Fails, NoDay, NoLimit, NoNextLimit}
use Rattle.locks.specs.Ladder.{checked, raise_of}

-- what the check of a first lock comes to, in numbers
pub data Comes : Option Rate → List Day → Raise → Type 0 where
  no_day : {limit : Option Rate} → Comes limit [] NoDay
  no_limit : {d : Day} {ds : List Day} → Comes None (d ∷ ds) NoLimit
  no_next_limit : {from : Rate} {d : Day} {ds : List Day} → d.limit ≡ None → Comes (Some from) (d ∷ ds) NoNextLimit
  holds : {from to : Rate} {d : Day} {ds : List Day} → d.limit ≡ Some to → from.0 + 3_000 ≤ to.0 → to.0 ≤ from.0 + 6_000 → Comes (Some from) (d ∷ ds) Holds
  too_little : {from to : Rate} {d : Day} {ds : List Day} → d.limit ≡ Some to → to.0 < from.0 + 3_000 → Comes (Some from) (d ∷ ds) Fails
  too_much : {from to : Rate} {d : Day} {ds : List Day} → d.limit ≡ Some to → from.0 + 6_000 < to.0 → Comes (Some from) (d ∷ ds) Fails

-- both ways: it comes to what the definition says, and to nothing else
pub comes : (limit : Option Rate) (ds : List Day) → Comes limit ds (raise_of limit ds)
comes limit [] = no_day
comes None (d ∷ ds) = no_limit
comes (Some from) (d ∷ ds) = go d.limit refl
  where
    go : (next : Option Rate) → d.limit ≡ next → Comes (Some from) (d ∷ ds) (checked (Some from) next)
    go None e = no_next_limit e
    go (Some to) e =
        by_test (leb (from.0 + 3_000) to.0)
        (λ a. by_test (leb to.0 (from.0 + 6_000))
        (λ b. simp (a, b) (holds e (leb-true (from.0 + 3_000) to.0 a) (leb-true to.0 (from.0 + 6_000) b)))
        (λ b. simp (a, b) (too_much e (leb-false to.0 (from.0 + 6_000) b))))
        (λ a. simp a (too_little e (leb-false (from.0 + 3_000) to.0 a)))

pub comes_alone : {limit : Option Rate} {ds : List Day} {raise : Raise} → Comes limit ds raise → raise ≡ raise_of limit ds
comes_alone no_day = refl
comes_alone no_limit = refl
comes_alone (no_next_limit e) = rw e
comes_alone (holds {from} {to} e a b) = rw e (simp (le-leb (from.0 + 3_000) to.0 a, le-leb to.0 (from.0 + 6_000) b))
comes_alone (too_little {from} {to} e a) = rw e (simp (lt-leb (from.0 + 3_000) to.0 a))
comes_alone (too_much {from} {to} e a) = rw e (simp (le-leb (from.0 + 3_000) to.0 (omega arith), lt-leb to.0 (from.0 + 6_000) a))
