-- 11 and no 11, for runs of so many customers; a refusal leaves every run as it was.
-- Assumes nothing.
use Prim.Native.Nat.{ℕ, ◌≤◌, ◌<◌}
use mathlib.Core.Path.{◌≡◌, refl, sym, ap, ◌∙◌}
use mathlib.Core.List.{List, map}
use borrow.Author.Tests.{lt-ltb, le-ltb}
use Rattle.rules.specs.Refusal as refusal
use Rattle.rules.specs.Answer.{Answer, refused, fitted, lent}
use Rattle.laws.specs.Sums.{up_to}
use Rattle.laws.specs.Indices.{length-map_up_to}
use Rattle.laws.specs.Filled.{filled}
use Rattle.division.specs.Shares.{at}
use Rattle.columns.specs.View.{Runs, places_of, Viewed}
use Rattle.columns.specs.Shown.{letter_at_of, offered_at, pending_at, shown_in, over}

pub refused_so : (n place : ℕ) (entry : Runs) → Viewed (λ run. refused n place) entry entry (record { number = n; place = place; length = 0 })
refused_so n place entry =
    record { number = refl; place = refl; length = refl; standings = refl; offered = refl; pending = refl; offsets = refl }

-- one run
module _ (f : ℕ → ℕ) (count room : ℕ) where
  small : room < count → fitted room (map f (up_to count)) ≡ refused refusal.no_room count
  small h = rw (length-map_up_to f count, lt-ltb room count h)

  large : count ≤ room → fitted room (map f (up_to count)) ≡ record { number = refusal.accepted; place = 0; length = count; report = map f (up_to count) }
  large h = rw (length-map_up_to f count, le-ltb room count h)

  kept : (entry : List ℕ) → room < count → entry ≡ lent (fitted room (map f (up_to count))) entry
  kept entry h = rw (small h)

  put : (entry : List ℕ) → count ≤ room → filled f count entry ≡ lent (fitted room (map f (up_to count))) entry
  put entry h = rw (large h, length-map_up_to f count)

module _ (bytes stakes offset : List ℕ) (count : ℕ) (entry : Runs) where
  abbrev answer : (Runs → List ℕ) → Answer
  answer run = fitted (places_of entry) (run (shown_in bytes stakes offset count))

  pub too_few : places_of entry < count → Viewed answer entry entry (record { number = refusal.no_room; place = count; length = 0 })
  too_few h =
      let e = sym (small (letter_at_of bytes stakes offset) count (places_of entry) h) in
      record {
        number = ap (λ (a : Answer). a.number) e;
        place = ap (λ (a : Answer). a.place) e;
        length = ap (λ (a : Answer). a.length) e;
        standings = kept (letter_at_of bytes stakes offset) count (places_of entry) entry.standings h;
        offered = kept (offered_at bytes stakes offset) count (places_of entry) entry.offered h;
        pending = kept (pending_at bytes stakes offset) count (places_of entry) entry.pending h;
        offsets = kept (at offset) count (places_of entry) entry.offsets h;
      }

  pub enough : {exit : Runs} → count ≤ places_of entry → exit ≡ over bytes stakes offset count entry →
      Viewed answer entry exit (record { number = refusal.accepted; place = 0; length = count })
  enough h x =
      let e = sym (large (letter_at_of bytes stakes offset) count (places_of entry) h) in
      record {
        number = ap (λ (a : Answer). a.number) e;
        place = ap (λ (a : Answer). a.place) e;
        length = ap (λ (a : Answer). a.length) e;
        standings = ap (λ (r : Runs). r.standings) x ∙ put (letter_at_of bytes stakes offset) count (places_of entry) entry.standings h;
        offered = ap (λ (r : Runs). r.offered) x ∙ put (offered_at bytes stakes offset) count (places_of entry) entry.offered h;
        pending = ap (λ (r : Runs). r.pending) x ∙ put (pending_at bytes stakes offset) count (places_of entry) entry.pending h;
        offsets = ap (λ (r : Runs). r.offsets) x ∙ put (at offset) count (places_of entry) entry.offsets h;
      }
