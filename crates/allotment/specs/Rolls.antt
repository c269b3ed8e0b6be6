-- What a roll says of its book: number 0 is an accepted book's, whose columns the cascade brings to the outcome, and any other a refused one's.
-- Assumes nothing.
use Rattle.std.specs.Prelude.{ℕ, ◌≡◌, refl, Bool, not, List}
use Rattle.std.proofs.Common.{sym, ap, subst, ◌∙◌, arith}
use Rattle.rules.specs.declared.Terms.{Terms}
use Rattle.rules.specs.Book.{Customer, Verdict, Refused, Accepted, judge}
use Rattle.laws.specs.Sane.{Customers, accepted_sane, refused_above}
use Rattle.fields.specs.declared.Refusal.{Refusal}
use Rattle.cascade.specs.Columns.{columns}
use Rattle.cascade.specs.State.{Steady}
use Rattle.roll.specs.declared.Roll.{Roll}
use Rattle.roll.specs.Roll.{Room, Rolled, Held}
use Rattle.report.specs.Sheet.{Placed}
use Rattle.allotment.specs.declared.Closed.{Closed}
use Rattle.allotment.specs.Worked.{at_first, closed_of, Shows}
use Rattle.allotment.specs.Start.{lines_are, start_steady}
use Rattle.allotment.specs.Shown.{lines_shown, report_is, listing_is, placed}
use Rattle.allotment.specs.Space.{listing_room_lem}

module _ (s keys starts standings stakes : List ℕ) (r : Roll) (e : Rolled s (judge s) keys starts standings stakes r) where
  pub refuses : (r.refusal.number ≡ 0 → ⊥) → judge s ≡ Refused r.refusal.number r.refusal.place
  refuses z = go (judge s) refl e
    where
      go : (v : Verdict) → judge s ≡ v → Rolled s v keys starts standings stakes r → judge s ≡ Refused r.refusal.number r.refusal.place
      go (Refused n place) j h = j ∙ ap (λ (x : Roll). Refused x.refusal.number x.refusal.place) (sym h)
      go (Accepted terms cs) j h = absurd (z (ap (λ (x : Refusal). x.number) h.0))

  pub record Accepts : Type 0 where
    pub terms : Terms
    pub customers : List Customer
    pub accepted : judge s ≡ Accepted terms customers
    pub held : Held s terms customers keys starts standings stakes r.count
    pub locked : r.down ≡ terms.down

  pub accepts : r.refusal.number ≡ 0 → Accepts
  accepts z = go (judge s) refl e
    where
      go : (v : Verdict) → judge s ≡ v → Rolled s v keys starts standings stakes r → Accepts
      go (Refused n place) j h =
          absurd (let q : r.refusal.number ≡ n = ap (λ (x : Roll). x.refusal.number) h in let p = refused_above s n place j in omega arith)
      go (Accepted terms cs) j h = record { terms = terms; customers = cs; accepted = j; held = h.1; locked = h.2 }

  module _ (a : Accepts) (room : Room keys starts standings stakes) where
    sane : Customers a.customers
    sane = accepted_sane s a.terms a.customers a.accepted

    pub steady : Steady 0 (columns keys standings stakes r.count) at_first
    steady = start_steady a.terms sane a.held room

    pub shows : (d : Closed) → d ≡ closed_of (columns keys standings stakes r.count) → Shows s a.terms a.customers keys starts standings stakes r.count r.down d
    shows d x =
        rw x (record {
          before = lines_are a.terms sane a.held;
          after = lines_shown a.terms sane a.held;
          placed = subst (λ (b : Bool). Placed s starts standings (closed_of (columns keys standings stakes r.count)).offset r.count (not b)) (sym a.locked) (placed a.terms sane a.held room);
          reports = report_is a.terms sane a.held;
          lists = listing_is a.terms sane a.held;
          short = listing_room_lem a.terms sane a.held room;
        })
