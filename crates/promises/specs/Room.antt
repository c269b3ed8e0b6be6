-- A room that is enough: no report is longer than `FRUNDAVEL_ROOM` of include/frundavel.h, so that a call with such a buffer never answers 11. An accepted
-- book has at most 256 customers (`report-length` counts the bytes of each); and 11 is given for the room alone, since no rule of the book has that number.
-- Assumes nothing.
use Rattle.std.specs.Prelude.{ℕ, ◌+◌, ◌*◌, ◌≤◌, ◌<◌, ◌≡◌, refl, cond, List, [], ◌∷◌, length, eqb}
use Rattle.std.proofs.Common.{ap, eq-eqb, arith}
use Rattle.rules.specs.declared.Terms.{Terms}
use Rattle.rules.specs.Refusal as refusal
use Rattle.rules.specs.Book.{Customer, Due, Accepted, judge}
use Rattle.rules.specs.Cascade.{outcome}
use Rattle.rules.specs.Report.{report}
use Rattle.laws.specs.Sane.{accepted_sane}
use Rattle.consequences.specs.ReportLength.{report_length}
use Rattle.promises.specs.Call.{Call, lent_to, book_of}
use Rattle.promises.specs.Reasons.{Rule, in_order, FirstOf, here, after}
use Rattle.promises.specs.Given.{Given, too_long, cut_short, after_end, broken}
use Rattle.promises.specs.Refused.{accepted_exactly}
use Rattle.promises.specs.Numbers.{Why, by_the_book, no_room}
use Rattle.promises.specs.Demands.{demand_1}

-- T and R, then of each customer C, E and O, and I and J of each of four seats
abbrev pub report_room : ℕ
report_room = 13 + 13 + 256 * (15 + 4 + 10 + 4 * (15 + 10))

-- the gate holds the header's number to this one
pub in_figures : report_room ≡ 33_050
in_figures = refl

pub report_fits : (s : List ℕ) (terms : Terms) (cs : List Customer) → judge s ≡ Accepted terms cs → length (report (outcome terms cs)) ≤ report_room
report_fits s terms cs e = omega (arith, report_length s terms cs e, (accepted_sane s terms cs e).few)

-- how many rules have a number: none of those in order has 11
abbrev having : ℕ → List Rule → ℕ
having n [] = 0
having n (r ∷ rs) = cond (eqb r.number n) 1 0 + having n rs

first_has : {due : Due} {t n : ℕ} {v : List ℕ} (rs : List Rule) → FirstOf due t v rs n → 0 < having n rs
first_has (r ∷ rs) (here h) = rw (eq-eqb r.number r.number refl) (omega arith)
first_has (r ∷ rs) (after h f) = omega (arith, first_has rs f)
first_has {due = due} {t = t} {n = n} {v = v} [] x' = elim x' [ ]

module _ (s : List ℕ) where
  given_other : {n place : ℕ} → Given s n place → n ≡ refusal.no_room → ⊥
  given_other (too_long h) e = omega arith
  given_other (cut_short r h) e = omega arith
  given_other (after_end r h) e = omega arith
  given_other (broken {n = n} r h f) e = let none : having n in_order ≡ 0 = ap (λ (m : ℕ). having m in_order) e in omega (arith, first_has in_order f, none)

  why_other : {room n place : ℕ} → report_room ≤ room → Why s room n place → n ≡ refusal.no_room → ⊥
  why_other enough (by_the_book g) e = given_other g e
  why_other enough (no_room {terms = terms} {cs = cs} b h) e = omega (arith, report_fits s terms cs ((accepted_exactly s terms cs).1 b))

-- whatever the book, and whatever stood in the buffer
pub room_enough : (c : Call) → report_room ≤ length (lent_to c) → c.answer.number ≡ refusal.no_room → ⊥
room_enough c enough e = why_other (book_of c) enough (demand_1 c (omega arith)).why e
