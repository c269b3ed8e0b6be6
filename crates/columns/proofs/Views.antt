-- What a book comes to is the view: the product's columns show the customers' lines before the cascade, and the outcome's after it.
-- Assumes nothing.
use Prim.Native.Nat.{ℕ, ◌-◌, ◌≤◌, ◌<◌}
use mathlib.Core.Path.{◌≡◌, refl, sym, ap, ◌∙◌}
use mathlib.Core.Bool.{Bool}
use mathlib.Core.List.{List, map, map-map}
use native.Mathlib.Omega.{arith}
use native.Mathlib.Nat.{sub-zero}
use lib.ListN.{length, get_or-replicate}
use Rattle.rules.specs.declared.Terms.{Terms}
use Rattle.rules.specs.Limits.{most_customers}
use Rattle.rules.specs.Book.{Customer, Refused, Accepted, judge}
use Rattle.rules.specs.Cascade.{Line, pending_of, line_of, outcome}
use Rattle.rules.specs.Report.{letter}
use Rattle.rules.specs.Answer.{Answer, refused, fitted}
use Rattle.laws.specs.Sums.{up_to}
use Rattle.laws.specs.Indices.{map_below}
use Rattle.laws.specs.Keys.{key_of}
use Rattle.laws.specs.Recode.{recode, map_cong}
use Rattle.cascade.specs.Columns.{Columns, columns, line_at, lines_of}
use Rattle.cascade.specs.State.{offset_of}
use Rattle.allotment.specs.declared.Closed.{Closed}
use Rattle.allotment.specs.Worked.{at_first, Shows}
use Rattle.columns.specs.Layouts.{standing_of, offered_of}
use Rattle.columns.specs.View.{Runs, runs, view, viewed_of, viewed}
use Rattle.columns.specs.Shown.{letter_at_of, offered_at, pending_at, shown_in}

-- one run of the lines that columns show, whatever stands for the codes
run_is : (g : Line → ℕ) → ((l : Line) → g (recode key_of l) ≡ g l) → (c : Columns) (offset : List ℕ) (ls : List Line) → lines_of c offset ≡ map (recode key_of) ls →
    map (λ i. g (line_at c offset i)) (up_to c.count) ≡ map g ls
unfolding lines_of
run_is g same c offset ls e =
    sym (map-map g (line_at c offset) (up_to c.count)) ∙ ap (map g) e ∙ map-map g (recode key_of) ls ∙ map_cong _ _ ls (λ l m. same l)

module _ {book : List ℕ} {terms : Terms} {cs : List Customer} {keys starts standings stakes : List ℕ} {count : ℕ} {down : Bool} {d : Closed}
    (h : Shows book terms cs keys starts standings stakes count down d) where
  abbrev c : Columns
  c = columns keys standings stakes count

  abbrev ls : List Line
  ls = map (line_of terms) cs

  letters : map letter (map standing_of ls) ≡ map (letter_at_of standings stakes d.offset) (up_to count)
  letters = map-map letter standing_of ls ∙ sym (run_is (λ l. letter l.standing) (λ l. refl) c at_first.offset ls h.before)

  offered : map offered_of ls ≡ map (offered_at standings stakes d.offset) (up_to count)
  offered = sym (run_is offered_of (λ l. refl) c at_first.offset ls h.before)

  -- nothing of a stake is offset before the cascade
  whole : (i : ℕ) → i < count → pending_of (line_at c at_first.offset i) ≡ pending_at standings stakes d.offset i
  whole i l = let z = get_or-replicate {A = ℕ} most_customers i 0 0 (omega (arith, h.placed.few)) in ap (λ n. pending_at standings stakes d.offset i - n) z ∙ sub-zero _

  pending : map pending_of ls ≡ map (pending_at standings stakes d.offset) (up_to count)
  pending = sym (run_is pending_of (λ l. refl) c at_first.offset ls h.before) ∙ map_below _ _ count whole

  offsets : map offset_of (outcome terms cs).lines ≡ (shown_in standings stakes d.offset count).offsets
  offsets = sym (run_is offset_of (λ l. refl) c d.offset (outcome terms cs).lines h.after)

  shown_is : view terms cs ≡ shown_in standings stakes d.offset count
  unfolding view
  shown_is = λ j. runs (letters j) (offered j) (pending j) (offsets j)

-- a refused book
pub stops : (s : List ℕ) {n place : ℕ} → judge s ≡ Refused n place → (room : ℕ) → viewed s room ≡ (λ run. refused n place)
unfolding viewed
stops s j room = ap (viewed_of room) j

-- an accepted one: the product's columns are the view's
pub record Goes (s standings stakes : List ℕ) (count : ℕ) (d : Closed) : Type 0 where
  pub few : count ≤ most_customers
  pub stood : count ≤ length standings
  pub wide : count ≤ length d.offset
  pub answers : (room : ℕ) → viewed s room ≡ (λ run. fitted room (run (shown_in standings stakes d.offset count)))

pub goes : {s : List ℕ} {terms : Terms} {cs : List Customer} {keys starts standings stakes : List ℕ} {count : ℕ} {down : Bool} {d : Closed} →
    judge s ≡ Accepted terms cs → Shows s terms cs keys starts standings stakes count down d → Goes s standings stakes count d
unfolding viewed
goes j h =
    record {
      few = h.placed.few;
      stood = h.placed.stood;
      wide = h.placed.wide;
      answers = λ room. ap (viewed_of room) j ∙ ap {B = (Runs → List ℕ) → Answer} (λ (v : Runs) run. fitted room (run v)) (shown_is h);
    }
