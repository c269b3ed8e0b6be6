-- What is true of every customer's seats: there are at most four, their codes are codes and distinct, and none holds more lots than a figure can
-- say. So no sum over them is above four times that.
-- Assumes nothing.
use Rattle.std.specs.Prelude.{ℕ, ◌*◌, ◌≤◌, ◌<◌, ◌≡◌, List, [], ◌∷◌, ◌++◌, true, false, not, ◌&&◌, ◌||◌, length, ltb}
use Rattle.std.proofs.Common.{ap, ◌∙◌, ⊎_elim, arith, length-append, ltb-true}
use mathlib.Core.List.Memᴰ
use Rattle.std.proofs.Math.Bool.{and-eq-true_iff}
use Rattle.rules.specs.declared.Terms.{Terms}
use Rattle.rules.specs.Text.{is}
use Rattle.rules.specs.Refusal as refusal
use Rattle.rules.specs.Limits.{most_seats}
use Rattle.rules.specs.Codes.{is_code, same}
use Rattle.rules.specs.Figures.{held_form}
use Rattle.rules.specs.Opening.{opening_of}
use Rattle.rules.specs.Division.{sum_of}
use Rattle.rules.specs.Book.{
  Seat,
  Customer,
  taken,
  overdrawn,
  astray,
  seated,
  Part,
  DueI,
  DueK,
  DueH,
  DueQ,
  DueSeat,
  DueTrade,
  Group,
  Nobody,
  Open,
  seat_at,
  sits,
  trades,
  within,
}
use Rattle.rules.specs.Seats.{seat_code}
use Rattle.laws.specs.ByTest.{not_either, not-not}
use Rattle.laws.specs.ShareSum.{Distinct}
use Rattle.laws.specs.Keeps.{Keeps, must_keeps, cond_keeps, refuse_keeps, figure_keeps, trade_keeps}

-- a code that nobody has makes one more, of customers and of seats
pub distinct_more : {A : Type 0} (code : A → List ℕ) (l : List A) (a : A) → Distinct code l → taken code (code a) l ≡ false → Distinct code (l ++ a ∷ [])
distinct_more code [] a d h = ((λ b m. absurd (Memᴰ.not-nil m)), tt)
distinct_more code (b ∷ l) a (d, ds) h =
    let (p, q) = not_either (same (code b) (code a)) (taken code (code a) l) h in (
      (λ x m. ⊎_elim (λ n. d x n) (λ n. ap (λ y. same (code b) (code y)) (Memᴰ.eq_of_singleton n) ∙ p) (Memᴰ.append_cases l m)),
      distinct_more code l a ds q,
    )

pub record SaneSeat (s : Seat) : Type 0 where
  pub code : is_code s.code ≡ true
  pub long : s.position.long.0 ≤ 1_000_000
  pub short : s.position.short.0 ≤ 1_000_000
  pub unfilled : s.position.unfilled.0 ≤ 1_000_000

abbrev pub AllSeats : List Seat → Type 0
AllSeats [] = Unit
AllSeats (s ∷ seats) = SaneSeat s × AllSeats seats

pub record SaneSeats (seats : List Seat) : Type 0 where
  pub all : AllSeats seats
  pub distinct : Distinct seat_code seats
  pub few : length seats ≤ most_seats

all_more : (seats : List Seat) (s : Seat) → AllSeats seats → SaneSeat s → AllSeats (seats ++ s ∷ [])
all_more [] s h k = (k, tt)
all_more (r ∷ seats) s h k = (h.0, all_more seats s h.1 k)

-- a sum over four seats of what is at most a million at each
sum_each : (f : Seat → ℕ) → ((s : Seat) → SaneSeat s → f s ≤ 1_000_000) → (seats : List Seat) → AllSeats seats → sum_of f seats ≤ 1_000_000 * length seats
sum_each f h [] k = omega arith
sum_each f h (s ∷ seats) k = omega (arith, h s k.0, sum_each f h seats k.1)

pub sum_seats : (f : Seat → ℕ) → ((s : Seat) → SaneSeat s → f s ≤ 1_000_000) → (seats : List Seat) → SaneSeats seats → sum_of f seats ≤ 4_000_000
sum_seats f h seats k = omega (arith, sum_each f h seats k.all, k.few)

-- a seat that is being read, the next of fewer than four, with a code of its own
pub record Sitting (c : Customer) (s : Seat) : Type 0 where
  pub room : length c.seats < most_seats
  pub new : seated s.code c.seats ≡ false
  pub sane : SaneSeat s

abbrev pub SanePart : Part → Customer → Type 0
SanePart DueI c = c.seats ≡ []
SanePart (DueK s) c = Sitting c s
SanePart (DueH s) c = Sitting c s
SanePart (DueQ s) c = Sitting c s
SanePart DueSeat c = Unit
SanePart DueTrade c = Unit

abbrev pub SaneGroup : Group → Type 0
SaneGroup Nobody = Unit
SaneGroup (Open part c) = SaneSeats c.seats × SanePart part c

abbrev Any : ℕ → Type 0
Any n = Unit

sits_sane : (v : List ℕ) (c : Customer) → SaneSeats c.seats → length c.seats < most_seats → Keeps Any SaneGroup (sits v c)
sits_sane v c k room =
    refuse_keeps Any SaneGroup refusal.malformed (not (is_code v)) _ tt (λ e.
    refuse_keeps Any SaneGroup refusal.seat_twice (seated v c.seats) _ tt (λ f. (
      k,
      record { room = room; new = f; sane = record { code = not-not (is_code v) e; long = omega arith; short = omega arith; unfilled = omega arith } },
    )))

trades_sane : (terms : Terms) (c : Customer) (t : ℕ) (v : List ℕ) → SaneSeats c.seats → Keeps Any SaneGroup (trades terms c t v)
trades_sane terms c t v k =
    must_keeps Any SaneGroup tt (is "B" t || is "A" t) _ (trade_keeps Any SaneGroup terms.decimals (opening_of (is "B" t) v) _ tt tt (λ x.
    refuse_keeps Any SaneGroup refusal.astray (astray terms.settlement x.price) _ tt (λ e. (k, tt))))

pub within_seats : (terms : Terms) (g : Group) (t : ℕ) (v : List ℕ) → SaneGroup g → Keeps Any SaneGroup (within terms g t v)
unfolding within
within_seats terms Nobody t v h = tt
within_seats terms (Open DueI c) t v (k, e) = must_keeps Any SaneGroup tt (is "I" t) _ (sits_sane v c k (omega (arith, ap length e)))
within_seats terms (Open (DueK s) c) t v (k, p) =
    must_keeps Any SaneGroup tt (is "K" t) _ (figure_keeps Any SaneGroup held_form v _ tt tt (λ n h. (
      k,
      record { room = p.room; new = p.new; sane = record { code = p.sane.code; long = h; short = omega arith; unfilled = omega arith } },
    )))
within_seats terms (Open (DueH s) c) t v (k, p) =
    must_keeps Any SaneGroup tt (is "H" t) _ (figure_keeps Any SaneGroup held_form v _ tt tt (λ n h. (
      k,
      record { room = p.room; new = p.new; sane = record { code = p.sane.code; long = p.sane.long; short = h; unfilled = omega arith } },
    )))
within_seats terms (Open (DueQ s) c) t v (k, p) =
    must_keeps Any SaneGroup tt (is "Q" t) _ (figure_keeps Any SaneGroup held_form v _ tt tt (λ n h.
    let seat = seat_at s.code s.position.long.0 s.position.short.0 n in
    refuse_keeps Any SaneGroup refusal.overdrawn (overdrawn terms seat.position) _ tt (λ e. (
      record {
        all = all_more c.seats seat k.all (record { code = p.sane.code; long = p.sane.long; short = p.sane.short; unfilled = h });
        distinct = distinct_more seat_code c.seats seat k.distinct p.new;
        few = simp length-append (omega (arith, p.room));
      },
      tt,
    ))))
within_seats terms (Open DueSeat c) t v (k, p) =
    cond_keeps Any SaneGroup (is "I" t && ltb (length c.seats) most_seats) _ _
    (λ e. sits_sane v c k (ltb-true (length c.seats) most_seats ((and-eq-true_iff (is "I" t) (ltb (length c.seats) most_seats)).0 e).1))
    (λ e. trades_sane terms c t v k)
within_seats terms (Open DueTrade c) t v (k, p) = trades_sane terms c t v k

-- before any seat is read
pub none_sane : SaneSeats []
none_sane = record { all = tt; distinct = tt; few = omega arith }
