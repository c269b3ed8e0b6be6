-- What a customer's seats come to in a group: the same refusal; or its trades are read next, with seats whose positions add up to what was read,
-- and which are those that stand in the book for who reads them again.
-- Assumes nothing.
use Prim.Native.Nat.{ℕ, zero, suc, ◌+◌, ◌<◌}
use Prim.Native.Char.{code}
use mathlib.Core.Path.{◌≡◌, refl, sym, ap, subst, ◌∙◌}
use mathlib.Core.Logic.{⊎_elim}
use mathlib.Core.List.Memᴰ
use mathlib.Core.List.{List, [], ◌∷◌, ◌++◌, map, map-append, append-nil, append_assoc, Memᴰ}
use mathlib.Core.Bool.{Bool, true, false, cond, ◌&&◌, ◌||◌}
use native.Mathlib.Omega.{arith}
use lib.ListN.{length, drop, length-append}
use lib.Dec.{ltb}
use borrow.Author.Tests.{eqb-true, lt-ltb, le-ltb}
use Rattle.rules.specs.declared.Terms.{Terms}
use Rattle.rules.specs.declared.Position.{Position}
use Rattle.rules.specs.Refusal as refusal
use Rattle.rules.specs.Limits.{most_seats}
use Rattle.rules.specs.Text.{is}
use Rattle.rules.specs.Codes.{is_code}
use Rattle.rules.specs.Fields.{Field, Whole, Cut, fields_of}
use Rattle.rules.specs.Seats.{seat_code}
use Rattle.rules.specs.Book.{Seat, added, Customer, seated, Part, DueI, DueSeat, DueTrade, Group, Open, joined_by, sits, within}
use Rattle.laws.specs.ByTest.{by_test}
use Rattle.laws.specs.Sums.{sum_snoc}
use Rattle.laws.specs.Keys.{key_of}
use Rattle.laws.specs.Fields.{fields_next}
use Rattle.laws.specs.Groups.{Read, Bad, group_from, onward}
use Rattle.laws.specs.SeatFields.{seats_in}
use Rattle.codes.specs.declared.Code.{Code}
use Rattle.codes.specs.declared.Code.TheVariants.{Key, Malformed}
use Rattle.codes.specs.Codes.{code_of, given_in}
use Rattle.codes.proofs.Laws.{key_read, none_read, taken_keys}
use Rattle.fields.specs.Reading.{refused_at}
use Rattle.positions.specs.declared.PositionAt.{PositionAt}
use Rattle.positions.specs.declared.PositionAt.TheVariants.{Read as ReadPosition}
use Rattle.positions.specs.declared.PositionAt.TheVariants.{Refused as NoPosition}
use Rattle.positions.specs.declared.KeyAt.TheVariants.{New as NewKey}
use Rattle.positions.specs.declared.KeyAt.TheVariants.{Refused as NoKey}
use Rattle.positions.specs.declared.SeatAt.{SeatAt}
use Rattle.positions.specs.declared.SeatAt.TheVariants.{Read as ReadSeat}
use Rattle.positions.specs.declared.SeatAt.TheVariants.{Refused as NoSeat}
use Rattle.positions.specs.Position.{position_of}
use Rattle.positions.specs.Seats.{new_key, key_from, begins_seat, plus, with_key, then_held, seat_of, then_seat, seats_from, seats_of}
use Rattle.positions.proofs.Positions.{bad, then_read, position_means}
use Rattle.positions.proofs.SeatFields.{none_begins, seat_again}

-- the keys of seats, and a customer with seats and no trade yet
abbrev pub keys_of : List Seat → List ℕ
keys_of seats = map (λ s. key_of (seat_code s)) seats

abbrev pub with_seats : List ℕ → List Seat → Customer
with_seats code seats = record { code = code; seats = seats; trades = [] }

abbrev pub Coded : List Seat → Type 0
Coded seats = (s : Seat) → Memᴰ s seats → is_code (seat_code s) ≡ true

coded_more : (seats : List Seat) (s : Seat) → Coded seats → is_code (seat_code s) ≡ true → Coded (seats ++ s ∷ [])
coded_more seats s h e r m = ⊎_elim (λ (y : Memᴰ r seats). h r y) (λ (y : Memᴰ r (s ∷ [])). ap (λ (z : Seat). is_code z.code) (Memᴰ.eq_of_singleton y) ∙ e) (Memᴰ.append_cases seats m)

added_more : (seats : List Seat) (s : Seat) → plus (added seats) s.position ≡ added (seats ++ s ∷ [])
added_more seats s =
    rw (sum_snoc (λ (r : Seat). r.position.long.0) seats s, sum_snoc (λ (r : Seat). r.position.short.0) seats s, sum_snoc (λ (r : Seat). r.position.unfilled.0) seats s)

no_room : (b : Bool) {c : Bool} → c ≡ false → (b && c) ≡ false
no_room true h = h
no_room false h = refl

-- I may stand where this part is due
pub record SeatDue (terms : Terms) (part : Part) (c : Customer) : Type 0 where
  pub at_i : (v : List ℕ) → within terms (Open part c) (code "I") v ≡ sits v c

module _ (terms : Terms) (last_c : ℕ) (s : List ℕ) where
  abbrev pub group_at_place : Group → ℕ → Read
  group_at_place g at = group_from terms g last_c at (fields_of (drop at s))

  -- where no seat may come any more, only trades may
  pub trades_next : (c : Customer) (at : ℕ) (fs : List Field) → (begins_seat fs && ltb (length c.seats) most_seats) ≡ false → group_from terms (Open DueSeat c) last_c at fs ≡ group_from terms (Open DueTrade c) last_c at fs
  unfolding within
  trades_next c at [] h = refl
  trades_next c at (Cut ∷ fs) h = refl
  trades_next c at (Whole t v ∷ fs) h = rw h

  -- one seat more
  pub record More (part : Part) (c : Customer) (at key : ℕ) (p : Position) (next : ℕ) : Type 0 where
    pub seat : Seat
    pub held : seat.position ≡ p
    pub coded : is_code (seat_code seat) ≡ true
    pub keyed : key_of (seat_code seat) ≡ key
    pub reads : group_at_place (Open part c) at ≡ group_at_place (Open DueSeat (joined_by c seat)) next
    pub again : (n : ℕ) → seats_in (suc n) (fields_of (drop at s)) ≡ seat ∷ seats_in n (fields_of (drop next s))

  abbrev pub Sat : Part → Customer → ℕ → SeatAt → Type 0
  Sat part c at (ReadSeat key p next) = More part c at key p next
  Sat part c at (NoSeat r) = group_at_place (Open part c) at ≡ bad r

  module _ (part : Part) (c : Customer) (due : SeatDue terms part c) (coded : Coded c.seats) (at : ℕ) where
    -- an I with this value stands there
    module _ (v : List ℕ) (fs : List Field) (stands : fields_of (drop at s) ≡ Whole (code "I") v ∷ fs) where
      abbrev end : ℕ
      end = at + 3 + length v

      behind : fs ≡ fields_of (drop end s)
      behind = (fields_next s at (code "I") v fs stands).rest

      begun : group_at_place (Open part c) at ≡ onward at (sits v c) λ g. group_at_place g end
      begun = rw (stands, due.at_i v, behind)

      -- 5
      no_code : is_code v ≡ false → group_at_place (Open part c) at ≡ bad (refused_at refusal.malformed at)
      no_code e = begun ∙ rw e

      module _ (good : is_code v ≡ true) where
        known : seated v c.seats ≡ given_in (keys_of c.seats) (key_of v)
        known = taken_keys seat_code v c.seats good coded

        -- 13
        twice : given_in (keys_of c.seats) (key_of v) ≡ true → group_at_place (Open part c) at ≡ bad (refused_at refusal.seat_twice at)
        twice e = begun ∙ rw (good, known, e)

        sitting : given_in (keys_of c.seats) (key_of v) ≡ false → group_at_place (Open part c) at ≡ then_read terms last_c s c v (position_of s terms end)
        sitting e = begun ∙ rw (good, known, e) (position_means terms last_c s c v end)

        held_means : (key : ℕ) → key_of v ≡ key → given_in (keys_of c.seats) (key_of v) ≡ false → (x : PositionAt) → position_of s terms end ≡ x → Sat part c at (with_key s terms key x)
        held_means key k e (ReadPosition p next) h =
            record {
              seat = record { code = v; position = p };
              held = refl;
              coded = good;
              keyed = k;
              reads = sitting e ∙ ap (then_read terms last_c s c v) h;
              again = λ n. ap (seats_in (suc n)) (stands ∙ ap (λ l. Whole (code "I") v ∷ l) behind) ∙ seat_again s terms v p next end h n;
            }
        held_means key k e (NoPosition r) h = sitting e ∙ ap (then_read terms last_c s c v) h

      code_means : (x : Code) → code_of v ≡ x → Sat part c at (then_held s terms (new_key (keys_of c.seats) at end x))
      code_means Malformed e = no_code (none_read v e)
      code_means (Key k) e =
          let (good, same) = key_read v k e in
          by good same (given_in (keys_of c.seats) k) refl
        where
          by : is_code v ≡ true → key_of v ≡ k → (g : Bool) → given_in (keys_of c.seats) k ≡ g →
              Sat part c at (then_held s terms (cond g (NoKey (refused_at refusal.seat_twice at)) (NewKey k end)))
          by good same true h = twice good (ap (given_in (keys_of c.seats)) same ∙ h)
          by good same false h = held_means good k same (ap (given_in (keys_of c.seats)) same ∙ h) (position_of s terms end) refl

    pub seat_means : begins_seat (fields_of (drop at s)) ≡ true → Sat part c at (seat_of s terms (keys_of c.seats) at)
    unfolding seat_of
    seat_means h = by (fields_of (drop at s)) refl h
      where
        by : (fs : List Field) → fields_of (drop at s) ≡ fs → begins_seat fs ≡ true → Sat part c at (then_held s terms (key_from (keys_of c.seats) at fs))
        by [] e x = absurd (let z : ◌≡◌ {A = ℕ} 0 1 = cc in omega arith)
        by (Cut ∷ fs) e x = absurd (let z : ◌≡◌ {A = ℕ} 0 1 = cc in omega arith)
        by (Whole t v ∷ fs) e x =
            let tag : t ≡ code "I" = eqb-true t (code "I") x in
            rw x (code_means v fs (e ∙ ap (λ y. Whole y v ∷ fs) tag) (code_of v) refl)

  -- all seats that are read: those of a customer with these seats already, of so many more at most
  pub record All (name : List ℕ) (seats : List Seat) (part : Part) (n at : ℕ) (p : Position) (next : ℕ) : Type 0 where
    pub more : List Seat
    pub sums : added (seats ++ more) ≡ p
    pub reads : group_at_place (Open part (with_seats name seats)) at ≡ group_at_place (Open DueTrade (with_seats name (seats ++ more))) next
    pub again : seats_in n (fields_of (drop at s)) ≡ more

  abbrev pub Means : List ℕ → List Seat → Part → ℕ → ℕ → PositionAt → Type 0
  Means name seats part n at (ReadPosition p next) = All name seats part n at p next
  Means name seats part n at (NoPosition r) = group_at_place (Open part (with_seats name seats)) at ≡ bad r

  seat_due : (name : List ℕ) (seats : List Seat) → length seats < most_seats → SeatDue terms DueSeat (with_seats name seats)
  unfolding within
  seat_due name seats h = record { at_i = λ v. rw (lt-ltb (length seats) most_seats h) }

  module _ (name : List ℕ) (seats : List Seat) (part : Part) (at key : ℕ) (p : Position) (next : ℕ) (m : More part (with_seats name seats) at key p next) where
    abbrev joined : List Seat
    joined = seats ++ m.seat ∷ []

    keys_more : keys_of joined ≡ keys_of seats ++ key ∷ []
    keys_more = map-append (λ s. key_of (seat_code s)) seats (m.seat ∷ []) ∙ ap (λ x. keys_of seats ++ x ∷ []) m.keyed

    sum_more : plus (added seats) p ≡ added joined
    sum_more = ap (plus (added seats)) (sym m.held) ∙ added_more seats m.seat

    -- no seat follows, or none may
    last_means : (n : ℕ) → (begins_seat (fields_of (drop next s)) && ltb (length joined) most_seats) ≡ false → seats_in n (fields_of (drop next s)) ≡ [] →
        All name seats part (suc n) at (plus (added seats) p) next
    last_means n h e =
        record {
          more = m.seat ∷ [];
          sums = sym sum_more;
          reads = m.reads ∙ trades_next (with_seats name joined) next (fields_of (drop next s)) h;
          again = m.again n ∙ ap (λ l. m.seat ∷ l) e;
        }

    -- and where one does, with what that comes to
    further : (n : ℕ) (x : PositionAt) → Means name joined DueSeat n next x → Means name seats part (suc n) at x
    further n (ReadPosition q e) a =
        record {
          more = m.seat ∷ a.more;
          sums = ap added (sym (append_assoc seats (m.seat ∷ []) a.more)) ∙ a.sums;
          reads = m.reads ∙ a.reads ∙ ap (λ (l : List Seat). group_at_place (Open DueTrade (with_seats name l)) e) (append_assoc seats (m.seat ∷ []) a.more);
          again = m.again n ∙ ap (λ l. m.seat ∷ l) a.again;
        }
    further n (NoPosition r) a = m.reads ∙ a

  -- one seat, and then what the rest comes to
  module _ (name : List ℕ) (seats : List Seat) (part : Part) (at n : ℕ) (few : suc n + length seats ≡ most_seats) where
    abbrev then : ℕ → Position → ℕ → PositionAt
    then key p next =
        cond (begins_seat (fields_of (drop next s))) (seats_from s terms n (keys_of seats ++ key ∷ []) (plus (added seats) p) next)
        (ReadPosition (plus (added seats) p) next)

    -- so many more are read behind a seat, where one begins
    abbrev Later : Type 0
    Later = (seat : Seat) (next : ℕ) → is_code (seat_code seat) ≡ true → begins_seat (fields_of (drop next s)) ≡ true →
        Means name (seats ++ seat ∷ []) DueSeat n next (seats_from s terms n (keys_of (seats ++ seat ∷ [])) (added (seats ++ seat ∷ [])) next)

    after_seat : Later → (key : ℕ) (p : Position) (next : ℕ) → More part (with_seats name seats) at key p next → Means name seats part (suc n) at (then key p next)
    after_seat later key p next m = by (begins_seat (fields_of (drop next s))) refl
      where
        by : (b : Bool) → begins_seat (fields_of (drop next s)) ≡ b →
            Means name seats part (suc n) at (cond b (seats_from s terms n (keys_of seats ++ key ∷ []) (plus (added seats) p) next) (ReadPosition (plus (added seats) p) next))
        by true e =
            let x = later m.seat next m.coded e in
            further name seats part at key p next m n (seats_from s terms n (keys_of seats ++ key ∷ []) (plus (added seats) p) next)
            (subst (λ (l : List ℕ). Means name (seats ++ m.seat ∷ []) DueSeat n next (seats_from s terms n l (plus (added seats) p) next)) (keys_more name seats part at key p next m)
            (subst (λ (q : Position). Means name (seats ++ m.seat ∷ []) DueSeat n next (seats_from s terms n (keys_of (seats ++ m.seat ∷ [])) q next)) (sym (sum_more name seats part at key p next m)) x))
        by false e = last_means name seats part at key p next m n (rw e) (none_begins n (fields_of (drop next s)) e)

    one_means : Later → (x : SeatAt) → Sat part (with_seats name seats) at x → Means name seats part (suc n) at (then_seat s terms x then)
    one_means later (NoSeat r) m = m
    one_means later (ReadSeat key p next) m = after_seat later key p next m

  many_snoc : (seats : List Seat) (s : Seat) → length (seats ++ s ∷ []) ≡ length seats + 1
  many_snoc seats s = length-append seats (s ∷ [])

  seats_mean : (name : List ℕ) (n : ℕ) (seats : List Seat) (part : Part) (at : ℕ) → suc n + length seats ≡ most_seats → Coded seats →
      Sat part (with_seats name seats) at (seat_of s terms (keys_of seats) at) → Means name seats part (suc n) at (seats_from s terms (suc n) (keys_of seats) (added seats) at)
  seats_mean name zero seats part at few coded sat =
      one_means name seats part at zero few (λ seat next good e. full seat next) (seat_of s terms (keys_of seats) at) sat
    where
      full : (seat : Seat) (next : ℕ) → All name (seats ++ seat ∷ []) DueSeat zero next (added (seats ++ seat ∷ [])) next
      full seat next =
          let none : (begins_seat (fields_of (drop next s)) && ltb (length (seats ++ seat ∷ [])) most_seats) ≡ false = no_room (begins_seat (fields_of (drop next s))) (le-ltb (length (seats ++ seat ∷ [])) most_seats (omega (arith, many_snoc seats seat))) in
          record {
            more = [];
            sums = ap added (append-nil (seats ++ seat ∷ []));
            reads = trades_next (with_seats name (seats ++ seat ∷ [])) next (fields_of (drop next s)) none ∙ ap (λ (l : List Seat). group_at_place (Open DueTrade (with_seats name l)) next) (sym (append-nil (seats ++ seat ∷ [])));
            again = refl;
          }
  seats_mean name (suc n) seats part at few coded sat =
      one_means name seats part at (suc n) few
      (λ seat next good e.
      let size : suc n + length (seats ++ seat ∷ []) ≡ most_seats = omega (arith, many_snoc seats seat) in
      let all = coded_more seats seat coded good in
      seats_mean name n (seats ++ seat ∷ []) DueSeat next size all
      (seat_means DueSeat (with_seats name (seats ++ seat ∷ [])) (seat_due name (seats ++ seat ∷ []) (omega arith)) all next e))
      (seat_of s terms (keys_of seats) at) sat

  -- a group from the field after its C on
  first_due : (name : List ℕ) → SeatDue terms DueI (with_seats name [])
  unfolding within
  first_due name = record { at_i = λ v. refl }

  first_seat : (name : List ℕ) (at : ℕ) → Sat DueI (with_seats name []) at (seat_of s terms [] at)
  unfolding seat_of within
  first_seat name at = by_test (begins_seat (fields_of (drop at s)))
      (λ e. seat_means DueI (with_seats name []) (first_due name) (λ r m. absurd (Memᴰ.not-nil m)) at e)
      (λ e. by (fields_of (drop at s)) refl e)
    where
      ends : (b : Bool) → cond b (Bad refusal.misplaced at) (Bad refusal.misplaced at) ≡ Bad refusal.misplaced at
      ends true = refl
      ends false = refl

      by : (fs : List Field) → fields_of (drop at s) ≡ fs → begins_seat fs ≡ false → Sat DueI (with_seats name []) at (then_held s terms (key_from [] at fs))
      by [] e x = rw e
      by (Cut ∷ fs) e x = rw e
      by (Whole t v ∷ fs) e x = rw x (rw (e, x) (ends (is "C" t || is "Z" t)))

  pub group_means : (name : List ℕ) (at : ℕ) → Means name [] DueI most_seats at (seats_of s terms at)
  unfolding seats_of
  group_means name at = seats_mean name 3 [] DueI at refl (λ r m. absurd (Memᴰ.not-nil m)) (first_seat name at)
