-- What a seat that was found says of the seats that stand from its place on: it is the first of them, and the others stand from its end on.
-- Assumes nothing.
use Rattle.std.specs.Prelude.{ℕ, suc, ◌+◌, ◌-◌, ◌≡◌, refl, List, [], ◌∷◌, Bool, true, false, length, take, drop}
use Rattle.std.proofs.Common.{sym, ap, subst, ◌∙◌, arith}
use Rattle.rules.specs.Text.{is}
use Rattle.rules.specs.Fields.{Field, Whole, Cut, fields_of}
use Rattle.rules.specs.Book.{Seat}
use Rattle.laws.specs.SeatFields.{seats_in}
use Rattle.fields.specs.declared.Found.{Found as FoundField}
use Rattle.fields.specs.declared.Found.TheVariants.{Short}
use Rattle.fields.specs.declared.Found.TheVariants.{Field as FieldAt}
use Rattle.fields.specs.First.{first_at}
use Rattle.fields.specs.Laws.{Stands, stands, Nothing, none, cut, nothing}
use Rattle.seats.specs.declared.SeatAt.{SeatAt}
use Rattle.seats.specs.declared.SeatAt.TheVariants.{Found, NoSeat}
use Rattle.seats.specs.Places.{between, seat_in, on_field, places_from, seat_from, Ordered}

pub on_nothing : (at : ℕ) {fs : List Field} → Nothing fs → (k : ℕ → ℕ → List Field → SeatAt) → on_field at fs k ≡ NoSeat
on_nothing at none k = refl
on_nothing at cut k = refl

-- where less than four fields stand, or another tag, there is no seat
module _ (n t : ℕ) (v : List ℕ) where
  none_1 : {fs : List Field} → Nothing fs → seats_in (suc n) (Whole t v ∷ fs) ≡ []
  none_1 none = refl
  none_1 cut = refl

  none_2 : (a : ℕ) (k : List ℕ) {fs : List Field} → Nothing fs → seats_in (suc n) (Whole t v ∷ Whole a k ∷ fs) ≡ []
  none_2 a k none = refl
  none_2 a k cut = refl

  none_3 : (a b : ℕ) (k h : List ℕ) {fs : List Field} → Nothing fs → seats_in (suc n) (Whole t v ∷ Whole a k ∷ Whole b h ∷ fs) ≡ []
  none_3 a b k h none = refl
  none_3 a b k h cut = refl

  none_tag : is "I" t ≡ false → (fs : List Field) → seats_in (suc n) (Whole t v ∷ fs) ≡ []
  none_tag e [] = refl
  none_tag e (Cut ∷ fs) = refl
  none_tag e (Whole a k ∷ []) = refl
  none_tag e (Whole a k ∷ Cut ∷ fs) = refl
  none_tag e (Whole a k ∷ Whole b h ∷ []) = refl
  none_tag e (Whole a k ∷ Whole b h ∷ Cut ∷ fs) = refl
  none_tag e (Whole a k ∷ Whole b h ∷ Whole c q ∷ fs) = rw e

none_0 : (n : ℕ) {fs : List Field} → Nothing fs → seats_in (suc n) fs ≡ []
none_0 n none = refl
none_0 n cut = refl

module _ (s : List ℕ) where
  pub on_found : {at t start end : ℕ} → Stands s at t start end → (k : ℕ → ℕ → List Field → SeatAt) →
      on_field at (fields_of (drop at s)) k ≡ k t end (fields_of (drop end s))
  on_found {at} {t} {start} {end} h k =
      let e : at + 3 + length (take (end - start) (drop start s)) ≡ end = omega (arith, h.size, h.begins, h.order) in
      ap (λ (fs : List Field). on_field at fs k) h.fields ∙ ap (λ n. k t n (fields_of (drop end s))) e

  -- what stands at a place
  data Look (at : ℕ) : Type 0 where
    whole : (t start end : ℕ) → Stands s at t start end → Look at
    short : Nothing (fields_of (drop at s)) → Look at

  look : (at : ℕ) → Look at
  look at = go (first_at at (fields_of (drop at s))) refl
    where
      go : (f : FoundField) → first_at at (fields_of (drop at s)) ≡ f → Look at
      go Short e = short (nothing at (fields_of (drop at s)) e)
      go (FieldAt t start end) e = whole t start end (stands s at t start end e)

  abbrev pub seats_of : ℕ → SeatAt → List Seat
  seats_of n (Found p) = seat_in s p ∷ seats_in n (fields_of (drop p.next s))
  seats_of n NoSeat = []

  abbrev pub OrderedAt : SeatAt → Type 0
  OrderedAt (Found p) = Ordered s p
  OrderedAt NoSeat = Unit

  pub record Says (fs : List Field) (r : SeatAt) : Type 0 where
    pub seats : (n : ℕ) → seats_in (suc n) fs ≡ seats_of n r
    pub ordered : OrderedAt r

  -- four looks
  module _ (at : ℕ) where
    abbrev here : List Field
    here = fields_of (drop at s)

    no_seat : {r : SeatAt} → r ≡ NoSeat → ((n : ℕ) → seats_in (suc n) here ≡ []) → Says here r
    no_seat e f = subst (Says here) (sym e) (record { seats = f; ordered = tt })

    module _ {t start end : ℕ} (i : Stands s at t start end) (e : is "I" t ≡ true) where
      pub begins : seat_from at here ≡ places_from start end (fields_of (drop end s))
      begins = on_found i _ ∙ rw (e, i.begins)

      fourth : {a x short b y unfilled : ℕ} → Stands s end a x short → Stands s short b y unfilled → Look unfilled → Says here (seat_from at here)
      fourth k h (whole c z next q) =
          subst (Says here) (sym (begins ∙ on_found k _ ∙ on_found h _ ∙ on_found q _))
          (record {
            seats = λ n. rw (i.fields, k.fields, h.fields, q.fields, e, k.begins, h.begins, q.begins);
            ordered = record { code = i.order; long = omega (arith, k.begins, k.order); short = omega (arith, h.begins, h.order); unfilled = omega (arith, q.begins, q.order); inside = q.inside };
          })
      fourth {a} {x} {b = b} k h (short z) = no_seat (begins ∙ on_found k _ ∙ on_found h _ ∙ on_nothing _ z _) (λ n. rw (i.fields, k.fields, h.fields) (none_3 n _ _ a b _ _ z))

      third : {a x short : ℕ} → Stands s end a x short → Look short → Says here (seat_from at here)
      third k (whole b y unfilled h) = fourth k h (look unfilled)
      third {a} k (short z) = no_seat (begins ∙ on_found k _ ∙ on_nothing _ z _) (λ n. rw (i.fields, k.fields) (none_2 n _ _ a _ z))

      second : Look end → Says here (seat_from at here)
      second (whole a x h k) = third k (look h)
      second (short z) = no_seat (begins ∙ on_nothing _ z _) (λ n. rw i.fields (none_1 n _ _ z))

    pub says : Says here (seat_from at here)
    says = first (look at)
      where
        tagged : {t start end : ℕ} → Stands s at t start end → (b : Bool) → is "I" t ≡ b → Says here (seat_from at here)
        tagged {end = end} i true e = second i e (look end)
        tagged {t} {start} {end} i false e = no_seat (on_found i _ ∙ rw e) (λ n. rw i.fields (none_tag n t (between s start end) e (fields_of (drop end s))))

        first : Look at → Says here (seat_from at here)
        first (whole t start end i) = tagged i (is "I" t) refl
        first (short z) = no_seat (on_nothing at z _) (λ n. none_0 n z)
