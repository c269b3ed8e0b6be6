-- The seats in their order of cutting: sorted by insertion, with every sum as it was; and what is cut of sorted seats in all.
-- Assumes nothing.
use Rattle.std.specs.Prelude.{ℕ, ◌+◌, ◌-◌, ◌≤◌, min, ◌≡◌, refl, true, false, cond, ◌||◌, not}
use Rattle.std.proofs.Common.{sym, ap, ◌∙◌, arith}
use mathlib.Core.List.{List, [], ◌∷◌, Memᴰ}
use Rattle.std.proofs.lemmas.Bool.{false≢true}
use Rattle.rules.specs.Codes.{is_code, same, smaller}
use Rattle.rules.specs.Division.{sum_of, one_if}
use Rattle.laws.specs.ByTest.{by_test, not_either}
use Rattle.laws.specs.Sums.{sum_cong}
use Rattle.laws.specs.CodeOrder.{first_not, first_trans, first_one, smaller_not, smaller_trans, smaller_one_way}
use Rattle.cutback.specs.Seats.{Seat, lots_of, seats_of, goes_before, lots_before, cut_of}
use Rattle.cutback.specs.Judge.{again, codes_bad}

-- the order
pub before_not : (a : Seat) → goes_before a a ≡ false
before_not a = first_not a.lots (smaller a.code a.code) (smaller_not a.code)

pub before_trans : (a b c : Seat) → goes_before a b ≡ true → goes_before b c ≡ true → goes_before a c ≡ true
before_trans a b c g h =
    first_trans c.lots b.lots a.lots (smaller b.code c.code) (smaller a.code b.code) (smaller a.code c.code) (λ q p. smaller_trans a.code b.code c.code p q) h g

one_way : (a b : Seat) → same a.code b.code ≡ false → one_if (goes_before a b) + one_if (goes_before b a) ≡ 1
one_way a b h =
    first_one b.lots a.lots (smaller a.code b.code) (smaller b.code a.code) (λ e. smaller_one_way a.code b.code h)

pub not_back : (a b : Seat) → goes_before a b ≡ true → goes_before b a ≡ false
not_back a b h = by_test (goes_before b a) (λ e. absurd (false≢true (sym (before_not a) ∙ before_trans a b a h e))) (λ e. e)

else-back : (a b : Seat) → same a.code b.code ≡ false → goes_before a b ≡ false → goes_before b a ≡ true
else-back a b h e = by_test (goes_before b a) (λ t. t) (λ t. absurd (omega (arith, one_way a b h, ap one_if e, ap one_if t)))

-- sorting
abbrev insert : Seat → List Seat → List Seat
insert a [] = a ∷ []
insert a (c ∷ m) = cond (goes_before a c) (a ∷ c ∷ m) (c ∷ insert a m)

abbrev sorted : List Seat → List Seat
sorted [] = []
sorted (a ∷ l) = insert a (sorted l)

insert_sum : (f : Seat → ℕ) (a : Seat) (l : List Seat) → sum_of f (insert a l) ≡ f a + sum_of f l
insert_sum f a [] = refl
insert_sum f a (c ∷ m) = by_test (goes_before a c) (λ e. rw e) (λ e. rw e (omega (arith, insert_sum f a m)))

sorted_sum : (f : Seat → ℕ) (l : List Seat) → sum_of f (sorted l) ≡ sum_of f l
sorted_sum f [] = refl
sorted_sum f (a ∷ l) = insert_sum f a (sorted l) ∙ ap (λ n. f a + n) (sorted_sum f l)

-- other codes
abbrev Apart : Seat → List Seat → Type 0
Apart a [] = Unit {0}
Apart a (s ∷ l) = (same a.code s.code ≡ false) × Apart a l

abbrev pub AllApart : List Seat → Type 0
AllApart [] = Unit {0}
AllApart (a ∷ l) = Apart a l × AllApart l

apart_insert : (x a : Seat) (l : List Seat) → Apart x l → same x.code a.code ≡ false → Apart x (insert a l)
apart_insert x a [] h e = (e, tt)
apart_insert x a (c ∷ m) h e = by_test (goes_before a c) (λ t. rw t (e, h)) (λ t. rw t (h.0, apart_insert x a m h.1 e))

apart_sorted : (x : Seat) (l : List Seat) → Apart x l → Apart x (sorted l)
apart_sorted x [] h = tt
apart_sorted x (a ∷ l) h = apart_insert x a (sorted l) (apart_sorted x l h.1) h.0

-- one goes before all of them
abbrev Leads : Seat → List Seat → Type 0
Leads a [] = Unit {0}
Leads a (s ∷ m) = (goes_before a s ≡ true) × Leads a m

abbrev Sorted : List Seat → Type 0
Sorted [] = Unit {0}
Sorted (a ∷ m) = Leads a m × Sorted m

leads_trans : (a c : Seat) (m : List Seat) → goes_before a c ≡ true → Leads c m → Leads a m
leads_trans a c [] h l = tt
leads_trans a c (s ∷ m) h l = (before_trans a c s h l.0, leads_trans a c m h l.1)

leads_insert : (c a : Seat) (m : List Seat) → Leads c m → goes_before c a ≡ true → Leads c (insert a m)
leads_insert c a [] l h = (h, tt)
leads_insert c a (s ∷ m) l h = by_test (goes_before a s) (λ t. rw t (h, l)) (λ t. rw t (l.0, leads_insert c a m l.1 h))

insert_sorted : (a : Seat) (m : List Seat) → Apart a m → Sorted m → Sorted (insert a m)
insert_sorted a [] p s = (tt, tt)
insert_sorted a (c ∷ m) p s =
    by_test (goes_before a c) (λ t. rw t ((t, leads_trans a c m t s.0), s))
    (λ t. rw t (leads_insert c a m s.0 (else-back a c p.0 t), insert_sorted a m p.1 s.1))

all_sorted : (l : List Seat) → AllApart l → Sorted (sorted l)
all_sorted [] h = tt
all_sorted (a ∷ l) h = insert_sorted a (sorted l) (apart_sorted a l h.0) (all_sorted l h.1)

-- nothing goes before the first, and the first goes before all
none_before : (a : Seat) (m : List Seat) → Leads a m → sum_of (λ t. cond (goes_before t a) t.lots 0) m ≡ 0
none_before a [] h = refl
none_before a (s ∷ m) h = rw (not_back a s h.0) (omega (arith, none_before a m h.1))

lead_mem : (a s : Seat) (m : List Seat) → Leads a m → Memᴰ s m → goes_before a s ≡ true
lead_mem a s (b ∷ m) h (Memᴰ.head e) = ap (goes_before a) e ∙ h.0
lead_mem a s (b ∷ m) h (Memᴰ.tail k) = lead_mem a s m h.1 k
lead_mem a s [] h k = elim k [ ]

whole : (m : List Seat) → Sorted m → (e : ℕ) → sum_of (λ s. min s.lots (e - lots_before m s)) m ≡ min e (sum_of lots_of m)
unfolding lots_before
whole [] h e = omega arith
whole (a ∷ m) h e =
    let first : lots_before (a ∷ m) a ≡ 0 = rw (before_not a) (omega (arith, none_before a m h.0)) in
    let rest : sum_of (λ s. min s.lots (e - lots_before (a ∷ m) s)) m ≡ sum_of (λ s. min s.lots ((e - a.lots) - lots_before m s)) m =
    sum_cong (λ s. min s.lots (e - lots_before (a ∷ m) s)) (λ s. min s.lots ((e - a.lots) - lots_before m s)) m
    (λ s k. let b : lots_before (a ∷ m) s ≡ a.lots + lots_before m s = rw (lead_mem a s m h.0 k) in ap (min s.lots) (omega (arith, b))) in
    omega (arith, first, rest, whole m h.1 (e - a.lots))

-- all that is cut: what is over, or all that there is
pub total_cut : (l : List Seat) → AllApart l → (e : ℕ) → sum_of (cut_of e l) l ≡ min e (sum_of lots_of l)
unfolding lots_before
total_cut l h e =
    sym (sorted_sum (cut_of e l) l)
    ∙ sum_cong (cut_of e l) (λ s. min s.lots (e - lots_before (sorted l) s)) (sorted l)
    (λ s k. ap (λ n. min s.lots (e - n)) (sym (sorted_sum (λ t. cond (goes_before t s) t.lots 0) l)))
    ∙ whole (sorted l) (all_sorted l h) e ∙ ap (min e) (sorted_sum lots_of l)

-- the seats of good codes
seat_apart : (c : List ℕ) (n : ℕ) (codes : List (List ℕ)) (lots : List ℕ) → again c codes ≡ false → Apart (record { code = c; lots = n }) (seats_of codes lots)
seat_apart c n [] lots h = tt
seat_apart c n (d ∷ ds) [] h = tt
seat_apart c n (d ∷ ds) (m ∷ ms) h = let w = not_either (same c d) (again c ds) h in (w.0, seat_apart c n ds ms w.1)

pub seats_apart : (codes : List (List ℕ)) (lots : List ℕ) → codes_bad codes ≡ false → AllApart (seats_of codes lots)
seats_apart [] lots h = tt
seats_apart (c ∷ cs) [] h = tt
seats_apart (c ∷ cs) (n ∷ ns) h =
    let w = not_either (not (is_code c) || again c cs) (codes_bad cs) h in
    (seat_apart c n cs ns (not_either (not (is_code c)) (again c cs) w.0).1, seats_apart cs ns w.1)

-- a summand that is larger, beside others that are no smaller
pub sum_gap : (f g : Seat → ℕ) (l : List Seat) → ((s : Seat) → f s ≤ g s) → (t : Seat) → Memᴰ t l → sum_of f l + g t ≤ sum_of g l + f t
sum_gap f g (b ∷ l) h t (Memᴰ.head e) = omega (arith, ap f e, ap g e, mono f g l h)
  where
    mono : (f g : Seat → ℕ) (l : List Seat) → ((s : Seat) → f s ≤ g s) → sum_of f l ≤ sum_of g l
    mono f g [] h = omega arith
    mono f g (b ∷ l) h = omega (arith, h b, mono f g l h)
sum_gap f g (b ∷ l) h t (Memᴰ.tail k) = omega (arith, h b, sum_gap f g l h t k)
sum_gap f g [] h t k = elim k [ ]
