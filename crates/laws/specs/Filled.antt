-- A table laid over the front of an array: what a loop that stores one place a turn makes of the array, which behind is as it was.
-- Assumes nothing.
use Rattle.std.specs.Prelude.{ℕ, suc, ◌+◌, ◌≤◌, ◌<◌, ◌≡◌, refl, List, ◌++◌, map, length, get_or, set, drop}
use Rattle.std.proofs.Common.{◌∙◌, ap, sym, append_assoc, add-one, add-zero, arith, take-append-drop, length-append, length-drop, length-set, drop_at, drop-cons, get_or-append-add, get_or-drop}
use Rattle.std.proofs.Math.ListN.{get_or-append}
use Rattle.std.proofs.lemmas.List.{set_at}
use Rattle.laws.specs.Sums.{up_to, take_up_to}
use Rattle.laws.specs.Indices.{map_more, map_below, length-map_up_to, get_d_map_up_to}

module _ {A : Type 0} where
  abbrev pub filled : (ℕ → A) → ℕ → List A → List A
  filled f n l = map f (up_to n) ++ drop n l

  -- one place more
  pub filled_more : (f : ℕ → A) (i : ℕ) (l : List A) (d : A) → i < length l → set (filled f i l) i (f i) ≡ filled f (i + 1) l
  filled_more f i l d h =
      rw (drop-cons l i d, set_at (map f (up_to i)) (get_or l i d) (drop (suc i) l) (f i) i (length-map_up_to f i), map_more, append_assoc, add-one)

  -- the table's places, and the next
  pub front_at : (f : ℕ → A) (n : ℕ) (l : List A) (i : ℕ) (d : A) → i < n → get_or (map f (up_to n) ++ l) i d ≡ f i
  front_at f n l i d h = get_or-append (map f (up_to n)) l d i (omega (arith, length-map_up_to f n)) ∙ get_d_map_up_to f n i d h

  pub filled_next : (f : ℕ → A) (n : ℕ) (l : List A) (d : A) → get_or (filled f n l) n d ≡ get_or l n d
  filled_next f n l d =
      let e : length (map f (up_to n)) + 0 ≡ n = omega (arith, length-map_up_to f n) in
      sym (ap (λ k. get_or (filled f n l) k d) e) ∙ get_or-append-add (map f (up_to n)) (drop n l) 0 d ∙ get_or-drop n l 0 d ∙ ap (λ k. get_or l k d) (add-zero n)

  -- a table of what stands there already
  pub filled_same : (f : ℕ → A) (n : ℕ) (l : List A) (d : A) → n ≤ length l → ((i : ℕ) → i < n → f i ≡ get_or l i d) → filled f n l ≡ l
  filled_same f n l d h same = rw (map_below f (λ i. get_or l i d) n same, take_up_to d l n h) (take-append-drop n l)

  -- a table over another of as many places
  pub filled_filled : (f g : ℕ → A) (n : ℕ) (l : List A) → filled f n (filled g n l) ≡ filled f n l
  filled_filled f g n l = ap (λ r. map f (up_to n) ++ r) (drop_at (map g (up_to n)) (drop n l) n (length-map_up_to g n))

  pub length_filled : (f : ℕ → A) (n : ℕ) (l : List A) → n ≤ length l → length (filled f n l) ≡ length l
  length_filled f n l h = omega (arith, length-append (map f (up_to n)) (drop n l), length-map_up_to f n, length-drop n l)

-- what a loop that stores one place a turn holds of an array after i turns
pub record Done {A : Type 0} (f : ℕ → A) (i : ℕ) (entry run : List A) : Type 0 where
  pub size : length run ≡ length entry
  pub whole : run ≡ filled f i entry

module _ {A : Type 0} {f : ℕ → A} where
  pub done_none : (entry : List A) → Done f 0 entry entry
  done_none entry = record { size = refl; whole = refl }

  pub done_more : {i : ℕ} {x : A} {entry run : List A} → Done f i entry run → i < length entry → x ≡ f i → Done f (i + 1) entry (set run i x)
  done_more {i} {x} {entry} {run} d h e =
      record { size = simp length-set d.size; whole = rw (d.whole, e) (filled_more f i entry x h) }

  pub done_all : {i n : ℕ} {entry run : List A} → Done f i entry run → i ≡ n → run ≡ filled f n entry
  done_all {entry = entry} d e = d.whole ∙ ap (λ m. filled f m entry) e
