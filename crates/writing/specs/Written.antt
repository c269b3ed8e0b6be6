-- A lent buffer with bytes written into it. Pieces written behind one another are written as one piece, in either order, and the
-- buffer stays as long as it was: what is kept of it and what is written join where one ends and the other begins.
-- Assumes nothing.
use Rattle.std.specs.Prelude.{ℕ, ◌+◌, ◌≤◌, ◌<◌, ◌≡◌, List, [], ◌∷◌, ◌++◌, length, take, drop, set}
use Rattle.std.proofs.Common.{◌∙◌, append_assoc, arith, zero-add, add-zero, add_assoc, add-one, length-append, length-take, length-drop, take-append-drop, take_at, take-take, drop_at, drop-drop, length-take-le}
use Rattle.std.proofs.lemmas.List.{take-append-le, set_split}
use Rattle.std.proofs.Math.Seq.{drop-append-add}

-- the buffer with the bytes s from place `at` on, and all else as it was
unfoldable pub written : ℕ → List ℕ → List ℕ → List ℕ
written at s buffer = take at buffer ++ (s ++ drop (at + length s) buffer)

-- the bytes s fit into the buffer from place `at` on
abbrev pub Room : ℕ → List ℕ → List ℕ → Type 0
Room at s buffer = at + length s ≤ length buffer

-- the bytes s were written at `at` into the buffer `entry`, and nothing else was; r is the place behind them
pub record Wrote (at : ℕ) (s entry exit : List ℕ) (r : ℕ) : Type 0 where
  pub whole : exit ≡ written at s entry
  pub next : r ≡ at + length s

pub written_length : (at : ℕ) (s b : List ℕ) → Room at s b → length (written at s b) ≡ length b
unfolding written
written_length at s b room = simp (length-append, length-take, length-drop) (omega arith)

pub written_nothing : (at : ℕ) (b : List ℕ) → written at [] b ≡ b
unfolding written
written_nothing at b = simp (add-zero, take-append-drop)

-- from the front on: the bytes, and then what stood behind them
pub written_front : (s b : List ℕ) → written 0 s b ≡ s ++ drop (length s) b
unfolding written
written_front s b = simp zero-add

pub written_one : (at x : ℕ) (b : List ℕ) → at < length b → written at (x ∷ []) b ≡ set b at x
unfolding written
written_one at x b h = simp (set_split b at x h, add-one)

pub written_join : (at : ℕ) (s t b : List ℕ) → at ≤ length b → written (at + length s) t (written at s b) ≡ written at (s ++ t) b
unfolding written
written_join at s t b h =
    let rest = drop (at + length s) b in
    let size : length (take at b ++ s) ≡ at + length s = simp (length-append, length-take-le at b h) in
    let front : take (at + length s) (take at b ++ (s ++ rest)) ≡ take at b ++ s =
    rw (← append_assoc (take at b) s rest) (take_at (take at b ++ s) rest (at + length s) size) in
    let back : drop (at + length s + length t) (take at b ++ (s ++ rest)) ≡ drop (at + length s + length t) b =
    rw (← append_assoc (take at b) s rest, ← size, drop-append-add, drop-drop, size) in
    rw (front, back) (simp (length-append, append_assoc, add_assoc))

-- the same, the piece behind first
pub written_join_back : (at : ℕ) (s t b : List ℕ) → Room at s b → written at s (written (at + length s) t b) ≡ written at (s ++ t) b
unfolding written
written_join_back at s t b room =
    let k = at + length s in
    let size : length (take k b) ≡ k = length-take-le k b room in
    let front : take at (take k b ++ (t ++ drop (k + length t) b)) ≡ take at b =
    take-append-le at (take k b) (t ++ drop (k + length t) b) (omega arith) ∙ take-take at k b (omega arith) in
    let back : drop k (take k b ++ (t ++ drop (k + length t) b)) ≡ t ++ drop (k + length t) b =
    drop_at (take k b) (t ++ drop (k + length t) b) k size in
    rw (front, back) (simp (length-append, append_assoc, add_assoc))

-- a byte that is stored, and then those behind it; those before it
pub written_first : (at x : ℕ) (t b : List ℕ) → at < length b → written (at + 1) t (set b at x) ≡ written at (x ∷ t) b
written_first at x t b h = rw (← written_one at x b h) (written_join at (x ∷ []) t b (omega arith))

pub written_last : (at x : ℕ) (s b : List ℕ) → at + length s < length b → written at s (set b (at + length s) x) ≡ written at (s ++ (x ∷ [])) b
written_last at x s b h = rw (← written_one (at + length s) x b h) (written_join_back at s (x ∷ []) b (omega arith))

-- pieces join
pub join : {at m r : ℕ} {s t a b c : List ℕ} → Wrote at s a b m → Wrote m t b c r → at ≤ length a → Wrote at (s ++ t) a c r
join {at} {m} {r} {s} {t} {a} {b} {c} first second h =
    record {
      whole = second.whole ∙ rw (first.next, first.whole) (written_join at s t a h);
      next = simp length-append (omega arith);
    }

-- what writes of several pieces are proved by
pub ruleset pieces = (written_join, length-append)
