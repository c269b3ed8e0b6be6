-- Lines put down one after the other, one for each number of a run.
-- Assumes nothing.
use Rattle.std.specs.Prelude.{ℕ, suc, ◌+◌, ◌≤◌, ◌<◌, ◌≡◌, refl, List, [], ◌∷◌, ◌++◌, length, get_or, drop}
use Rattle.std.proofs.Common.{sym, ap, ◌∙◌, append_assoc, append-nil, add-one, arith, length-append, drop_of_length-le, drop-cons}
use Rattle.writing.specs.Written.{Wrote, join}
use Rattle.intake.specs.Telling.{same_wrote, nothing}

-- the lines of the numbers from day k on
abbrev pub lines_by : (ℕ → ℕ → List ℕ) → ℕ → List ℕ → List ℕ
lines_by line k [] = []
lines_by line k (b ∷ bs) = line k b ++ lines_by line (suc k) bs

-- the lines of i days are put down
pub record Rolled (line : ℕ → ℕ → List ℕ) (bs entry out : List ℕ) (from at i : ℕ) : Type 0 where
  pub put : List ℕ
  pub all : lines_by line 1 bs ≡ put ++ lines_by line (suc i) (drop i bs)
  pub wrote : Wrote from put entry out at

pub rolled_none : (line : ℕ → ℕ → List ℕ) (bs out : List ℕ) (at : ℕ) → Rolled line bs out out at at 0
rolled_none line bs out at = record { put = []; all = refl; wrote = nothing at out }

next_line : (line : ℕ → ℕ → List ℕ) (bs : List ℕ) (i : ℕ) → i < length bs → lines_by line (suc i) (drop i bs) ≡ line (i + 1) (get_or bs i 0) ++ lines_by line (suc (i + 1)) (drop (i + 1) bs)
next_line line bs i h = rw (drop-cons bs i 0, add-one)

module _ {line : ℕ → ℕ → List ℕ} {bs entry out : List ℕ} {from at i : ℕ} (r : Rolled line bs entry out from at i) where
  pub rolled_more : {next : List ℕ} {end : ℕ} → i < length bs → from ≤ length entry → Wrote at (line (i + 1) (get_or bs i 0)) out next end → Rolled line bs entry next from end (i + 1)
  rolled_more h k w = record {
    put = r.put ++ line (i + 1) (get_or bs i 0);
    all = r.all ∙ ap (λ (l : List ℕ). r.put ++ l) (next_line line bs i h) ∙ sym (append_assoc r.put (line (i + 1) (get_or bs i 0)) (lines_by line (suc (i + 1)) (drop (i + 1) bs)));
    wrote = join r.wrote w k;
  }

  pub rolled_room : i < length bs → from + length (lines_by line 1 bs) ≤ length entry → at + length (line (i + 1) (get_or bs i 0)) ≤ length entry
  rolled_room h k =
      let e = ap length (r.all ∙ ap (λ (l : List ℕ). r.put ++ l) (next_line line bs i h)) in
      omega (arith, simp length-append at e, r.wrote.next)

  pub rolled_all : length bs ≤ i → Wrote from (lines_by line 1 bs) entry out at
  rolled_all h = same_wrote (sym (r.all ∙ ap (λ (l : List ℕ). r.put ++ lines_by line (suc i) l) (drop_of_length-le bs h) ∙ append-nil r.put)) r.wrote
