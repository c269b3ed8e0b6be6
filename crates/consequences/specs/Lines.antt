-- The lines of customers whose codes are distinct, as those of an accepted book are: no offset yet, and lots pending only for who is
-- pending. So what holds of the cascade of such lines holds of the outcome of the customers.
-- Assumes nothing.
use Rattle.std.specs.Prelude.{ℕ, ◌<◌, ◌≡◌, refl, length, get_or}
use Rattle.std.proofs.Common.{ap, subst, ◌∙◌, arith}
use Rattle.std.proofs.Math.Bool.{false}
use mathlib.Core.List.Memᴰ
use mathlib.Core.List.{List, map, Memᴰ}
use Rattle.std.proofs.lemmas.List.{length-map}
use Rattle.rules.specs.declared.Terms.{Terms}
use Rattle.rules.specs.declared.Position.{Position}
use Rattle.rules.specs.declared.Standing.{Standing}
use Rattle.rules.specs.declared.Standing.TheVariants.{Pending, Tier1, Tier2, Tier3, Neither}
use Rattle.rules.specs.Book.{Customer, position, Accepted, judge}
use Rattle.rules.specs.Division.{one_if}
use Rattle.rules.specs.Cascade.{Line, code_of, pending_by, line_of, outcome}
use Rattle.consequences.specs.Rearranged.{nobody}
use Rattle.laws.specs.ShareSum.{Distinct}
use Rattle.laws.specs.Indices.{get_d_in}
use Rattle.laws.specs.Sane.{code_in, accepted_sane}
use Rattle.consequences.specs.Tiers.{distinct_map}
use Rattle.consequences.specs.Offsets.{is_pending}
use Rattle.consequences.specs.Balance.{Fresh, Balanced, balanced}
use Rattle.consequences.specs.Within.{Within, within, as_many}

none_pending : (s : Standing) (p : Position) → is_pending s ≡ false → pending_by s p ≡ 0
none_pending Pending p e = absurd (omega (arith, ap one_if e))
none_pending Tier1 p e = refl
none_pending Tier2 p e = refl
none_pending Tier3 p e = refl
none_pending Neither p e = refl

module _ (terms : Terms) (cs : List Customer) (d : Distinct code_in cs) where
  abbrev lines : List Line
  lines = map (line_of terms) cs

  -- what holds of each customer's line holds of each line
  each : (P : Line → Type 0) → ((c : Customer) → P (line_of terms c)) → (l : Line) → Memᴰ l lines → P l
  each P h l m =
      let (c, n, e) = Memᴰ.of_map (line_of terms) cs m in
      subst P e (h c)

  pub lines_fresh : Fresh lines
  unfolding line_of
  lines_fresh =
      record {
        apart = record {
          distinct = distinct_map code_in code_of (line_of terms) (λ c. refl) cs d;
          others = each (λ l. is_pending l.standing ≡ false → l.pending ≡ 0) (λ c. none_pending (line_of terms c).standing (position c));
        };
        unset = each (λ l. l.offset ≡ 0) (λ c. refl);
      }

  pub outcome_balanced : Balanced lines (outcome terms cs)
  unfolding outcome
  outcome_balanced = balanced lines lines_fresh

  pub outcome_within : (i : ℕ) (none : Customer) → i < length cs → Within (line_of terms (get_or cs i none)) (get_or (outcome terms cs).lines i nobody)
  unfolding outcome
  outcome_within i none h =
      rw (get_d_in (line_of terms) cs i none nobody h) at (within lines lines_fresh i (rw (length-map cs (line_of terms)) h))

-- a line for each customer
pub lines_many : (terms : Terms) (cs : List Customer) → length (outcome terms cs).lines ≡ length cs
unfolding outcome
lines_many terms cs = as_many (map (line_of terms) cs) ∙ length-map cs (line_of terms)

-- the customers of an accepted book are such
module _ (s : List ℕ) (terms : Terms) (cs : List Customer) (e : judge s ≡ Accepted terms cs) where
  pub book_balanced : Balanced (map (line_of terms) cs) (outcome terms cs)
  book_balanced = outcome_balanced terms cs (accepted_sane s terms cs e).distinct

  pub book_within : (i : ℕ) (none : Customer) → i < length cs → Within (line_of terms (get_or cs i none)) (get_or (outcome terms cs).lines i nobody)
  book_within = outcome_within terms cs (accepted_sane s terms cs e).distinct
