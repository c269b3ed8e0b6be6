-- What holds of a step, whatever it comes to: something of its refusal, or something of what it leads to. Each combinator of the rules
-- keeps it, so that no proof goes through the text of a rule.
-- Assumes nothing.
use Rattle.std.specs.Prelude.{ℕ, ◌≤◌, ◌≡◌, refl, List, Bool, true, false, cond, not, eqb}
use Rattle.rules.specs.declared.Figure.{Figure}
use Rattle.rules.specs.declared.Figure.TheVariants.{Value, Comma, Malformed}
use Rattle.rules.specs.declared.Form.{Form}
use Rattle.rules.specs.declared.Trade.{Trade}
use Rattle.rules.specs.declared.Opening.{Opening}
use Rattle.rules.specs.declared.Opening.TheVariants.{Made}
use Rattle.rules.specs.declared.Opening.TheVariants.{Comma as CommaIn}
use Rattle.rules.specs.declared.Opening.TheVariants.{Malformed as NoTrade}
use Rattle.rules.specs.Refusal as refusal
use Rattle.rules.specs.Text.{bytes}
use Rattle.rules.specs.Codes.{same}
use Rattle.rules.specs.Figures.{figure_of}
use Rattle.rules.specs.Book.{Step, Stop, Next, must, refuse, figure, trade, lock, places}
use Rattle.laws.specs.Figures.{figure_within}

module _ {A : Type 0} (Q : ℕ → Type 0) (P : A → Type 0) where
  abbrev pub Keeps : Step A → Type 0
  Keeps (Stop n) = Q n
  Keeps (Next a) = P a

  pub must_keeps : Q refusal.misplaced → (b : Bool) (r : Step A) → Keeps r → Keeps (must b r)
  must_keeps q true r h = h
  must_keeps q false r h = q

  pub cond_keeps : (b : Bool) (r u : Step A) → (b ≡ true → Keeps r) → (b ≡ false → Keeps u) → Keeps (cond b r u)
  cond_keeps true r u h k = h refl
  cond_keeps false r u h k = k refl

  -- what is not refused did not meet the test
  pub refuse_keeps : (n : ℕ) (b : Bool) (r : Step A) → Q n → (b ≡ false → Keeps r) → Keeps (refuse n b r)
  refuse_keeps n true r q h = q
  refuse_keeps n false r q h = h refl

  -- a figure is at most its form's most
  pub figure_keeps : (form : Form) (v : List ℕ) (next : ℕ → Step A) → Q refusal.comma → Q refusal.malformed → ((n : ℕ) → n ≤ form.most → Keeps (next n)) → Keeps (figure (figure_of form v) next)
  figure_keeps form v next q₄ q₅ h = go (figure_of form v) refl
    where
      go : (f : Figure) → figure_of form v ≡ f → Keeps (figure f next)
      go (Value n) e = h n (figure_within form v n e).1
      go Comma e = q₄
      go Malformed e = q₅

  pub trade_keeps : (x : ℕ) (o : Opening) (next : Trade → Step A) → Q refusal.comma → Q refusal.malformed → ((t : Trade) → Keeps (next t)) → Keeps (trade x o next)
  trade_keeps x (Made t d) next q₄ q₅ h = refuse_keeps refusal.malformed (not (eqb d x)) (next t) q₅ (λ e. h t)
  trade_keeps x CommaIn next q₄ q₅ h = q₄
  trade_keeps x NoTrade next q₄ q₅ h = q₅

  pub lock_keeps : (v : List ℕ) (next : Bool → Step A) → Q refusal.malformed → ((d : Bool) → Keeps (next d)) → Keeps (lock v next)
  lock_keeps v next q h = go (same v (bytes "D")) (same v (bytes "U"))
    where
      go : (a b : Bool) → Keeps (cond a (next true) (cond b (next false) (Stop refusal.malformed)))
      go true b = h true
      go false true = h false
      go false false = q

  pub places_keeps : (v : List ℕ) (next : ℕ → Step A) → Q refusal.malformed → ((x : ℕ) → Keeps (next x)) → Keeps (places v next)
  places_keeps v next q h = go (same v (bytes "0")) (same v (bytes "2"))
    where
      go : (a b : Bool) → Keeps (cond a (next 0) (cond b (next 2) (Stop refusal.malformed)))
      go true b = h 0
      go false true = h 2
      go false false = q

-- and what follows from what holds
pub keeps_also : {A : Type 0} {Q R : ℕ → Type 0} {P S : A → Type 0} → ((n : ℕ) → Q n → R n) → ((a : A) → P a → S a) → (r : Step A) → Keeps Q P r → Keeps R S r
keeps_also f g (Stop n) h = f n h
keeps_also f g (Next a) h = g a h
