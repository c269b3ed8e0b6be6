-- One field that the book's table takes, whatever is due: its value is good for its tag, and what is due next follows from it. Each rule by tests is
-- read backwards, so that all that follows goes by three kinds of value.
-- Assumes nothing.
use Rattle.std.specs.Prelude.{ℕ, ◌≤◌, ◌≡◌, refl, List, [], ◌∷◌, Bool, true, false, cond, ◌&&◌, ◌||◌, leb, eqb, length}
use Prim.Native.Char.{Char, code}
use Rattle.std.proofs.Common.{sym, ap, ap₂, subst, eqb-true, arith}
use Rattle.std.proofs.Math.Bool.{and-eq-true_iff}
use Rattle.rules.specs.declared.Form.{Form}
use Rattle.rules.specs.declared.Figure.{Figure}
use Rattle.rules.specs.declared.Figure.TheVariants.{Value, Comma, Malformed}
use Rattle.rules.specs.Text.{is, bytes}
use Rattle.rules.specs.Limits.{longest_code}
use Rattle.rules.specs.Figures.{figure_of}
use Rattle.rules.specs.Codes.{is_code, all_of_code, same}
use Rattle.rules.specs.Book.{Step, Stop, Next, figure, lock, places}
use Rattle.laws.specs.Figures.{figure_read}
use Rattle.consequences.specs.Runs.{stop_not}
use Rattle.sheets.specs.Line.{carried, figured, traded}
use Rattle.sheets_promises.specs.Bytes.{Each, Bare, code_bare}
use Rattle.sheets_promises.specs.Values.{Figured, written_made}
use Rattle.sheets_promises.specs.TradeValues.{Traded}

-- a figure that was written so
pub record AFigure (v : List ℕ) : Type 0 where
  pub decimals : ℕ
  pub figured : Figured v decimals

abbrev pub pick : Bool → Type 0 → Type 0 → Type 0
pick true a b = a
pick false a b = b

-- a value that is good for its tag: a price or a rate in S, L, U, V; a trade in B, A; and letters and digits in every other
abbrev pub Good : ℕ → List ℕ → Type 0
Good t v = pick (figured t) (AFigure v) (pick (traded t) (Traded v) (Each Bare v))

-- a field that has a line to itself
abbrev pub line_tag : ℕ → Bool
line_tag t = carried t || figured t || traded t

-- ---- what is taken by each rule

pub same_is : (v w : List ℕ) → same v w ≡ true → v ≡ w
same_is [] [] h = refl
same_is [] (y ∷ w) h = absurd (let z : ◌≡◌ {A = Bool} false true = h in let n : ◌≡◌ {A = ℕ} 0 1 = cc in omega arith)
same_is (x ∷ v) [] h = absurd (let z : ◌≡◌ {A = Bool} false true = h in let n : ◌≡◌ {A = ℕ} 0 1 = cc in omega arith)
same_is (x ∷ v) (y ∷ w) h = let k = (and-eq-true_iff (eqb x y) (same v w)).0 h in ap₂ ◌∷◌ (eqb-true x y k.0) (same_is v w k.1)

module _ {A : Type 0} where
  pub figure_next : (f : Figure) (next : ℕ → Step A) (a : A) → figure f next ≡ Next a → (n : ℕ) × (f ≡ Value n) × (next n ≡ Next a)
  figure_next (Value n) next a e = (n, refl, e)
  figure_next Comma next a e = stop_not e
  figure_next Malformed next a e = stop_not e

  -- D and U, 0 and 2: one letter or digit
  pub lock_next : (v : List ℕ) (next : Bool → Step A) (a : A) → lock v next ≡ Next a → Each Bare v × (length v ≤ 8) × ((d : Bool) × (next d ≡ Next a))
  lock_next v next a e = go (same v (bytes "D")) (same v (bytes "U")) refl refl e
    where
      go : (p q : Bool) → same v (bytes "D") ≡ p → same v (bytes "U") ≡ q → cond p (next true) (cond q (next false) (Stop 5)) ≡ Next a → Each Bare v × (length v ≤ 8) × ((d : Bool) × (next d ≡ Next a))
      go true q x y k = (subst (Each Bare) (sym (same_is v (bytes "D") x)) (code_bare (bytes "D") refl), omega (arith, ap length (same_is v (bytes "D") x)), (true, k))
      go false true x y k = (subst (Each Bare) (sym (same_is v (bytes "U") y)) (code_bare (bytes "U") refl), omega (arith, ap length (same_is v (bytes "U") y)), (false, k))
      go false false x y k = stop_not k

  pub places_next : (v : List ℕ) (next : ℕ → Step A) (a : A) → places v next ≡ Next a → Each Bare v × (length v ≤ 8) × ((d : ℕ) × (next d ≡ Next a))
  places_next v next a e = go (same v (bytes "0")) (same v (bytes "2")) refl refl e
    where
      go : (p q : Bool) → same v (bytes "0") ≡ p → same v (bytes "2") ≡ q → cond p (next 0) (cond q (next 2) (Stop 5)) ≡ Next a → Each Bare v × (length v ≤ 8) × ((d : ℕ) × (next d ≡ Next a))
      go true q x y k = (subst (Each Bare) (sym (same_is v (bytes "0") x)) (code_bare (bytes "0") refl), omega (arith, ap length (same_is v (bytes "0") x)), (0, k))
      go false true x y k = (subst (Each Bare) (sym (same_is v (bytes "2") y)) (code_bare (bytes "2") refl), omega (arith, ap length (same_is v (bytes "2") y)), (2, k))
      go false false x y k = stop_not k

pub figure_good : (form : Form) (v : List ℕ) (n : ℕ) → figure_of form v ≡ Value n → Figured v form.decimals
figure_good form v n e = written_made v n form.decimals (figure_read form v n e).written

pub a_figure : (form : Form) (v : List ℕ) (n : ℕ) → figure_of form v ≡ Value n → AFigure v
a_figure form v n e = record { decimals = form.decimals; figured = figure_good form v n e }

pub code_good : (v : List ℕ) → is_code v ≡ true → Each Bare v
unfolding is_code
code_good v h = code_bare v ((and-eq-true_iff (leb 1 (length v) && leb (length v) longest_code) (all_of_code v)).0 h).1

-- a tag that is tested is known
pub tag_is : (c : Char) (t : ℕ) → is c t ≡ true → code c ≡ t
tag_is c t h = sym (eqb-true t (code c) h)
