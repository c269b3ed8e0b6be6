-- A sheet's first line: either the sheet is a mark line and what follows it, and is read by that mark from line 2 on, or it is refused with 20.
-- Assumes nothing.
use Rattle.std.specs.Prelude.{ℕ, ◌≡◌, refl, List, [], ◌∷◌, ◌++◌, Bool, true, false}
use Prim.Native.Char.{code}
use Rattle.std.proofs.Common.{sym, ap, ◌∙◌, arith}
use Rattle.rules.specs.Text.{bytes}
use Rattle.rules.specs.Codes.{same}
use Rattle.rules.specs.Report.{joined}
use Rattle.days.specs.Lines.{Line, Whole, Cut, lines_of}
use Rattle.laws.specs.ByTest.{by_test}
use Rattle.sheets.specs.Mark.{is_mark}
use Rattle.sheets.specs.Read.{no_mark_line, lines_from, sheet_from}
use Rattle.sheets.specs.Write.{mark_line}
use Rattle.sheets_promises.specs.Marks.{by_mark}
use Rattle.sheets_promises.specs.Cuts.{line_bytes, lines_joined}
use Rattle.sheets_promises.specs.Good.{same_is}

-- behind the mark line
pub lines_behind : (m : ℕ) → is_mark m ≡ true → (rest : List ℕ) → lines_of (mark_line m ++ rest) ≡ Whole (bytes "mark" ++ m ∷ []) ∷ lines_of rest
unfolding lines_of
lines_behind = by_mark (λ m. (rest : List ℕ) → lines_of (mark_line m ++ rest) ≡ Whole (bytes "mark" ++ m ∷ []) ∷ lines_of rest) (λ rest. refl) (λ rest. refl)

pub behind_mark : (m : ℕ) → is_mark m ≡ true → (rest : List ℕ) → sheet_from (lines_of (mark_line m ++ rest)) ≡ lines_from m 2 (lines_of rest)
unfolding sheet_from lines_of
behind_mark = by_mark (λ m. (rest : List ℕ) → sheet_from (lines_of (mark_line m ++ rest)) ≡ lines_from m 2 (lines_of rest)) (λ rest. refl) (λ rest. refl)

-- the first line is `mark,` or `mark.` with its line feed
pub record MarkLine (s : List ℕ) : Type 0 where
  pub mark : ℕ
  pub rest : List ℕ
  pub either : is_mark mark ≡ true
  pub whole : s ≡ mark_line mark ++ rest

pub data Head (s : List ℕ) : Type 0 where
  marked : MarkLine s → Head s
  unmarked : (MarkLine s → ⊥) → sheet_from (lines_of s) ≡ no_mark_line → Head s

pub head : (s : List ℕ) → Head s
unfolding sheet_from
head s = go (lines_of s) refl
  where
    behind : (m : ℕ) (v : List ℕ) (ls : List Line) → lines_of s ≡ Whole v ∷ ls → same v (bytes "mark" ++ m ∷ []) ≡ true → s ≡ mark_line m ++ joined line_bytes ls
    behind m v ls e h = sym (lines_joined s) ∙ rw (e, same_is v (bytes "mark" ++ m ∷ []) h)

    line_is : (x : MarkLine s) → lines_of s ≡ Whole (bytes "mark" ++ x.mark ∷ []) ∷ lines_of x.rest
    line_is x = ap lines_of x.whole ∙ lines_behind x.mark x.either x.rest

    none : (v : List ℕ) (ls : List Line) → lines_of s ≡ Whole v ∷ ls → same v (bytes "mark,") ≡ false → same v (bytes "mark.") ≡ false → MarkLine s → ⊥
    none v ls e c p x =
        let w : v ≡ bytes "mark" ++ x.mark ∷ [] = ap text (sym e ∙ line_is x) in
        absurd (by_mark (λ m. v ≡ bytes "mark" ++ m ∷ [] → ⊥) (λ q. differ (ap (λ (u : List ℕ). same u (bytes "mark,")) (sym q) ∙ c)) (λ q. differ (ap (λ (u : List ℕ). same u (bytes "mark.")) (sym q) ∙ p)) x.mark x.either w)
      where
        text : List Line → List ℕ
        text [] = []
        text (Cut u ∷ ks) = []
        text (Whole u ∷ ks) = u

        differ : ◌≡◌ {A = Bool} true false → ⊥
        differ q = let n : ◌≡◌ {A = ℕ} 0 1 = cc in omega arith

    go : (ls : List Line) → lines_of s ≡ ls → Head s
    go [] e = unmarked (λ x. let q : [] ≡ Whole (bytes "mark" ++ x.mark ∷ []) ∷ lines_of x.rest = sym e ∙ line_is x in let n : ◌≡◌ {A = ℕ} 0 1 = cc in omega arith) (rw e)
    go (Cut v ∷ ls) e = unmarked (λ x. let q : Cut v ∷ ls ≡ Whole (bytes "mark" ++ x.mark ∷ []) ∷ lines_of x.rest = sym e ∙ line_is x in let n : ◌≡◌ {A = ℕ} 0 1 = cc in omega arith) (rw e)
    go (Whole v ∷ ls) e =
        by_test (same v (bytes "mark,"))
        (λ c. marked (record { mark = code ","; rest = joined line_bytes ls; either = refl; whole = behind (code ",") v ls e c }))
        (λ c.
        by_test (same v (bytes "mark."))
        (λ p. marked (record { mark = code "."; rest = joined line_bytes ls; either = refl; whole = behind (code ".") v ls e p }))
        (λ p. unmarked (none v ls e c p) (rw (e, c, p))))
