-- Lines and parts put together and taken apart: a line with its line feed is the first line, a part with its semicolon the first part, and nothing is
-- lost on the way.
-- Assumes nothing.
use Rattle.std.specs.Prelude.{ℕ, ◌≡◌, refl, List, [], ◌∷◌, ◌++◌, Bool, true, false, cond}
use Prim.Native.Char.{code}
use Rattle.std.proofs.Common.{ap, sym, ◌∙◌, arith, eqb-true}
use Rattle.rules.specs.Text.{is, bytes}
use Rattle.rules.specs.Report.{joined}
use Rattle.days.specs.Lines.{Line, Whole, Cut, longer, lines_of}
use Rattle.laws.specs.ByTest.{by_test}
use Rattle.sheets.specs.Line.{onto, parts_of}
use Rattle.sheets_promises.specs.Bytes.{Lacks}

pub line_first : (v rest : List ℕ) → Lacks (code "\n") v → lines_of (v ++ code "\n" ∷ rest) ≡ Whole v ∷ lines_of rest
unfolding lines_of
line_first [] rest h = refl
line_first (b ∷ v) rest h = rw (h.0, line_first v rest h.1)

pub part_last : (v : List ℕ) → Lacks (code ";") v → parts_of v ≡ v ∷ []
unfolding parts_of
part_last [] h = refl
part_last (b ∷ v) h = rw (h.0, part_last v h.1)

pub part_first : (v w : List ℕ) → Lacks (code ";") v → parts_of (v ++ code ";" ∷ w) ≡ v ∷ parts_of w
unfolding parts_of
part_first [] w h = refl
part_first (b ∷ v) w h = rw (h.0, part_first v w h.1)

-- ---- nothing is lost

abbrev pub line_bytes : Line → List ℕ
line_bytes (Whole v) = v ++ bytes "\n"
line_bytes (Cut v) = v

longer_joined : (b : ℕ) (ls : List Line) → joined line_bytes (longer b ls) ≡ b ∷ joined line_bytes ls
longer_joined b [] = refl
longer_joined b (Whole v ∷ ls) = refl
longer_joined b (Cut v ∷ ls) = refl

pub lines_joined : (s : List ℕ) → joined line_bytes (lines_of s) ≡ s
unfolding lines_of
lines_joined [] = refl
lines_joined (b ∷ s) =
    by_test (is "\n" b)
    (λ e. rw e (rw (lines_joined s) (ap (λ (c : ℕ). c ∷ s) (sym (eqb-true b (code "\n") e)))))
    (λ e. rw e (longer_joined b (lines_of s) ∙ rw (lines_joined s)))

abbrev pub put_together : List (List ℕ) → List ℕ
put_together [] = []
put_together (p ∷ []) = p
put_together (p ∷ q ∷ ps) = p ++ code ";" ∷ put_together (q ∷ ps)

onto_together : (b : ℕ) (ps : List (List ℕ)) → put_together (onto b ps) ≡ b ∷ put_together ps
onto_together b [] = refl
onto_together b (p ∷ []) = refl
onto_together b (p ∷ q ∷ ps) = refl

-- parts are never none
begun_together : (ps : List (List ℕ)) (v : List ℕ) → put_together ps ≡ v → (ps ≡ [] → ⊥) → put_together ([] ∷ ps) ≡ code ";" ∷ v
begun_together [] v e n = absurd (n refl)
begun_together (p ∷ ps) v e n = rw e

parts_some : (v : List ℕ) → parts_of v ≡ [] → ⊥
unfolding parts_of
parts_some [] e = absurd (let z : ◌≡◌ {A = ℕ} 0 1 = cc in omega arith)
parts_some (b ∷ v) e = go (is ";" b) (parts_of v) e
  where
    go : (t : Bool) (ps : List (List ℕ)) → cond t ([] ∷ ps) (onto b ps) ≡ [] → ⊥
    go true ps k = let z : ◌≡◌ {A = ℕ} 0 1 = cc in omega arith
    go false [] k = let z : ◌≡◌ {A = ℕ} 0 1 = cc in omega arith
    go false (p ∷ ps) k = let z : ◌≡◌ {A = ℕ} 0 1 = cc in omega arith

pub parts_together : (v : List ℕ) → put_together (parts_of v) ≡ v
unfolding parts_of
parts_together [] = refl
parts_together (b ∷ v) =
    by_test (is ";" b)
    (λ e. rw e (begun_together (parts_of v) v (parts_together v) (parts_some v) ∙ ap (λ (c : ℕ). c ∷ v) (sym (eqb-true b (code ";") e))))
    (λ e. rw e (onto_together b (parts_of v) ∙ rw (parts_together v)))
