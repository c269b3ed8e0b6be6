-- The parts of the proof that are named after a test of the function: edits of must-fail/ respell them.
use Rattle.std.proofs.Common.{◌≡◌, ℕ, ◌+◌, ◌%◌, ◌≤◌, Bool, true, cond, eqb, sym, ap, ◌∙◌, arith, eq-eqb, ne_eqb}
use Rattle.rules.specs.Stamp.{days_in}
use Rattle.figures.proofs.Dates.{leap_by}
use Rattle.figures.proofs.stamp.days_in.Tie as tie

-- February, by the year
pub february : (y month : ℕ) (b : Bool) → y ≤ 99 → month ≡ 2 → eqb (y % 4) 0 ≡ b → days_in (2_000 + y) month ≡ cond b 29 28
february y month b h e t =
    ap (days_in (2_000 + y)) e ∙ ap (λ (x : Bool). cond {A = ℕ} x 29 28) (leap_by y h ∙ t)

pub returns : tie.Need-returns-then-y-eq0
returns c =
    let s = c in
    sym (february s.args.y s.args.month true s.requires c.if-month-eq2.true (eq-eqb (s.args.y % 4) 0 (omega arith)))

pub returns-3 : tie.Need-returns-then-month-eq4
returns-3 c = sym (ap (days_in (2_000 + c.args.y)) c.if-month-eq4.true)

pub returns-7 : tie.Need-returns
returns-7 c =
    let f = c in
    let e = f in
    let d = e in
    simp
    (ne_eqb _ _ d.if-month-eq2.false, ne_eqb _ _ d.if-month-eq4.false, ne_eqb _ _ e.if-month-eq6.false, ne_eqb _ _ f.if-month-eq9.false, ne_eqb _ _ c.if-month-eq11.false)
