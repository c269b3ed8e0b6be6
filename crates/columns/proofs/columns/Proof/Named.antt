-- The parts of the proof that are named after a test of the function: edits of must-fail/ respell them.
use Prim.Native.Nat.{ℕ}
use mathlib.Core.Path.{◌≡◌, sym, subst}
use mathlib.Core.List.{List}
use Rattle.rules.specs.Answer.{Answer as Answer01}
use Rattle.answers.specs.declared.Answer.{Answer}
use Rattle.allotment.specs.Rolls.{refuses, Accepts, accepts}
use Rattle.columns.specs.View.{Runs, Viewed}
use Rattle.columns.proofs.Fitting.{refused_so}
use Rattle.columns.proofs.Views.{stops}
use Rattle.columns.proofs.columns.Tie as tie

abbrev pub rolled : tie.After-struct_known-1 → tie.After-read_roll-roll
rolled k = k.before.before.before.before.before.before

abbrev pub begin : tie.After-read_roll-roll → tie.Start
begin r = r.before.before.before.before.before.before.before.before.before.before

pub accepted : (e : tie.Else-refused-ne-ACCEPTED) → let r = rolled e.before in let l = r.read_roll-roll.new in
    Accepts (begin r).args.book.now l.keys l.starts l.standings l.stakes r.read_roll-roll.result r.read_roll-roll.ensures.rolled
accepted e = let r = rolled e.before in let l = r.read_roll-roll.new in
    accepts (begin r).args.book.now l.keys l.starts l.standings l.stakes r.read_roll-roll.result r.read_roll-roll.ensures.rolled e.if-refused-ne-ACCEPTED.false

abbrev pub left : tie.After-close-closed → tie.Else-refused-ne-ACCEPTED
left d = d.before.before.before.before

-- the answers to all runs are the same ones
pub same : {a b : (Runs → List ℕ) → Answer01} {entry exit : Runs} {r : Answer} → a ≡ b → Viewed b entry exit r → Viewed a entry exit r
same {a} {b} {entry} {exit} {r} e v = subst (λ (f : (Runs → List ℕ) → Answer01). Viewed f entry exit r) (sym e) v

pub returns : tie.Need-returns-then-refused-ne-ACCEPTED
returns c =
    let r = rolled c.before in
    let l = r.read_roll-roll.new in
    same (stops (begin r).args.book.now (refuses (begin r).args.book.now l.keys l.starts l.standings l.stakes r.read_roll-roll.result r.read_roll-roll.ensures.rolled c.if-refused-ne-ACCEPTED.true) _) (refused_so _ _ _)
