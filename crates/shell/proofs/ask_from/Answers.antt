-- The word that a turn looks at is one from `first` on, and no other place is ever told.
-- Assumes nothing.
use Rattle.std.proofs.Common.{ℕ, sym, subst, Bool, true, false, cond}
use Rattle.command.specs.declared.Word.{Word}
use Rattle.command.specs.declared.Word.TheVariants.{Help, Version, Dash, Ends, Option, File}
use Rattle.command.specs.declared.Seen.{Seen}
use Rattle.command.specs.declared.Asked.{Asked}
use Rattle.command.specs.declared.Asked.TheVariants.{Nothing, Named, Usage, Number, Unknown, Second}
use Rattle.command.specs.declared.Asked.TheVariants.{Input as StandardInput}
use Rattle.command.specs.Asked.{settled_of, operand_of, meant_of, step_of}
use Rattle.shell.specs.Shell.{Took, Within, Among}
use Rattle.shell.proofs.ask_from.Goals as goal

cond_both : {X : Type 0} (P : X → Type 0) (b : Bool) {x y : X} → P x → P y → P (cond b x y)
cond_both P true p q = p
cond_both P false p q = q

module _ (first count i : ℕ) (h : Within first count i) where
  operand : (before now : Asked) → Among first count before → Among first count now → Among first count (operand_of before now i)
  operand Nothing now b n = n
  operand StandardInput now b n = h
  operand (Named k) now b n = h
  operand Usage now b n = tt
  operand Number now b n = tt
  operand (Unknown k) now b n = b
  operand (Second k) now b n = b

  step : (s : Seen) (w : Word) → Among first count s.asked → Among first count (step_of s w i).asked
  step s Help a = tt
  step s Version a = tt
  step s Dash a = operand s.asked StandardInput a tt
  step s Ends a = a
  step s Option a = h
  step s File a = operand s.asked (Named i) a h

  took : (s r : Seen) → Took s i r → Among first count s.asked → Among first count r.asked
  took s r (w, e) a =
      subst (λ (x : Seen). Among first count x.asked) (sym e)
      (cond_both (λ (x : Seen). Among first count x.asked) (settled_of s.asked) a (step s (meant_of w s.ended) a))

pub loop-i-preserved : goal.loop-i-preserved
loop-i-preserved c =
    took c.args.first c.args.count c.loop-i.i (c.loop-i.auto.i, c.loop-i-test.true) c.loop-i.seen c.take-seen.result c.take-seen.ensures c.loop-i.invariant
