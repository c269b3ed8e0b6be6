-- Any byte above 3 stands for neither.
-- Assumes nothing.
use Prim.Native.Nat.{ℕ, zero, suc}
use mathlib.Core.Path.{◌≡◌, refl}
use Rattle.rules.specs.declared.Standing.TheVariants.{Neither}
use Rattle.cascade.specs.Columns.{standing_of}
use borrow.Author.Rules.{rules}
use Rattle.report.proofs.standing_of.Statement.{statement}
use Rattle.report.proofs.standing_of.Tie as tie

rest : (b : ℕ) → (b ≡ 0 → ⊥) → (b ≡ 1 → ⊥) → (b ≡ 2 → ⊥) → (b ≡ 3 → ⊥) → Neither ≡ standing_of b
rest zero p q r s = absurd (p refl)
rest (suc zero) p q r s = absurd (q refl)
rest (suc (suc zero)) p q r s = absurd (r refl)
rest (suc (suc (suc zero))) p q r s = absurd (s refl)
rest (suc (suc (suc (suc b)))) p q r s = refl

returns : tie.Need-returns-in-0
returns c = search rules

returns-2 : tie.Need-returns-in-1
returns-2 c = search rules

returns-3 : tie.Need-returns-in-2
returns-3 c = search rules

returns-4 : tie.Need-returns-in-3
returns-4 c = search rules

returns-5 : tie.Need-returns-in_default
returns-5 c = let r = c.in_default.in_default-own.rest in rest c.args.byte r.0.0.0.1 r.0.0.1 r.0.1 r.1

pub standing_of_spec : {M : Type 1} → statement M
standing_of_spec = tie.close (tie.spec returns returns-2 returns-3 returns-4 returns-5)
