-- "the contract determines all": any two results that a contract of request [13] allows are equal, and so is all that is lent. The statement
-- is that of crates/promises (Determined.antt there), and `AsksNothing` too.
-- Assumes nothing.
use Rattle.std.specs.Prelude.{ℕ, ◌≤◌, ◌≡◌, refl, List, length, drop}
use Rattle.std.proofs.Common.{sym, ap, ◌∙◌, arith, length-drop}
use contract.Lifetimes.{Lfts}
use denote.Triple.Entry.{Args, Res}
use denote.Triple.Clauses.{Ended, Lasts, AtExit, at_exit}
use Rattle.writing.specs.Written.{Wrote}
use Rattle.rules.specs.Answer.{Answer as Answer01}
use Rattle.answers.specs.declared.Answer.{Answer}
use Rattle.answers.specs.Answered.{Answered}
use Rattle.command.proofs as command
use Rattle.command.specs.contracts as command_contracts
use Rattle.reasons.proofs as reasons
use Rattle.reasons.specs.contracts as reasons_contracts
use Rattle.cutback.proofs as cutback
use Rattle.cutback.specs.contracts as cutback_contracts
use Rattle.frundavel.proofs as frundavel
use Rattle.frundavel.specs.contracts as frundavel_contracts

abbrev pub Contract : Ended → Type 1
Contract T = (κs : Lfts T.signature.lifetimes) → Args T.signature κs → Res T.signature κs → AtExit T κs → Type 0

abbrev pub Determined : (T : Ended) → Contract T → Type 0
Determined T Learnt =
    (κs : Lfts T.signature.lifetimes) (a : Args T.signature κs) (r q : Res T.signature κs) (s t : Lasts T κs a) →
    Learnt κs a r (at_exit T κs a s) → Learnt κs a q (at_exit T κs a t) → (r ≡ q) × (s ≡ t)

abbrev pub AsksNothing : (T : Ended) → ((κs : Lfts T.signature.lifetimes) → Args T.signature κs → Type 0) → Type 0
AsksNothing T Asked = (κs : Lfts T.signature.lifetimes) (a : Args T.signature κs) → Asked κs a

wrote : {Rest : Type 0} {rest : Rest} {at r q : ℕ} {bytes entry x y : List ℕ} → Wrote at bytes entry x r → Wrote at bytes entry y q →
    (r ≡ q) × (◌≡◌ {A = List ℕ × Rest} (x, rest) (y, rest))
wrote {Rest} {rest} e f = (e.next ∙ sym f.next, ap (λ b. (b, rest)) (e.whole ∙ sym f.whole))

same_answer : (a : Answer01) (r q : Answer) (entry x y : List ℕ) → Answered a r entry x → Answered a q entry y → (r ≡ q) × (x ≡ y)
same_answer a r q entry x y e f =
    (λ j. record { number = (e.number ∙ sym f.number) j; place = (e.place ∙ sym f.place) j; length = (e.length ∙ sym f.length) j }, e.buffer ∙ sym f.buffer)

-- command, reasons: what request [13] reads words and lines with
pub is : Determined command_contracts.is.ended command.is.Reads.Learnt
is κs a r q s t e f = (e ∙ sym f, refl)

behind : (v w : List ℕ) (r q : ℕ) → r ≤ length v → q ≤ length v → drop r v ≡ w → drop q v ≡ w → r ≡ q
behind v w r q h k e f = omega (arith, ap length e, ap length f, length-drop r v, length-drop q v)

pub behind_lines : Determined reasons_contracts.behind_lines.ended reasons.behind_lines.Reads.Learnt
behind_lines κs a r q s t e f = (behind _ _ r q e.0 f.0 e.1 f.1, refl)

pub line_end : Determined reasons_contracts.line_end.ended reasons.line_end.Reads.Learnt
line_end κs a r q s t e f = (e ∙ sym f, refl)

pub put_line : Determined reasons_contracts.put_line.ended reasons.put_line.Reads.Learnt
put_line κs a r q s t e f = wrote e f

-- cutback
pub cut : Determined cutback_contracts.cut.ended cutback.cut.Reads.Learnt
cut κs a r q s t e f = let w = same_answer _ r q _ _ _ e f in (w.0, ap (λ c. (tt, (tt, (tt, (tt, (tt, (tt, (c, tt)))))))) w.1)

pub cut_lines : Determined cutback_contracts.cut_lines.ended cutback.cut_lines.Reads.Learnt
cut_lines κs a r q s t e f = let w = same_answer _ r q _ _ _ e f in (w.0, ap (λ c. (tt, (tt, (tt, (tt, (tt, (c, tt))))))) w.1)

-- the call for C, which asks for nothing
pub frundavel_cutback : Determined frundavel_contracts.frundavel_cutback.ended frundavel.frundavel_cutback.Reads.Learnt
frundavel_cutback κs a r q s t e f = let w = same_answer _ r q _ _ _ e f in (w.0, ap (λ c. (tt, (tt, (tt, (tt, (tt, (tt, (c, tt)))))))) w.1)

pub asks_nothing : AsksNothing frundavel_contracts.frundavel_cutback.ended frundavel.frundavel_cutback.Reads.Asked
asks_nothing κs a = tt
