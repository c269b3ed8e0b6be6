-- What the contracts of request [13] allow of seats that are written out is computed (`allowed`), and a call gives only what is allowed: so a wrong
-- answer of `cut`, of `cut_lines` or of the call for C is contradicted by computing.
-- Assumes nothing.
use Rattle.std.specs.Prelude.{ℕ, ◌≡◌, refl, Bool, true, false, ◌&&◌, not, List, [], ◌∷◌, length, eqb}
use Prim.Native.String.{String}
use Rattle.std.proofs.Common.{sym, ap, ap₂, ◌∙◌, eq-eqb, arith}
use contract.Lifetimes.{Lfts}
use denote.Triple.Entry.{Args}
use denote.Triple.Clauses.{AtExit}
use Rattle.rules.specs.Codes.{same}
use Rattle.rules.specs.Division.{one_if}
use Rattle.rules.specs.Answer.{lent}
use Rattle.rules.specs.Answer.{Answer as Answer01}
use Rattle.answers.specs.declared.Answer.{Answer}
use Rattle.answers.specs.Answered.{Answered}
use Rattle.cases.specs.Case.{Holds, so}
use Rattle.cutback.specs.Lines.{codes_in, codes_ahead}
use Rattle.cutback.specs.Judge.{judge, answer_of}
use Rattle.cutback.proofs as cutback
use Rattle.cutback.specs.contracts as cutback_contracts
use Rattle.frundavel.proofs as frundavel
use Rattle.frundavel.specs.contracts as frundavel_contracts

-- what a call is handed, with the codes as they are read
pub record Handed : Type 0 where
  pub kind : List ℕ
  pub metal : List ℕ
  pub grams : ℕ
  pub codes : List (List ℕ)
  pub lots : List ℕ

-- an answer, right or wrong: the three numbers, and the lent places before and after
pub record Tried : Type 0 where
  pub name : String
  pub handed : Handed
  pub entry : List ℕ
  pub number : ℕ
  pub place : ℕ
  pub length : ℕ
  pub exit : List ℕ

abbrev pub right_for : Handed → List ℕ → Answer01
right_for h entry = answer_of (length entry) (judge h.kind h.metal h.grams h.codes h.lots)

abbrev pub allowed : Tried → Bool
allowed t =
    let a = right_for t.handed t.entry in
    eqb t.number a.number && eqb t.place a.place && eqb t.length a.length && same t.exit (lent a t.entry)

-- a call that has come back
pub record Call : Type 0 where
  pub handed : Handed
  pub entry : List ℕ
  pub answer : Answer
  pub exit : List ℕ
  pub contract : Answered (right_for handed entry) answer entry exit

-- one of the call for C, and of both functions of the library, by their contracts as the kit publishes them
pub of_frundavel : (κs : Lfts 6) (a : Args frundavel_contracts.frundavel_cutback.signature κs) (r : Answer) (s : AtExit frundavel_contracts.frundavel_cutback.ended κs) →
    frundavel.frundavel_cutback.Reads.Learnt κs a r s → Call
of_frundavel κs a r s h = record {
  handed = record { kind = a.0.now; metal = a.1.0.now; grams = a.1.1.0; codes = codes_in a.1.1.1.1.0.now a.1.1.1.0.now; lots = a.1.1.1.1.1.0.now };
  entry = a.1.1.1.1.1.1.0.now;
  answer = r;
  exit = s.1.1.1.1.1.1.0.now;
  contract = h;
}

pub of_cut : (κs : Lfts 6) (a : Args cutback_contracts.cut.signature κs) (r : Answer) (s : AtExit cutback_contracts.cut.ended κs) → cutback.cut.Reads.Learnt κs a r s → Call
of_cut κs a r s h = of_frundavel κs a r s h

pub of_cut_lines : (κs : Lfts 5) (a : Args cutback_contracts.cut_lines.signature κs) (r : Answer) (s : AtExit cutback_contracts.cut_lines.ended κs) → cutback.cut_lines.Reads.Learnt κs a r s → Call
of_cut_lines κs a r s h = record {
  handed = record { kind = a.0.now; metal = a.1.0.now; grams = a.1.1.0; codes = codes_ahead a.1.1.1.0.now; lots = a.1.1.1.1.0.now };
  entry = a.1.1.1.1.1.0.now;
  answer = r;
  exit = s.1.1.1.1.1.0.now;
  contract = h;
}

-- a call was handed that, and gave that
pub record Gave (c : Call) (t : Tried) : Type 0 where
  pub handed : c.handed ≡ t.handed
  pub entry : c.entry ≡ t.entry
  pub number : c.answer.number ≡ t.number
  pub place : c.answer.place ≡ t.place
  pub length : c.answer.length ≡ t.length
  pub exit : c.exit ≡ t.exit

same_self : (l : List ℕ) → same l l ≡ true
same_self [] = refl
same_self (x ∷ l) = rw (eq-eqb x x refl, same_self l) refl

gives_allowed : (c : Call) (t : Tried) → Gave c t → allowed t ≡ true
gives_allowed c t g =
    let a = right_for t.handed t.entry in
    let asked : right_for c.handed c.entry ≡ a = ap₂ right_for g.handed g.entry in
    let number : t.number ≡ a.number = sym g.number ∙ c.contract.number ∙ ap (λ x. x.number) asked in
    let place : t.place ≡ a.place = sym g.place ∙ c.contract.place ∙ ap (λ x. x.place) asked in
    let size : t.length ≡ a.length = sym g.length ∙ c.contract.length ∙ ap (λ x. x.length) asked in
    let exit : t.exit ≡ lent a t.entry = sym g.exit ∙ c.contract.buffer ∙ ap₂ lent asked g.entry in
    rw (eq-eqb _ _ number, eq-eqb _ _ place, eq-eqb _ _ size, exit, same_self (lent a t.entry)) refl

-- none of these is ever given
abbrev pub Contradicted : List Tried → Type 0
Contradicted [] = Unit {0}
Contradicted (t ∷ ts) = ((c : Call) → Gave c t → ⊥) × Contradicted ts

infixr 20 ◌&◌
pub data NoneAllowed : List Tried → Type 0 where
  done : NoneAllowed []
  ◌&◌ : {t : Tried} {ts : List Tried} → Holds t.name (not (allowed t)) → NoneAllowed ts → NoneAllowed (t ∷ ts)

not_both : {n : String} (b : Bool) → b ≡ true → Holds n (not b) → ⊥
not_both false e so = absurd (omega (arith, ap one_if e))
not_both {n = n} true e x = elim x [ ]

pub none_given : (ts : List Tried) → NoneAllowed ts → Contradicted ts
none_given [] done = tt
none_given (t ∷ ts) (h & hs) = (λ c g. not_both (allowed t) (gives_allowed c t g) h, none_given ts hs)
