-- What the contract of `frundavel_allot` allows of a book that is written out is computed (`allowed`), and a call gives only what is allowed: so a wrong
-- answer is contradicted by computing.
-- Assumes nothing.
use Rattle.std.specs.Prelude.{ℕ, ◌≡◌, refl, Bool, true, false, ◌&&◌, not, List, [], ◌∷◌, length, eqb}
use Prim.Native.String.{String}
use Rattle.std.proofs.Common.{sym, ap, ap₂, ◌∙◌, eq-eqb, arith}
use Rattle.rules.specs.Codes.{same}
use Rattle.rules.specs.Division.{one_if}
use Rattle.rules.specs.Answer.{answer, lent}
use Rattle.cases.specs.Case.{Holds, so}
use Rattle.promises.specs.Call.{Call, book_of, lent_to, left_by}

-- An answer, right or wrong: to this book with this buffer, the three numbers, and the buffer as it is left
pub record Tried : Type 0 where
  pub name : String
  pub book : List ℕ
  pub entry : List ℕ
  pub number : ℕ
  pub place : ℕ
  pub length : ℕ
  pub exit : List ℕ

abbrev pub tried : String → List ℕ → List ℕ → ℕ → ℕ → ℕ → List ℕ → Tried
tried name book entry number place length exit =
    record { name = name; book = book; entry = entry; number = number; place = place; length = length; exit = exit }

-- the call was handed that, and gave that
pub record Gave (c : Call) (t : Tried) : Type 0 where
  pub book : book_of c ≡ t.book
  pub entry : lent_to c ≡ t.entry
  pub number : c.answer.number ≡ t.number
  pub place : c.answer.place ≡ t.place
  pub length : c.answer.length ≡ t.length
  pub exit : left_by c ≡ t.exit

abbrev pub allowed : Tried → Bool
allowed t =
    let a = answer t.book (length t.entry) in
    eqb t.number a.number && eqb t.place a.place && eqb t.length a.length && same t.exit (lent a t.entry)

pub same_self : (l : List ℕ) → same l l ≡ true
same_self [] = refl
same_self (x ∷ l) = rw (eq-eqb x x refl, same_self l) refl

gives_allowed : (c : Call) (t : Tried) → Gave c t → allowed t ≡ true
gives_allowed c t g =
    let a = answer t.book (length t.entry) in
    let asked : answer (book_of c) (length (lent_to c)) ≡ a = ap₂ (λ s b. answer s (length b)) g.book g.entry in
    let number : t.number ≡ a.number = sym g.number ∙ c.contract.number ∙ ap (λ x. x.number) asked in
    let place : t.place ≡ a.place = sym g.place ∙ c.contract.place ∙ ap (λ x. x.place) asked in
    let size : t.length ≡ a.length = sym g.length ∙ c.contract.length ∙ ap (λ x. x.length) asked in
    let exit : t.exit ≡ lent a t.entry = sym g.exit ∙ c.contract.buffer ∙ ap₂ lent asked g.entry in
    rw (eq-eqb _ _ number, eq-eqb _ _ place, eq-eqb _ _ size, exit, same_self (lent a t.entry)) refl

-- none of these is ever given
abbrev pub Contradicted : List Tried → Type 0
Contradicted [] = Unit {0}
Contradicted (t ∷ ts) = ((c : Call) → Gave c t → ⊥) × Contradicted ts

infixr 20 ◌&◌
pub data NoneAllowed : List Tried → Type 0 where
  done : NoneAllowed []
  ◌&◌ : {t : Tried} {ts : List Tried} → Holds t.name (not (allowed t)) → NoneAllowed ts → NoneAllowed (t ∷ ts)

not_both : {n : String} (b : Bool) → b ≡ true → Holds n (not b) → ⊥
not_both false e so = absurd (omega (arith, ap one_if e))
not_both {n = n} true e x'' = elim x'' [ ]

pub none_given : (ts : List Tried) → NoneAllowed ts → Contradicted ts
none_given [] done = tt
none_given (t ∷ ts) (h & hs) = (λ c g. not_both (allowed t) (gives_allowed c t g) h, none_given ts hs)
