-- A step that the book's table takes, as one of nine: a term, the last term, a C, a Z, an I, K, H, Q, a trade; each with a value that is good for its
-- tag and with what is due next. Acceptance is judged by this view from here on, and not by the text of the rules.
-- Assumes nothing.
use Rattle.std.specs.Prelude.{ℕ, suc, ◌≤◌, ◌≡◌, List, [], true, length}
use Prim.Native.Char.{Char, code}
use Rattle.std.proofs.Common.{subst}
use Rattle.rules.specs.declared.Terms.{Terms}
use Rattle.rules.specs.Text.{is}
use Rattle.rules.specs.Book.{Seat, Customer, Next, Part, DueI, DueK, DueH, DueQ, DueSeat, DueTrade, Group, Nobody, Open, after_c, may_end, Term, DueD, DueX, DueS, DueL, DueU, DueV, Due, AtTerm, InGroup, Stage, Reading, Ended}
use Rattle.sheets.specs.Line.{traded}
use Rattle.sheets_promises.specs.Bytes.{Each, Bare}
use Rattle.sheets_promises.specs.TradeValues.{Traded}
use Rattle.sheets_promises.specs.Good.{AFigure, Good, line_tag, tag_is}

-- how many terms are left
abbrev pub terms_left : Term → ℕ
terms_left DueD = 6
terms_left DueX = 5
terms_left DueS = 4
terms_left DueL = 3
terms_left DueU = 2
terms_left DueV = 1

-- a group that may close here, and a part before which a seat may stand
abbrev pub Closable : Group → Type 0
Closable Nobody = Unit
Closable (Open part c) = may_end part ≡ true

abbrev pub BeforeSeat : Part → Type 0
BeforeSeat DueI = Unit
BeforeSeat (DueK s) = ⊥
BeforeSeat (DueH s) = ⊥
BeforeSeat (DueQ s) = ⊥
BeforeSeat DueSeat = Unit
BeforeSeat DueTrade = ⊥

pub data Stepped : Due → ℕ → List ℕ → Stage → Type 0 where
  a_term : {k n : Term} {ts us : Terms} {t : ℕ} {v : List ℕ} → line_tag t ≡ true → Good t v → length v ≤ 8 → terms_left k ≡ suc (terms_left n) → Stepped (AtTerm k ts) t v (Reading (AtTerm n us))
  last_term : {ts us : Terms} {v : List ℕ} → AFigure v → length v ≤ 8 → Stepped (AtTerm DueV ts) (code "V") v (Reading (InGroup us [] Nobody))
  a_customer : {terms : Terms} {cs ds : List Customer} {g : Group} {v : List ℕ} → Closable g → Each Bare v → Stepped (InGroup terms cs g) (code "C") v (Reading (InGroup terms ds (after_c v)))
  the_end : {terms : Terms} {cs ds : List Customer} {g : Group} → Closable g → Stepped (InGroup terms cs g) (code "Z") [] (Ended terms ds)
  an_i : {terms : Terms} {cs : List Customer} {p : Part} {c : Customer} {s : Seat} {v : List ℕ} → BeforeSeat p → Each Bare v → Stepped (InGroup terms cs (Open p c)) (code "I") v (Reading (InGroup terms cs (Open (DueK s) c)))
  a_k : {terms : Terms} {cs : List Customer} {c : Customer} {s r : Seat} {v : List ℕ} → Each Bare v → Stepped (InGroup terms cs (Open (DueK s) c)) (code "K") v (Reading (InGroup terms cs (Open (DueH r) c)))
  an_h : {terms : Terms} {cs : List Customer} {c : Customer} {s r : Seat} {v : List ℕ} → Each Bare v → Stepped (InGroup terms cs (Open (DueH s) c)) (code "H") v (Reading (InGroup terms cs (Open (DueQ r) c)))
  a_q : {terms : Terms} {cs : List Customer} {c d : Customer} {s : Seat} {v : List ℕ} → Each Bare v → Stepped (InGroup terms cs (Open (DueQ s) c)) (code "Q") v (Reading (InGroup terms cs (Open DueSeat d)))
  a_trade : {terms : Terms} {cs : List Customer} {p : Part} {c d : Customer} {t : ℕ} {v : List ℕ} → may_end p ≡ true → traded t ≡ true → Traded v → Stepped (InGroup terms cs (Open p c)) t v (Reading (InGroup terms cs (Open DueTrade d)))

-- with the tag that was tested, and the stage that the step leads to
pub at : (due : Due) (c : Char) (t : ℕ) (v : List ℕ) (a st : Stage) → is c t ≡ true → Next a ≡ Next st → Stepped due (code c) v a → Stepped due t v st
at due c t v a st h e x =
    let same : a ≡ st = cc in
    subst (λ (z : Stage). Stepped due t v z) same (subst (λ (u : ℕ). Stepped due u v a) (tag_is c t h) x)
