-- "Every public function's contract determines all it returns and all lent bytes, on refusal too", and the entry points ask for nothing: of the
-- functions that read lists of days. The contracts are those that the kit publishes of the source.
-- Assumes nothing.
use Rattle.std.specs.Prelude.{ℕ, ◌≡◌, refl, Bool, List, length, cond, eqb, Option, Some, None, Result, Ok, Err, MatchResult}
use Rattle.std.proofs.Common.{sym, ap, ◌∙◌}
use contract.Lifetimes.{Lfts}
use Rattle.std.specs.Iterator.{YieldsFirst}
use denote.Bor.{Bor}
use denote.Triple.Entry.{Args, Res}
use denote.Triple.Clauses.{Ended, Lasts, AtExit, at_exit}
use Rattle.rules.specs.Answer.{Answer as Answer01}
use Rattle.answers.specs.declared.Answer.{Answer}
use Rattle.answers.specs.Answered.{Answered}
use Rattle.days.specs.declared.Day.{Day}
use Rattle.days.specs.declared.Days.{Days as DaysAt}
use Rattle.days.specs.declared.DayList.{DayList}
use Rattle.days.specs.declared.refusal.Refusal.{Refusal}
use Rattle.days.specs.declared.refusal.ListRule.{ListRule}
use Rattle.days.specs.declared.refusal.ListRule.TheVariants.{TooManyDays, Zero, OtherMark, NoDay}
use Rattle.days.specs.Refusal.{number_of}
use Rattle.days.specs.Listed.{Verdict, Refused, Accepted}
use Rattle.days.specs.Places.{days_left, IsTaken, IsNotTaken}
use Rattle.days.specs.contracts as days_contracts
use Rattle.days.proofs as days
use Rattle.watch.specs.contracts as watch_contracts
use Rattle.watch.proofs as watch
use Rattle.locks.specs.contracts as locks_contracts
use Rattle.locks.proofs as locks

abbrev pub Contract : Ended → Type 1
Contract T = (κs : Lfts T.signature.lifetimes) → Args T.signature κs → Res T.signature κs → AtExit T κs → Type 0

-- for the same arguments, and the same values behind all that is lent: any two results are equal, and so is all that two calls leave
abbrev pub Determined : (T : Ended) → Contract T → Type 0
Determined T Learnt =
    (κs : Lfts T.signature.lifetimes) (a : Args T.signature κs) (r q : Res T.signature κs) (s t : Lasts T κs a) →
    Learnt κs a r (at_exit T κs a s) → Learnt κs a q (at_exit T κs a t) → (r ≡ q) × (s ≡ t)

abbrev pub AsksNothing : (T : Ended) → ((κs : Lfts T.signature.lifetimes) → Args T.signature κs → Type 0) → Type 0
AsksNothing T Asked = (κs : Lfts T.signature.lifetimes) (a : Args T.signature κs) → Asked κs a

-- days
pub count_feeds : Determined days_contracts.count_feeds.ended days.count_feeds.Reads.Learnt
count_feeds κs a r q s t e f = (e.0 ∙ sym f.0, refl)

pub next_day : Determined days_contracts.next_day.ended days.next_day.Reads.Learnt
next_day κs a r q s t e f = (e ∙ sym f, refl)

-- no two rules have one number
rule_of : ℕ → ListRule
rule_of n = cond (eqb n 30) TooManyDays (cond (eqb n 31) Zero (cond (eqb n 32) OtherMark NoDay))

rule_back : (rule : ListRule) → rule_of (number_of rule) ≡ rule
unfolding rule_of
rule_back TooManyDays = refl
rule_back Zero = refl
rule_back OtherMark = refl
rule_back NoDay = refl

same_refusal : (r q : Refusal) → number_of r.rule ≡ number_of q.rule → r.place ≡ q.place → r ≡ q
same_refusal r q n p i = record { rule = (sym (rule_back r.rule) ∙ ap rule_of n ∙ rule_back q.rule) i; place = p i }

same_list : (r q : DayList) → r.metal ≡ q.metal → r.start ≡ q.start → r.days ≡ q.days → r.count ≡ q.count → r ≡ q
same_list r q m at d n i = record { metal = m i; start = at i; days = d i; count = n i }

-- a verdict is of one kind, and so is what the code answers
judged : (long : Bool) (s : Bor (List ℕ)) (v : Verdict) (r q : Result DayList Refusal) →
    MatchResult r (IsTaken long s v) (IsNotTaken v) → MatchResult q (IsTaken long s v) (IsNotTaken v) → r ≡ q
judged long s v (Ok r) (Ok q) (ds, a, n, d, x) (es, b, m, e, y) =
    let same : Accepted r.metal ds ≡ Accepted q.metal es = sym a ∙ b in
    let metal : r.metal ≡ q.metal = cc in
    let days : ds ≡ es = cc in
    ap Ok (same_list r q metal (x ∙ sym y) (d ∙ sym e) (n ∙ ap length days ∙ sym m))
judged long s v (Ok r) (Err q) (ds, a, n, d, x) f = let e = sym a ∙ f in cc
judged long s v (Err r) (Ok q) e (ds, a, n, d, x) = let f = sym a ∙ e in cc
judged long s v (Err r) (Err q) e f =
    let same : Refused (number_of r.rule) r.place ≡ Refused (number_of q.rule) q.place = sym e ∙ f in
    let number : number_of r.rule ≡ number_of q.rule = cc in
    let place : r.place ≡ q.place = cc in
    ap Err (same_refusal r q number place)

pub judge : Determined days_contracts.judge.ended days.judge.Reads.Learnt
judge κs a r q s t e f = (judged _ _ _ r q e f, refl)

pub number : Determined days_contracts.refusal.ListRule.number.ended days.refusal.ListRule.number.Reads.Learnt
number κs a r q s t e f = (e ∙ sym f, refl)

-- of the days of a list: what a call of `next` gives, and what is left behind it
pub next_given : (d : DaysAt) (r q : Option (Result Day ListRule)) (s t : DaysAt) → YieldsFirst days_left d r s → YieldsFirst days_left d q t → (r ≡ q) × (days_left s ≡ days_left t)
next_given d None None s t (a, e) (b, f) = (refl, e ∙ sym f)
next_given d None (Some y) s t (a, e) f = let h = sym a ∙ f in cc
next_given d (Some x) None s t e (b, f) = let h = sym b ∙ e in cc
next_given d (Some x) (Some y) s t e f = let h = sym e ∙ f in (cc, cc)

-- watch
same : (r q : Answer) → r.number ≡ q.number → r.place ≡ q.place → r.length ≡ q.length → r ≡ q
same r q n p l i = record { number = n i; place = p i; length = l i }

answered : {a : Answer01} {r q : Answer} {entry x y : List ℕ} → Answered a r entry x → Answered a q entry y → (r ≡ q) × (x ≡ y)
answered {a} {r} {q} e f = (same r q (e.number ∙ sym f.number) (e.place ∙ sym f.place) (e.length ∙ sym f.length), e.buffer ∙ sym f.buffer)

pub moves_in : Determined watch_contracts.moves_in.ended watch.moves_in.Reads.Learnt
moves_in κs a r q s t e f = ((answered e f).0, ap (λ (l : List ℕ). (tt, (tt, (l, tt)))) (answered e f).1)

pub moves : Determined watch_contracts.moves.ended watch.moves.Reads.Learnt
moves κs a r q s t e f = ((answered e f).0, ap (λ (l : List ℕ). (tt, (l, tt))) (answered e f).1)

-- locks
pub ladder_in : Determined locks_contracts.ladder_in.ended locks.ladder_in.Reads.Learnt
ladder_in κs a r q s t e f = ((answered e f).0, ap (λ (l : List ℕ). (tt, (tt, (l, tt)))) (answered e f).1)

pub ladder : Determined locks_contracts.ladder.ended locks.ladder.Reads.Learnt
ladder κs a r q s t e f = ((answered e f).0, ap (λ (l : List ℕ). (tt, (l, tt))) (answered e f).1)

pub step_of : Determined locks_contracts.step_of.ended locks.step_of.Reads.Learnt
step_of κs a r q s t e f = (e ∙ sym f, refl)

-- whatever the bytes
pub asks_count_feeds : AsksNothing days_contracts.count_feeds.ended days.count_feeds.Reads.Asked
asks_count_feeds κs a = tt

pub asks_next_day : AsksNothing days_contracts.next_day.ended days.next_day.Reads.Asked
asks_next_day κs a = tt

pub asks_number : AsksNothing days_contracts.refusal.ListRule.number.ended days.refusal.ListRule.number.Reads.Asked
asks_number κs a = tt

pub asks_judge : AsksNothing days_contracts.judge.ended days.judge.Reads.Asked
asks_judge κs a = tt

pub asks_moves : AsksNothing watch_contracts.moves.ended watch.moves.Reads.Asked
asks_moves κs a = tt

pub asks_ladder : AsksNothing locks_contracts.ladder.ended locks.ladder.Reads.Asked
asks_ladder κs a = tt

pub asks_step_of : AsksNothing locks_contracts.step_of.ended locks.step_of.Reads.Asked
asks_step_of κs a = tt
