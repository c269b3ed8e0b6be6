-- A call of `frundavel_allot` that has come back: whatever book and buffer it was handed, and whatever it returned and left, as far as its contract in
-- the source allows. The kit publishes that contract as `Learnt`; the promises have nothing else of a call.
-- Assumes nothing.
use Rattle.std.specs.Prelude.{ℕ, List}
use contract.Lifetimes.{Lfts}
use denote.Triple.Entry.{Args}
use denote.Triple.Clauses.{AtExit}
use Rattle.answers.specs.declared.Answer.{Answer}
use Rattle.allotment.proofs as allotment
use Rattle.allotment.specs.contracts as allotment_contracts
use Rattle.frundavel.proofs as frundavel
use Rattle.frundavel.specs.contracts as frundavel_contracts

pub record Call : Type 0 where
  pub lifetimes : Lfts 2
  pub arguments : Args frundavel_contracts.frundavel_allot.signature lifetimes
  pub answer : Answer
  pub exit : AtExit frundavel_contracts.frundavel_allot.ended lifetimes
  pub contract : frundavel.frundavel_allot.Reads.Learnt lifetimes arguments answer exit

-- the book; the report buffer as it was lent, and as it is left
module _ (c : Call) where
  abbrev pub book_of : List ℕ
  book_of = c.arguments.0.now

  abbrev pub lent_to : List ℕ
  lent_to = c.arguments.1.0.now

  abbrev pub left_by : List ℕ
  left_by = c.exit.1.0.now

-- A call of `allot` is one too: its contract is the same, so that the promises hold of it
pub of_allot : (κs : Lfts 2) (a : Args allotment_contracts.allot.signature κs) (r : Answer) (s : AtExit allotment_contracts.allot.ended κs) → allotment.allot.Reads.Learnt κs a r s → Call
of_allot κs a r s h = record { lifetimes = κs; arguments = a; answer = r; exit = s; contract = h }

-- and so is a call of `allot_in`, whatever the layout, which the contract does not name
pub of_allot_in : (κs : Lfts 2) (a : Args allotment_contracts.allot_in.signature κs) (r : Answer) (s : AtExit allotment_contracts.allot_in.ended κs) → allotment.allot_in.Reads.Learnt κs a r s → Call
of_allot_in κs a r s h = record { lifetimes = κs; arguments = (a.0, (a.1.0, tt)); answer = r; exit = (s.0, (s.1.0, tt)); contract = h }
