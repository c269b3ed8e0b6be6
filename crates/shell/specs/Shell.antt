-- What a program has from its shell, and what it ends with.
-- Assumes nothing.
use Rattle.std.specs.Prelude.{ℕ, ◌-◌, ◌≤◌, ◌<◌, ◌≡◌, ◌⊎◌, Bool, cond, List, length, take, get_or, eqb, ltb, Result, Err, IfOk, MatchResult}
use Prim.Native.Char.{code}
use Rattle.command.specs.declared.Word.{Word}
use Rattle.command.specs.declared.Seen.{Seen}
use Rattle.command.specs.Asked.{settled_of, meant_of, step_of}
use Rattle.command.specs.declared.Asked.{Asked}
use Rattle.command.specs.declared.Asked.TheVariants.{Nothing, Named, Usage, Number, Unknown, Second}
use Rattle.command.specs.declared.Asked.TheVariants.{Input as StandardInput}
use Rattle.shell.specs.declared.Opened.{Opened}
use Rattle.shell.specs.declared.Ended.{Ended}
use Rattle.shell.specs.declared.Status.{Status}
use Rattle.shell.specs.declared.Status.TheVariants.{Accepted, Refused, Failed}

-- the statuses: accepted, refused, and that the words, the input or the output were wrong
abbrev pub accepted : ℕ
accepted = 0

abbrev pub refused : ℕ
refused = 1

abbrev pub failed : ℕ
failed = 2

abbrev pub number_of : Status → ℕ
number_of Accepted = accepted
number_of Refused = refused
number_of Failed = failed

-- one read into what is left of a buffer behind `done`: an error, or at most as many bytes as are left; those before stay
pub record More {E : Type 0} (done : ℕ) (entry exit : List ℕ) (r : Result ℕ E) : Type 0 where
  pub count : IfOk r (λ n. n ≤ length entry - done)
  pub before : take done exit ≡ take done entry
  pub size : length exit ≡ length entry

-- what was read fits the buffer
abbrev pub Fitting : {E : Type 0} → Result ℕ E → ℕ → Type 0
Fitting r room = IfOk r (λ n. n ≤ room)

-- what came from an input fits the buffer; a program whose input fails ends with 2
abbrev pub Taken : Result ℕ Ended → ℕ → Type 0
Taken r room = MatchResult r (λ n. n ≤ room) (λ ended. ended.0 ≡ failed)

-- a file was opened whose name fits its buffer; a program whose file cannot be opened ends with 2
abbrev pub Opens : Result Opened Ended → ℕ → Type 0
Opens r room = MatchResult r (λ opened. opened.name ≤ room) (λ ended. ended.0 ≡ failed)

-- what is asked for behind the word at place i, whatever it is
abbrev pub Took : Seen → ℕ → Seen → Type 0
Took seen i r = (w : Word) × (r ≡ cond (settled_of seen.asked) seen (step_of seen (meant_of w seen.ended) i))

-- a place that is told is that of a word from `first` on
abbrev pub Within : ℕ → ℕ → ℕ → Type 0
Within first count i = (first ≤ i) × (i < count)

abbrev pub Among : ℕ → ℕ → Asked → Type 0
Among first count Nothing = Unit
Among first count StandardInput = Unit
Among first count (Named i) = Within first count i
Among first count Usage = Unit
Among first count Number = Unit
Among first count (Unknown i) = Within first count i
Among first count (Second i) = Within first count i

-- a program that prints ends with 0; or with 2, where that could not be written
abbrev pub Printed : Result ℕ Ended → Type 0
Printed r = MatchResult r (λ n. ⊥) (λ ended. (ended.0 ≡ failed) ⊎ (ended.0 ≡ accepted))

-- what a program begins with, by what its words ask for
abbrev pub Begun : Asked → Result ℕ Ended → ℕ → Type 0
Begun Nothing r room = Taken r room
Begun StandardInput r room = Taken r room
Begun (Named i) r room = Taken r room
Begun Usage r room = Printed r
Begun Number r room = Printed r
Begun (Unknown i) r room = r ≡ Err (record { 0 = failed })
Begun (Second i) r room = r ≡ Err (record { 0 = failed })

-- words that ask for no input leave the buffer as it was
abbrev pub Untouched : Asked → List ℕ → List ℕ → Type 0
Untouched Nothing entry exit = Unit
Untouched StandardInput entry exit = Unit
Untouched (Named i) entry exit = Unit
Untouched Usage entry exit = exit ≡ entry
Untouched Number entry exit = exit ≡ entry
Untouched (Unknown i) entry exit = exit ≡ entry
Untouched (Second i) entry exit = exit ≡ entry

-- and whatever they ask for
abbrev pub Came : Result ℕ Ended → ℕ → Type 0
Came r room = MatchResult r (λ n. n ≤ room) (λ ended. (ended.0 ≡ failed) ⊎ (ended.0 ≡ accepted))

-- the status of a program whose output was written, or was not
abbrev pub ended_by : Bool → ℕ → ℕ
ended_by written status = cond written status failed

-- a byte as a message shows it: `?` for one that no terminal prints
abbrev pub visible : ℕ → ℕ
visible b = cond (ltb b 32) (code "?") (cond (eqb b 127) (code "?") b)

abbrev pub visible_at : List ℕ → ℕ → ℕ
visible_at name i = visible (get_or name i 0)
