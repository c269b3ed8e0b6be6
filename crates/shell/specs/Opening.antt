-- What is known of a file that a word names, by what came of opening it.
-- Assumes nothing.
use Rattle.std.specs.Prelude.{ℕ, ◌≤◌, ◌≡◌, Result, Ok, Err}
use Rattle.std.specs.declared.fs.File.{File}
use Rattle.std.proofs.Common.{subst}
use Rattle.shell.specs.declared.Opened.{Opened}
use Rattle.shell.specs.declared.Ended.{Ended}
use Rattle.shell.specs.Shell.{failed, Opens}

pub name_fits : (o : Result Opened Ended) (file : File) (n room : ℕ) → Opens o room → o ≡ Ok (record { file = file; name = n }) → n ≤ room
name_fits o file n room h e = subst (λ (x : Result Opened Ended). Opens x room) e h

pub not_opened : (o : Result Opened Ended) (status room : ℕ) → Opens o room → o ≡ Err (record { 0 = status }) → status ≡ failed
not_opened o status room h e = subst (λ (x : Result Opened Ended). Opens x room) e h
