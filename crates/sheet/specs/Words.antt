-- sheet(1): `sheet read [FILE]`, `sheet write comma [FILE]` and `sheet write point [FILE]`. What the first words ask for.
-- Assumes nothing.
use Rattle.std.specs.Prelude.{ℕ, List, Bool, true, false, cond}
use Prim.Native.Char.{code}
use Rattle.rules.specs.Text.{bytes}
use Rattle.rules.specs.Codes.{same}
use Rattle.command.specs.declared.Word.{Word}
use Rattle.command.specs.declared.Word.TheVariants.{Help, Version, Dash, Ends, File}
use Rattle.command.specs.declared.Word.TheVariants.{Option as OptionWord}
use Rattle.command.specs.Asked.{word_of}
use Rattle.sheet.specs.declared.Task.{Task}
use Rattle.sheet.specs.declared.Task.TheVariants.{Read, Write, Option, Other}
use Rattle.sheet.specs.declared.Spelling.{Spelling}
use Rattle.sheet.specs.declared.Spelling.TheVariants.{In}
use Rattle.sheet.specs.declared.Spelling.TheVariants.{Option as OptionThere}
use Rattle.sheet.specs.declared.Spelling.TheVariants.{Other as OtherThere}

-- an option, which every program has
abbrev pub is_option : Word → Bool
is_option Help = true
is_option Version = true
is_option Dash = false
is_option Ends = false
is_option OptionWord = true
is_option File = false

-- the first word
abbrev pub task_of : List ℕ → Task
task_of w = cond (same w (bytes "read")) Read (cond (same w (bytes "write")) Write (cond (is_option (word_of w)) Option Other))

-- the word behind `write`
abbrev pub spelling_of : List ℕ → Spelling
spelling_of w =
    cond (same w (bytes "comma")) (In (code ",")) (cond (same w (bytes "point")) (In (code ".")) (cond (is_option (word_of w)) OptionThere OtherThere))
