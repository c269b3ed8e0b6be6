-- docs/RULES.md, section 17. What the words of the command line ask for.
-- Assumes nothing.
use Rattle.std.specs.Prelude.{ℕ, Bool, true, false, cond, List, get_or}
use Rattle.rules.specs.Text.{bytes, is}
use Rattle.rules.specs.Codes.{same}
use Rattle.command.specs.declared.Word.{Word}
use Rattle.command.specs.declared.Word.TheVariants.{Help, Version, Dash, Ends, Option, File}
use Rattle.command.specs.declared.Asked.{Asked}
use Rattle.command.specs.declared.Asked.TheVariants.{Nothing, Input, Named, Usage, Number, Unknown, Second}
use Rattle.command.specs.declared.Seen.{Seen}

abbrev pub begins_option : List ℕ → Bool
begins_option w = is "-" (get_or w 0 0)

-- what a word is by itself
unfoldable pub word_of : List ℕ → Word
word_of w =
    cond (same w (bytes "--help")) Help (
    cond (same w (bytes "--version")) Version (
    cond (same w (bytes "-")) Dash (
    cond (same w (bytes "--")) Ends (
    cond (begins_option w) Option File))))

-- no further word changes what is asked for
abbrev pub settled_of : Asked → Bool
settled_of Nothing = false
settled_of Input = false
settled_of (Named i) = false
settled_of Usage = true
settled_of Number = true
settled_of (Unknown i) = true
settled_of (Second i) = true

-- a file, or standard input: the first is asked for, and a second is one too many
abbrev pub operand_of : Asked → Asked → ℕ → Asked
operand_of Nothing now i = now
operand_of Input now i = Second i
operand_of (Named k) now i = Second i
operand_of Usage now i = Usage
operand_of Number now i = Number
operand_of (Unknown k) now i = Unknown k
operand_of (Second k) now i = Second k

-- after "--" every word but "-" is a file's name
abbrev pub plain : Word → Word
plain Dash = Dash
plain Help = File
plain Version = File
plain Ends = File
plain Option = File
plain File = File

abbrev pub meant_of : Word → Bool → Word
meant_of w true = plain w
meant_of w false = w

abbrev pub step_of : Seen → Word → ℕ → Seen
step_of s Help i = record { asked = Usage; ended = s.ended }
step_of s Version i = record { asked = Number; ended = s.ended }
step_of s Dash i = record { asked = operand_of s.asked Input i; ended = s.ended }
step_of s Ends i = record { asked = s.asked; ended = true }
step_of s Option i = record { asked = Unknown i; ended = s.ended }
step_of s File i = record { asked = operand_of s.asked (Named i) i; ended = s.ended }
