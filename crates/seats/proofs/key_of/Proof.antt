-- What is read of a code is its key.
-- Assumes nothing.
use Prim.Native.Nat.{ℕ}
use mathlib.Core.Bool.{true}
use mathlib.Core.Path.{◌≡◌, sym, ◌∙◌}
use mathlib.Core.List.{List}
use borrow.Author.Rules.{rules}
use Rattle.rules.specs.Codes.{is_code}
use Rattle.laws.specs.Keys.{key_of}
use Rattle.codes.specs.declared.Code.TheVariants.{Key, Malformed}
use Rattle.codes.specs.Codes.{code_of}
use Rattle.seats.proofs.key_of.Statement.{statement}
use Rattle.seats.proofs.key_of.Tie as tie

module _ (v : List ℕ) (h : is_code v ≡ true) where
  good : code_of v ≡ Key (key_of v)
  unfolding code_of
  good = rw h

  read : (k : ℕ) → code_of v ≡ Key k → k ≡ key_of v
  read k e = cc good

  not-read : code_of v ≡ Malformed → 0 ≡ key_of v
  not-read e = cc good

sub-read-code : tie.Need-slice_bounds-read_code-count
sub-read-code c = search rules

part-read-code-start : tie.Need-slice_bounds-read_code-start
part-read-code-start c = search rules

part-read-code-end : tie.Need-slice_bounds-read_code-end
part-read-code-end c = search rules

read-code-requires : tie.Need-read_code-requires
read-code-requires c κs = search rules

enum-known-key : tie.Need-enum_known-key
enum-known-key c = search rules

enum_told : tie.Need-enum_told-1
enum_told c = search rules

returns : tie.Need-returns-in-Key
returns c = let r = c in read _ r.requires.1 _ (sym r.read_code.ensures ∙ c.in-Key.is)

returns-2 : tie.Need-returns-in-Malformed
returns-2 c = let r = c in not-read _ r.requires.1 (sym r.read_code.ensures ∙ c.in-Malformed.is)

pub key_of_spec : {M : Type 1} → statement M
key_of_spec = tie.close (tie.spec sub-read-code part-read-code-start part-read-code-end read-code-requires enum-known-key enum_told returns returns-2)
