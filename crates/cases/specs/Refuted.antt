-- How a wrong definition is refuted: were the table's theorem to hold, no case could fail; one does, found by its name and computed.
-- Assumes nothing.
use Prim.Native.String.{String}
use Rattle.std.specs.Prelude.{◌≡◌, refl, List, [], ◌∷◌, Bool, true, false, not, ◌&&◌, ◌||◌}
use Rattle.std.proofs.Common.{sym, subst, ◌∙◌}
use Rattle.rules.specs.Text.{bytes}
use Rattle.rules.specs.Codes.{same}
use Rattle.cases.specs.Case.{Case, name, holds, Holds, so, AllHold, done, ◌&◌}

-- a case of this name fails
abbrev pub fails : String → List Case → Bool
fails n [] = false
fails n (c ∷ cs) = same (bytes n) (bytes (name c)) && not (holds c) || fails n cs

is_so : {n : String} {b : Bool} → Holds n b → b ≡ true
is_so so = refl

neither : (s h r : Bool) → h ≡ true → r ≡ false → (s && not h || r) ≡ false
neither true true r e f = f
neither true false r e f = sym e
neither false h r e f = f

none_fails : (n : String) (cs : List Case) → AllHold cs → fails n cs ≡ false
none_fails n [] done = refl
none_fails n (c ∷ cs) (h & hs) = neither (same (bytes n) (bytes (name c))) (holds c) (fails n cs) (is_so h) (none_fails n cs hs)

abbrev Is : Bool → Type 0
Is true = Unit
Is false = ⊥

pub refuted : (n : String) (cs : List Case) → fails n cs ≡ true → AllHold cs → ⊥
refuted n cs e h = subst Is (sym e ∙ none_fails n cs h) tt
