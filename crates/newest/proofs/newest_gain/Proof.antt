-- `newest::newest_gain` meets its contract: what the store tells is the gain of the newest lots, and so is what the edge tells.
-- Assumes nothing.
use borrow.Author.Rules.{rules}
use Prim.Native.Nat.{ℕ}
use native.Mathlib.Omega.{arith}
use mathlib.Core.Path.{◌≡◌, sym, ◌∙◌}
use mathlib.Core.Bool.{Bool, true, false, cond}
use lib.Dec.{leb}
use lib.ListN.{length}
use lib.IntN.{ℤ}
use mir.Syntax.{w64}
use mir.Val.{SFits}
use Rattle.laws.specs.Exact.{of_int}
use Rattle.store.specs.declared.Stored.TheVariants.{Gain, TooMany}
use Rattle.store.specs.Held.{on_side_in}
use Rattle.newest.proofs.newest_gain.Statement.{statement}
use Rattle.newest.proofs.newest_gain.Tie as tie

-- a gain that is told is that of the newest lots
told : (fits : Bool) (newest gain : ℤ) → Gain gain ≡ cond fits (Gain newest) TooMany → gain ≡ newest
told true newest gain h = cc
told false newest gain h = let z : ◌≡◌ {A = ℕ} 0 1 = cc in absurd (omega arith)

stored-gain-requires : tie.Need-stored_gain-requires
stored-gain-requires c κs = search rules

enum-known-gain : tie.Need-enum_known-gain
enum-known-gain c = search rules

enum_told : tie.Need-enum_told-1
enum_told c = search rules

edge-gain-requires : tie.Need-edge_gain-requires
edge-gain-requires c κs = search rules

returns : tie.Need-returns-in-Gain
returns c =
    let k = c in
    let s = k in
    let a = s.args in
    let gain = k.in-Gain.gain in
    let fits : SFits w64 gain = search rules in
    (of_int gain fits).num ∙ told (leb (length (on_side_in a.long a.book.now a.first)) 128) _ gain (sym k.in-Gain.is ∙ s.stored_gain.ensures)

returns-2 : tie.Need-returns-in-TooMany
returns-2 c = search rules

pub newest_gain_spec : {M : Type 1} → statement M
newest_gain_spec =
    tie.close
    (tie.spec stored-gain-requires enum-known-gain enum_told edge-gain-requires returns returns-2)
