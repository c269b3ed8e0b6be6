-- `figures::read_written` meets its contract: a figure is what stands at the start, where that is all of the value.
-- Assumes nothing.
use Rattle.std.proofs.Common.{◌≡◌, ℕ, List, length, sym, ◌∙◌, arith, rules}
use Rattle.rules.specs.declared.Written.TheVariants.{Number}
use Rattle.rules.specs.Figures.{written_of}
use Rattle.figures.specs.declared.start.Start.{Start}
use Rattle.figures.specs.declared.start.Start.TheVariants.{Ends, Other}
use Rattle.figures.specs.Starts.{start_of}
use Rattle.figures.proofs.Figures.{written_size, start_all, written_start, not_written}
use Rattle.figures.proofs.read_written.Statement.{statement}
use Rattle.figures.proofs.read_written.Tie as tie

-- what stands at the start
start_read : (c : tie.After-read_start) (s : Start) → c.read_start.result ≡ s → start_of c.args.v.now ≡ s
start_read c s h = sym c.read_start.ensures ∙ h

-- no figure there, or one that ends before the value does
none-there : (v : List ℕ) (n d : ℕ) → start_of v ≡ Other → written_of v ≡ Number n d → ⊥
none-there v n d h k =
    let s = sym h ∙ written_start v n d k in
    let z : ◌≡◌ {A = ℕ} 0 1 = cc in
    omega arith

ends_there : (v : List ℕ) (x y e n d : ℕ) → start_of v ≡ Ends x y e → written_of v ≡ Number n d → e ≡ length v
ends_there v x y e n d h k = let s = sym h ∙ written_start v n d k in cc

no-figure-requires : tie.Need-no_figure-requires
no-figure-requires c κs = search rules

returns : tie.Need-returns-then-v-gt-LONGEST
returns c =
    let v = c.args.v.now in
    c.no_figure.ensures ∙ sym (not_written v (λ n d h. omega (arith, (written_size v n d h).0, c.if-v-gt-LONGEST.true)))

read-start-requires : tie.Need-read_start-requires
read-start-requires c κs = search rules

enum-known-number : tie.Need-enum_known-number
enum-known-number c = search rules

enum_told : tie.Need-enum_told-1
enum_told c = search rules

no-figure-requires-2 : tie.Need-no_figure-requires-in_default
no-figure-requires-2 c κs = search rules

returns-2 : tie.Need-returns-in_default
returns-2 c =
    let r = c in
    let v = r.args.v.now in
    c.no_figure-in_default.ensures ∙ sym (not_written v (λ n d h. none-there v n d (start_read c.before.before Other c.in_default.is) h))

no-figure-requires-3 : tie.Need-no_figure-requires-then-end-v
no-figure-requires-3 c κs = search rules

returns-3 : tie.Need-returns-then-end-v
returns-3 c =
    let k = c in
    let r = k in
    let v = r.args.v.now in
    c.no_figure-then-end-v.ensures
    ∙ sym (not_written v (λ n d h. c.if-end-v.true (ends_there v _ _ _ n d (start_read c.before.before.before (Ends _ _ _) k.in-Ends.is) h)))

returns-4 : tie.Need-returns
returns-4 c =
    let k = c in
    let r = k in
    sym (start_all r.args.v.now _ _ _ (start_read c.before.before (Ends _ _ _) k.in-Ends.is) c.if-end-v.false)

pub read_written_spec : {M : Type 1} → statement M
read_written_spec =
    tie.close
    (tie.spec
    no-figure-requires
    returns
    read-start-requires
    enum-known-number
    enum_told
    no-figure-requires-2
    returns-2
    no-figure-requires-3
    returns-3
    returns-4)
