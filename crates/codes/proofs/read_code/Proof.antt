-- `codes::read_code` meets its contract. The loop's invariant: the key has i digits, and with what is left it makes the code.
-- Assumes nothing.
mod Named
use borrow.Author.Rules.{rules}
use Prim.Native.Nat.{◌+◌, ◌*◌, ◌^◌, ◌-◌, ◌≤◌, ◌<◌}
use mathlib.Core.Path.{◌≡◌, sym, ap, ◌∙◌}
use native.Mathlib.Omega.{arith}
use lib.ListN.{length, get_or, drop}
use Rattle.laws.specs.Keys.{digit_le}
use Rattle.codes.specs.declared.Code.TheVariants.{Key}
use Rattle.codes.specs.Codes.{code_of}
use Rattle.codes.proofs.Places.{rest, starts, too_long, empty, stops, goes, ends, longer, padded, short}
use Rattle.codes.proofs.read_code.Statement.{statement}
use Rattle.codes.proofs.read_code.Proof.Named.{invariant-loop-i, decreases-loop-i, returns-2}
use Rattle.codes.proofs.read_code.Tie as tie

-- a digit more
more :
    (c : tie.Else-d-eq0 invariant-loop-i decreases-loop-i) →
    c.before.before.before.before.loop-i.key * 37 + c.before.digit-d.result < 37 ^ (c.before.before.before.before.loop-i.i + 1)
more c =
    let p = c.before.before.before.before in
    longer p.loop-i.key p.loop-i.i c.before.digit-d.result p.loop-i.invariant.1
    (omega (arith, digit_le (get_or p.before.before.before.before.args.v.now p.loop-i.i 0)))

room : (c : tie.Else-d-eq0 invariant-loop-i decreases-loop-i) → c.before.before.before.before.loop-i.key * 37 + c.before.digit-d.result < 37 ^ 12
room c = short _ _ (more c) (omega arith)

-- where the loop ends, i is the length
worth : (c : tie.After-padding invariant-loop-i decreases-loop-i) → c.padding.result ≡ 37 ^ (12 - c.before.before.loop-i.i)
worth c =
    let p = c.before.before in
    let v = p.before.before.before.before.args.v.now in
    let all : c.padding.result ≡ 37 ^ (12 - length v) = c.padding.ensures in
    let end : length v ≡ p.loop-i.i = omega arith in
    all ∙ ap (λ n. 37 ^ (12 - n)) end

returns : tie.Need-returns-then-n-eq0 invariant-loop-i decreases-loop-i
returns c = sym (empty c.before.before.args.v.now c.if-n-eq0.true)

loop-holds : tie.Need-loop-i-init invariant-loop-i decreases-loop-i
loop-holds c = (search rules, search rules, starts c.before.before.before.args.v.now (omega arith) (omega arith))

shared-slice-read-digit : tie.Need-bounds-v-i invariant-loop-i decreases-loop-i
shared-slice-read-digit c = search rules

digit-requires : tie.Need-digit-d-requires invariant-loop-i decreases-loop-i
digit-requires c κs = search rules

returns-3 : tie.Need-returns-then-d-eq0 invariant-loop-i decreases-loop-i
returns-3 c =
    let p = c.before.before.before.before in
    let v = p.before.before.before.before.args.v.now in
    sym (p.loop-i.invariant.2 ∙ stops v p.loop-i.i p.loop-i.key (omega arith) (sym c.before.digit-d.ensures ∙ c.if-d-eq0.true))

mul-key : tie.Need-overflow_mul-key invariant-loop-i decreases-loop-i
mul-key c = omega (arith, room c)

add-key : tie.Need-overflow_add-key invariant-loop-i decreases-loop-i
add-key c = omega (arith, room c)

add-i : tie.Need-overflow_add-i invariant-loop-i decreases-loop-i
add-i c = search rules

loop-less : tie.Need-loop-i-smaller invariant-loop-i decreases-loop-i
loop-less c = search rules

loop-again : tie.Need-loop-i-preserved invariant-loop-i decreases-loop-i
loop-again c =
    let p = c.before.before.before.before in
    let v = p.before.before.before.before.args.v.now in
    let d = c.before.digit-d.ensures in
    (search rules, more c, p.loop-i.invariant.2 ∙ rw d (goes v p.loop-i.i p.loop-i.key (omega arith) (omega arith) (omega arith)))

padding-requires : tie.Need-padding-requires invariant-loop-i decreases-loop-i
padding-requires c κs = search rules

mul-t12 : tie.Need-overflow_mul-result invariant-loop-i decreases-loop-i
mul-t12 c =
    let p = c.before.before in
    rw (worth c) (omega (arith, padded p.loop-i.key p.loop-i.i p.loop-i.invariant.1 (omega arith)))

returns-4 : tie.Need-returns invariant-loop-i decreases-loop-i
returns-4 c =
    let p = c.before.before in
    let v = p.before.before.before.before.args.v.now in
    ap (λ w. Key (p.loop-i.key * w)) (worth c) ∙ sym (p.loop-i.invariant.2 ∙ ends v p.loop-i.i p.loop-i.key (omega arith))

pub read_code_spec : {M : Type 1} → statement M
read_code_spec =
    tie.close
    (tie.spec
    invariant-loop-i
    decreases-loop-i
    returns
    returns-2
    loop-holds
    shared-slice-read-digit
    digit-requires
    returns-3
    mul-key
    add-key
    add-i
    loop-less
    loop-again
    padding-requires
    mul-t12
    returns-4)
