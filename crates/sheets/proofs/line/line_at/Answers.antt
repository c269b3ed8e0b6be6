-- A letter of one byte, a first part, and a line feed or three parts more, or it is no line.
use Rattle.std.proofs.Common.{◌≡◌, ◌+◌, ◌≤◌, None, length, drop, refl, sym, ◌∙◌, length-drop, arith, rules}
use Rattle.sheets.specs.Places.{stopless}
use Rattle.sheets.proofs.Bytes.{stopless_short}
use Rattle.sheets.proofs.Forms.{standing}
use Rattle.sheets.proofs.Fours.{no_letter_at, no_part_at, no_end_at, has_one, begun_at}
use Rattle.sheets.proofs.line.line_at.Goals as goal

pub returns-in_err-letter : goal.returns-in_err-letter
returns-in_err-letter c =
    let f : c.from_residual.result ≡ None = search rules in
    let s = c.args.sheet.now in
    let within : c.args.at + length (stopless (drop c.args.at s)) ≤ length s = omega (arith, stopless_short (drop c.args.at s), length-drop c.args.at s) in
    rw f (no_part_at _ _ c.requires _ refl within c.in_err-letter.ensures)

pub returns-then-letter-at : goal.returns-then-letter-at
returns-then-letter-at c =
    let l = c.in_ok-letter.ensures in
    let inside = (standing c.args.sheet.now c.in_ok-letter.letter 59 l.1).inside in
    no_letter_at _ _ c.requires _ l.0 (omega arith) c.if-letter-at.true

pub returns-then-stands_at : goal.returns-then-stands_at
returns-then-stands_at c =
    let l = c.in_ok-letter.ensures in
    let inside = (standing c.args.sheet.now c.in_ok-letter.letter 59 l.1).inside in
    has_one _ _ c.requires _ l.0 (omega arith) c.if-letter-at.false l.1 _ c.stop_at-end.ensures.0 (sym c.stands_at.ensures ∙ c.if-stands_at.true)

pub returns-then-not-stands_at : goal.returns-then-not-stands_at
returns-then-not-stands_at c =
    let l = c.in_ok-letter.ensures in
    let inside = (standing c.args.sheet.now c.in_ok-letter.letter 59 l.1).inside in
    no_end_at _ _ c.requires _ l.0 (omega arith) c.if-letter-at.false l.1 _ c.stop_at-end.ensures.0 (sym c.stands_at.ensures ∙ c.if-stands_at.false)
    (sym c.stands_at-2.ensures ∙ c.if-not-stands_at.true)

pub four_at-requires : goal.four_at-requires
four_at-requires c =
    let l = c.in_ok-letter.ensures in
    let inside = (standing c.args.sheet.now c.in_ok-letter.letter 59 l.1).inside in
    begun_at _ _ c.requires _ l.0 (omega arith) c.if-letter-at.false l.1 _ c.stop_at-end.ensures.0 (sym c.stands_at-2.ensures ∙ c.if-not-stands_at.false)
