-- Where no field is named, the words are a line of the book's.
use Rattle.std.proofs.Common.{◌≡◌, ◌∙◌, ℕ, Bool, false, List, sym, subst}
use Rattle.writing.specs.Written.{Room, Wrote}
use Rattle.reasons.specs.Lines.{line_of}
use Rattle.reasons.specs.Reason.{book, named, book_line, of_book}
use Rattle.reasons.proofs.put_of_book.Goals as goal

plain : (n f k : ℕ) (r : Bool) → r ≡ named n f → r ≡ false → k ≡ book_line n f → of_book n f ≡ line_of k book
unfolding of_book
plain n f k r e h line = simp (sym e ∙ h, line)

pub put_line-requires : goal.put_line-requires
put_line-requires c =
    let a = c.args in
    let words = plain a.number a.field c.book_line.result c.names_field.result c.names_field.ensures c.if-names_field.false c.book_line.ensures in
    subst (λ (w : List ℕ). Room a.at w a.out.now) words c.requires

pub returns : goal.returns
returns c =
    let a = c.args in
    let words = plain a.number a.field c.book_line.result c.names_field.result c.names_field.ensures c.if-names_field.false c.book_line.ensures in
    subst (λ (w : List ℕ). Wrote a.at w a.out.now c.put_line.new.out c.put_line.result) (sym words) c.put_line.ensures
