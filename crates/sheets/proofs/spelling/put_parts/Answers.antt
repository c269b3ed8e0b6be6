-- The mark of each byte, and then its semicolon.
use mathlib.Core.List.{map-map}
use Rattle.std.proofs.Common.{rules}
use Rattle.sheets.specs.Mark.{respelt}
use Rattle.sheets.proofs.spelling.put_parts.Goals as goal

pub returns : goal.returns
returns c = rw map-map (c.put_each.ensures (λ x. respelt 59 32 (respelt c.args.mark 46 x)) (λ x y h p. search rules))
