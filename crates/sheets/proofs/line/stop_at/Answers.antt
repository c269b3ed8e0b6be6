-- The first byte that ends a part, or the end.
use Rattle.std.proofs.Common.{◌-◌, length, take, drop, ap, ◌∙◌}
use Rattle.std.specs.Prelude.{unwrap_or}
use Rattle.sheets.proofs.Bytes.{take_rest, stop_found}
use Rattle.sheets.proofs.line.stop_at.Goals as goal

pub returns : goal.returns
returns c =
    let s = c.args.sheet.now in
    let from = c.args.from in
    stop_found s from _ _ c.requires (take_rest s from)
    (c.unwrap_or.ensures ∙ ap (λ o. unwrap_or o (length (take (length s - from) (drop from s)))) c.first_stop.ensures)
