-- From behind k lines to the end of the line there, the text is its line.
use Rattle.reasons.proofs.Texts.{line_within, line_part}
use Rattle.reasons.proofs.put_line.Goals as goal

pub slice_bounds-put_bytes-end : goal.slice_bounds-put_bytes-end
slice_bounds-put_bytes-end c =
    let from = c.behind_lines-from in
    let end = c.line_end-end in
    line_within c.args.text.now c.args.k from.result end.result from.ensures.1 from.ensures.0 end.ensures

pub put_bytes-requires : goal.put_bytes-requires
put_bytes-requires c =
    let from = c.behind_lines-from in
    let end = c.line_end-end in
    rw (line_part c.args.text.now c.args.k from.result end.result from.ensures.1 from.ensures.0 end.ensures) c.requires

pub returns : goal.returns
returns c =
    let from = c.behind_lines-from in
    let end = c.line_end-end in
    rw (← line_part c.args.text.now c.args.k from.result end.result from.ensures.1 from.ensures.0 end.ensures) c.put_bytes.ensures
