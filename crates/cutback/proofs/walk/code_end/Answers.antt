-- The code ends at the first line feed or blank.
use Rattle.std.proofs.Common.{length, ap, ◌∙◌}
use Rattle.std.specs.Prelude.{unwrap_or}
use Rattle.cutback.proofs.Places.{found_at}
use Rattle.cutback.proofs.walk.code_end.Goals as goal

pub returns : goal.returns
returns c = c.unwrap_or.ensures ∙ ap (λ o. unwrap_or o (length c.args.text.now)) c.first_end.ensures ∙ found_at c.args.text.now
