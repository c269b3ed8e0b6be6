-- All line feeds are those of the list.
-- Assumes nothing.
use Rattle.locks.proofs.Answers.{all_feeds}
use Rattle.locks.proofs.ladder.Goals as goal

pub returns : goal.returns
returns c = rw (all_feeds c.args.s.now c.count_feeds.result _ c.count_feeds.ensures.0) at c.ladder_in.ensures
