-- All line feeds are those of the list.
-- Assumes nothing.
use Rattle.watch.proofs.Answers.{all_feeds}
use Rattle.watch.proofs.moves.Goals as goal

pub returns : goal.returns
returns c = rw (all_feeds c.args.s.now c.count_feeds.result _ c.count_feeds.ensures.0) at c.moves_in.ensures
