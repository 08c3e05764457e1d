-- What waits lies in the input behind a read.
use Rattle.std.proofs.Common.{rules}
use Rattle.streaming.proofs.Places.{after_feed}
use Rattle.replay.proofs.turns.more.Goals as goal

pub returns-clause-lies : goal.returns-clause-lies
returns-clause-lies g c = after_feed _ _ _ c.feed.ensures.0 c.feed.ensures.1 (search rules)
