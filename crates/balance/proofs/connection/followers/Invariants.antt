use Rattle.balance.specs.inside.Reaching.{AreFollowers}
use Rattle.balance.proofs.connection.followers.Given as goal

abbrev pub invariant-loop-pair : goal.invariant-loop-pair
invariant-loop-pair l = AreFollowers l.direction l.ends l.pair-index l.actors l.lists.rows.items
