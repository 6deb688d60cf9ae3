use Rattle.cert_checker.proofs.SpaceSets.{space-added}
use Rattle.cert_checker.proofs.spaces.Spaces.add.Goals as goal

pub returns-in_ok-insert : goal.returns-in_ok-insert
returns-in_ok-insert c = λ k channel. space-added c.args.number c.in-Space.channel k channel c.args.self.now.links c.insert.new.self c.in_ok-insert.ensures.updates.0 c.args.link c.in-Space.is
