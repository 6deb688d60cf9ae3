use Rattle.std.proofs.Common.{ap, ◌∙◌}
use Rattle.sd_base.specs.SelfTimed
use Rattle.selftimed.specs.Fingerprints.{fingerprint_of}
use Rattle.selftimed.proofs.ExecutionStands.{stands-form}
use Rattle.selftimed.proofs.engine.Engine.fingerprint.Goals as goal

pub returns : goal.returns
returns g c = c.fingerprint.ensures ∙ ap (λ (x : SelfTimed.Shape). fingerprint_of x.tokens) (stands-form (g.F.Firing.net c.args.self.now.net.now) (g.met.F.Firing.lawful c.args.self.now.net.now) c.args.self.now.moment c.args.self.now.most c.args.self.now.actors.items c.args.self.now.tokens c.args.self.now.all (c.args.self.now.stands c.requires))
