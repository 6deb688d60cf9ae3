use Rattle.std.proofs.Common.{ap, ◌∙◌}
use Rattle.sd_base.specs.SelfTimed
use Rattle.selftimed.specs.Fingerprints.{running_fingerprint_of}
use Rattle.selftimed.proofs.ExecutionStands.{stands-past, stands-form}
use Rattle.selftimed.proofs.engine.Engine.running_fingerprint.Goals as goal

pub running_fingerprint-requires : goal.running_fingerprint-requires
running_fingerprint-requires g c = rw c.as_slice.ensures.value (stands-past (g.F.Firing.net c.args.self.now.net.now) (g.met.F.Firing.lawful c.args.self.now.net.now) c.args.self.now.moment c.args.self.now.most c.args.self.now.actors.items c.args.self.now.tokens c.args.self.now.all (c.args.self.now.stands c.requires))

pub returns : goal.returns
returns g c = (rw c.as_slice.ensures.value at c.running_fingerprint.ensures) ∙ ap (λ (x : SelfTimed.Shape). running_fingerprint_of x.remaining) (stands-form (g.F.Firing.net c.args.self.now.net.now) (g.met.F.Firing.lawful c.args.self.now.net.now) c.args.self.now.moment c.args.self.now.most c.args.self.now.actors.items c.args.self.now.tokens c.args.self.now.all (c.args.self.now.stands c.requires))
