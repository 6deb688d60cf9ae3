use Rattle.std.specs.BTreeMap.{get}
use Rattle.sd_base.specs.declared.role.Role.{Role}
use Rattle.cert_checker.specs.inside.Links.{IsLink, key_cmp, key_of}
use Rattle.cert_checker.proofs.links.Links.of.Given as goal

abbrev pub invariant-loop-channel : goal.invariant-loop-channel
invariant-loop-channel g l = (role : Role) → IsLink (g.F.Firing.net l.net) l.channel role (get key_cmp l.channels (key_of role))
