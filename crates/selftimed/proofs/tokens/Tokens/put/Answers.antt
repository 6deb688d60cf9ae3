use Rattle.std.proofs.Common.{◌≡◌, ◌<◌, length, ◌∙◌, refl}
use Rattle.std.specs.Prelude.{slice_index}
use Rattle.std.proofs.lemmas.List.{get_or_default}
use Rattle.selftimed.proofs.FingerprintsFollowTokens.{fingerprint-put}
use Rattle.selftimed.proofs.tokens.Tokens.put.Goals as goal

pub invariant_of-self : goal.invariant_of-self
invariant_of-self c =
    let place : c.args.channel < length c.self.inside.counts.items = rw (← c.self.view_is) at c.requires.channel in
    let read : c.index_mut.result.now ≡ slice_index c.self.inside.counts.items c.args.channel = c.index_mut.ensures.value ∙ get_or_default c.self.inside.counts.items c.args.channel c.index_mut.result.now 0 place in
    rw read (fingerprint-put c.self.inside.counts.items c.args.channel c.args.count c.self.inside.fingerprint c.args.weight _ place c.self.invariant c.requires.weight refl)
