use Rattle.std.proofs.Common.{ℕ, List, ◌∙◌, length, ap, refl}
use Rattle.selftimed.specs.Fingerprints.{weight}
use Rattle.selftimed.proofs.FingerprintsFollowTokens.{fingerprint-push}
use Rattle.selftimed.proofs.tokens.Tokens.push.Goals as goal

pub invariant_of-self-2 : goal.invariant_of-self-2
invariant_of-self-2 c = rw c.in_ok-push.ensures.items (fingerprint-push c.self.inside.counts.items c.args.count c.self.inside.fingerprint c.weight_of.result _ c.self.invariant (c.weight_of.ensures ∙ ap (λ (xs : List ℕ). weight (length xs)) c.as_slice.ensures.value) refl)
