use Rattle.std.proofs.Common.{◌∙◌, sym, ap}
use Rattle.std.proofs.lemmas.Bool.{false≢true}
use Rattle.sd_base.specs.SelfTimed
use Rattle.selftimed.specs.Fingerprints.{running_fingerprint_of}
use Rattle.event_loops.proofs.search.has_shape.Goals as goal

pub returns-then-running_fingerprint-checkpoint : goal.returns-then-running_fingerprint-checkpoint
returns-then-running_fingerprint-checkpoint g c = (
  λ not. absurd (false≢true not),
  λ same. absurd (c.if-running_fingerprint-checkpoint.true (c.requires.fingerprint ∙ (ap (λ (x : SelfTimed.Shape). running_fingerprint_of x.remaining) same ∙ sym c.requires.checkpoint.running_fingerprint))),
)

pub returns : goal.returns
returns g c = (
  λ is. (c.same_shape.ensures.running c.requires.running).0 is ∙ c.requires.checkpoint.shape,
  λ same. (c.same_shape.ensures.running c.requires.running).1 (same ∙ sym c.requires.checkpoint.shape),
)
