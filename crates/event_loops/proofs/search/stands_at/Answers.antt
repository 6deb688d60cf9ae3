use Rattle.std.proofs.Common.{◌∙◌, sym, ap}
use Rattle.std.proofs.lemmas.Bool.{false≢true}
use Rattle.sd_base.specs.SelfTimed
use Rattle.selftimed.specs.Fingerprints.{fingerprint_of}
use Rattle.event_loops.proofs.search.stands_at.Goals as goal

pub returns-then-fingerprint-checkpoint : goal.returns-then-fingerprint-checkpoint
returns-then-fingerprint-checkpoint g c = (
  λ not. absurd (false≢true not),
  λ same. absurd (c.if-fingerprint-checkpoint.true (c.fingerprint.ensures ∙ (ap (λ (x : SelfTimed.Shape). fingerprint_of x.tokens) same ∙ sym c.requires.checkpoint.fingerprint))),
)
