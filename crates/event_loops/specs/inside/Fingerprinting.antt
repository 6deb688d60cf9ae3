-- The fingerprints of an execution's events.
use Rattle.std.specs.Prelude.{◌≡◌, ◌≢◌, ℕ, ◌/◌, ◌^◌, ◌<◌, List, length, slice_index}
use Rattle.sd_base.specs.Net.{Net}
use Rattle.sd_base.specs.SelfTimed.{Shape, IsEvent, shape_at}
use Rattle.selftimed.specs.Fingerprints.{fingerprint_of}

-- the upper half of the fingerprint of a shape's tokens
abbrev pub upper_fingerprint : Shape → ℕ
upper_fingerprint shape = fingerprint_of shape.tokens / 2 ^ 32

-- a fingerprint is none of some
abbrev pub IsNew : ℕ → List ℕ → Type 0
IsNew fingerprint fingerprints = (i : ℕ) → i < length fingerprints → slice_index fingerprints i ≢ fingerprint

-- among some fingerprints is that of each event before an end
abbrev pub AreFingerprints : Net → ℕ → List ℕ → Type 0
AreFingerprints net end fingerprints =
    (u : ℕ) → IsEvent net u → u < end → (i : ℕ) × (i < length fingerprints) × (slice_index fingerprints i ≡ upper_fingerprint (shape_at net u))
