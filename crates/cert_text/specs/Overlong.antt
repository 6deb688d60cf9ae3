-- Texts that are given up.
use Rattle.std.specs.Prelude.{◌≡◌, ◌⊎◌, ℕ, ◌+◌, ◌<◌, List, length}
use Rattle.sd_base.specs.declared.limits.TheConstants.{CERTIFICATE_BYTES}
use Rattle.cert_text.specs.declared.error.CertError.{CertError}
use Rattle.cert_text.specs.declared.error.CertError.TheVariants.{TooLong, NoMemory}

-- memory ran out, or a text with these lines behind it is longer than that of a certificate may be
abbrev pub GivesUp : List ℕ → List ℕ → CertError → Type 0
GivesUp text lines error = (error ≡ NoMemory) ⊎ ((error ≡ TooLong) × (CERTIFICATE_BYTES < length text + length lines))
