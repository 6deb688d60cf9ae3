-- The lines of a certificate that was read.
use Rattle.std.proofs.Common.{◌≡◌, ℕ, ◌≤◌, List, length, ap, arith}
use Rattle.cert_text.specs.declared.certificates.Certificate.{Certificate}
use Rattle.cert_text.specs.declared.certificates.Certificate.TheVariants as certificates
use Rattle.cert_text.specs.Reading.{IsRead}
use Rattle.cert_text.specs.Spelling.{spelling}
use Rattle.cert_checker.specs.Certificates.{HasFewLines}
use Rattle.cert_checker.specs.StorageLines.{SpelledLinesFit, end_line}
use Rattle.sd_base.specs.declared.limits.TheConstants.{CERTIFICATE_BYTES}

-- a text that is read has few enough lines
pub few_lines : (bytes : List ℕ) (version : ℕ) (c : Certificate) → SpelledLinesFit → IsRead bytes version c → length bytes ≤ CERTIFICATE_BYTES → HasFewLines version c
few_lines bytes version (certificates.Rate c) fit read short = tt
few_lines bytes version (certificates.Scenario c) fit read short = tt
few_lines bytes version (certificates.Storage c) fit read short =
    let most : end_line version c ≤ length (spelling version (certificates.Storage c)) = fit version c in
    let same : length bytes ≡ length (spelling version (certificates.Storage c)) = ap length read.text in
    omega (arith, most, same, short)
