-- The texts of what is done with certificates.
use Rattle.std.specs.Prelude.{ℕ, List, [], ◌∷◌, ◌++◌, codes}
use Rattle.std.specs.Fmt.{decimal}
use Rattle.sd_base.specs.declared.numbers.Fraction.{Fraction}
use Rattle.report.specs.declared.claims.CertificateKind.{CertificateKind}
use Rattle.report.specs.declared.claims.CertificateKind.TheVariants.{Throughput, Storage, Scenario}
use Rattle.report.specs.declared.claims.ClaimLine.{ClaimLine}
use Rattle.report.specs.declared.claims.ClaimLine.TheVariants.{Rate, Points, Worst}

-- the word of a kind of certificates
unfoldable pub kind_word : CertificateKind → List ℕ
kind_word Throughput = codes "throughput"
kind_word Storage = codes "storage"
kind_word Scenario = codes "scenario"

-- a certificate of a rate is accepted, or of a worst rate
unfoldable pub accepted_rate : CertificateKind → Fraction → List ℕ
accepted_rate kind rate = codes "accepted " ++ (kind_word kind ++ (codes " " ++ (decimal rate.num ++ (codes "/" ++ (decimal rate.den ++ 10 ∷ [])))))

-- one of a trade-off is
unfoldable pub accepted_points : ℕ → ℕ → List ℕ
accepted_points number limit = codes "accepted storage " ++ (decimal number ++ (codes " points within " ++ (decimal limit ++ 10 ∷ [])))

-- the text of an accepted certificate
unfoldable pub claim_line : ClaimLine → List ℕ
claim_line (Rate x) = accepted_rate Throughput x
claim_line (Points number limit) = accepted_points number limit
claim_line (Worst x) = accepted_rate Scenario x

-- the text of a certificate of a kind that was converted
unfoldable pub converted_line : CertificateKind → List ℕ
converted_line kind = codes "converted " ++ (kind_word kind ++ 10 ∷ [])
