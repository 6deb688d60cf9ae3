-- The first fault of a certificate of a trade-off, where the lines before it are right.
use Rattle.std.proofs.Common.{ℕ, ◌≤◌, ◌<◌, length, inl, refl, arith}
use Rattle.sd_base.specs.declared.limits.TheConstants.{STORAGE}
use Rattle.sd_base.specs.Net.{Net}
use Rattle.storage.specs.IncidentActors.{AreIncident}
use Rattle.cert_text.specs.declared.certificates.StorageCertificate.{StorageCertificate}
use Rattle.cert_checker.specs.declared.verdict.Reason.{Reason}
use Rattle.cert_checker.specs.declared.verdict.Reason.TheVariants as reasons
use Rattle.cert_checker.specs.Verdicts.{IsFirst}
use Rattle.cert_checker.specs.StorageLines.{members_line, points_line}
use Rattle.cert_checker.specs.StorageCertificates.{AreBelow, BeginsAtCorner}
use Rattle.cert_checker.specs.StorageFaults.{IsTradeOffFault, incident, limit, corner, of_member, covered, of_point}
use Rattle.cert_checker.specs.inside.FirstFaults.{AreMembersRight, IsFaultOfMembers, IsFaultOfPoints, at_member, at_point}
use Rattle.cert_checker.proofs.TradeOffFaults.{no-member}
use Rattle.cert_checker.proofs.StorageFirsts.{member-place, next-member}
use Rattle.cert_checker.proofs.RateFaults.{NotBefore, same}

module _ (net : Net) (version : ℕ) (c : StorageCertificate) where
  pub incident-first : (AreIncident net → ⊥) → IsFirst (IsTradeOffFault net version c) 2 reasons.Connection
  incident-first none = record { is = incident none refl refl; least = least }
    where
      least : (l : ℕ) (r : Reason) → IsTradeOffFault net version c l r → NotBefore 2 reasons.Connection l r
      least l r (incident h il ir) = same 2 l reasons.Connection r il ir
      least l r (limit h il ir) = inl (omega (arith, il))
      least l r (corner h il ir) = inl (omega (arith, il))
      least l r (of_member i place low fault il) = inl (omega (arith, il))
      least l r (covered h il ir) = inl (omega (arith, il))
      least l r (of_point i place low fault il) = inl (omega (arith, il))

  pub limit-first : AreIncident net → STORAGE < c.limit → IsFirst (IsTradeOffFault net version c) 4 reasons.Limit
  limit-first is_incident over = record { is = limit over refl refl; least = least }
    where
      least : (l : ℕ) (r : Reason) → IsTradeOffFault net version c l r → NotBefore 4 reasons.Limit l r
      least l r (incident h il ir) = absurd (h is_incident)
      least l r (limit h il ir) = same 4 l reasons.Limit r il ir
      least l r (corner h il ir) = inl (omega (arith, il))
      least l r (of_member i place low fault il) = inl (omega (arith, il))
      least l r (covered h il ir) = inl (omega (arith, il))
      least l r (of_point i place low fault il) = inl (omega (arith, il))

  module _ (is_incident : AreIncident net) (small : c.limit ≤ STORAGE) where
    pub corner-first : (BeginsAtCorner net c → ⊥) → IsFirst (IsTradeOffFault net version c) (members_line version c) reasons.Member
    corner-first none = record { is = corner none refl refl; least = least }
      where
        least : (l : ℕ) (r : Reason) → IsTradeOffFault net version c l r → NotBefore (members_line version c) reasons.Member l r
        least l r (incident h il ir) = absurd (h is_incident)
        least l r (limit h il ir) = absurd (omega (arith, h, small))
        least l r (corner h il ir) = same (members_line version c) l reasons.Member r il ir
        least l r (of_member i place low fault il) = inl (omega (arith, il))
        least l r (covered h il ir) = inl (omega (arith, il))
        least l r (of_point i place low fault il) = inl (omega (arith, il))

    module _ (begins : BeginsAtCorner net c) where
      pub members-first : (line : ℕ) (reason : Reason) → IsFirst (IsFaultOfMembers net version c) line reason → IsFirst (IsTradeOffFault net version c) line reason
      members-first line reason first = record { is = up line reason first.is; least = least }
        where
          up : (l : ℕ) (r : Reason) → IsFaultOfMembers net version c l r → IsTradeOffFault net version c l r
          up l r (at_member i place below fault il) = of_member i place below fault il

          before : (l : ℕ) (r : Reason) → IsFaultOfMembers net version c l r → l < points_line version c
          before l r (at_member i place below fault il) = omega (arith, il, member-place net version c i place r fault, next-member version c i (length c.members) below (omega arith))

          least : (l : ℕ) (r : Reason) → IsTradeOffFault net version c l r → NotBefore line reason l r
          least l r (incident h il ir) = absurd (h is_incident)
          least l r (limit h il ir) = absurd (omega (arith, h, small))
          least l r (corner h il ir) = absurd (h begins)
          least l r (of_member i place low fault il) = first.least l r (at_member i place low fault il)
          least l r (covered h il ir) = inl (omega (arith, il, before line reason first.is))
          least l r (of_point i place low fault il) = inl (omega (arith, il, before line reason first.is))

      module _ (right : AreMembersRight net c) where
        pub points-line-first : (AreBelow net c → ⊥) → IsFirst (IsTradeOffFault net version c) (points_line version c) reasons.Point
        points-line-first none = record { is = covered none refl refl; least = least }
          where
            least : (l : ℕ) (r : Reason) → IsTradeOffFault net version c l r → NotBefore (points_line version c) reasons.Point l r
            least l r (incident h il ir) = absurd (h is_incident)
            least l r (limit h il ir) = absurd (omega (arith, h, small))
            least l r (corner h il ir) = absurd (h begins)
            least l r (of_member i place low fault il) = absurd (no-member net version c i (right i low) place r fault)
            least l r (covered h il ir) = same (points_line version c) l reasons.Point r il ir
            least l r (of_point i place low fault il) = inl (omega (arith, il))

        pub points-first : AreBelow net c → (line : ℕ) (reason : Reason) → IsFirst (IsFaultOfPoints net version c) line reason → IsFirst (IsTradeOffFault net version c) line reason
        points-first below line reason first = record { is = up line reason first.is; least = least }
          where
            up : (l : ℕ) (r : Reason) → IsFaultOfPoints net version c l r → IsTradeOffFault net version c l r
            up l r (at_point i place low fault il) = of_point i place low fault il

            least : (l : ℕ) (r : Reason) → IsTradeOffFault net version c l r → NotBefore line reason l r
            least l r (incident h il ir) = absurd (h is_incident)
            least l r (limit h il ir) = absurd (omega (arith, h, small))
            least l r (corner h il ir) = absurd (h begins)
            least l r (of_member i place low fault il) = absurd (no-member net version c i (right i low) place r fault)
            least l r (covered h il ir) = absurd (h below)
            least l r (of_point i place low fault il) = first.least l r (at_point i place low fault il)
