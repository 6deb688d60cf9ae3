-- The net of a file can be bounded by distributions within the limit.
use Rattle.std.proofs.Common.{ℕ, ◌≤◌, Option, List, length, arith}
use Rattle.sd_base.specs.declared.limits.TheConstants.{NET_CHANNELS, STORAGE}
use Rattle.sd_base.specs.Net.{Net}
use Rattle.storage.specs.BoundedNets.{HasNoSpaces, bound}
use Rattle.storage.specs.Distributions.{CanHold}
use Rattle.storage.proofs.EnlargingAddsRoom.{distribution-length}
use Rattle.storage.proofs.FileChannels.{plain-no_spaces}
use Rattle.storage.proofs.DistributionsShareLaws.{can-hold}
use Rattle.storage.proofs.SpaceChannels.{bound-long, few-spaces}
use Rattle.cert_checker.specs.ShownChannels.{IsWithin}
use Rattle.cert_checker.specs.StorageCertificates.{IsFileNet}

pub bounded-few : (net : Net) → IsFileNet net → (ds : List (Option ℕ)) → length (bound net ds).channels ≤ NET_CHANNELS
bounded-few net file ds = omega (arith, bound-long net ds, few-spaces 0 net.channels ds, file.few)

pub no-spaces : (net : Net) → IsFileNet net → HasNoSpaces net
no-spaces net file = plain-no_spaces net file.plain

pub within-many : (net : Net) (limit : ℕ) (ds : List (Option ℕ)) → IsWithin net limit ds → length ds ≤ length net.channels
within-many net limit ds fit = distribution-length net.channels ds fit.distribution

pub within-can : (net : Net) → IsFileNet net → (limit : ℕ) (ds : List (Option ℕ)) → limit ≤ STORAGE → IsWithin net limit ds → CanHold net.channels ds
within-can net file limit ds small fit = can-hold net.channels ds file.laws.some_size fit.distribution (omega (arith, fit.storage, small))
