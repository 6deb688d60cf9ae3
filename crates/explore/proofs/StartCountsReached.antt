-- The counts from which an evaluation begins are reached.
use Rattle.std.proofs.Common.{◌≡◌, ℕ, zero, suc, Option, None, Some, List, [], ◌∷◌, ◌++◌, refl, ◌∙◌}
use Rattle.std.specs.Prelude.{slice_get, slice_index_or}
use Rattle.sd_base.specs.Net.{Net}
use Rattle.sd_base.specs.Lawful.{Lawful}
use Rattle.sd_base.specs.Untimed.{IsBlockedBy, IsLive}
use Rattle.sd_base.proofs.ElementsKeepPlaces.{get-left}
use Rattle.liveness.specs.RoundAnswers.{AreReachedCounts}
use Rattle.storage.specs.BoundedNets.{bound}
use Rattle.storage.specs.Distributions.{AtMost}
use Rattle.evaluations.specs.declared.shown.Shown.{Shown}
use Rattle.evaluations.specs.declared.shown.Shown.TheVariants.{Cycle, Blocked}
use Rattle.evaluations.specs.declared.starts.Starts.{Starts}
use Rattle.evaluations.specs.Starts.{AreStarts, counts_at}
use Rattle.explore.specs.declared.exploration.Member.{Member}
use Rattle.explore.specs.Explorations.{IsMember, ShowsRate}
use Rattle.explore.specs.inside.Hints.{IsHinted}
use Rattle.explore.proofs.ChildCountsReached.{looped-live}

blocked-reached : (net : Net) (counts : List ℕ) (lacks : List (Option ℕ)) → IsBlockedBy net counts lacks → AreReachedCounts net counts
blocked-reached net counts lacks is = record { actors = is.actors; order = is.ends.order; fires = is.ends.fires; reached = is.ends.counts }

module _ (net : Net) (laws : Lawful net) (starts : Starts) (are : AreStarts net starts) (ds : List (Option ℕ)) (lawful : Lawful (bound net ds))
    (more : (es : List (Option ℕ)) (counts : List ℕ) → AtMost es ds → AreReachedCounts (bound net es) counts → AreReachedCounts (bound net ds) counts) (live : (es : List (Option ℕ)) → AtMost es ds → IsLive (bound net es) → IsLive (bound net ds)) where
  pub member-reached : (states : ℕ) (m : Member) → IsMember net states m → AtMost m.capacities.capacities ds → AreReachedCounts (bound net ds) (counts_at starts m.shown)
  member-reached states m is most = at m.shown is.shown
    where
      at : (shown : Shown) → ShowsRate net m.capacities.capacities states m.rate shown → AreReachedCounts (bound net ds) (counts_at starts shown)
      at (Cycle cycle) (table, found, critical, same) =
          are.whole (bound net ds) lawful refl (live m.capacities.capacities most (looped-live net laws m.capacities.capacities m.rate table cycle is.rate critical same))
      at (Blocked counts) (lacks, blocked, none) = more m.capacities.capacities counts most (blocked-reached (bound net m.capacities.capacities) counts lacks blocked)

-- the member at a place
pub get-same : (ms : List Member) (place : ℕ) (m x : Member) → slice_get ms place ≡ Some m → x ≡ slice_index_or ms place x → x ≡ m
get-same [] place m x at is = cc
get-same (y ∷ ms) zero m x at is = let same : y ≡ m = cc in is ∙ same
get-same (y ∷ ms) (suc place) m x at is = get-same ms place m x at is

pub hinted-longer : (net : Net) (states : ℕ) (ms new : List Member) (hint : Option ℕ) (ds : List (Option ℕ)) → IsHinted net states ms hint ds → IsHinted net states (ms ++ new) hint ds
hinted-longer net states ms new None ds is = tt
hinted-longer net states ms new (Some place) ds is = record { member = is.member; at = get-left ms new place is.member is.at; evaluated = is.evaluated; most = is.most }
