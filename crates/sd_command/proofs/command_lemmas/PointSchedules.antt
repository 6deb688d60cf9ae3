-- The schedule of a point's loop reaches its rate, and the distributions of a net stand over its graph.
use Rattle.std.proofs.Common.{◌≡◌, ℕ, zero, suc, ◌*◌, ◌-◌, ◌≤◌, ◌<◌, ⊎_elim, true, List, [], ◌∷◌, ◌++◌, length, Option, Some, None, All, sym, ap, subst, ◌∙◌, arith}
use Rattle.std.specs.Prelude.{slice_index_or, Contains}
use Rattle.std.specs.List.{AllZip}
use Rattle.std.proofs.lemmas.Bool.{cases_lt, eqb-true}
use Rattle.sd_base.specs.declared.role.Role.{Role}
use Rattle.sd_base.specs.declared.role.Role.TheVariants.{Token, Own, Space, Order}
use Rattle.sd_base.specs.declared.tables.GraphFile.{GraphFile}
use Rattle.sd_base.specs.declared.limits.Limits.{Limits}
use Rattle.sd_base.specs.declared.limits.TheConstants.{STORAGE}
use Rattle.sd_base.specs.Net.{Channel, Net, channel_at, nowhere}
use Rattle.sd_base.specs.Lawful.{Lawful, is_file_channel, is_token_role}
use Rattle.sd_base.proofs.LoopRates.{one-rate}
use Rattle.periodic.specs.declared.schedule.Periodic.{Periodic}
use Rattle.periodic.specs.LoopSchedules.{IsScheduleOf}
use Rattle.storage.specs.declared.distribution.Distribution.{Distribution}
use Rattle.storage.specs.BoundedNets.{bound}
use Rattle.storage.specs.Distributions.{CanHold, IsDistribution, storage_of}
use Rattle.storage.proofs.FileChannels.{plain-no_spaces}
use Rattle.storage.proofs.DistributionsShareLaws.{can-hold}
use Rattle.storage.proofs.BoundingKeepsLaws.{bound-lawful}
use Rattle.sd_base.proofs.ContainedHavePlaces.{contains-here, contains-later}
use Rattle.pareto_front.specs.declared.point.Point.{Point}
use Rattle.explore.specs.Reachable.{IsExplorable}
use Rattle.explore.specs.declared.error.ExploreError.{ExploreError}
use Rattle.explore.specs.declared.error.ExploreError.TheVariants.{StatesSpent}
use Rattle.explore.specs.Explorations.{IsPoint, IsRefusal}
use Rattle.explore.proofs.IncidentNetsExplorable.{reachable-fits}
use Rattle.cert_text.specs.Spellable.{AreStarts}
use Rattle.report.specs.LinkTexts.{IsRoleIn, IsNamed}
use Rattle.sd_command.specs.commands.Points.{IsPointSchedule}
use Rattle.sd_command.proofs.command_lemmas.CertificatesArePut.{starts-spelled}
use Rattle.sd_command.proofs.command_lemmas.LoopsReachRates.{Lowest, lowest_of}

-- ---- distributions over a graph

-- each entry of a distribution is that of a channel of the file
entry-token : (cs : List Channel) (ds : List (Option ℕ)) (i : ℕ) → IsDistribution cs ds → i < length ds → (i < length cs) × (is_token_role (slice_index_or cs i nowhere).role ≡ true)
entry-token [] [] i dist below = absurd (omega arith)
entry-token [] (d ∷ ds) i dist below = absurd dist
entry-token (c ∷ cs) [] i dist below = absurd (omega arith)
entry-token (c ∷ cs) (None ∷ ds) zero dist below = (omega arith, dist.0)
entry-token (c ∷ cs) (Some k ∷ ds) zero dist below = (omega arith, dist.0)
entry-token (c ∷ cs) (None ∷ ds) (suc i) dist below = let rest = entry-token cs ds i dist.2 (omega arith) in (omega (arith, rest.0), rest.1)
entry-token (c ∷ cs) (Some k ∷ ds) (suc i) dist below = let rest = entry-token cs ds i dist.3 (omega arith) in (omega (arith, rest.0), rest.1)

-- a channel with the number of its role is one of the graph
role-below : (g : GraphFile) (i : ℕ) (r : Role) → is_file_channel i r ≡ true → IsRoleIn g r → i < length g.channels
role-below g i (Token c) is named = subst (λ (x : ℕ). x < length g.channels) (eqb-true c i is) named
role-below g i (Own a) is named = absurd (cc)
role-below g i (Space c) is named = absurd (cc)
role-below g i (Order x y) is named = absurd (cc)

pub distribution-named : (g : GraphFile) (net : Net) → Lawful net → IsNamed g net → (ds : List (Option ℕ)) → IsDistribution net.channels ds → length ds ≤ length g.channels
distribution-named g net laws named ds dist = ⊎_elim
    (λ (some : 0 < length ds).
    let i : ℕ = length ds - 1 in
    let at = entry-token net.channels ds i dist (omega arith) in
    let below : i < length g.channels = role-below g i (channel_at net i).role (laws.files_first i i (omega arith) at.0 at.1) (named.roles i at.0) in
    omega arith)
    (λ (none : length ds ≤ 0). omega arith)
    (cases_lt 0 (length ds))

-- so is the one that a search names which isn't ended
pub refused-named : (g : GraphFile) (net : Net) → Lawful net → IsNamed g net → IsExplorable net → (limits : Limits) (error : ExploreError) → IsRefusal net limits error
    → (at : Distribution) → error ≡ StatesSpent at → length at.capacities ≤ length g.channels
refused-named g net laws named can limits error refused at is =
    let why : IsRefusal net limits (StatesSpent at) = subst (IsRefusal net limits) is refused in
    distribution-named g net laws named at.capacities (reachable-fits net limits.total at.capacities can.plain why.0).0

-- ---- points

module _ (net : Net) (laws : Lawful net) (can : IsExplorable net) (ds : List (Option ℕ)) (dist : IsDistribution net.channels ds) (small : storage_of net.channels ds ≤ STORAGE) where
  pub fits-held : CanHold net.channels ds
  fits-held = can-hold net.channels ds laws.some_size dist (omega arith)

  pub fits-lawful : Lawful (bound net ds)
  fits-lawful = bound-lawful net laws ds (plain-no_spaces net can.plain) fits-held (can.few ds dist)

module _ (net : Net) (laws : Lawful net) (can : IsExplorable net) (limits : Limits) (small : limits.total ≤ STORAGE) (p : Point) (is : IsPoint net limits p) where
  pub point-small : storage_of net.channels p.capacities.capacities ≤ STORAGE
  point-small = omega (arith, is.reaches.total, is.reaches.within)

  pub point-held : CanHold net.channels p.capacities.capacities
  point-held = fits-held net laws can p.capacities.capacities is.reaches.distribution point-small

  pub point-schedule : (s : Periodic) → IsScheduleOf (bound net p.capacities.capacities) p.table s → IsPointSchedule net p s
  point-schedule s of_loop =
      let low : Lowest p.table.rounds p.table.period = lowest_of p.table.rounds p.table.period is.found.loop.turns in
      let g : ℕ = low.common in
      let same = one-rate (bound net p.capacities.capacities) low.num low.den p.rate.num p.rate.den (fits-lawful net laws can p.capacities.capacities is.reaches.distribution point-small)
      (is.found.rate low.num low.den g low.first low.second low.lowest) is.reaches.rate in
      record {
        of_loop = of_loop;
        reached =
            let a : s.rounds * p.rate.den ≡ (g * low.num) * low.den = ap (λ (n : ℕ). n * p.rate.den) (of_loop.rounds ∙ low.first) ∙ ap (λ (n : ℕ). (g * low.num) * n) (sym same.1) in
            let b : p.rate.num * s.period ≡ low.num * (g * low.den) = ap (λ (n : ℕ). p.rate.num * n) (of_loop.period ∙ low.second) ∙ ap (λ (n : ℕ). n * (g * low.den)) (sym same.0) in
            omega arith;
      }

-- one more point with its schedule
pub zip-more : {A B : Type 0} (R : A → B → Type 0) (xs : List A) (ys : List B) (x : A) (y : B) → AllZip R xs ys → R x y → AllZip R (xs ++ x ∷ []) (ys ++ y ∷ [])
zip-more R [] [] x y all is = (is, tt)
zip-more R [] (b ∷ ys) x y all is = absurd all
zip-more R (a ∷ xs) [] x y all is = absurd all
zip-more R (a ∷ xs) (b ∷ ys) x y all is = (all.0, zip-more R xs ys x y all.1 is)

-- the same of a list that one was pushed to
pub zip-pushed : {A B : Type 0} (R : A → B → Type 0) (xs : List A) (ys zs : List B) (x : A) (y : B) → zs ≡ ys ++ y ∷ [] → AllZip R xs ys → R x y → AllZip R (xs ++ x ∷ []) zs
zip-pushed {B} R xs ys zs x y pushed all is = subst (λ (l : List B). AllZip R (xs ++ x ∷ []) l) (sym pushed) (zip-more R xs ys x y all is)

-- each schedule has a text
pub zip-starts : (net : Net) → Lawful net → IsExplorable net → (limits : Limits) → limits.total ≤ STORAGE → (ps : List Point) (ss : List Periodic) → ((p : Point) → Contains ps p → IsPoint net limits p)
    → AllZip (IsPointSchedule net) ps ss → All (λ (s : Periodic). All AreStarts s.starts) ss
zip-starts net laws can limits small [] [] reached all k d below = absurd (omega arith)
zip-starts net laws can limits small [] (s ∷ ss) reached all k d below = absurd all
zip-starts net laws can limits small (p ∷ ps) [] reached all k d below = absurd all
zip-starts net laws can limits small (p ∷ ps) (s ∷ ss) reached all zero d below =
    let is : IsPoint net limits p = reached p (contains-here p ps) in
    starts-spelled (bound net p.capacities.capacities) p.table s (fits-lawful net laws can p.capacities.capacities is.reaches.distribution (point-small net laws can limits small p is)) all.0.of_loop
zip-starts net laws can limits small (p ∷ ps) (s ∷ ss) reached all (suc k) d below = zip-starts net laws can limits small ps ss (λ q one. reached q (contains-later p ps q one)) all.1 k d (omega arith)
