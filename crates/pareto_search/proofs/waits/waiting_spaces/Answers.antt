use Rattle.std.proofs.Common.{◌≡◌, ℕ, List, sym, ◌∙◌, subst}
use Rattle.std.specs.Prelude.{All, Contains, IfOk, slice_index}
use Rattle.std.proofs.lemmas.Result.{IfOk-weaker}
use Rattle.std.proofs.lemmas.List.Elements.{All-weaker}
use Rattle.sd_base.specs.Net.{Net, channel_at}
use Rattle.sd_base.specs.Lawful.{Lawful}
use Rattle.sd_base.specs.Untimed.{IsBlockedBy, IsFirstLacking, IsLive}
use Rattle.sd_base.proofs.ClosedCountsBoundRuns.{live-unblocked}
use Rattle.sd_base.proofs.LawfulIsRegular.{wired}
use Rattle.firing.specs.Wiring.{IsWiringOf}
use Rattle.storage.specs.BoundedNets.{bound}
use Rattle.storage.specs.ShownSpaces.{ShowsSpace}
use Rattle.circular_waits.specs.CircularWaits.{IsCircularWait, WaitsForSpace}
use Rattle.pareto_search.specs.inside.Waits.{StopsAll}
use Rattle.pareto_search.proofs.WaitsShowSpaces.{one-blocked, wait-shows}
use Rattle.pareto_search.proofs.waits.waiting_spaces.Goals as goal

pub new-requires-clause-none : goal.new-requires-clause-none
new-requires-clause-none g c = c.requires.fits.none

pub new-requires-clause-can : goal.new-requires-clause-can
new-requires-clause-can g c = c.requires.fits.can

pub new-requires-clause-few : goal.new-requires-clause-few
new-requires-clause-few g c = c.requires.fits.few

pub invariant_of-wired : goal.invariant_of-wired
invariant_of-wired g c = record {
  wired = subst (λ (n : Net). IsWiringOf n c.args.base.now.exploring.now.wiring.now) (sym c.in_ok-bounded.ensures)
      (c.args.base.now.exploring.now.wired c.args.capacities.now.capacities c.requires.fits.distribution);
}

pub unreachable-requires : goal.unreachable-requires
unreachable-requires g c =
    let net = g.F.Firing.net c.args.base.now.exploring.now.net.now in
    let ds = c.args.capacities.now.capacities in
    live-unblocked (bound net ds) (wired (bound net ds) (subst Lawful c.in_ok-bounded.ensures c.know_laws.ensures))
    (subst IsLive c.in_ok-bounded.ensures (rw c.in-Whole.is at c.in_ok-finish_round.ensures)) (slice_index c.args.counts.now) c.requires.blocked.1.blocks

pub returns-clause-shown : goal.returns-clause-shown
returns-clause-shown g c =
    let net = g.F.Firing.net c.args.base.now.exploring.now.net.now in
    let ds = c.args.capacities.now.capacities in
    let channels = c.in_ok-channels-in-Blocked.channels in
    let ended : IsBlockedBy (bound net ds) c.in-Blocked.ending c.in-Blocked.lacks = subst (λ (n : Net). IsBlockedBy n c.in-Blocked.ending c.in-Blocked.lacks) c.in_ok-bounded.ensures (rw c.in-Blocked.is at c.in_ok-finish_round.ensures) in
    let same : c.as_slice.result.now ≡ c.args.counts.now = c.as_slice.ensures ∙ one-blocked (bound net ds) (wired (bound net ds) (subst Lawful c.in_ok-bounded.ensures c.know_laws.ensures)) c.in-Blocked.ending c.args.counts.now c.in-Blocked.lacks c.requires.blocked.0 ended c.requires.blocked.1 in
    let wait : IsCircularWait (bound net ds) (slice_index c.args.counts.now) channels
    = subst (λ (xs : List ℕ). IsCircularWait (bound net ds) (slice_index xs) channels) same
    (subst (λ (n : Net). IsCircularWait n (slice_index c.as_slice.result.now) channels) c.in_ok-bounded.ensures c.in_ok-channels-in-Blocked.ensures.wait) in
    let first : All (λ (i : ℕ). IsFirstLacking (bound net ds) (slice_index c.args.counts.now) (channel_at (bound net ds) i).target i) channels
    = subst (λ (xs : List ℕ). All (λ (i : ℕ). IsFirstLacking (bound net ds) (slice_index xs) (channel_at (bound net ds) i).target i) channels) same
    (subst (λ (n : Net). All (λ (i : ℕ). IsFirstLacking n (slice_index c.as_slice.result.now) (channel_at n i).target i) channels) c.in_ok-bounded.ensures c.in_ok-channels-in-Blocked.ensures.first) in
    let each : IfOk c.spaces_among.result (λ v. All (WaitsForSpace (bound net ds) channels) v)
    = subst (λ (xs : List ℕ). IfOk c.spaces_among.result (λ v. All (WaitsForSpace (bound net ds) xs) v)) c.as_slice-in-Blocked-2.ensures
    (subst (λ (n : Net). IfOk c.spaces_among.result (λ v. All (WaitsForSpace n c.as_slice-in-Blocked-2.result.now) v)) c.in_ok-bounded.ensures c.spaces_among.ensures.each) in
    IfOk-weaker c.spaces_among.result (λ v. All (WaitsForSpace (bound net ds) channels) v) (λ v. All (ShowsSpace net ds (slice_index c.args.counts.now)) v)
    (λ v waits. All-weaker (WaitsForSpace (bound net ds) channels) (ShowsSpace net ds (slice_index c.args.counts.now)) (λ x one. wait-shows net c.requires.fits.none ds (slice_index c.args.counts.now) channels wait first x one) v waits) each

pub returns-clause-stops : goal.returns-clause-stops
returns-clause-stops g c =
    let net = g.F.Firing.net c.args.base.now.exploring.now.net.now in
    let ds = c.args.capacities.now.capacities in
    let channels = c.in_ok-channels-in-Blocked.channels in
    let ended : IsBlockedBy (bound net ds) c.in-Blocked.ending c.in-Blocked.lacks = subst (λ (n : Net). IsBlockedBy n c.in-Blocked.ending c.in-Blocked.lacks) c.in_ok-bounded.ensures (rw c.in-Blocked.is at c.in_ok-finish_round.ensures) in
    let same : c.as_slice.result.now ≡ c.args.counts.now = c.as_slice.ensures ∙ one-blocked (bound net ds) (wired (bound net ds) (subst Lawful c.in_ok-bounded.ensures c.know_laws.ensures)) c.in-Blocked.ending c.args.counts.now c.in-Blocked.lacks c.requires.blocked.0 ended c.requires.blocked.1 in
    let wait : IsCircularWait (bound net ds) (slice_index c.args.counts.now) channels
    = subst (λ (xs : List ℕ). IsCircularWait (bound net ds) (slice_index xs) channels) same
    (subst (λ (n : Net). IsCircularWait n (slice_index c.as_slice.result.now) channels) c.in_ok-bounded.ensures c.in_ok-channels-in-Blocked.ensures.wait) in
    let all : IfOk c.spaces_among.result (λ v. (x : ℕ) → WaitsForSpace (bound net ds) channels x → Contains v x)
    = subst (λ (xs : List ℕ). IfOk c.spaces_among.result (λ v. (x : ℕ) → WaitsForSpace (bound net ds) xs x → Contains v x)) c.as_slice-in-Blocked-2.ensures
    (subst (λ (n : Net). IfOk c.spaces_among.result (λ v. (x : ℕ) → WaitsForSpace n c.as_slice-in-Blocked-2.result.now x → Contains v x)) c.in_ok-bounded.ensures c.spaces_among.ensures.all) in
    IfOk-weaker c.spaces_among.result (λ v. (x : ℕ) → WaitsForSpace (bound net ds) channels x → Contains v x) (λ v. StopsAll net ds v)
    (λ v has es x y laws room rate. c.circular_waits_stop_all.ensures.roomless net ds es (slice_index c.args.counts.now) channels x y laws wait (λ d k waits at. room d k (has d waits) at) rate) all
