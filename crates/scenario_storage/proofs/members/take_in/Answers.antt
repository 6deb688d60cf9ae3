use Rattle.std.proofs.Common.{◌≡◌, ◌+◌, ◌++◌, ◌∷◌, [], ◌<◌, ℕ, List, All, length, refl, sym, subst, rules}
use Rattle.std.proofs.lemmas.Result.{err_from_is_err_and}
use Rattle.levels.specs.Visits.{led_by, visits_of}
use Rattle.levels.specs.Frontiers.{IsFrontier, IsSpent, Rises}
use Rattle.bounded_scenarios.specs.SharedChannels.{shared_channels}
use Rattle.scenario_storage.proofs.FilesAllowSearch.{searchable}
use Rattle.scenario_storage.proofs.TurnsKeepSearch.{its-known, its-rises, its-within, off-same, offered, spent-refusal, taken-in-of}
use Rattle.scenario_storage.proofs.members.take_in.Goals as goal

pub lead_on-requires-clause-channels : goal.lead_on-requires-clause-channels
lead_on-requires-clause-channels c =
    let plan = c.args.plan.now in
    let can = searchable plan.file.now plan.limits.total c.requires.plan.bounded in
    let own : c.as_slice.result.now ≡ c.args.rated.enlarge = search rules in
    subst (All (λ (x : ℕ). x < length c.args.search.now.levels.channels)) (sym own)
    (its-known plan.file.now plan.limits can c.args.total c.args.capacities.capacities c.args.rated c.requires.rated.0 c.requires.rated.2 c.requires.total c.requires.search.0 c.args.search.now c.requires.search.1 c.requires.rated.1)

pub lead_on-requires-clause-within : goal.lead_on-requires-clause-within
lead_on-requires-clause-within c =
    let plan = c.args.plan.now in
    let can = searchable plan.file.now plan.limits.total c.requires.plan.bounded in
    its-within plan.file.now plan.limits can c.args.total c.args.capacities.capacities c.args.rated c.requires.rated.0 c.requires.rated.2 c.requires.total c.requires.search.0 c.args.search.now c.requires.search.1 c.requires.rated.1

pub lead_on-requires-clause-few : goal.lead_on-requires-clause-few
lead_on-requires-clause-few c = c.requires.search.1.frontier.few

pub offer-requires : goal.offer-requires
offer-requires c =
    let plan = c.args.plan.now in
    let can = searchable plan.file.now plan.limits.total c.requires.plan.bounded in (
      plan.file.now,
      plan.limits.total,
      c.requires.search.1.entries,
      c.requires.rated.0,
      offered plan.file.now plan.limits can c.args.total c.args.capacities.capacities c.args.rated c.requires.rated.0 c.requires.rated.2 c.requires.total c.requires.search.0 c.args.search.now c.requires.search.1 c.requires.rated.1,
    )

pub returns-clause-search : goal.returns-clause-search
returns-clause-search c = λ rest all of.
    let s = of.0 in
    let plan = c.args.plan.now in
    let file = plan.file.now in
    let ds = c.args.capacities.capacities in
    let r = c.args.rated in
    let best = c.requires.rated.0 in
    let old = c.args.search.now in
    let can = searchable plan.file.now plan.limits.total c.requires.plan.bounded in
    let own : c.as_slice.result.now ≡ c.args.rated.enlarge = search rules in
    let rises : Rises (shared_channels file) (led_by ds c.as_slice.result.now) = subst (λ (xs : List ℕ). Rises (shared_channels file) (led_by ds xs)) (sym own)
    (its-rises file plan.limits can c.args.total ds r best c.requires.rated.2 c.requires.total rest old s c.requires.rated.1) in
    let frontier : IsFrontier (shared_channels file) s.corner (c.args.total + 1) (visits_of s.entries ++ led_by ds r.enlarge ∷ []) rest c.lead_on.new.self =
    subst (λ (xs : List ℕ). IsFrontier (shared_channels file) s.corner (c.args.total + 1) (visits_of s.entries ++ led_by ds xs ∷ []) rest c.lead_on.new.self) own
    (c.in_ok-lead_on.ensures.frontier (shared_channels file) s.corner (visits_of s.entries) rest s.frontier (sym c.requires.total) rises) in
    taken-in-of file plan.limits can c.args.total ds r best c.requires.rated.2 c.requires.total rest old s c.requires.rated.1 _ _ refl c.lead_on.ensures.same frontier
    (c.in_ok-offer.ensures.known file plan.limits.total s.entries best (offered file plan.limits can c.args.total ds r best c.requires.rated.2 c.requires.total rest old s c.requires.rated.1))
    (c.in_ok-offer.ensures.blocked file plan.limits.total s.entries best (offered file plan.limits can c.args.total ds r best c.requires.rated.2 c.requires.total rest old s c.requires.rated.1) s.blocked)
    c.is_topped-search.ensures all of.1

pub returns-clause-off : goal.returns-clause-off
returns-clause-off c =
    let plan = c.args.plan.now in
    let file = plan.file.now in
    let ds = c.args.capacities.capacities in
    let r = c.args.rated in
    let best = c.requires.rated.0 in
    let old = c.args.search.now in
    let rest = c.requires.search.0 in
    let s = c.requires.search.1 in
    let can = searchable plan.file.now plan.limits.total c.requires.plan.bounded in
    let own : c.as_slice.result.now ≡ c.args.rated.enlarge = search rules in
    let rises : Rises (shared_channels file) (led_by ds c.as_slice.result.now) = subst (λ (xs : List ℕ). Rises (shared_channels file) (led_by ds xs)) (sym own)
    (its-rises file plan.limits can c.args.total ds r best c.requires.rated.2 c.requires.total rest old s c.requires.rated.1) in
    off-same file plan.limits can c.args.total ds r best c.requires.rated.2 c.requires.total rest old s c.requires.rated.1 c.lead_on.new.self
    (subst (λ (xs : List ℕ). IsFrontier (shared_channels file) s.corner (c.args.total + 1) (visits_of s.entries ++ led_by ds xs ∷ []) rest c.lead_on.new.self) own
    (c.in_ok-lead_on.ensures.frontier (shared_channels file) s.corner (visits_of s.entries) rest s.frontier (sym c.requires.total) rises))

pub returns-in_err-lead_on-clause-refused : goal.returns-in_err-lead_on-clause-refused
returns-in_err-lead_on-clause-refused c =
    let plan = c.args.plan.now in
    let file = plan.file.now in
    let ds = c.args.capacities.capacities in
    let r = c.args.rated in
    let best = c.requires.rated.0 in
    let old = c.args.search.now in
    let rest = c.requires.search.0 in
    let s = c.requires.search.1 in
    let can = searchable plan.file.now plan.limits.total c.requires.plan.bounded in
    let own : c.as_slice.result.now ≡ c.args.rated.enlarge = search rules in
    let rises : Rises (shared_channels file) (led_by ds c.as_slice.result.now) = subst (λ (xs : List ℕ). Rises (shared_channels file) (led_by ds xs)) (sym own)
    (its-rises file plan.limits can c.args.total ds r best c.requires.rated.2 c.requires.total rest old s c.requires.rated.1) in
    let p = err_from_is_err_and c.from_residual.result c.from_residual.ensures.1 in
    rw (p.1, p.2)
    (spent-refusal file plan.limits can c.args.total ds r best c.requires.rated.2 c.requires.total rest old s c.requires.rated.1 c.in_err-lead_on.field-0.0
    (subst (λ (xs : List ℕ). IsSpent (shared_channels file) s.corner old.levels.bounds (visits_of s.entries ++ led_by ds xs ∷ []) c.in_err-lead_on.field-0.0) own
    (c.in_err-lead_on.ensures.spent (shared_channels file) s.corner (visits_of s.entries) rest s.frontier (sym c.requires.total) rises)))
