use Rattle.std.proofs.Common.{◌≡◌, ◌+◌, ◌++◌, ◌∷◌, [], ◌<◌, ℕ, List, Some, All, length, ap, sym, ◌∙◌, subst, rules}
use Rattle.std.proofs.lemmas.Result.{err_from_is_err_and}
use Rattle.levels.specs.Visits.{led_by, visits_of}
use Rattle.levels.specs.Frontiers.{AreLedOn, IsFrontier, IsSpent, Rises}
use Rattle.explore.specs.declared.exploration.Member.{Member}
use Rattle.explore.specs.inside.Members.{evaluated_member}
use Rattle.explore.proofs.MembersStayKnown.{same-member}
use Rattle.explore.proofs.TurnsTakeLevels.{shown-known, shown-rises, spent, taken-in, total-within}
use Rattle.explore.proofs.members.take_in.Goals as goal

pub lead_on-requires-clause-channels : goal.lead_on-requires-clause-channels
lead_on-requires-clause-channels g c =
    let own : c.as_slice.result.now ≡ c.args.rated.enlarge = search rules in
    let same : c.as_slice.result.now ≡ c.requires.rated.2.0.enlarge = own ∙ c.requires.rated.2.2.enlarge in
    subst (All (λ (x : ℕ). x < length c.args.search.now.levels.channels)) (sym same)
    (shown-known (g.F.Firing.net c.args.exploring.now.net.now) c.know_laws.ensures c.requires.exploring.explorable c.args.exploring.now.limits c.args.total c.args.capacities c.requires.rated.2.0 c.requires.rated.2.1 c.requires.search.0 c.args.search.now c.requires.search.1)

pub lead_on-requires-clause-within : goal.lead_on-requires-clause-within
lead_on-requires-clause-within g c =
    total-within (g.F.Firing.net c.args.exploring.now.net.now) c.know_laws.ensures c.requires.exploring.explorable c.args.exploring.now.limits c.args.total c.args.capacities c.requires.rated.2.0 c.requires.rated.2.1 c.requires.search.0 c.args.search.now c.requires.search.1 c.requires.total

pub lead_on-requires-clause-few : goal.lead_on-requires-clause-few
lead_on-requires-clause-few g c = c.requires.search.1.frontier.few

pub returns-clause-search : goal.returns-clause-search
returns-clause-search g c = λ rest s.
    let net = g.F.Firing.net c.args.exploring.now.net.now in
    let e = c.requires.rated.2.0 in
    let old = c.args.search.now in
    let own : c.as_slice.result.now ≡ c.args.rated.enlarge = search rules in
    let same : c.as_slice.result.now ≡ c.requires.rated.2.0.enlarge = own ∙ c.requires.rated.2.2.enlarge in
    let place : c.len.result ≡ length c.args.search.now.members.items = search rules in
    let rises = shown-rises net c.know_laws.ensures c.requires.exploring.explorable c.args.exploring.now.limits c.args.total c.args.capacities e c.requires.rated.2.1 rest old s in
    let rises_here : Rises (g.F.Firing.net c.args.exploring.now.net.now).channels (led_by c.args.capacities.capacities c.as_slice.result.now) = subst (λ (xs : List ℕ). Rises net.channels (led_by c.args.capacities.capacities xs)) (sym same) rises in
    let frontier : IsFrontier (g.F.Firing.net c.args.exploring.now.net.now).channels s.corner (c.args.total + 1) (visits_of s.entries ++ led_by c.args.capacities.capacities c.requires.rated.2.0.enlarge ∷ []) rest c.lead_on.new.self =
    subst (λ (xs : List ℕ). IsFrontier net.channels s.corner (c.args.total + 1) (visits_of s.entries ++ led_by c.args.capacities.capacities xs ∷ []) rest c.lead_on.new.self) same
    (c.in_ok-lead_on.ensures.frontier net.channels s.corner (visits_of s.entries) rest s.frontier (sym c.requires.total) rises_here) in
    let on : AreLedOn (g.F.Firing.net c.args.exploring.now.net.now).channels c.args.search.now.levels.bounds.total (led_by c.args.capacities.capacities c.requires.rated.2.0.enlarge) (Some (length c.args.search.now.members.items)) c.args.search.now.levels.waiting c.lead_on.new.self.waiting =
    subst (λ (n : ℕ). AreLedOn net.channels old.levels.bounds.total (led_by c.args.capacities.capacities e.enlarge) (Some n) old.levels.waiting c.lead_on.new.self.waiting) place
    (subst (λ (xs : List ℕ). AreLedOn net.channels old.levels.bounds.total (led_by c.args.capacities.capacities xs) (Some c.len.result) old.levels.waiting c.lead_on.new.self.waiting) same
    (c.in_ok-lead_on.ensures.waiting net.channels s.frontier.over (sym c.requires.total) rises_here)) in
    let members : c.push.new.self.items ≡ c.args.search.now.members.items ++ evaluated_member c.args.capacities c.requires.rated.2.0 ∷ [] =
    c.in_ok-push.ensures.items ∙ ap (λ (m : Member). c.args.search.now.members.items ++ m ∷ []) (c.in_ok-member.ensures.member ∙ sym (same-member c.args.capacities c.requires.rated.0 e c.args.rated c.requires.rated.2.2)) in
    taken-in net c.know_laws.ensures c.requires.exploring.explorable c.args.exploring.now.limits c.args.total c.args.capacities e c.requires.rated.2.1 rest old s
    _ members (c.in_ok-member.ensures.known c.args.exploring.now.limits.states old.members.items s.entries c.requires.rated.0 e c.requires.rated.2.1 c.requires.rated.2.2 c.requires.rated.1 s.known) frontier c.lead_on.ensures.same on

pub returns-in_err-lead_on-clause-refused : goal.returns-in_err-lead_on-clause-refused
returns-in_err-lead_on-clause-refused g c =
    let net = g.F.Firing.net c.args.exploring.now.net.now in
    let e = c.requires.rated.2.0 in
    let old = c.args.search.now in
    let s = c.requires.search.1 in
    let own : c.as_slice.result.now ≡ c.args.rated.enlarge = search rules in
    let same : c.as_slice.result.now ≡ c.requires.rated.2.0.enlarge = own ∙ c.requires.rated.2.2.enlarge in
    let rises = shown-rises net c.know_laws.ensures c.requires.exploring.explorable c.args.exploring.now.limits c.args.total c.args.capacities e c.requires.rated.2.1 c.requires.search.0 old s in
    let p = err_from_is_err_and c.from_residual.result c.from_residual.ensures.1 in
    rw (p.1, p.2)
    (spent net c.know_laws.ensures c.requires.exploring.explorable c.args.exploring.now.limits c.args.total c.args.capacities e c.requires.rated.2.1 c.requires.search.0 old s c.in_err-lead_on.field-0.0
    (subst (λ (xs : List ℕ). IsSpent net.channels s.corner old.levels.bounds (visits_of s.entries ++ led_by c.args.capacities.capacities xs ∷ []) c.in_err-lead_on.field-0.0) same
    (c.in_err-lead_on.ensures.spent net.channels s.corner (visits_of s.entries) c.requires.search.0 s.frontier (sym c.requires.total)
    (subst (λ (xs : List ℕ). Rises net.channels (led_by c.args.capacities.capacities xs)) (sym same) rises))))
