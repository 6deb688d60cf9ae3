use Rattle.std.proofs.Common.{◌+◌, ◌∷◌, refl, sym, ap}
use Rattle.std.proofs.lemmas.List.Elements.{Contains-append_right}
use Rattle.levels.specs.Visits.{visited, visits_of}
use Rattle.sd_base.proofs.ContainedHavePlaces.{contains-here}
use Rattle.evaluations.specs.Evaluating.{least_loops, most_loops}
use Rattle.explore.specs.inside.Members.{member_of}
use Rattle.explore.proofs.VisitsMatchMembers.{search-candidate}
use Rattle.explore.proofs.members.take_answer.Goals as goal

pub take_in-requires-clause-rated : goal.take_in-requires-clause-rated
take_in-requires-clause-rated g c = (c.requires.answer.0, c.requires.answer.1, rw c.in-Ok.is at c.requires.answer.2.answer)

pub take_in-requires-clause-total : goal.take_in-requires-clause-total
take_in-requires-clause-total g c = c.requires.answer.2.storage

pub returns-in_ok-take_in-in-Ok-clause-member : goal.returns-in_ok-take_in-in-Ok-clause-member
returns-in_ok-take_in-in-Ok-clause-member g c = record {
  member = member_of c.args.answered.capacities c.in-Ok.rated;
  added = c.in_ok-take_in-in-Ok.ensures.members;
  capacities = refl;
  least = sym (ap least_loops c.in-Ok.is);
  most = sym (ap most_loops c.in-Ok.is);
}

pub returns-in-Err-clause-refused : goal.returns-in-Err-clause-refused
returns-in-Err-clause-refused g c =
    let net = g.F.Firing.net c.args.exploring.now.net.now in
    let search = c.requires.search in
    let limits = c.args.exploring.now.limits in
    c.refusal.ensures net limits (search-candidate net c.requires.exploring.explorable limits (c.args.total + 1) (c.args.answered.capacities.capacities ∷ search.0) c.args.search.now search.1 c.args.answered.capacities.capacities
    (Contains-append_right (visited (visits_of search.1.entries)) (c.args.answered.capacities.capacities ∷ search.0) c.args.answered.capacities.capacities (contains-here c.args.answered.capacities.capacities search.0))).reachable
    (rw c.in-Err.is at c.requires.answer.2.answer)
