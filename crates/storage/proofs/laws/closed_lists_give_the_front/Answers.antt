use Rattle.storage.specs.ClosedLists.{entry_at}
use Rattle.storage.proofs.MembersCover.{covered, net-above, net-bounds}
use Rattle.storage.proofs.FrontsFromMembers.{front-over}
use Rattle.storage.proofs.laws.closed_lists_give_the_front.Goals as goal

pub returns-clause-covers : goal.returns-clause-covers
returns-clause-covers c = λ net limit t p q es ds laws closed reaches. covered net laws limit es closed t p q ds reaches

pub returns-clause-front : goal.returns-clause-front
returns-clause-front c = λ net limit es pairs laws closed over. front-over net laws limit es pairs closed over

pub returns-clause-nets : goal.returns-clause-nets
returns-clause-nets c = λ net limit es laws closed. record {
  corner = closed.corner;
  is_corner = closed.is_corner;
  start = closed.start;
  distributions = closed.distributions;
  grid = closed.grid;
  within = closed.within;
  next = closed.next;
  positive = closed.positive;
  above = net-above net laws limit closed.corner closed.is_corner;
  bounds = λ i below. net-bounds net laws limit (entry_at es i) (closed.bounds i below);
}
