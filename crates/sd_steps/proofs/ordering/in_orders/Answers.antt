use Rattle.std.proofs.Common.{arith, rules}
use Rattle.ordered.proofs.CountedActors.{count-below}
use Rattle.sd_steps.specs.Orderings.{unknown, elsewhere, count, pairs}
use Rattle.sd_steps.proofs.ordering.in_orders.Goals as goal

pub returns-in_ok-escaped-in-Err-Unknown : goal.returns-in_ok-escaped-in-Err-Unknown
returns-in_ok-escaped-in-Err-Unknown c = unknown c.in-Err-Unknown.name (search rules) (search rules)

pub returns-in_ok-escaped-in-Err-Elsewhere : goal.returns-in_ok-escaped-in-Err-Elsewhere
returns-in_ok-escaped-in-Err-Elsewhere c = elsewhere c.in-Err-Elsewhere.name (search rules) (search rules)

pub name_of-requires : goal.name_of-requires
name_of-requires c = count-below c.args.graph.now.actors c.args.gamma.now c.args.lists.now c.in-Err-Count.actor c.in-Err-Count.found (search rules)

pub bounds-gamma-actor : goal.bounds-gamma-actor
bounds-gamma-actor c = omega (arith, c.requires.gamma, count-below c.args.graph.now.actors c.args.gamma.now c.args.lists.now c.in-Err-Count.actor c.in-Err-Count.found (search rules))

pub returns-in_ok-name_of-in-Err-Count : goal.returns-in_ok-name_of-in-Err-Count
returns-in_ok-name_of-in-Err-Count c = count c.in-Err-Count.actor c.in-Err-Count.found (search rules) (search rules)

pub returns-in_ok-above-in-Err-TooManyPairs : goal.returns-in_ok-above-in-Err-TooManyPairs
returns-in_ok-above-in-Err-TooManyPairs c = pairs (search rules) c.in_ok-above-in-Err-TooManyPairs.ensures
