use Rattle.pareto_search.proofs.learning.keep.Goals as goal

pub bounding_of-requires-clause-among : goal.bounding_of-requires-clause-among
bounding_of-requires-clause-among g c = c.requires.new.among

pub bounding_of-requires-clause-flat : goal.bounding_of-requires-clause-flat
bounding_of-requires-clause-flat g c = c.requires.new.bounds
