use Rattle.scenario_rate.proofs.chosen.+least_way.Given as goal

abbrev pub decreases-least_way : goal.decreases-least_way
decreases-least_way l = l.left
