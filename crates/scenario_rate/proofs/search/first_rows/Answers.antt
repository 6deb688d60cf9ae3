use Rattle.std.proofs.Common.{◌≡◌, List, Option, [], ◌∷◌, ◌++◌, sym, ap, subst, ◌∙◌}
use Rattle.scenario_rate.specs.declared.levels.Cell.{Cell}
use Rattle.scenario_rate.specs.inside.Searches.{AreLevels, IsLastSmall}
use Rattle.scenario_rate.proofs.SearchesGoOn.{alone, alone-small}
use Rattle.scenario_rate.proofs.search.first_rows.Goals as goal

one : (before after : List (List (Option Cell))) (row item : List (Option Cell)) → before ≡ [] → item ≡ row → after ≡ before ++ item ∷ [] → after ≡ row ∷ []
one before after row item none is pushed = pushed ∙ ap (λ (z : List (List (Option Cell))). z ++ item ∷ []) none ∙ ap (λ (z : List (Option Cell)). z ∷ []) is

pub returns-clause-levels : goal.returns-clause-levels
returns-clause-levels c = λ l w. subst (AreLevels c.args.graph.now l w) (sym (one c.new-rows.result.items c.push.new.self.items c.in_ok-row.row.items c.from_vec.result c.new-rows.ensures.items c.from_vec.ensures c.in_ok-push.ensures.items))
    (alone c.args.graph.now l w c.in_ok-row.row.items c.in_ok-row.ensures.first c.in_ok-row.ensures.size)

pub returns-clause-small : goal.returns-clause-small
returns-clause-small c = subst IsLastSmall (sym (one c.new-rows.result.items c.push.new.self.items c.in_ok-row.row.items c.from_vec.result c.new-rows.ensures.items c.from_vec.ensures c.in_ok-push.ensures.items))
    (alone-small c.args.graph.now c.in_ok-row.row.items c.in_ok-row.ensures.first)
