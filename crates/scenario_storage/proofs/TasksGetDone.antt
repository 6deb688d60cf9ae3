-- Tasks that have run.
use Rattle.std.proofs.Common.{ℕ, Option, List, Result, sym, subst}
use Rattle.sd_base.specs.declared.numbers.Fraction.{Fraction}
use Rattle.sd_base.specs.declared.tables.ScenarioFile.{ScenarioFile}
use Rattle.storage.specs.declared.distribution.Distribution.{Distribution}
use Rattle.scenario_storage.specs.declared.blocked.Blocked.{Blocked}
use Rattle.scenario_storage.specs.declared.point.ScenarioLimits.{ScenarioLimits}
use Rattle.scenario_storage.specs.declared.rated.RateError.{RateError}
use Rattle.scenario_storage.specs.declared.rated.Rated.{Rated}
use Rattle.scenario_storage.specs.inside.Levels.{HasRun, IsAnswered, IsFresh, IsPlan, IsReady}

pub ready-from : (file own : ScenarioFile) (gammas its : List (List ℕ)) (limits other : ScenarioLimits) (blocked : List Blocked) (best known : Fraction) (d : Distribution) →
    IsPlan file gammas limits → IsFresh file gammas limits best own its other blocked known d → IsReady own its other blocked d
ready-from file own gammas its limits other blocked best known d plan fresh =
    subst (λ (f : ScenarioFile). IsReady f its other blocked d) (sym fresh.file_is)
    (subst (λ (gs : List (List ℕ)). IsReady file gs other blocked d) (sym fresh.gammas_are)
    (subst (λ (l : ScenarioLimits). IsReady file gammas l blocked d) (sym fresh.limits_are) (record { plan = plan; blocked = fresh.blocked; fits = fresh.fits })))

pub done-from : (file own : ScenarioFile) (gammas its : List (List ℕ)) (limits other : ScenarioLimits) (blocked : List Blocked) (best known : Fraction) (was now : Distribution) (answer : Option (Result Rated RateError)) →
    IsFresh file gammas limits best own its other blocked known was → HasRun own other known was now answer → IsAnswered file limits best now.capacities answer
done-from file own gammas its limits other blocked best known was now answer fresh ran =
    subst (λ (d : Distribution). IsAnswered file limits best d.capacities answer) (sym ran.same)
    (subst (λ (b : Fraction). IsAnswered file limits b was.capacities answer) fresh.best_is
    (subst (λ (l : ScenarioLimits). IsAnswered file l known was.capacities answer) fresh.limits_are
    (subst (λ (f : ScenarioFile). IsAnswered f other known was.capacities answer) fresh.file_is ran.answered)))
