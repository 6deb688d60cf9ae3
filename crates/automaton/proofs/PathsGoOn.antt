-- Paths go on where each state leads to states.
use Rattle.std.proofs.Common.{◌≡◌, ℕ, ◌<◌, List, length, Some}
use Rattle.std.specs.Prelude.{All, slice_get}
use Rattle.std.proofs.lemmas.Option.{slice_get-get_or}
use Rattle.sd_base.specs.declared.tables.ScenarioFile.{ScenarioFile}
use Rattle.sd_base.specs.Scenarios.{LeadsOn}
use Rattle.sd_base.proofs.ElementsKeepPlaces.{all-get}
use Rattle.automaton.specs.inside.Leading.{Leads}

get-all : {X : Type 0} (P : X → Type 0) (xs : List X) → ((i : ℕ) (x : X) → slice_get xs i ≡ Some x → P x) → All P xs
get-all P xs each k d below = each k _ (slice_get-get_or xs k d below)

pub lead_on : (file : ScenarioFile) → file.initial < length file.states → All (Leads (length file.scenarios) (length file.states)) file.states → LeadsOn file
lead_on file first all = record {
  initial = first;
  scenarios = λ q s at. (all-get (Leads (length file.scenarios) (length file.states)) file.states q s all at).runs;
  next = λ q s at. (all-get (Leads (length file.scenarios) (length file.states)) file.states q s all at).some;
  known = λ q p r s at there. all-get (λ (n : ℕ). n < length file.states) s.next p r (all-get (Leads (length file.scenarios) (length file.states)) file.states q s all at).known there;
}

pub all_lead : (file : ScenarioFile) → LeadsOn file → All (Leads (length file.scenarios) (length file.states)) file.states
all_lead file leads = get-all (Leads (length file.scenarios) (length file.states)) file.states (λ q s at. record {
  runs = leads.scenarios q s at;
  some = leads.next q s at;
  known = get-all (λ (n : ℕ). n < length file.states) s.next (λ p r there. leads.known q p r s at there);
})
