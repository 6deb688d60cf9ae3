-- The words and files decide the command `scenario`.
use Rattle.std.proofs.Common.{◌≡◌, ℕ, suc, ◌<◌, false, List, [], ◌∷◌, length, Option, Some, IsSome, refl, sym, ap, ap₂, subst, ◌∙◌, arith}
use Rattle.std.specs.Prelude.{slice_get, slice_index_or}
use Rattle.sd_base.specs.declared.tables.GraphFile.{GraphFile}
use Rattle.sd_base.specs.declared.tables.ScenarioFile.{ScenarioFile}
use Rattle.sd_base.specs.declared.tables.ScenarioRow.{ScenarioRow}
use Rattle.sd_base.specs.declared.tables.SharedRow.{SharedRow}
use Rattle.sd_base.specs.Tables.{KeepsRules, IsTimed}
use Rattle.sd_base.specs.Scenarios.{FileKeepsRules, ScenarioKeepsRules}
use Rattle.sd_base.specs.FileNet.{net_of}
use Rattle.sd_base.specs.Lawful.{Lawful}
use Rattle.sd_base.proofs.ElementsKeepPlaces.{get-there}
use Rattle.graph_reader.specs.declared.error.ReadError.{ReadError}
use Rattle.scenario_reader.specs.ScenarioFiles.{HasOneFile, HasOneFileFault, ReadFileHasNoFault, ReadFileKeepsRules}
use Rattle.token_matrix.specs.Matrices.{IsMatrix}
use Rattle.automaton.specs.declared.graph.TimedGraph.{TimedGraph}
use Rattle.balance.specs.Repetition.{IsRound}
use Rattle.report.specs.declared.refusal.Refusal.{Refusal}
use Rattle.sd_io.specs.Outside.{Files}
use Rattle.sd_steps.specs.Readings.{reading_refusal}
use Rattle.sd_steps.specs.Balancings.{balancing}
use Rattle.sd_steps.specs.Nets.{feeding}
use Rattle.sd_steps.specs.ScenarioSteps.{Entries, IsMade, IsUnmade, stamps, blocked, making_matrix, measuring_graph, measuring_one, AreMeasured, measuring, linking, timing, opening_scenarios, reading_scenarios}
use Rattle.sd_steps.specs.declared.file_kind.FileKind.TheVariants.{Graph}
use Rattle.sd_steps.specs.Takings.{taking}
use Rattle.sd_command.specs.commands.WorstRates.{telling_worst, worst_of}
use Rattle.sd_laws.proofs.CommandsDecide.{Determines, Decides, DecidesLast, after_decides, last_decides, through_determines, naming_determines}
use Rattle.sd_laws.proofs.FirstWithouts.{one_first}
use Rattle.sd_laws.proofs.OneRate.{feeding_determines, completing_determines}
use Rattle.sd_laws.proofs.SharedSteps.{FileLaws, balancing_determines, taking_determines}
use Rattle.escapes.specs.EscapedNames.{escaped_name}
use Rattle.sd_steps.specs.Courses.{through}

-- what is known of files of scenarios and of matrices
pub record ScenarioLaws : Type 0 where
  pub file : HasOneFile
  pub fault : HasOneFileFault
  pub either : ReadFileHasNoFault
  pub keeps : ReadFileKeepsRules
  pub one_matrix : (shared : List SharedRow) (g : GraphFile) (gamma : List ℕ) (m n : Entries) → IsMatrix shared g gamma m → IsMatrix shared g gamma n → m ≡ n

same_entries : (xs ys : List Entries) → length xs ≡ length ys → ((k : ℕ) → k < length xs → slice_index_or xs k [] ≡ slice_index_or ys k []) → xs ≡ ys
same_entries [] [] long same = refl
same_entries [] (y ∷ ys) long same = absurd (omega (arith, long))
same_entries (x ∷ xs) [] long same = absurd (omega (arith, long))
same_entries (x ∷ xs) (y ∷ ys) long same = ap₂ (λ a as'. a ∷ as') (same 0 (omega arith)) (same_entries xs ys (omega (arith, long)) (λ k below. same (suc k) (omega arith)))

module _ (facts : FileLaws) (laws : ScenarioLaws) where
  pub reading_file_determines : (bytes : List ℕ) → Determines (reading_scenarios bytes)
  reading_file_determines bytes = record {
    one = λ f g is also. laws.file bytes f g is also;
    refusal = λ r s is also. is.told ∙ ap (λ (e : ReadError). reading_refusal e) (laws.fault bytes is.error also.error is.some also.some is.first also.first) ∙ sym also.told;
    never = λ r f is given. laws.either bytes f is.error is.some given is.first;
  }

  pub opening_file_determines : (shelf : Files) → IsSome shelf → (name : List ℕ) → Determines (opening_scenarios shelf name)
  opening_file_determines shelf tells name =
      through_determines (taking shelf Graph name) (λ bytes. reading_scenarios bytes) (taking_determines shelf tells Graph name) (λ bytes taken. reading_file_determines bytes)

  making_determines : (shared : List SharedRow) (graph : GraphFile) (gamma : List ℕ) → Lawful (net_of graph gamma false) → Determines (making_matrix shared graph gamma)
  making_determines shared graph gamma lawful =
      let completing = completing_determines facts.nets (net_of graph gamma false) lawful graph in
      record { one = λ m n is also. laws.one_matrix shared graph gamma m n is.is also.is; refusal = one_unmade completing; never = never_made completing }
    where
      one_unmade : Determines (Rattle.sd_steps.specs.Nets.completing graph (net_of graph gamma false)) → (r s : Refusal) → IsUnmade shared graph gamma r → IsUnmade shared graph gamma s → r ≡ s
      one_unmade d r s (stamps many p) (stamps also q) = p ∙ sym q
      one_unmade d r s (stamps many p) (blocked few is) = absurd (omega (arith, many, few))
      one_unmade d r s (blocked few is) (stamps many p) = absurd (omega (arith, many, few))
      one_unmade d r s (blocked few is) (blocked also is') = d.refusal r s is is'

      never_made : Determines (Rattle.sd_steps.specs.Nets.completing graph (net_of graph gamma false)) → (r : Refusal) (m : Entries) → IsUnmade shared graph gamma r → IsMade shared graph gamma m → ⊥
      never_made d r m (stamps many p) made = let few = made.few in omega (arith, many, few)
      never_made d r m (blocked few is) made = d.never r tt is made.live

  graph_determines : (shared : List SharedRow) (graph : GraphFile) → KeepsRules graph → IsTimed graph → Determines (measuring_graph shared graph)
  graph_determines shared graph rules timed =
      let lawful : (gamma : List ℕ) → IsRound graph gamma → Lawful (net_of graph gamma false) = λ gamma round. facts.lawful graph gamma false rules timed round.least round.fits in
      through_determines (balancing graph) (λ gamma. through (feeding graph (net_of graph gamma false)) (λ fed. making_matrix shared graph gamma)) (balancing_determines facts graph rules) (λ gamma round.
      through_determines (feeding graph (net_of graph gamma false)) (λ fed. making_matrix shared graph gamma) (feeding_determines facts.nets (net_of graph gamma false) (lawful gamma round) graph) (λ fed is.
      making_determines shared graph gamma (lawful gamma round)))

  one_determines : (shared : List SharedRow) (s : ScenarioRow) → ScenarioKeepsRules shared s → Determines (measuring_one shared s)
  one_determines shared s rules = naming_determines (escaped_name s.name) (measuring_graph shared s.graph) (graph_determines shared s.graph rules.rules rules.timed)

  module _ (file : ScenarioFile) (rules : FileKeepsRules file) where
    each : (s : ℕ) (row : ScenarioRow) → slice_get file.scenarios s ≡ Some row → Determines (measuring_one file.shared row)
    each s row at = one_determines file.shared row (rules.scenarios s row at)

    one_measure : (ms ns : List Entries) → AreMeasured file ms → AreMeasured file ns → ms ≡ ns
    one_measure ms ns is also = same_entries ms ns (is.all ∙ sym also.all) (λ k below.
        let row = get-there file.scenarios k (subst (λ n. k < n) is.all below) in
        (each k row.0 row.1).one (slice_index_or ms k []) (slice_index_or ns k []) (is.each k row.0 row.1) (also.each k row.0 row.1))

    measuring_determines : Determines (measuring file)
    measuring_determines = record {
      one = one_measure;
      refusal = one_first (measuring_one file.shared) file each;
      never = λ r ms is measured. (each is.place is.row is.at).never r (slice_index_or ms is.place []) is.is (measured.each is.place is.row is.at);
    }

    linking_determines : (ms : List Entries) → Determines (linking file ms)
    linking_determines ms = record {
      one = λ g h is also. λ i. record {
        tokens = (is.is.tokens ∙ sym also.is.tokens) i;
        initial = (is.is.initial ∙ sym also.is.initial) i;
        states = (is.is.states ∙ sym also.is.states) i;
        edges = (is.is.edges ∙ sym also.is.edges) i;
      };
      refusal = λ r s is also. is.told ∙ sym also.told;
      never = λ r g is linked.
          let many = is.many in
          let few = linked.few in
          let same = ap length linked.is.edges in
          omega (arith, many, few, same);
    }

    pub timing_determines : Determines (timing file)
    timing_determines = through_determines (measuring file) (λ ms. linking file ms) measuring_determines (λ ms measured. linking_determines ms)

    tells : (certificate : Option (List ℕ)) (graph : TimedGraph) → DecidesLast (telling_worst file certificate graph)
    tells certificate graph = record { one = λ r s n m is also. absurd is; no_answer = λ r answer n m is also. is; no_end = λ r s n m is also. is }

    pub worst_decides : (certificate : Option (List ℕ)) → Decides (worst_of certificate file)
    worst_decides certificate =
        after_decides (timing file) _ timing_determines (λ graph timed.
        last_decides (telling_worst file certificate graph) (tells certificate graph))
