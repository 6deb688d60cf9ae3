-- The matrices of the scenarios of a file, one after another, and its timed graph.
use Rattle.std.proofs.Common.{◌≡◌, ℕ, zero, suc, ◌+◌, ◌<◌, ◌≤◌, false, List, [], ◌∷◌, ◌++◌, length, Option, Some, Ok, Err, refl, sym, ap, subst, ◌∙◌, arith, inl, inr}
use Rattle.std.proofs.lemmas.Bool.{cases_lt}
use Rattle.std.proofs.lemmas.List.{length_push}
use Rattle.std.specs.Prelude.{slice_get, slice_index_or}
use Rattle.std.proofs.lemmas.Option.{slice_get_within}
use Rattle.sd_base.specs.declared.tables.ScenarioFile.{ScenarioFile}
use Rattle.sd_base.specs.declared.tables.ScenarioRow.{ScenarioRow}
use Rattle.sd_base.specs.Scenarios.{FileKeepsRules, LeadsOn, shared_count}
use Rattle.sd_base.specs.FileNet.{net_of}
use Rattle.sd_base.proofs.FileNets.{widened}
use Rattle.sd_base.proofs.ElementsKeepPlaces.{get-there}
use Rattle.token_matrix.specs.EntryWays.{CarriesStamps}
use Rattle.bounded_scenarios.proofs.FirstTokens.{some-shared}
use Rattle.automaton.specs.TimedGraphs.{AreKept, AreMatrices, AreSized, IsRun}
use Rattle.automaton.proofs.KeptMatricesSuffice.{kept-more, kept-sized, matrices-sized}
use Rattle.sd_steps.specs.declared.stop.Stop.{Stop}
use Rattle.sd_steps.specs.ScenarioSteps.{Entries, measuring_one, AreMeasured, measuring}
use Rattle.sd_steps.specs.Steps.{Does}
use Rattle.sd_steps.specs.inside.Measuring.{Measures}
use Rattle.sd_steps.proofs.PathsConnectNets.{fed-inputs}
use Rattle.sd_steps.proofs.ScenarioWalks.{first_stops}

-- ---- one scenario after another

pub record AreSoFar (file : ScenarioFile) (matrices : List Entries) (i : ℕ) : Type 0 where
  pub long : length matrices ≡ i
  pub each : (s : ℕ) (row : ScenarioRow) → s < i → slice_get file.scenarios s ≡ Some row → (measuring_one file.shared row).passes (slice_index_or matrices s [])

push-old : (ms : List Entries) (m : Entries) (s : ℕ) → s < length ms → slice_index_or (ms ++ m ∷ []) s [] ≡ slice_index_or ms s []
push-old [] m s below = absurd (omega (arith, below))
push-old (x ∷ ms) m zero below = refl
push-old (x ∷ ms) m (suc s) below = push-old ms m s (omega arith)

push-new : (ms : List Entries) (m : Entries) (s : ℕ) → s ≡ length ms → slice_index_or (ms ++ m ∷ []) s [] ≡ m
push-new [] m zero is = refl
push-new [] m (suc s) is = absurd (omega (arith, is))
push-new (x ∷ ms) m zero is = absurd (omega (arith, is))
push-new (x ∷ ms) m (suc s) is = push-new ms m s (omega (arith, is))

module _ (file : ScenarioFile) where
  pub more : (ms new : List Entries) (m : Entries) (i : ℕ) (row : ScenarioRow) → AreSoFar file ms i → slice_get file.scenarios i ≡ Some row → (measuring_one file.shared row).passes m → new ≡ ms ++ m ∷ [] → AreSoFar file new (i + 1)
  more ms new m i row so_far at passes is = subst (λ xs. AreSoFar file xs (i + 1)) (sym is) (record {
    long = length_push ms m ∙ ap (λ n. n + 1) so_far.long;
    each = λ s r below here. elim (cases_lt s i) [
      | inl before ↦
          let old : s < length ms = omega (arith, so_far.long, before) in
          subst (measuring_one file.shared r).passes (sym (push-old ms m s old)) (so_far.each s r before here)
      | inr after ↦
          let last : s ≡ i = omega arith in
          let e : ◌≡◌ {A = Option ScenarioRow} (Some row) (Some r) = sym at ∙ ap (slice_get file.scenarios) (sym last) ∙ here in
          let same : row ≡ r = cc (e) in
          subst (measuring_one file.shared r).passes (sym (push-new ms m s (last ∙ sym so_far.long))) (subst (λ x. (measuring_one file.shared x).passes m) same passes)
    ];
  })

  pub stops : (ms : List Entries) (i : ℕ) (row : ScenarioRow) (why : Stop) → AreSoFar file ms i → slice_get file.scenarios i ≡ Some row → Does (measuring_one file.shared row) (Err why) → Does (measuring file) (Err why)
  stops ms i row why so_far at =
      first_stops (measuring_one file.shared) file (λ matrices. AreMeasured file matrices) i row why (λ s r before here. (slice_index_or ms s [], so_far.each s r before here)) at

  pub all : (ms : List Entries) (i : ℕ) → i ≡ length file.scenarios → AreSoFar file ms i → AreMeasured file ms
  all ms i whole so_far = record {
    all = so_far.long ∙ whole;
    each = λ s row at. so_far.each s row (subst (λ n. s < n) (sym whole) (slice_get_within file.scenarios s row at)) at;
  }

-- ---- those that are kept of them

pub record AreKeptSoFar (file : ScenarioFile) (kept : List Entries) (i : ℕ) : Type 0 where
  pub matrices : List Entries
  pub so_far : AreSoFar file matrices i
  pub are : AreKept file matrices kept

module _ (file : ScenarioFile) where
  pub kept_more : (kept new : List Entries) (m k : Entries) (n i : ℕ) (row : ScenarioRow) → AreKeptSoFar file kept i → slice_get file.scenarios i ≡ Some row
      → (measuring_one file.shared row).passes m → n ≡ length kept → (IsRun file n → k ≡ m) → new ≡ kept ++ k ∷ [] → AreKeptSoFar file new (i + 1)
  kept_more kept new m k n i row so_far at passes number run is = record {
    matrices = so_far.matrices ++ m ∷ [];
    so_far = more file so_far.matrices (so_far.matrices ++ m ∷ []) m i row so_far.so_far at passes refl;
    are = subst (AreKept file (so_far.matrices ++ m ∷ [])) (sym is)
        (kept-more file so_far.matrices kept m k so_far.are (λ its. run (subst (IsRun file) (sym so_far.are.long ∙ sym number) its)));
  }

  pub kept_all : (kept : List Entries) (i : ℕ) → i ≡ length file.scenarios → AreKeptSoFar file kept i → Measures file (Ok kept)
  kept_all kept i whole so_far = (so_far.matrices, all file so_far.matrices i whole so_far.so_far, so_far.are)

-- ---- what measured scenarios give

module _ (file : ScenarioFile) (ms : List Entries) (measured : AreMeasured file ms) where
  pub matrices : AreMatrices file ms
  matrices = record {
    all = measured.all;
    each = λ s row at. let passed = measured.each s row at in (passed.0, passed.1.least, passed.2.2.is);
  }

  pub sized : LeadsOn file → (kept : List Entries) → AreKept file ms kept → AreSized (shared_count file.shared) kept file.states
  sized leads kept are = kept-sized file ms kept (shared_count file.shared) are (matrices-sized file ms leads matrices)

-- a measured file shares some token
pub file_some : (file : ScenarioFile) (ms : List Entries) → AreMeasured file ms → FileKeepsRules file → 1 ≤ shared_count file.shared
file_some file ms measured rules =
    let first = get-there file.scenarios 0 (let g : 0 < length file.scenarios = omega (arith, rules.some_scenario) in g) in
    let kept = rules.scenarios 0 first.0 first.1 in
    let passed = measured.each 0 first.0 first.1 in
    let carries : CarriesStamps file.shared first.0.graph passed.0 = record {
      rules = widened first.0.graph kept.rules;
      kind = kept.kind;
      timed = kept.timed;
      gives = passed.1.least;
      small = passed.1.fits;
      shares = kept.shares;
    } in
    some-shared file.shared first.0.graph passed.0 carries passed.2.2.live (fed-inputs (net_of first.0.graph passed.0 false) passed.2.1)
