-- Runs of `complete` and of `expand` are done.
use Rattle.std.proofs.Common.{◌≡◌, ℕ, Bool, true, List, Option, Ok, sym, subst, IsSome}
use Rattle.sd_base.specs.declared.tables.GraphFile.{GraphFile}
use Rattle.sd_base.specs.Net.{Net}
use Rattle.sd_base.specs.FileNet.{net_of}
use Rattle.storage.specs.BoundedNets.{bound}
use Rattle.storage.specs.NamedBuffers.{Buffer, capacities_of}
use Rattle.sd_words.proofs.AskedNumbersFit.{asked_within}
use Rattle.sd_words.specs.declared.request.Request.TheVariants.{Complete, Expand}
use Rattle.sd_words.specs.Asked.{request_of}
use Rattle.balance.specs.Repetition.{IsRound}
use Rattle.graph_reader.specs.Laws.{Gives}
use Rattle.report.specs.declared.refusal.Refusal.{Refusal}
use Rattle.std.specs.Prelude.{Some}
use Rattle.sd_io.specs.Outside.{Files, file_under}
use Rattle.sd_command.specs.declared.commands.wanted.WantedRounds.{WantedRounds}
use Rattle.sd_steps.specs.Courses.{Ending, Ended, Refused}
use Rattle.sd_laws.specs.Endings.{CompleteIsComplete, ExpandIsComplete, Repeats}
use Rattle.sd_command.specs.commands.Expansions.{expanding, expansion_on}
use Rattle.sd_command.specs.commands.LeastTimes.{time_on}
use Rattle.sd_steps.specs.Nets.{testing}
use Rattle.sd_command.specs.Requests.{course_of}
use Rattle.sd_laws.proofs.BoundedPaths.{IsOnNet, lawful_on, on_the_net}
use Rattle.sd_laws.proofs.CommandsDecide.{IsPast, goes_past}
use Rattle.sd_laws.proofs.DecidedRunsEnd.{else_is_done}
use Rattle.sd_laws.proofs.OneRate.{unrefused}
use Rattle.sd_laws.proofs.RequestsGoOn.{of_request}
use Rattle.sd_laws.proofs.SharedSteps.{FileLaws}

module _ (words : List (List ℕ)) (shelf : Files) (tells : IsSome shelf) (name : List ℕ) (rounds : ℕ) (buffers : List Buffer) (no_overlap : Bool) (states : ℕ)
    (asked : request_of words ≡ Ok (Complete name rounds buffers no_overlap states)) where
  abbrev wanted : WantedRounds
  wanted = record { no_overlap = no_overlap; states = states; rounds = rounds }

  on_time : (ending : Ending) (n : ℕ) → IsPast ending n → course_of words shelf ending n → IsOnNet shelf name buffers no_overlap (time_on wanted) ending n
  on_time ending n past came =
      on_the_net shelf name buffers no_overlap (time_on wanted) ending n past (of_request words shelf (Complete name rounds buffers no_overlap states) asked ending n past came)

  -- nothing ends it but what words and files decide
  unended : (r : Refusal) (n : ℕ) → course_of words shelf (Ended r) n → ⊥
  unended r n ended =
      let on = on_time (Ended r) n tt ended in
      (goes_past (testing on.graph (bound (net_of on.graph on.gamma no_overlap) on.distribution.capacities)) _ (Ended r) n tt on.came).2

  -- nor does anything refuse it after executions, where the net repeats a shape
  late_refusal : FileLaws → ((bytes gamma : List ℕ) (graph : GraphFile) → file_under shelf name ≡ Some bytes → Gives bytes true graph → IsRound graph gamma
      → Repeats (bound (net_of graph gamma no_overlap) (capacities_of graph.channels buffers)) states) → (r : Refusal) (n : ℕ) → (n ≡ 0 → ⊥) → course_of words shelf (Refused r) n → ⊥
  late_refusal laws repeats r n late due =
      let on = on_time (Refused r) n late due in
      let net : Net = bound (net_of on.graph on.gamma no_overlap) on.distribution.capacities in
      let live = goes_past (testing on.graph net) _ (Refused r) n late on.came in
      let small = (asked_within words (Complete name rounds buffers no_overlap states) asked).0 in
      unrefused laws.nets net (lawful_on laws shelf name buffers no_overlap on.graph on.gamma on.distribution small on.file) states live.1.2.1
      (subst (λ (ds : List (Option ℕ)). Repeats (bound (net_of on.graph on.gamma no_overlap) ds) states) (sym on.file.capacities.named)
      (repeats on.file.bytes on.gamma on.graph (on.file.taken.told tells) on.file.given on.file.round)) r live.2.1

pub complete_is_complete : FileLaws → CompleteIsComplete
complete_is_complete laws run cut name rounds buffers no_overlap states good asked early repeats =
    else_is_done run cut good
    (λ r n due. late_refusal run.words run.outside.shelf.files good.told name rounds buffers no_overlap states asked laws repeats r n
    (λ e. early r (subst (λ (k : ℕ). course_of run.words run.outside.shelf.files (Refused r) k) e due)) due)
    (unended run.words run.outside.shelf.files good.told name rounds buffers no_overlap states asked)

expand_never_ends : (words : List (List ℕ)) (shelf : Files) (name output : List ℕ) (buffers : List Buffer) (no_overlap : Bool) → request_of words ≡ Ok (Expand name output buffers no_overlap)
    → (r : Refusal) (n : ℕ) → course_of words shelf (Ended r) n → ⊥
expand_never_ends words shelf name output buffers no_overlap asked r n ended =
    let came = of_request words shelf (Expand name output buffers no_overlap) asked (Ended r) n tt ended in
    let on = on_the_net shelf name buffers no_overlap (expansion_on output) (Ended r) n tt came in
    (goes_past (expanding (bound (net_of on.graph on.gamma no_overlap) on.distribution.capacities) on.graph) _ (Ended r) n tt on.came).2

pub expand_is_complete : ExpandIsComplete
expand_is_complete run cut name output buffers no_overlap good asked unrefused =
    else_is_done run cut good unrefused (expand_never_ends run.words run.outside.shelf.files name output buffers no_overlap asked)
