-- A run of `throughput` whose net repeats a shape is done.
use Rattle.std.proofs.Common.{◌≡◌, ℕ, Bool, true, List, Option, Some, None, IsSome, Ok, sym, subst, arith}
use Rattle.sd_base.specs.declared.tables.GraphFile.{GraphFile}
use Rattle.sd_base.specs.Net.{Net}
use Rattle.sd_base.specs.FileNet.{net_of}
use Rattle.storage.specs.BoundedNets.{bound}
use Rattle.storage.specs.NamedBuffers.{Buffer, capacities_of}
use Rattle.sd_words.proofs.AskedNumbersFit.{asked_within}
use Rattle.sd_words.specs.declared.request.Request.TheVariants.{Throughput}
use Rattle.sd_words.specs.Asked.{request_of}
use Rattle.graph_reader.specs.Laws as files
use Rattle.balance.specs.Repetition.{IsRound}
use Rattle.report.specs.declared.refusal.Refusal.{Refusal}
use Rattle.sd_io.specs.Outside.{Files, file_under}
use Rattle.sd_steps.specs.Courses.{Ending, Refused, Ended}
use Rattle.sd_steps.specs.Nets.{testing}
use Rattle.sd_command.specs.commands.Throughputs.{rate_on}
use Rattle.sd_command.specs.Requests.{course_of}
use Rattle.sd_laws.specs.Endings.{RateCertificatesFit, Repeats, ThroughputIsComplete}
use Rattle.cert_text.specs.declared.certificates.Certificate.{Certificate}
use Rattle.sd_steps.specs.Certifyings.{AreShort, IsTooLong}
use Rattle.sd_command.specs.declared.commands.wanted.WantedRate.{WantedRate}
use Rattle.sd_laws.proofs.BoundedPaths.{IsOnNet, lawful_on, on_the_net}
use Rattle.sd_laws.proofs.CommandsDecide.{IsPast, goes_past}
use Rattle.sd_laws.proofs.OneRate.{unrefused}
use Rattle.sd_laws.proofs.RequestsGoOn.{of_request}
use Rattle.sd_laws.proofs.SharedSteps.{FileLaws}
use Rattle.sd_laws.proofs.DecidedRunsEnd.{else_is_done}

-- certificates that are short enough aren't too long
pub short-enough : (certificate : Option (List ℕ)) (shows : Certificate → Type 0) (r : Refusal) → AreShort certificate shows → IsTooLong certificate shows r → ⊥
short-enough None shows r short long = long
short-enough (Some name) shows r short (c, is, long) = let most = short c is in omega (arith, most, long.0)

module _ (words : List (List ℕ)) (shelf : Files) (name : List ℕ) (buffers : List Buffer) (no_overlap : Bool) (states : ℕ) (certificate : Option (List ℕ)) (asked : request_of words ≡ Ok (Throughput name buffers no_overlap states certificate)) where
  abbrev net_from : List ℕ → GraphFile → List (Option ℕ) → Net
  net_from gamma graph ds = bound (net_of graph gamma no_overlap) ds

  abbrev wanted : WantedRate
  wanted = record { no_overlap = no_overlap; states = states; certificate = certificate }

  -- the net of the file repeats a shape, and its certificates fit
  abbrev Suffices : Type 0
  Suffices = (bytes gamma : List ℕ) (graph : GraphFile) → file_under shelf name ≡ Some bytes → files.Gives bytes true graph → IsRound graph gamma
      → Repeats (net_from gamma graph (capacities_of graph.channels buffers)) states
      × RateCertificatesFit (net_from gamma graph (capacities_of graph.channels buffers)) (capacities_of graph.channels buffers) wanted

  on_rate : (ending : Ending) (n : ℕ) → IsPast ending n → course_of words shelf ending n → IsOnNet shelf name buffers no_overlap (rate_on wanted) ending n
  on_rate ending n past came =
      on_the_net shelf name buffers no_overlap (rate_on wanted) ending n past (of_request words shelf (Throughput name buffers no_overlap states certificate) asked ending n past came)

  -- nothing ends it but what words and files decide
  unended : IsSome shelf → Suffices → (r : Refusal) (n : ℕ) → course_of words shelf (Ended r) n → ⊥
  unended tells enough r n ended =
      let is = on_rate (Ended r) n tt ended in
      let long = goes_past (testing is.graph (net_from is.gamma is.graph is.distribution.capacities)) _ (Ended r) n tt is.came in
      let told = long.2.1 in
      let fit = subst (λ (ds : List (Option ℕ)). RateCertificatesFit (net_from is.gamma is.graph ds) ds wanted) (sym is.file.capacities.named)
      (enough is.file.bytes is.gamma is.graph (is.file.taken.told tells) is.file.given is.file.round).1 in
      short-enough certificate _ r (fit told.schedule told.cycle told.shown) told.long

  -- what refuses it after executions is one of these
  late_refusal : (laws : FileLaws) → IsSome shelf → Suffices → (r : Refusal) (n : ℕ) → (n ≡ 0 → ⊥) → course_of words shelf (Refused r) n → ⊥
  late_refusal laws tells enough r n late due =
      let is = on_rate (Refused r) n late due in
      let net : Net = net_from is.gamma is.graph is.distribution.capacities in
      let live = goes_past (testing is.graph net) _ (Refused r) n late is.came in
      let small = (asked_within words (Throughput name buffers no_overlap states certificate) asked).0 in
      unrefused laws.nets net (lawful_on laws shelf name buffers no_overlap is.graph is.gamma is.distribution small is.file) states live.1.2.1
      (subst (λ (ds : List (Option ℕ)). Repeats (net_from is.gamma is.graph ds) states) (sym is.file.capacities.named)
      (enough is.file.bytes is.gamma is.graph (is.file.taken.told tells) is.file.given is.file.round).0) r live.2.1

pub throughput_is_complete : FileLaws → ThroughputIsComplete
throughput_is_complete laws run cut name buffers no_overlap states certificate good asked early enough =
    else_is_done run cut good
    (λ r n due. late_refusal run.words run.outside.shelf.files name buffers no_overlap states certificate asked laws good.told enough r n
    (λ e. early r (subst (λ (k : ℕ). course_of run.words run.outside.shelf.files (Refused r) k) e due)) due)
    (unended run.words run.outside.shelf.files name buffers no_overlap states certificate asked good.told enough)
