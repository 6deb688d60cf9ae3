-- Runs of `ordered` are done, and the rate that they show is the greatest that keeps the orders.
use Rattle.std.proofs.Common.{◌≡◌, ℕ, Bool, true, List, Option, None, IsSome, Ok, sym, subst}
use Rattle.sd_base.specs.declared.tables.GraphFile.{GraphFile}
use Rattle.sd_base.specs.Net.{Net}
use Rattle.sd_base.specs.FileNet.{net_of}
use Rattle.sd_base.specs.Lawful.{Lawful}
use Rattle.storage.specs.BoundedNets.{bound}
use Rattle.storage.specs.NamedBuffers.{Buffer, capacities_of}
use Rattle.sd_words.proofs.AskedNumbersFit.{asked_within}
use Rattle.sd_words.specs.declared.request.Request.TheVariants.{Ordered}
use Rattle.sd_words.specs.Asked.{request_of}
use Rattle.balance.specs.Repetition.{IsRound}
use Rattle.graph_reader.specs.Laws.{Gives}
use Rattle.ordered.specs.NamedOrders.{first_fault, lists_of}
use Rattle.ordered.specs.OrderedNets.{ordered}
use Rattle.report.specs.declared.refusal.Refusal.{Refusal}
use Rattle.std.specs.Prelude.{Some}
use Rattle.sd_io.specs.Outside.{Files, file_under}
use Rattle.sd_steps.specs.declared.answer.Answer.{Answer}
use Rattle.sd_command.specs.declared.commands.wanted.WantedRate.{WantedRate}
use Rattle.sd_steps.specs.Courses.{Answered, Ending, Ended, Refused}
use Rattle.sd_laws.specs.Endings.{OrderedIsComplete, Repeats}
use Rattle.sd_command.specs.commands.InOrders.{ordered_rate_on}
use Rattle.sd_laws.specs.KeptOrders.{OrdersAreKept, ShowsRateInOrder}
use Rattle.sd_steps.specs.Nets.{testing}
use Rattle.sd_steps.specs.Orderings.{NamedOrders, ordering}
use Rattle.sd_command.specs.commands.Rates.{IsRateAnswer}
use Rattle.sd_command.specs.Requests.{course_of}
use Rattle.sd_laws.proofs.BoundedPaths.{IsOnNet, lawful_on, lawful_ordered_on, on_the_net}
use Rattle.sd_laws.proofs.CommandsDecide.{IsPast, goes_past}
use Rattle.sd_laws.proofs.DecidedRunsEnd.{else_is_done}
use Rattle.sd_laws.proofs.OneOrder.{OrderLaws, are-orders}
use Rattle.sd_laws.proofs.OneRate.{unrefused}
use Rattle.sd_command.proofs.command_lemmas.OrderedOver.{bound-can}
use Rattle.sd_laws.proofs.RequestsGoOn.{of_request}
use Rattle.sd_command.proofs.command_lemmas.WordsBoundGraphs.{AreSmall}
use Rattle.sd_laws.proofs.SharedSteps.{FileLaws}

module _ (laws : FileLaws) (orders : OrderLaws) (words : List (List ℕ)) (shelf : Files) (tells : IsSome shelf) (name : List ℕ) (lists : NamedOrders) (buffers : List Buffer) (no_overlap : Bool) (states : ℕ)
    (asked : request_of words ≡ Ok (Ordered name lists buffers no_overlap states)) where
  abbrev wanted : WantedRate
  wanted = record { no_overlap = no_overlap; states = states; certificate = None }

  abbrev net_from : List ℕ → GraphFile → List (Option ℕ) → List (List ℕ) → Net
  net_from gamma graph ds ls = ordered (bound (net_of graph gamma no_overlap) ds) ls

  small : AreSmall buffers
  small = (asked_within words (Ordered name lists buffers no_overlap states) asked).0

  on_orders : (ending : Ending) (n : ℕ) → IsPast ending n → course_of words shelf ending n → IsOnNet shelf name buffers no_overlap (ordered_rate_on lists wanted) ending n
  on_orders ending n past came =
      on_the_net shelf name buffers no_overlap (ordered_rate_on lists wanted) ending n past (of_request words shelf (Ordered name lists buffers no_overlap states) asked ending n past came)

  -- nothing ends it but what words and files decide
  unended : (r : Refusal) (n : ℕ) → course_of words shelf (Ended r) n → ⊥
  unended r n ended =
      let on = on_orders (Ended r) n tt ended in
      let given = goes_past (ordering on.graph on.gamma lists) _ (Ended r) n tt on.came in
      let live = goes_past (testing on.graph (net_from on.gamma on.graph on.distribution.capacities given.0.lists)) _ (Ended r) n tt given.2.1 in
      live.2.1.long

  -- nor does anything refuse it after executions, where the net repeats a shape
  late_refusal : ((bytes gamma : List ℕ) (graph : GraphFile) → file_under shelf name ≡ Some bytes → Gives bytes true graph → IsRound graph gamma
      → Repeats (net_from gamma graph (capacities_of graph.channels buffers) (lists_of graph.actors lists)) states) → (r : Refusal) (n : ℕ) → (n ≡ 0 → ⊥) → course_of words shelf (Refused r) n → ⊥
  late_refusal repeats r n late due =
      let on = on_orders (Refused r) n late due in
      let given = goes_past (ordering on.graph on.gamma lists) _ (Refused r) n late on.came in
      let ds : List (Option ℕ) = on.distribution.capacities in
      let net : Net = net_from on.gamma on.graph ds given.0.lists in
      let live = goes_past (testing on.graph net) _ (Refused r) n late given.2.1 in
      let again = repeats on.file.bytes on.gamma on.graph (on.file.taken.told tells) on.file.given on.file.round in
      unrefused laws.nets net (lawful_ordered_on laws orders shelf name buffers no_overlap lists on.graph on.gamma on.distribution given.0 small on.file given.1) states live.1.2.1
      (subst (λ (ls : List (List ℕ)). Repeats (net_from on.gamma on.graph ds ls) states) (sym given.1.named)
      (subst (λ (xs : List (Option ℕ)). Repeats (net_from on.gamma on.graph xs (lists_of on.graph.actors lists)) states) (sym on.file.capacities.named) again)) r live.2.1

  -- the rate that is shown
  pub kept : (answer : Answer) (n : ℕ) → course_of words shelf (Answered answer) n → ShowsRateInOrder shelf name lists buffers no_overlap states answer
  kept answer n due =
      let on = on_orders (Answered answer) n tt due in
      let given = goes_past (ordering on.graph on.gamma lists) _ (Answered answer) n tt on.came in
      let ds : List (Option ℕ) = on.distribution.capacities in
      let live = goes_past (testing on.graph (net_from on.gamma on.graph ds given.0.lists)) _ (Answered answer) n tt given.2.1 in
      let lawful = lawful_on laws shelf name buffers no_overlap on.graph on.gamma on.distribution small on.file in
      from_names on.graph on.gamma on.file.bytes (on.file.taken.told tells) on.file.given on.file.round given.1.whole ds given.0.lists on.file.capacities.named given.1.named lawful live.2.1
    where
      from_names : (graph : GraphFile) (gamma bytes : List ℕ) → file_under shelf name ≡ Some bytes → Gives bytes true graph → IsRound graph gamma → first_fault graph.actors gamma lists ≡ None
          → (ds : List (Option ℕ)) (ls : List (List ℕ)) → ds ≡ capacities_of graph.channels buffers → ls ≡ lists_of graph.actors lists → Lawful (bound (net_of graph gamma no_overlap) ds)
          → IsRateAnswer graph (net_from gamma graph ds ls) ds wanted answer → ShowsRateInOrder shelf name lists buffers no_overlap states answer
      from_names graph gamma bytes there given round whole ds ls is_ds is_ls lawful told =
          let xs : List (Option ℕ) = capacities_of graph.channels buffers in
          let net : Net = bound (net_of graph gamma no_overlap) xs in
          let laws_of : Lawful net = subst (λ (d : List (Option ℕ)). Lawful (bound (net_of graph gamma no_overlap) d)) is_ds lawful in
          let told_of : IsRateAnswer graph (ordered net (lists_of graph.actors lists)) xs wanted answer =
          subst (λ (l : List (List ℕ)). IsRateAnswer graph (ordered net l) xs wanted answer) is_ls (subst (λ (d : List (Option ℕ)). IsRateAnswer graph (net_from gamma graph d ls) d wanted answer) is_ds told) in
          let are = are-orders orders graph gamma no_overlap xs lists whole in
          record {
            bytes = bytes;
            graph = graph;
            gamma = gamma;
            there = there;
            given = given;
            round = round;
            schedule = told_of.schedule;
            cycle = told_of.cycle;
            orders = are;
            shown = told_of.shown;
            greatest = orders.rate net (lists_of graph.actors lists) told_of.shown.num told_of.shown.den laws_of (bound-can graph gamma no_overlap xs) are told_of.shown.rate;
            text = told_of.text;
          }

  pub ordered_late : ((bytes gamma : List ℕ) (graph : GraphFile) → file_under shelf name ≡ Some bytes → Gives bytes true graph → IsRound graph gamma
      → Repeats (net_from gamma graph (capacities_of graph.channels buffers) (lists_of graph.actors lists)) states) → ((r : Refusal) → course_of words shelf (Refused r) 0 → ⊥)
      → (r : Refusal) (n : ℕ) → course_of words shelf (Refused r) n → ⊥
  ordered_late repeats early r n due = late_refusal repeats r n (λ e. early r (subst (λ (k : ℕ). course_of words shelf (Refused r) k) e due)) due

pub ordered_is_complete : FileLaws → OrderLaws → OrderedIsComplete
ordered_is_complete laws orders run cut name lists buffers no_overlap states good asked early repeats =
    else_is_done run cut good
    (ordered_late laws orders run.words run.outside.shelf.files good.told name lists buffers no_overlap states asked repeats early)
    (unended laws orders run.words run.outside.shelf.files good.told name lists buffers no_overlap states asked)

pub orders_are_kept : FileLaws → OrderLaws → OrdersAreKept
orders_are_kept laws orders words shelf name lists buffers no_overlap states answer n tells asked due =
    kept laws orders words shelf tells name lists buffers no_overlap states asked answer n due
