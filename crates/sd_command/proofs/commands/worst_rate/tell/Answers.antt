use Rattle.std.proofs.Common.{◌≡◌, get_or, Some, Ok, refl}
use Rattle.std.specs.Prelude.{slice_get}
use Rattle.std.proofs.lemmas.Option.{slice_get-get_or}
use Rattle.std.proofs.lemmas.Result.{err_from_is_err_and}
use Rattle.sd_command.proofs.command_lemmas.CertificatesArePut.{worst-stops}
use Rattle.sd_command.specs.commands.WorstRates.{IsOfWorst}
use Rattle.sd_command.specs.inside.MadeCertificates.{IsMadeOfWorst}
use Rattle.sd_command.proofs.command_lemmas.AnalysesEndCommands.{worst_told}
use Rattle.sd_command.proofs.command_lemmas.PutsArePlain.{certifies-plain, worst-plain}
use Rattle.sd_command.proofs.command_lemmas.WorstSizes.{cycle-light, path-edges}
use Rattle.sd_command.proofs.commands.worst_rate.tell.Goals as goal

pub worst-requires-clause-grows : goal.worst-requires-clause-grows
worst-requires-clause-grows c = c.files_grow.ensures c.args.file.now c.args.graph.now c.requires.timed c.requires.sound.some_token

pub worst_text-requires : goal.worst_text-requires
worst_text-requires c =
    let es = c.args.graph.now.edges in
    let critical = c.in_ok-worst.ensures.critical in
    record {
      states = c.requires.timed.states;
      edges = λ k d below.
          let at : slice_get es k ≡ Some (get_or es k d) = slice_get-get_or es k d below in
          record { from = c.requires.sound.edges.from k (get_or es k d) at; to = c.requires.sound.edges.to k (get_or es k d) at };
      some = critical.some;
      cycle = path-edges es c.in_ok-worst.worst.cycle critical.node critical.node critical.closed;
      potentials = c.in_ok-worst.ensures.count;
    }

pub put_for-requires-clause-tokens : goal.put_for-requires-clause-tokens
put_for-requires-clause-tokens c = c.requires.sound.some_token

pub put_for-requires-clause-cycle : goal.put_for-requires-clause-cycle
put_for-requires-clause-cycle c =
    let critical = c.in_ok-worst.ensures.critical in
    path-edges c.args.graph.now.edges c.in_ok-worst.worst.cycle critical.node critical.node critical.closed

pub put_for-requires-clause-small : goal.put_for-requires-clause-small
put_for-requires-clause-small c =
    let critical = c.in_ok-worst.ensures.critical in
    cycle-light c.args.graph.now c.in_ok-worst.worst.cycle c.requires.sound
    (path-edges c.args.graph.now.edges c.in_ok-worst.worst.cycle critical.node critical.node critical.closed) c.in_ok-worst.ensures.apart

pub returns-in_err-put : goal.returns-in_err-put
returns-in_err-put c = λ faults.
    let shown = c.in_ok-worst.ensures in
    let p = err_from_is_err_and c.from_residual-in_err-put.result c.from_residual-in_err-put.ensures.1 in
    rw (p.1, p.2) (worst_told c.args.file.now c.args.certificate.now c.args.graph.now _ faults
    (worst-stops c.args.file.now c.args.graph.now c.args.certificate.now c.in_ok-worst.worst (record {
      timed = c.requires.timed;
      rate = shown.shows c.args.file.now c.requires.timed;
      critical = shown.critical;
      chosen = shown.chosen;
      fit = shown.fit;
      reached = shown.reached;
      least = shown.least;
    }) shown.apart c.in_err-put.field-0.0 c.in_err-put.ensures))

pub returns : goal.returns
returns c = λ faults.
    let shown = c.in_ok-worst.ensures in
    worst_told c.args.file.now c.args.certificate.now c.args.graph.now (Ok _) faults (record {
      worst = c.in_ok-worst.worst;
      is = record {
        timed = c.requires.timed;
        rate = shown.shows c.args.file.now c.requires.timed;
        critical = shown.critical;
        chosen = shown.chosen;
        fit = shown.fit;
        reached = shown.reached;
        least = shown.least;
      };
      text = c.in_ok-text.ensures;
      put =
          certifies-plain (IsMadeOfWorst c.args.graph.now c.in_ok-worst.worst) (IsOfWorst c.args.graph.now c.in_ok-worst.worst)
          (worst-plain c.args.graph.now c.in_ok-worst.worst shown.apart shown.fit shown.least) c.args.certificate.now c.in_ok-put.put c.in_ok-put.ensures;
      none = refl;
    })
