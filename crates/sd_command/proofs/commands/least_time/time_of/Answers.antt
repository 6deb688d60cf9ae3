use Rattle.std.proofs.Common.{◌≡◌, ◌∙◌, ℕ, List, length, map, ap, refl, arith}
use Rattle.std.proofs.lemmas.List.{length-map}
use Rattle.completion.specs.declared.counts.Part.{Part}
use Rattle.report.specs.CompletionTexts.{complete_lines}
use Rattle.sd_command.specs.commands.LeastTimes.{pair_of}
use Rattle.std.proofs.lemmas.Result.{err_from_is_err_and}
use Rattle.sd_steps.specs.Nets.{testing}
use Rattle.sd_command.proofs.command_lemmas.CommandsFollowSteps.{step_stops, goes_on}
use Rattle.sd_command.proofs.command_lemmas.AnalysesEndCommands.{time_answers, time_lacks, time_stops}
use Rattle.sd_command.proofs.commands.least_time.time_of.Goals as goal

pub returns-in_err-test-clause-goes : goal.returns-in_err-test-clause-goes
returns-in_err-test-clause-goes g c = λ faults.
    let p = err_from_is_err_and c.from_residual-in_err-test.result c.from_residual-in_err-test.ensures.1 in
    rw (p.1, p.2) (step_stops (testing c.args.graph.now (g.F.Firing.net c.args.net.now)) _ _ (omega arith) _ faults c.in_err-test.ensures.does)

pub returns-in_err-completion-clause-goes : goal.returns-in_err-completion-clause-goes
returns-in_err-completion-clause-goes g c = λ faults.
    let net = g.F.Firing.net c.args.net.now in
    let p = err_from_is_err_and c.from_residual-in_err-completion.result c.from_residual-in_err-completion.ensures.1 in
    rw (p.1, p.2) (goes_on (testing c.args.graph.now net) _ tt _ _ faults faults c.in_ok-test.ensures.does
    (time_stops c.args.graph.now net c.args.wanted.now _ (omega arith) faults _ c.in_err-completion.ensures.does))

-- the parts, as their lines have them
shown-parts : (shown : List (ℕ × ℕ)) (items : List (ℕ × ℕ)) (parts of : List Part) → shown ≡ items → items ≡ map pair_of parts → parts ≡ of → shown ≡ map pair_of of
shown-parts shown items parts of is made same = is ∙ made ∙ ap (λ (ps : List Part). map pair_of ps) same

pub complete_text-requires : goal.complete_text-requires
complete_text-requires g c =
    let parts : List Part = c.in_ok-completion.completion.parts in
    let shown = shown-parts c.as_slice-2.result.now _ c.as_slice.result.now parts c.as_slice-2.ensures.value c.in_ok-parts.ensures c.as_slice.ensures in
    ap (λ (ps : List (ℕ × ℕ)). length ps) shown ∙ (length-map parts pair_of ∙ (c.in_ok-completion.ensures.does.0.way.counted.actors ∙ c.requires.named.actors))

pub returns-in_err-parts-clause-goes : goal.returns-in_err-parts-clause-goes
returns-in_err-parts-clause-goes g c = λ faults.
    let net = g.F.Firing.net c.args.net.now in
    let p = err_from_is_err_and c.from_residual-in_err-parts.result c.from_residual-in_err-parts.ensures.1 in
    rw (p.1, p.2) (goes_on (testing c.args.graph.now net) _ tt _ _ faults faults c.in_ok-test.ensures.does (time_lacks c.args.graph.now net c.args.wanted.now _ (omega arith) faults))

pub returns-in_err-text-clause-goes : goal.returns-in_err-text-clause-goes
returns-in_err-text-clause-goes g c = λ faults.
    let net = g.F.Firing.net c.args.net.now in
    let p = err_from_is_err_and c.from_residual-in_err-text.result c.from_residual-in_err-text.ensures.1 in
    rw (p.1, p.2) (goes_on (testing c.args.graph.now net) _ tt _ _ faults faults c.in_ok-test.ensures.does (time_lacks c.args.graph.now net c.args.wanted.now _ (omega arith) faults))

pub returns-clause-goes : goal.returns-clause-goes
returns-clause-goes g c = λ faults.
    let net = g.F.Firing.net c.args.net.now in
    let made = c.in_ok-completion.completion in
    let shown = shown-parts c.as_slice-2.result.now _ c.as_slice.result.now made.parts c.as_slice-2.ensures.value c.in_ok-parts.ensures c.as_slice.ensures in
    goes_on (testing c.args.graph.now net) _ tt _ _ faults faults c.in_ok-test.ensures.does
    (time_answers c.args.graph.now net c.args.wanted.now _ (omega arith) faults _ (record {
      completion = made;
      is = c.in_ok-completion.ensures.does.0;
      found = c.in_ok-completion.ensures.does.1;
      text = c.in_ok-text.ensures ∙ ap (λ (ps : List (ℕ × ℕ)). complete_lines c.args.graph.now c.args.wanted.now.rounds made.time made.firings ps) shown;
      put = refl;
    }))
