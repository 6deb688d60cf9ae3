use Rattle.std.proofs.Common.{true, ap, ◌∙◌}
use Rattle.sd_base.specs.declared.tables.GraphFile.{GraphFile}
use Rattle.sd_command.proofs.command_lemmas.SummariesDecideGenerate.{read_again, only_memory, made_kind}
use Rattle.sd_command.proofs.commands.generation.made_again.Goals as goal

pub returns-in-Ok-clause-made : goal.returns-in-Ok-clause-made
returns-in-Ok-clause-made c =
    read_again c.in_ok-bytes.bytes c.as_slice.result.now c.as_slice.ensures c.in_ok-graph.graph (c.in_ok-bytes.ensures.read c.in_ok-graph.ensures.writable true (λ need. c.in_ok-graph.ensures.timed))
    c.know_files.ensures.table c.in-Ok.again c.in-Ok.ensures.found
    ∙ c.in_ok-graph.ensures.made

pub returns-in-Ok-clause-sdf : goal.returns-in-Ok-clause-sdf
returns-in-Ok-clause-sdf c = ap (λ (g : GraphFile). g.kind) (returns-in-Ok-clause-made c) ∙ made_kind c.args.seed c.args.actors

pub want_of_memory-requires : goal.want_of_memory-requires
want_of_memory-requires c =
    only_memory c.in_ok-bytes.bytes c.as_slice.result.now c.as_slice.ensures c.in_ok-graph.graph (c.in_ok-bytes.ensures.read c.in_ok-graph.ensures.writable true (λ need. c.in_ok-graph.ensures.timed))
    c.know_files.ensures.either c.in-Err.error c.in-Err.ensures.fault
