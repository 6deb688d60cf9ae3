use Rattle.std.proofs.Common.{◌≡◌, ◌++◌, ℕ, List, refl, ap, ◌∙◌}
use Rattle.sd_base.specs.declared.tables.StateRow.{StateRow}
use Rattle.sd_base.specs.Scenarios.{shared_count}
use Rattle.automaton.specs.declared.graph.Edge.{Edge}
use Rattle.automaton.specs.TimedGraphs.{edges_from}
use Rattle.automaton.proofs.KeptMatricesSuffice.{is-product}
use Rattle.automaton.proofs.making.product.Goals as goal

pub returns-clause-product : goal.returns-clause-product
returns-clause-product c =
    let file = c.args.file.now in
    let ms = c.args.matrices.now in
    let edges : c.from_vec.result ≡ edges_from (shared_count file.shared) 0 ms file.states =
    c.from_vec.ensures ∙ c.in_ok-add_states.ensures
    ∙ ap (λ (es : List Edge). es ++ edges_from c.token_count-tokens.result 0 ms c.as_slice.result.now) c.new-edges.ensures.items
    ∙ ap (λ (n : ℕ). edges_from n 0 ms c.as_slice.result.now) c.token_count-tokens.ensures.is
    ∙ ap (λ (states : List StateRow). edges_from (shared_count file.shared) 0 ms states) c.as_slice.ensures in
    is-product file ms _ c.requires.leads_on c.token_count-tokens.ensures.is refl c.len-2.ensures edges
