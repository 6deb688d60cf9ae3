use Rattle.std.proofs.Common.{◌≡◌, ◌-◌, List, ◌∷◌, ◌++◌, ℕ, length}
use Rattle.std.specs.List.{flat_map}
use Rattle.cert_text.specs.LineForms.{node_due}
use Rattle.cert_text.specs.Reads.{lines_of, next_by, times_by}
use Rattle.cert_text.specs.ScenarioLines.{node_line}
use Rattle.cert_text.specs.Sections.{entered_from}
use Rattle.cert_text.proofs.RepeatedReadsGoOn.{with_front}
use Rattle.cert_text.proofs.reading.scenarios.entered.Given as goal

abbrev pub invariant-loop-place : goal.invariant-loop-place
invariant-loop-place l = record {
  text : (rest : List (ℕ × ℕ)) × (l.nodes.items ≡ l.fn.first ∷ rest) × (length rest ≡ l.place) × (l.fn.lines.rest.now ≡ flat_map node_line rest ++ l.lines.rest.now);
  exact : with_front l.nodes.items (times_by (next_by node_due) (l.edges - l.place) (lines_of l.lines.rest.now)) ≡ entered_from l.fn.first l.edges (lines_of l.fn.lines.rest.now);
}
