use Rattle.std.proofs.Common.{◌∙◌, ◌++◌, ap, List, ℕ, arith}
use Rattle.cert_text.specs.Spelling.{cycle_list}
use Rattle.cert_text.proofs.reading.trade_offs.named.Goals as goal

pub returns-clause-text : goal.returns-clause-text
returns-clause-text c =
    let cycles = c.in_ok-cycles.ensures.text in
    let members = c.in_ok-members.ensures.text in
    record {
      spelled = cycles.0 ∙ ap (λ (l : List ℕ). cycle_list 2 c.in_ok-cycles.cycles ++ l) (members.0 c.in_ok-cycles.cycles);
      texts = cycles.1;
      differ = cycles.2;
      shown = members.1;
      used = grind (arith, c.as_slice.ensures, members.2);
    }
