use Rattle.std.proofs.Common.{arith}
use Rattle.cert_text.proofs.PiecesMakeTexts.{nodes-end}
use Rattle.cert_text.proofs.reading.scenarios.nodes.Goals as goal

pub returns-clause-text : goal.returns-clause-text
returns-clause-text c =
    let nodes = c.in_ok-nodes.ensures.text in
    rw nodes.1 (nodes-end _ _ _ nodes.0 _ _ _ c.in_ok-time.ensures.text nodes.2 nodes.3, omega arith)
