use Rattle.cert_text.proofs.LinesMakeCertificates.{storage-whole}
use Rattle.cert_text.proofs.reading.trade_offs.storage_certificate.Goals as goal

pub returns-clause-text : goal.returns-clause-text
returns-clause-text c =
    let explored = c.in_ok-cycles.ensures.text in (
      storage-whole c.args.version _ _ _ _ _ _ _ _ _ _ c.in_ok-no_overlap.ensures.text c.in_ok-limit.ensures.text explored.spelled c.in_ok-points.ensures.text.0 c.in_ok-end.ensures.text,
      record { cycles = explored.texts; members = explored.shown; points = c.in_ok-points.ensures.text.1 },
      record { differ = explored.differ; used = explored.used },
    )
