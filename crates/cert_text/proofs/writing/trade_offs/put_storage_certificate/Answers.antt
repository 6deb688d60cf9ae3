use Rattle.std.proofs.Common.{length}
use Rattle.cert_text.proofs.MembersNameInOrder.{names}
use Rattle.cert_text.proofs.WrittenIsWithinLimits.{lists-within}
use Rattle.cert_text.proofs.writing.trade_offs.put_storage_certificate.Goals as goal

pub put_lists-requires : goal.put_lists-requires
put_lists-requires c = rw (c.as_slice-cycles.ensures, c.as_slice-members.ensures) (names c.args.certificate.now.members 0 (length c.args.certificate.now.cycles) c.requires.used).1

pub returns-clause-within : goal.returns-clause-within
returns-clause-within c = lists-within c.put_lists.result c.args.version c.args.certificate.now c.as_slice-cycles.result.now c.as_slice-members.result.now c.as_slice-points.result.now c.as_slice-cycles.ensures c.as_slice-members.ensures c.as_slice-points.ensures
    c.requires c.put_limit.ensures.within c.put_lists.ensures.cycles c.put_lists.ensures.members c.put_lists.ensures.named c.put_lists.ensures.points
