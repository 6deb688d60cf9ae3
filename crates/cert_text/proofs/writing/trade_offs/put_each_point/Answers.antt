use Rattle.std.proofs.Common.{◌≡◌, ◌+◌, ◌++◌, take}
use Rattle.std.specs.List.{flat_map}
use Rattle.std.specs.String.{string_bytes}
use Rattle.std.proofs.lemmas.Result.{err_from_is_err_and}
use Rattle.sd_base.proofs.ElementsKeepPlaces.{flat_end}
use Rattle.cert_text.proofs.GivenUp.{up-at, up-in}
use Rattle.cert_text.specs.MemberLines.{point_lines}
use Rattle.cert_text.proofs.PiecesMakeTexts.{all-end, all-item, flat-item}
use Rattle.cert_text.proofs.writing.trade_offs.put_each_point.Goals as goal
use Rattle.cert_text.specs.Limits.{IsPointWithin}

pub returns-clause-text : goal.returns-clause-text
returns-clause-text c = flat_end point_lines _ _ c.args.points.now c.loop-point.point-index c.loop-point-test.false c.loop-point.invariant.text

pub returns-clause-within : goal.returns-clause-within
returns-clause-within c = all-end IsPointWithin c.args.points.now c.loop-point.point-index c.loop-point-test.false c.loop-point.invariant.within

pub loop-point-preserved : goal.loop-point-preserved
loop-point-preserved c = record {
  text = flat-item point_lines _ _ _ c.args.points.now c.loop-point.point-index c.point-item.result c.loop-point-test.true c.point-item.is c.loop-point.invariant.text c.in_ok-put_point.ensures.text;
  within = all-item IsPointWithin c.args.points.now c.loop-point.point-index c.point-item.result c.loop-point-test.true c.point-item.is c.loop-point.invariant.within c.in_ok-put_point.ensures.within;
}

pub returns-in_err-keep_within-clause-long : goal.returns-in_err-keep_within-clause-long
returns-in_err-keep_within-clause-long c =
    let p = err_from_is_err_and c.from_residual-in_err-keep_within.result c.from_residual-in_err-keep_within.ensures.1 in
    let put : string_bytes c.put_point.new.text ≡ string_bytes c.args.text.now ++ flat_map point_lines (take (c.loop-point.point-index + 1) c.args.points.now) = flat-item point_lines _ _ _ c.args.points.now c.loop-point.point-index c.point-item.result c.loop-point-test.true c.point-item.is c.loop-point.invariant.text c.in_ok-put_point.ensures.text in
    rw (p.1, p.2) (up-at point_lines (string_bytes c.args.text.now) (string_bytes c.put_point.new.text) c.args.points.now (c.loop-point.point-index + 1) c.in_err-keep_within.field-0.0 put c.in_err-keep_within.ensures.long)

pub returns-in_err-put_point-clause-long : goal.returns-in_err-put_point-clause-long
returns-in_err-put_point-clause-long c =
    let p = err_from_is_err_and c.from_residual.result c.from_residual.ensures.1 in
    rw (p.1, p.2) (up-in point_lines (string_bytes c.args.text.now) (string_bytes c.loop-point.text) c.args.points.now c.loop-point.point-index c.point-item.result c.in_err-put_point.field-0.0 c.loop-point-test.true c.point-item.is c.loop-point.invariant.text c.in_err-put_point.ensures.long)
