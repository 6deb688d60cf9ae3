use Rattle.std.proofs.Common.{◌≡◌, ◌+◌, ◌++◌, ◌∙◌, ℕ, List, ap, take}
use Rattle.std.specs.List.{flat_map}
use Rattle.std.specs.String.{string_bytes}
use Rattle.std.proofs.lemmas.Result.{err_from_is_err_and}
use Rattle.sd_base.proofs.ElementsKeepPlaces.{flat_end}
use Rattle.cert_text.proofs.GivenUp.{up-at}
use Rattle.cert_text.specs.NumberLines.{numbers_line}
use Rattle.cert_text.proofs.PiecesMakeTexts.{flat-item}
use Rattle.cert_text.proofs.writing.schedules.put_actors.Goals as goal

pub returns-clause-text : goal.returns-clause-text
returns-clause-text c = flat_end numbers_line _ _ c.args.starts.now c.loop-row.row-index c.loop-row-test.false c.loop-row.invariant

pub returns-in_err-keep_within-clause-long : goal.returns-in_err-keep_within-clause-long
returns-in_err-keep_within-clause-long c =
    let p = err_from_is_err_and c.from_residual-in_err-keep_within.result c.from_residual-in_err-keep_within.ensures.1 in
    let put : string_bytes c.put_starts.new.text ≡ string_bytes c.args.text.now ++ flat_map numbers_line (take (c.loop-row.row-index + 1) c.args.starts.now) = flat-item numbers_line _ _ _ c.args.starts.now c.loop-row.row-index c.row-item.result c.loop-row-test.true c.row-item.is c.loop-row.invariant (c.in_ok-put_starts.ensures ∙ ap (λ (ns : List ℕ). string_bytes c.loop-row.text ++ numbers_line ns) c.as_slice.ensures) in
    rw (p.1, p.2) (up-at numbers_line (string_bytes c.args.text.now) (string_bytes c.put_starts.new.text) c.args.starts.now (c.loop-row.row-index + 1) c.in_err-keep_within.field-0.0 put c.in_err-keep_within.ensures.long)
