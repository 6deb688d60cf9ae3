use Rattle.std.proofs.Common.{◌≡◌, ◌+◌, ◌++◌, take}
use Rattle.std.specs.List.{flat_map}
use Rattle.std.specs.String.{string_bytes}
use Rattle.std.proofs.lemmas.Result.{err_from_is_err_and}
use Rattle.std.proofs.lemmas.List.Elements.{All-more}
use Rattle.sd_base.proofs.ElementsKeepPlaces.{flat_next, flat_end}
use Rattle.cert_text.proofs.GivenUp.{up-at}
use Rattle.cert_text.specs.ScenarioLines.{potential_line}
use Rattle.cert_text.proofs.PiecesMakeTexts.{all-end}
use Rattle.cert_text.proofs.writing.scenarios.put_each.Goals as goal
use Rattle.cert_text.specs.Limits.{IsPotentialWithin}

pub returns-clause-text : goal.returns-clause-text
returns-clause-text c = flat_end potential_line _ _ c.args.potentials.now c.loop-potential.potential-index c.loop-potential-test.false c.loop-potential.invariant.text

pub returns-clause-within : goal.returns-clause-within
returns-clause-within c = all-end IsPotentialWithin c.args.potentials.now c.loop-potential.potential-index c.loop-potential-test.false c.loop-potential.invariant.within

pub loop-potential-preserved : goal.loop-potential-preserved
loop-potential-preserved c = record {
  text = flat_next potential_line _ _ _ c.args.potentials.now c.loop-potential.potential-index _ c.loop-potential-test.true c.loop-potential.invariant.text c.in_ok-put_potential.ensures.text;
  within = All-more IsPotentialWithin c.args.potentials.now c.loop-potential.potential-index _ c.loop-potential-test.true c.loop-potential.invariant.within c.put_potential.ensures.within;
}

pub returns-in_err-keep_within-clause-long : goal.returns-in_err-keep_within-clause-long
returns-in_err-keep_within-clause-long c =
    let p = err_from_is_err_and c.from_residual-in_err-keep_within.result c.from_residual-in_err-keep_within.ensures.1 in
    let put : string_bytes c.put_potential.new.text ≡ string_bytes c.args.text.now ++ flat_map potential_line (take (c.loop-potential.potential-index + 1) c.args.potentials.now) = flat_next potential_line _ _ _ c.args.potentials.now c.loop-potential.potential-index _ c.loop-potential-test.true c.loop-potential.invariant.text c.in_ok-put_potential.ensures.text in
    rw (p.1, p.2) (up-at potential_line (string_bytes c.args.text.now) (string_bytes c.put_potential.new.text) c.args.potentials.now (c.loop-potential.potential-index + 1) c.in_err-keep_within.field-0.0 put c.in_err-keep_within.ensures.long)
