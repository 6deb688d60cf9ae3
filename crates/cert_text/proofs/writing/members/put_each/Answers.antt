use Rattle.std.proofs.lemmas.List.Elements.{All-more}
use Rattle.sd_base.proofs.ElementsKeepPlaces.{flat_next, flat_end}
use Rattle.cert_text.specs.MemberLines.{capacity_text}
use Rattle.cert_text.proofs.PiecesMakeTexts.{all-end}
use Rattle.cert_text.proofs.writing.members.put_each.Goals as goal
use Rattle.cert_text.specs.Limits.{IsCapacityWithin}

pub returns-clause-text : goal.returns-clause-text
returns-clause-text c = flat_end capacity_text _ _ c.args.capacities.now c.loop-capacity.capacity-index c.loop-capacity-test.false c.loop-capacity.invariant.text

pub returns-clause-within : goal.returns-clause-within
returns-clause-within c = all-end IsCapacityWithin c.args.capacities.now c.loop-capacity.capacity-index c.loop-capacity-test.false c.loop-capacity.invariant.within

pub loop-capacity-preserved : goal.loop-capacity-preserved
loop-capacity-preserved c = record {
  text = flat_next capacity_text _ _ _ c.args.capacities.now c.loop-capacity.capacity-index _ c.loop-capacity-test.true c.loop-capacity.invariant.text c.in_ok-put_capacity.ensures.text;
  within = All-more IsCapacityWithin c.args.capacities.now c.loop-capacity.capacity-index _ c.loop-capacity-test.true c.loop-capacity.invariant.within c.put_capacity.ensures.within;
}
