use Rattle.std.proofs.Common.{◌∙◌, ap}
use Rattle.sd_words.specs.declared.names.OptionName.TheVariants as opt
use Rattle.sd_words.specs.Asked.{buffers_in, request_for}
use Rattle.sd_words.proofs.PlacesHoldValues.{buffers-apart}
use Rattle.sd_words.proofs.making.ordered_request.Goals as goal

pub returns : goal.returns
unfolding request_for
returns c =
    let buffers = c.take_buffers.ensures ∙ ap buffers_in (c.take_orders.ensures.rest opt.Buffers buffers-apart) in
    cc (c.in_ok-name.ensures, c.take_orders.ensures.value, buffers, c.has.ensures, c.states_of.ensures)
