-- A cycle of a net without orders has a text.
use Rattle.std.proofs.Common.{◌≡◌, ◌<◌, false, true, List, All, map, length, get_or, ap}
use Rattle.std.proofs.lemmas.List.Elements.{All-map, All-get_or, All-from_get_or}
use Rattle.sd_base.specs.Net.{Net, channel_at}
use Rattle.sd_base.specs.Lawful.{is_order_role}
use Rattle.critical.specs.declared.cycle.CycleStep.{CycleStep}
use Rattle.cert_text.specs.Spellable.{HasText}
use Rattle.cert_maker.specs.Links.{HasNoOrders, link_step}

no-step : CycleStep
no-step = record { channel = 0; to = record { actor = 0; number = 0 } }

pub linked-text : (net : Net) (steps : List CycleStep) → All (λ (s : CycleStep). s.channel < length net.channels) steps → HasNoOrders net → All HasText (map (link_step net) steps)
linked-text net steps within none =
    All-map HasText (link_step net) steps
    (All-from_get_or (λ (s : CycleStep). HasText (link_step net s)) steps no-step
    (λ i below a b is.
    let no : is_order_role (channel_at net (get_or steps i no-step).channel).role ≡ false = none (get_or steps i no-step).channel (All-get_or (λ (s : CycleStep). s.channel < length net.channels) steps i no-step below within) in
    let yes : is_order_role (channel_at net (get_or steps i no-step).channel).role ≡ true = ap is_order_role is in cc))
