-- Need cycles by links: by what the channels of a net stand for.
use Rattle.std.specs.Prelude.{◌≡◌, ℕ, ◌<◌, false, map, length}
use Rattle.sd_base.specs.Net.{Net, channel_at}
use Rattle.sd_base.specs.Lawful.{is_order_role}
use Rattle.critical.specs.declared.cycle.CycleStep.{CycleStep}
use Rattle.critical.specs.declared.cycle.NeedCycle.{NeedCycle}
use Rattle.cert_text.specs.declared.certificates.LinkStep.{LinkStep}
use Rattle.cert_text.specs.declared.certificates.LinkCycle.{LinkCycle}

-- a step along what its channel stands for
abbrev pub link_step : Net → CycleStep → LinkStep
link_step net step = record { to = step.to; link = (channel_at net step.channel).role }

-- a need cycle of a net by links
abbrev pub link_cycle : Net → NeedCycle → LinkCycle
link_cycle net cycle = record { time = cycle.time; rounds = cycle.rounds; first = cycle.first; steps = map (link_step net) cycle.steps }

-- no channel of the net is an edge of an order, which has no text
abbrev pub HasNoOrders : Net → Type 0
HasNoOrders net = (i : ℕ) → i < length net.channels → is_order_role (channel_at net i).role ≡ false
