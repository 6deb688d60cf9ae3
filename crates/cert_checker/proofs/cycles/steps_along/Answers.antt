use Rattle.std.specs.Prelude.{slice_index_or}
use Rattle.sd_base.specs.declared.role.Role.TheVariants.{Token}
use Rattle.cert_text.specs.declared.certificates.LinkStep.{LinkStep}
use Rattle.cert_checker.proofs.LinksFixSteps.{pushed-along, none-along}
use Rattle.cert_checker.proofs.LinkMaps.{link-none, link-some}
use Rattle.cert_checker.proofs.cycles.steps_along.Goals as goal

-- what stands for a link past the last one
abbrev past : LinkStep
past = record { to = record { actor = 0; number = 0 }; link = Token 0 }

pub returns-in-None : goal.returns-in-None
returns-in-None g c =
    let net = g.F.Firing.net c.args.net.now in
    let k = c.loop-link.link-index in
    none-along net c.args.links.now k past c.loop-link-test.true (link-none net c.in_ok-channels.channels (slice_index_or c.args.links.now k past).link c.in_ok-channels.ensures c.in-None.ensures)

pub loop-link-preserved : goal.loop-link-preserved
loop-link-preserved g c =
    let net = g.F.Firing.net c.args.net.now in
    let k = c.loop-link.link-index in
    pushed-along net c.args.links.now c.loop-link.steps c.push.new.self k past c.in-Some.channel c.loop-link-test.true c.loop-link.invariant
    (link-some net c.in_ok-channels.channels (slice_index_or c.args.links.now k past).link c.in-Some.channel c.in_ok-channels.ensures c.in-Some.ensures) c.in_ok-push-in-Some.ensures.ok
