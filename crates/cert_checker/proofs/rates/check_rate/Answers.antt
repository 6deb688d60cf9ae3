use Rattle.std.proofs.Common.{◌≡◌, ◌≤◌, length, List, Option, ℕ, ap₂, sym, subst, ◌∙◌}
use Rattle.sd_base.specs.declared.limits.TheConstants.{NET_CHANNELS}
use Rattle.sd_base.specs.Net.{Net}
use Rattle.sd_base.specs.FileNet.{net_of}
use Rattle.storage.specs.BoundedNets.{HasNoSpaces, bound}
use Rattle.storage.specs.Distributions.{CanHold}
use Rattle.storage.proofs.FileChannels.{file-plain, plain-no_spaces}
use Rattle.cert_checker.specs.NumberedBuffers.{AreBuffers, capacities_in}
use Rattle.cert_checker.proofs.BuffersHeld.{buffers-held, buffers-few}
use Rattle.cert_checker.proofs.RateFaults.{verdict-of}
use Rattle.cert_checker.proofs.rates.check_rate.Goals as goal

pub new-requires-2-clause-none : goal.new-requires-2-clause-none
new-requires-2-clause-none c = subst HasNoSpaces (sym c.in_ok-net.ensures)
    (plain-no_spaces (net_of c.args.graph.now c.args.gamma.now c.args.certificate.now.no_overlap) (file-plain c.args.graph.now c.args.gamma.now c.args.certificate.now.no_overlap))

pub new-requires-2-clause-can : goal.new-requires-2-clause-can
new-requires-2-clause-can c =
    let right : AreBuffers c.args.graph.now.channels c.args.certificate.now.buffers = rw (← c.as_slice.ensures, ← c.as_slice-2.ensures) (c.are_buffers.ensures.0 c.if-not-are_buffers.false) in
    let same : c.in_ok-distribution.distribution.capacities ≡ capacities_in (length c.args.graph.now.channels) c.args.certificate.now.buffers =
    c.in_ok-distribution.ensures ∙ ap₂ capacities_in c.len.ensures c.as_slice-3.ensures in
    subst (λ (net : Net). CanHold net.channels c.in_ok-distribution.distribution.capacities) (sym c.in_ok-net.ensures)
    (subst (λ (ds : List (Option ℕ)). CanHold (net_of c.args.graph.now c.args.gamma.now c.args.certificate.now.no_overlap).channels ds) (sym same)
    (buffers-held c.args.graph.now c.args.gamma.now c.args.certificate.now.no_overlap c.args.certificate.now.buffers right))

pub new-requires-2-clause-few : goal.new-requires-2-clause-few
new-requires-2-clause-few c =
    let same : c.in_ok-distribution.distribution.capacities ≡ capacities_in (length c.args.graph.now.channels) c.args.certificate.now.buffers =
    c.in_ok-distribution.ensures ∙ ap₂ capacities_in c.len.ensures c.as_slice-3.ensures in
    subst (λ (net : Net). length (bound net c.in_ok-distribution.distribution.capacities).channels ≤ NET_CHANNELS) (sym c.in_ok-net.ensures)
    (subst (λ (ds : List (Option ℕ)). length (bound (net_of c.args.graph.now c.args.gamma.now c.args.certificate.now.no_overlap) ds).channels ≤ NET_CHANNELS) (sym same)
    (buffers-few c.args.graph.now c.args.gamma.now c.args.certificate.now.no_overlap c.args.certificate.now.buffers c.requires.rules))

pub returns : goal.returns
returns c =
    let right : AreBuffers c.args.graph.now.channels c.args.certificate.now.buffers = rw (← c.as_slice.ensures, ← c.as_slice-2.ensures) (c.are_buffers.ensures.0 c.if-not-are_buffers.false) in
    let same : c.in_ok-distribution.distribution.capacities ≡ capacities_in (length c.args.graph.now.channels) c.args.certificate.now.buffers =
    c.in_ok-distribution.ensures ∙ ap₂ capacities_in c.len.ensures c.as_slice-3.ensures in
    verdict-of c.args.graph.now c.args.gamma.now c.args.certificate.now _ (c.in_ok-bounded.ensures ∙ ap₂ bound c.in_ok-net.ensures same) right c.check_lines.result c.check_lines.ensures
