use Rattle.std.proofs.Common.{subst, sym}
use Rattle.std.proofs.Common.{List, All, map, ap, ◌∙◌}
use Rattle.cert_maker.specs.Links.{link_step}
use Rattle.cert_text.specs.declared.certificates.LinkStep.{LinkStep}
use Rattle.cert_text.specs.Spellable.{HasText}
use Rattle.cert_maker.proofs.LinkedCyclesHaveText.{linked-text}
use Rattle.cert_maker.proofs.links.linked.Goals as goal

pub returns-clause-text : goal.returns-clause-text
returns-clause-text g c =
    subst (λ (steps : List LinkStep). All HasText steps) (sym (c.from_vec.ensures ∙ c.in_ok-steps.ensures ∙ ap (map (link_step (g.F.Firing.net c.args.net.now))) (c.as_slice.ensures ∙ c.in_ok-listed.ensures)))
    (linked-text (g.F.Firing.net c.args.net.now) c.args.cycle.now.steps c.requires.channels c.requires.unordered)
