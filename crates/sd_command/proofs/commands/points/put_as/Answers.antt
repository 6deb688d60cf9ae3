use Rattle.std.proofs.Common.{ℕ, List, refl, subst}
use Rattle.sd_steps.specs.declared.file_kind.FileKind.TheVariants as kinds
use Rattle.sd_steps.specs.Certifyings.{certifying}
use Rattle.sd_steps.specs.Steps.{Does}
use Rattle.sd_command.proofs.command_lemmas.CertificatesArePut.{certificate-filed}
use Rattle.sd_command.proofs.command_lemmas.PutsArePlain.{trade_off-plain}
use Rattle.sd_command.proofs.commands.points.put_as.Goals as goal

pub returns : goal.returns
returns g c =
    let made = c.in_ok-made.ensures.is in
    certificate-filed c.args.name.now _ c.in_ok-made.made (record {
      members = c.args.exploration.members.items;
      explored = c.requires.explored;
      counted = refl;
      listed = made.0;
      is = made.1;
      made = made.2;
      plain = trade_off-plain (g.F.Firing.net c.args.net.now) c.args.wanted.now.no_overlap c.args.wanted.now.limits c.args.exploration.members.items c.args.exploration.points.items c.args.schedules.items made.0 c.requires.explored c.requires.reached made.2;
    }) c.certify.result
    (subst (λ (n : List ℕ). Does (certifying kinds.Certificate n c.in_ok-made.made) c.certify.result) c.as_str.ensures c.certify.ensures)
