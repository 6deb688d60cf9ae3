use Rattle.sd_base.proofs.LawfulIsRegular.{wired, balanced}
use Rattle.sd_base.proofs.LiveNetsGoOn.{live-never-stuck}
use Rattle.sd_base.proofs.laws.live_nets_never_stop.Goals as goal

pub returns : goal.returns
returns c = λ net n laws live. live-never-stuck net (wired net laws) (balanced net laws) laws.some_actor live n
