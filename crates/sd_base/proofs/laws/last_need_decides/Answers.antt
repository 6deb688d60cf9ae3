use Rattle.sd_base.proofs.LawfulIsRegular.{regular}
use Rattle.sd_base.proofs.LastNeedsSuffice.{last-is_need, need-is_last, to-last, from-last}
use Rattle.sd_base.proofs.laws.last_need_decides.Goals as goal

pub returns-clause-number : goal.returns-clause-number
returns-clause-number c = λ channel j m. (last-is_need channel j m, need-is_last channel j m)

pub returns-clause-schedule : goal.returns-clause-schedule
returns-clause-schedule c = λ net s laws. (to-last net s, from-last net (regular net laws).own (regular net laws).wired s)
