use Rattle.std.proofs.Common.{arith}
use Rattle.sd_words.proofs.ReadNumbersFit.{actors-read}
use Rattle.sd_words.proofs.making.actors_of.Goals as goal

pub overflow_cast-result : goal.overflow_cast-result
overflow_cast-result c = omega (arith, c.number_or-actors.ensures, (actors-read _ c.requires).1)
