use Rattle.std.proofs.Common.{length}
use Rattle.sd_base.proofs.LawfulIsRegular.{timed, wired, balanced}
use Rattle.circular_waits.specs.CircularWaits.{waiting_at}
use Rattle.circular_waits.proofs.WaitsStopFirings.{waits-bound, wait-each, waits-zero}
use Rattle.circular_waits.proofs.LessRoomKeepsWaits.{roomless-zero}
use Rattle.circular_waits.proofs.laws.circular_waits_stop_all.Goals as goal

pub returns-clause-firings : goal.returns-clause-firings
returns-clause-firings c = λ net v channels s j laws wait good below.
    waits-bound net v (timed net laws) (wired net laws) (length channels) (waiting_at net channels) (wait-each net v channels wait) s good j below

pub returns-clause-rate : goal.returns-clause-rate
returns-clause-rate c = λ net v channels x y laws wait rate.
    waits-zero net v (timed net laws) (wired net laws) (balanced net laws) (length channels) (waiting_at net channels) wait.some (wait-each net v channels wait) x y rate

pub returns-clause-roomless : goal.returns-clause-roomless
returns-clause-roomless c = λ net ds es v channels x y laws wait room rate. roomless-zero net ds es v channels x y laws wait room rate
