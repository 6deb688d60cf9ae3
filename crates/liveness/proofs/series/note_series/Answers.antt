use Rattle.std.proofs.Common.{sym, subst}
use Rattle.std.proofs.lemmas.List.{append-nil}
use Rattle.liveness.proofs.series.note_series.Goals as goal

pub loop-firing-init : goal.loop-firing-init
loop-firing-init g c order holds = subst (g.N.Note.holds c.args.note.now) (sym (append-nil order)) holds
