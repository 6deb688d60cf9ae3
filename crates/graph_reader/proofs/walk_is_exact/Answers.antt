use Rattle.std.specs.Prelude.{IsTrue, Ok}
use Rattle.std.proofs.lemmas.Result.{IfOk-at_ok}
use Rattle.sd_base.specs.Tables.{IsTimed}
use Rattle.graph_reader.specs.Spelled.{IsTable}
use Rattle.graph_reader.proofs.TablesKeepRules.{is_timed}
use Rattle.graph_reader.proofs.ReadTreesAreSpelled
use Rattle.graph_reader.proofs.SpelledTreesAreRead
use Rattle.graph_reader.proofs.walk_is_exact.Goals as goal

pub returns : goal.returns
returns c = λ need_times e t. (
  (λ read. IfOk-at_ok (λ u. (IsTrue need_times → IsTimed u) → IsTable need_times e u) read (ReadTreesAreSpelled.table_of need_times e) (is_timed need_times e (Ok t) read)),
  SpelledTreesAreRead.table_of need_times e t,
)
