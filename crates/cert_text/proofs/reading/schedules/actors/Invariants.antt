use Rattle.std.proofs.Common.{◌≡◌, ◌++◌, All, length}
use Rattle.std.specs.List.{flat_map}
use Rattle.cert_text.specs.NumberLines.{numbers_line}
use Rattle.cert_text.specs.Reads.{lines_of}
use Rattle.cert_text.specs.Sections.{actors_from}
use Rattle.cert_text.specs.Spellable.{AreStarts}
use Rattle.cert_text.proofs.RepeatedReadsGoOn.{with_front}
use Rattle.cert_text.proofs.reading.schedules.actors.Given as goal

abbrev pub invariant-actors : goal.invariant-actors
invariant-actors l = record {
  text : l.fn.lines.rest.now ≡ flat_map numbers_line l.starts.items ++ l.lines.rest.now;
  each : All AreStarts l.starts.items;
  exact : with_front l.starts.items (actors_from (lines_of l.lines.rest.now)) ≡ actors_from (lines_of l.fn.lines.rest.now);
}

abbrev pub decreases-actors : goal.decreases-actors
decreases-actors l = length l.lines.rest.now
