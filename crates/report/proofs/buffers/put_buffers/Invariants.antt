use Rattle.std.proofs.Common.{◌≡◌, ◌++◌, map}
use denote.Text.{Utf8}
use denote.Shadow.{shadow}
use Rattle.std.specs.Prelude.{codes}
use Rattle.std.specs.String.{string_bytes}
use Rattle.report.specs.ListTexts.{joined, pieces_of}
use Rattle.report.specs.StorageTexts.{buffer_on}
use Rattle.report.proofs.PiecesAreJoined.{between}
use Rattle.report.proofs.buffers.put_buffers.Given as goal

abbrev pub invariant-loop-channel : goal.invariant-loop-channel
invariant-loop-channel g l =
    let pieces = pieces_of (buffer_on (map g.R.Named.name_of l.rows)) l.capacities l.channel in
    record {
      utf8 : shadow (Utf8 l.between);
      text : string_bytes l.text ≡ string_bytes l.initial.text ++ joined (codes ",") pieces;
      between : l.between ≡ between (codes ",") pieces;
    }
