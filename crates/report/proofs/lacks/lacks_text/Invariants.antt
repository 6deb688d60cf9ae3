use Rattle.std.proofs.Common.{◌≡◌}
use denote.Text.{Utf8}
use denote.Shadow.{shadow}
use Rattle.std.specs.Prelude.{slice_index, codes}
use Rattle.std.specs.String.{string_bytes}
use Rattle.report.specs.ListTexts.{joined, pieces_of}
use Rattle.report.specs.LackTexts.{lack_on}
use Rattle.report.proofs.PiecesAreJoined.{between}
use Rattle.report.proofs.lacks.lacks_text.Given as goal

abbrev pub invariant-loop-actor : goal.invariant-loop-actor
invariant-loop-actor g l =
    let pieces = pieces_of (λ a i. lack_on l.graph (g.F.Firing.net l.net) a (slice_index l.counts a) i) l.lacks l.actor in
    record {
      utf8 : shadow (Utf8 l.between);
      text : string_bytes l.text ≡ joined (codes ", ") pieces;
      between : l.between ≡ between (codes ", ") pieces;
    }
