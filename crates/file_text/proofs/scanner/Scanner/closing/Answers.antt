use Rattle.std.proofs.Common.{refl, sym}
use Rattle.file_text.specs.inside.Seen.{around_of, name_in}
use Rattle.file_text.proofs.ReaderMatchesMachine.{drop_some, drop_none, closing_other}
use Rattle.file_text.proofs.scanner.Scanner.closing.Goals as goal

pub returns-in-Some : goal.returns-in-Some
returns-in-Some c =
    rw (drop_some (name_in (around_of c.args.self.now)) c.args.matched c.in-Some.x (sym c.in-Some.ensures.found)) c.matching.ensures

pub returns-in-White : goal.returns-in-White
returns-in-White c =
    rw (c.goes.ensures.after, drop_none (name_in (around_of c.args.self.now)) c.args.matched (sym c.in-None.ensures.found), c.in-White.is) (c.goes.ensures.answer, refl)

pub returns-in-Greater : goal.returns-in-Greater
returns-in-Greater c =
    rw (drop_none (name_in (around_of c.args.self.now)) c.args.matched (sym c.in-None.ensures.found), c.in-Greater.is) c.close.ensures

pub returns-in_default : goal.returns-in_default
returns-in_default c =
    rw (
      drop_none (name_in (around_of c.args.self.now)) c.args.matched (sym c.in-None.ensures.found),
      closing_other (around_of c.args.self.now) c.args.class c.args.b c.in_default.not-White c.in_default.not-Greater,
    ) refl
