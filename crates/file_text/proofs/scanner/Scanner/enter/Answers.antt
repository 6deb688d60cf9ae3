use Rattle.std.proofs.Common.{◌≡◌, refl, ap}
use Rattle.file_text.specs.declared.scanner.Scanner.{Scanner}
use Rattle.file_text.proofs.ReaderMatchesMachine.{stack_on-push, open_of-around}
use Rattle.file_text.proofs.scanner.Scanner.enter.Goals as goal

pub returns : goal.returns
returns c =
    let frames : c.frame.new.self.frames ≡ c.args.self.now.frames = ap (λ (s : Scanner). s.frames) c.frame.ensures.same in
    let due : c.frame.new.self.due ≡ c.args.self.now.due = ap (λ (s : Scanner). s.due) c.frame.ensures.same in
    (c.goes.ensures.answer, rw (c.goes.ensures.after, c.in_ok-push.ensures.items, stack_on-push, c.in_ok-frame.ensures.frame, frames, due, open_of-around) refl)
