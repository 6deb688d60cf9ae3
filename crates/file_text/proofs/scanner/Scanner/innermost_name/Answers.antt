use Rattle.std.proofs.Common.{◌≡◌, sym, ◌∙◌}
use Rattle.file_text.specs.inside.Seen.{around_of, name_in}
use Rattle.file_text.proofs.ReaderMatchesMachine.{innermost_name}
use Rattle.file_text.proofs.scanner.Scanner.innermost_name.Goals as goal

pub returns-in-Some : goal.returns-in-Some
returns-in-Some c =
    let s = c.args.self.now in
    let name : name_in (around_of s) ≡ c.in-Some.frame.now.name = innermost_name s.frames.items c.in-Some.frame.now s.root (rw c.deref.ensures.value at c.in-Some.ensures.value) in
    c.as_bytes.ensures.value ∙ c.as_str.ensures ∙ sym name
