use Rattle.std.proofs.Common.{◌≡◌, ◌+◌, ◌-◌, ◌<◌, [], length, take, drop, refl, sym, ap, ◌∙◌, arith}
use Rattle.std.proofs.lemmas.List.{take_rest}
use Rattle.file_text.specs.declared.due.Due.TheVariants.{Nothing}
use Rattle.file_text.specs.declared.characters.Run.TheVariants as run_of
use Rattle.file_text.specs.inside.Machine.{at_between, entered}
use Rattle.file_text.specs.inside.Runs.{IsRun}
use Rattle.file_text.specs.inside.Seen.{around_of, state_of}
use Rattle.file_text.proofs.PassedRuns.{run-as}
use Rattle.file_text.proofs.TagsPassWhole.{past-start-tag, has-room}
use Rattle.file_text.proofs.ReaderMatchesMachine.{stack_on-push, open_of-around}
use Rattle.file_text.proofs.scanner.Scanner.pass_start_tag.Goals as goal

pub text_of-requires : goal.text_of-requires
text_of-requires c =
    let is : IsRun run_of.Name (drop 1 c.args.bytes.now) c.run_len-count.result = rw (take_rest c.args.bytes.now 1) at c.run_len-count.ensures in
    let same : c.run_len-count.result + 1 - 1 ≡ c.run_len-count.result = omega arith in
    rw same is.whole

pub returns-clause-same : goal.returns-clause-same
returns-clause-same c =
    let s = c.args.self.now in
    let bytes = c.args.bytes.now in
    let n = c.run_len-count.result in
    let is : IsRun run_of.Name (drop 1 bytes) n = rw (take_rest bytes 1) at c.run_len-count.ensures in
    let same : n + 1 - 1 ≡ n = omega arith in
    let name : c.in_ok-of.field-0 ≡ take n (drop 1 bytes) = c.in_ok-of.ensures ∙ c.text_of.ensures ∙ ap (λ k. take k (drop 1 bytes)) same in
    let before : state_of s ≡ record { due = Nothing; spot = (around_of s, at_between) } = rw (c.requires.due, c.requires.mode) refl in
    let after : state_of (record s { frames = c.push.new.self }) ≡ record { due = Nothing; spot = (entered (around_of s) (take n (drop 1 bytes)) [], at_between) } =
    rw (c.requires.due, c.requires.mode, c.in_ok-push.ensures.items, stack_on-push, open_of-around, name, c.new.ensures, c.new-2.ensures.items) refl in
    let few : length s.frames.items < 32 = omega (arith, c.len.ensures, c.if-len-ge-MOST_OPEN.false, s.frames.ok.0) in
    run-as _ before after (past-start-tag (around_of s) bytes n (has-room s.frames.items s.root c.requires.inside few) c.requires.front
    (sym c.is_name_start.ensures ∙ c.if-not-is_name_start.false) (λ none. omega (arith, none, c.if-count-eq0.false)) is
    (c.ends_tag.ensures.within c.if-not-ends_tag.false) (c.ends_tag.ensures.end c.if-not-ends_tag.false))
