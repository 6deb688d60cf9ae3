use Rattle.std.proofs.Common.{◌≡◌, ◌+◌, ◌-◌, [], take, drop, refl, sym, ap, ◌∙◌, arith}
use Rattle.std.proofs.lemmas.List.{take_rest}
use Rattle.sd_base.proofs.ByteTestsDecide.{bytes_same}
use Rattle.file_text.specs.declared.due.Due.TheVariants.{Nothing}
use Rattle.file_text.specs.declared.characters.Run.TheVariants as run_of
use Rattle.file_text.specs.inside.Machine.{at_between, within, ended, node_of}
use Rattle.file_text.specs.inside.Runs.{IsRun}
use Rattle.file_text.specs.inside.Seen.{around_of, name_in, opened_of, stack_on, state_of}
use Rattle.file_text.proofs.PassedRuns.{run-as}
use Rattle.file_text.proofs.TagsPassWhole.{past-end-tag}
use Rattle.file_text.proofs.ReaderMatchesMachine.{stack_on-push}
use Rattle.file_text.proofs.scanner.Scanner.pass_end_tag.Goals as goal

pub returns-clause-same : goal.returns-clause-same
returns-clause-same c =
    let s = c.args.self.now in
    let bytes = c.args.bytes.now in
    let n = c.run_len-count.result in
    let o = opened_of c.in-Some.frame in
    let os = stack_on [] c.pop.new.self.items in
    let is : IsRun run_of.Name (drop 2 bytes) n = rw (take_rest bytes 2) at c.run_len-count.ensures in
    let there : around_of s ≡ within o os = rw (c.in-Some.ensures.items, stack_on-push) refl in
    let less : n + 2 - 2 ≡ n = omega arith in
    let same : take n (drop 2 bytes) ≡ o.name =
    ap (λ k. take k (drop 2 bytes)) (sym less) ∙ bytes_same _ _ (sym c.is_same.ensures ∙ c.if-not-is_same.false) ∙ c.innermost_name.ensures ∙ ap name_in there in
    let before : state_of s ≡ record { due = Nothing; spot = (around_of s, at_between) } = rw (c.requires.due, c.requires.mode) refl in
    let after : state_of c.put.new.self ≡ record { due = Nothing; spot = (ended os (node_of o), at_between) } = c.in_ok-put.ensures.1 ∙ rw c.requires.due refl in
    run-as _ before after (past-end-tag (around_of s) o os bytes n there c.requires.front c.requires.slash is same
    (c.ends_tag.ensures.within c.if-not-ends_tag.false) (c.ends_tag.ensures.end c.if-not-ends_tag.false))
