use Rattle.std.proofs.Common.{◌≡◌, refl, rules}
use Rattle.file_text.specs.declared.due.Due.TheVariants.{Nothing}
use Rattle.file_text.specs.declared.mode.Mode.TheVariants as mode
use Rattle.file_text.specs.inside.Machine.{in_value, in_value_reference}
use Rattle.file_text.specs.inside.Seen.{around_of, holder_of, state_of}
use Rattle.file_text.proofs.PassedRuns.{in-value-entity, past-value-entity, run-as}
use Rattle.file_text.proofs.scanner.Scanner.pass_value_reference.Goals as goal

pub returns-in-More-clause-same : goal.returns-in-More-clause-same
returns-in-More-clause-same c =
    let s = c.args.self.now in
    let t = s.tag in
    let before : state_of s ≡ record { due = Nothing; spot = (around_of s, in_value_reference (holder_of t) t.attributes t.attribute.items t.quote t.value.items c.args.read) } = rw (c.requires.due, c.requires.mode) refl in
    let after : state_of (record s { mode = mode.ValueReference c.in-More.more }) ≡ record { due = Nothing; spot = (around_of s, in_value_reference (holder_of t) t.attributes t.attribute.items t.quote t.value.items c.in-More.more) } = rw c.requires.due refl in
    run-as _ before after (in-value-entity (around_of s) (holder_of t) t.attributes t.attribute.items t.quote t.value.items c.args.read c.in-More.more c.args.bytes.now c.entity_len-count.result.0 (rw c.in-More.is at c.entity_len-count.ensures))

pub returns-in_ok-push-in-Done-clause-same : goal.returns-in_ok-push-in-Done-clause-same
returns-in_ok-push-in-Done-clause-same c =
    let s = c.args.self.now in
    let t = s.tag in
    let before : state_of s ≡ record { due = Nothing; spot = (around_of s, in_value_reference (holder_of t) t.attributes t.attribute.items t.quote t.value.items c.args.read) } = rw (c.requires.due, c.requires.mode) refl in
    let after : state_of (record s { mode = mode.Value; tag = record t { value = c.push.new.self } }) ≡ record { due = Nothing; spot = (around_of s, in_value (holder_of t) t.attributes t.attribute.items t.quote c.push.new.self.items) } = rw c.requires.due refl in
    run-as _ before after (past-value-entity (around_of s) (holder_of t) t.attributes t.attribute.items t.quote t.value.items c.push.new.self.items c.args.read _ c.args.bytes.now c.entity_len-count.result.0 (rw c.in-Done.is at c.entity_len-count.ensures)
    (search rules))
