use Rattle.std.proofs.Common.{◌≡◌, inl, inr, refl}
use Rattle.file_text.specs.declared.due.Due.TheVariants.{Nothing}
use Rattle.file_text.specs.inside.Machine.{at_gap, at_named, at_equals}
use Rattle.file_text.specs.inside.Seen.{around_of, holder_of, state_of}
use Rattle.file_text.proofs.PassedRuns.{in-white, white-gap, white-named, white-equals, run-as}
use Rattle.file_text.proofs.scanner.Scanner.white_len.Goals as goal

pub returns-in-Gap-clause-same : goal.returns-in-Gap-clause-same
returns-in-Gap-clause-same c =
    let s = c.args.self.now in
    let t = s.tag in
    elim c.in-Gap.is [
      | inl gap ↦ (let here : state_of s ≡ record { due = Nothing; spot = (around_of s, at_gap (holder_of t) t.attributes) } = rw (c.requires, gap) refl in
          run-as _ here here (in-white (around_of s) (at_gap (holder_of t) t.attributes) c.args.bytes.now c.run_len.result (white-gap (holder_of t) t.attributes) c.run_len.ensures))
      | inr (inl named) ↦ (let here : state_of s ≡ record { due = Nothing; spot = (around_of s, at_named (holder_of t) t.attributes t.attribute.items) } = rw (c.requires, named) refl in
          run-as _ here here (in-white (around_of s) (at_named (holder_of t) t.attributes t.attribute.items) c.args.bytes.now c.run_len.result (white-named (holder_of t) t.attributes t.attribute.items) c.run_len.ensures))
      | inr (inr equals) ↦ (let here : state_of s ≡ record { due = Nothing; spot = (around_of s, at_equals (holder_of t) t.attributes t.attribute.items) } = rw (c.requires, equals) refl in
          run-as _ here here (in-white (around_of s) (at_equals (holder_of t) t.attributes t.attribute.items) c.args.bytes.now c.run_len.result (white-equals (holder_of t) t.attributes t.attribute.items) c.run_len.ensures))
    ]
