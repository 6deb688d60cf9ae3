use Rattle.std.proofs.Common.{◌≡◌, ◌∙◌, ◌<◌, ℕ, List, [], Bor, length, map, sym, ap, arith, rules}
use Rattle.std.specs.Prelude.{codes}
use Rattle.std.proofs.lemmas.List.{get_or-map}
use Rattle.report.specs.StorageTexts.{buffer_on, buffer_text}
use Rattle.report.proofs.PiecesAreJoined.{text-start, between-start, text-skip, between-skip, text-more, between-then, buffers-none, buffers-some}
use Rattle.report.proofs.buffers.put_buffers.Goals as goal
use Rattle.report.proofs.buffers.put_buffers.Goals.{in-Some+in_ok-push_str+in_ok-put_buffer, in_default}

pub loop-channel-init : goal.loop-channel-init
loop-channel-init g c = record {
  utf8 = search rules;
  text = text-start (codes ",") (buffer_on (map g.R.Named.name_of c.args.rows.now)) c.args.capacities.now _;
  between = between-start (codes ",") (buffer_on (map g.R.Named.name_of c.args.rows.now)) c.args.capacities.now;
}

pub loop-channel-preserved : goal.loop-channel-preserved
loop-channel-preserved g c =
    let show = buffer_on (map g.R.Named.name_of c.args.rows.now) in
    let capacities = c.args.capacities.now in
    let i = c.loop-channel.channel in
    let before = c.loop-channel.invariant in
    let within : i < length c.args.rows.now = omega (arith, c.loop-channel-test.true, c.requires) in
    elim c.match-capacities-channel.branch [
      | in-Some+in_ok-push_str+in_ok-put_buffer w ↦ record {
        utf8 = rw w.between-is (search rules);
        text = rw w.text-is (text-more (codes ",") show capacities i w.in-Some.capacity _ _ _ _ _ _ w.in-Some.is
            (ap (λ (n : List ℕ). buffer_text n w.in-Some.capacity)
            (w.as_str.ensures ∙ w.name.ensures ∙ ap g.R.Named.name_of w.index-rows-channel.is ∙ sym (get_or-map g.R.Named.name_of c.args.rows.now i _ [] within))) before.text before.between
            w.in_ok-push_str.ensures.bytes w.in_ok-put_buffer.ensures);
        between = between-then (codes ",") show capacities i w.in-Some.capacity _ w.in-Some.is (ap (λ (b : Bor (List ℕ)). b.now) w.between-is);
      }
      | in_default w ↦ record {
        utf8 = rw w.between-is before.utf8;
        text = rw w.text-is (text-skip (codes ",") show capacities i _ _ w.in_default.not-Some before.text);
        between = rw w.between-is (between-skip (codes ",") show capacities i _ w.in_default.not-Some before.between);
      }
    ]

pub returns-in_ok-push_str-2 : goal.returns-in_ok-push_str-2
returns-in_ok-push_str-2 g c =
    let none : c.loop-channel.between.now ≡ [] = search rules in
    buffers-none (map g.R.Named.name_of c.args.rows.now) c.args.capacities.now c.loop-channel.channel (omega (arith, c.loop-channel-test.false, c.loop-channel.auto.channel-end)) c.loop-channel.between.now _ _ _
    c.loop-channel.invariant.between none c.loop-channel.invariant.text (search rules)

pub returns-else-is_empty : goal.returns-else-is_empty
returns-else-is_empty g c =
    let some : c.loop-channel.between.now ≡ [] → ⊥ = λ none. search rules in
    buffers-some (map g.R.Named.name_of c.args.rows.now) c.args.capacities.now c.loop-channel.channel (omega (arith, c.loop-channel-test.false, c.loop-channel.auto.channel-end)) c.loop-channel.between.now _ _
    c.loop-channel.invariant.between some c.loop-channel.invariant.text
