use Rattle.std.proofs.Common.{◌≡◌, ℕ, zero, suc, ◌+◌, ◌<◌, ◌%◌, [], ◌∷◌, ◌++◌, List, All, length, replicate, sym, subst, arith}
use Rattle.std.proofs.lemmas.List.{length_push}
use Rattle.std.proofs.lemmas.List.Elements.{All-append}
use Rattle.sd_base.specs.declared.tables.ChannelRow.{ChannelRow}
use Rattle.sd_base.specs.Tables.{ChannelKeepsRules}
use Rattle.bench.proofs.chain.channel_rows.Goals as goal

single : {X : Type 0} (P : X → Type 0) (x : X) → P x → All P (x ∷ [])
single P x h zero d lt = h
single P x h (suc k) d lt = absurd (let none : ⊥ = omega arith in none)

pub loop-channel-preserved : goal.loop-channel-preserved
loop-channel-preserved c =
    let P : ChannelRow → Type 0 = ChannelKeepsRules (replicate c.args.actors 1) in
    let row : ChannelRow = c.in_ok-channel_row.field-0 in
    let low : c.loop-channel.channel % c.max.result < c.args.actors = omega arith in
    let high : c.min.result < c.args.actors = omega arith in
    let keeps : P row = c.in_ok-channel_row.ensures.rules c.args.actors low high in
    let rows : All P (c.loop-channel.rows ++ row ∷ []) = All-append P c.loop-channel.rows (row ∷ []) c.loop-channel.invariant.1 (single P row keeps) in
    let size : length (c.loop-channel.rows ++ row ∷ []) ≡ c.loop-channel.channel + 1 =
    (let e = length_push c.loop-channel.rows row in let e' = c.loop-channel.invariant.0 in omega arith) in
    rw c.in_ok-push.ensures.ok (size, rows)
