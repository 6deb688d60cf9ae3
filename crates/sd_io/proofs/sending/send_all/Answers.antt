use Rattle.std.proofs.Common.{◌≤◌, ◌-◌, ℕ, length, arith, ◌∙◌}
use Rattle.std.proofs.lemmas.List.{length-take, length-drop}
use Rattle.sd_io.proofs.PiecesJoinToTexts.{sent_more}
use Rattle.sd_io.proofs.sending.send_all.Goals as goal

pub sending-preserved : goal.sending-preserved
sending-preserved g c =
    let few : c.in_ok-done.field-0 ≤ length c.args.text.now - c.sending.done =
    omega (arith, c.in_ok-done.ensures.some.1, length-take {A = ℕ}, length-drop {A = ℕ}) in
    record {
      within = omega (arith, few, c.sending-test.true);
      sent = sent_more _ _ _ _ _ _ few c.sending.invariant.sent c.in_ok-done.ensures.sent;
      quiet = c.in_ok-done.ensures.quiet ∙ c.sending.invariant.quiet;
    }
