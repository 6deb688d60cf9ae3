use Rattle.std.proofs.Common.{◌*◌, ◌≤◌, ℕ, subst, sym}
use Rattle.std.specs.Prelude.{IsTrue}
use Rattle.sd_base.specs.declared.limits.TheConstants.{STAMPS}
use Rattle.sd_base.specs.Schedules.{HasInputs}
use Rattle.sd_base.specs.Untimed.{IsLive}
use Rattle.liveness.specs.declared.round.Round.{Round}
use Rattle.liveness.specs.RoundAnswers.{is_live}
use Rattle.test_scenario_storage.proofs.boundable.runs_rounds.Goals as goal

pub returns-in-Live : goal.returns-in-Live
returns-in-Live c = λ yes.
    let live = c.in_ok-one_round.ensures.exact.0 (subst (λ (r : Round). IsTrue (is_live r)) (sym c.in-Live.is) yes) in (
      c.args.gamma.now,
      record {
        round = c.requires.round;
        inputs = subst HasInputs c.in_ok-net.ensures (c.is_fed.ensures.0 c.if-not-is_fed.false);
        live = subst IsLive c.in_ok-net.ensures live;
        stamps = subst (λ (n : ℕ). n * c.args.tokens ≤ STAMPS) c.firings_of.ensures c.if-firings_of-tokens-gt-STAMPS.false;
      },
    )
