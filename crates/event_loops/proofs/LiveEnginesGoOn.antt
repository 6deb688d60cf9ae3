-- An engine of a live net has a next event.
use Rattle.std.proofs.Common.{◌≡◌, ℕ, ◌+◌, ◌≤◌, ◌<◌, ◌⊎◌, true, false, inl, inr, ⊎_elim, sym, ◌∙◌, arith}
use Rattle.std.proofs.lemmas.Bool.{cases_lt}
use Rattle.sd_base.specs.Net.{Net}
use Rattle.sd_base.specs.Schedules.{HasInputs, count_of}
use Rattle.sd_base.specs.SelfTimed.{earliest, IsEvent, starts_by}
use Rattle.sd_base.specs.Untimed.{IsLive}
use Rattle.sd_base.specs.Lawful.{Lawful}
use Rattle.sd_base.proofs.LawfulIsRegular.{regular, wired, balanced}
use Rattle.sd_base.proofs.EndsDecideCounts.{early_at}
use Rattle.sd_base.proofs.LiveNetsGoOn.{live-never-stuck}
use Rattle.selftimed.specs.declared.engine.Stage.{Stage}
use Rattle.selftimed.specs.declared.engine.Stage.TheVariants.{Fresh, Running, Spent, OutOfMemory}
use Rattle.selftimed.specs.declared.engine.Move.{Move}
use Rattle.selftimed.specs.declared.engine.Move.TheVariants.{Stepped, Stuck}
use Rattle.selftimed.specs.Moves.{IsNextEvent, ComesNext, IsStuck, IsMove}
use Rattle.event_loops.specs.inside.Going.{GoesOn}
use Rattle.loops.proofs.RanksRise.{starts-rise}

pub never-stuck : (net : Net) → Lawful net → IsLive net → (stage : Stage) (now : ℕ) → IsStuck net stage now → ⊥
never-stuck net laws live Fresh now stuck = live-never-stuck net (wired net laws) (balanced net laws) laws.some_actor live (λ b. 0) stuck
never-stuck net laws live Running now stuck = live-never-stuck net (wired net laws) (balanced net laws) laws.some_actor live (count_of (earliest net (now + 1))) stuck.1
never-stuck net laws live Spent now stuck = stuck
never-stuck net laws live OutOfMemory now stuck = stuck

pub stuck-never : (net : Net) → Lawful net → IsLive net → (stage after : Stage) (most now t : ℕ) → IsMove net most stage now Stuck after t → ⊥
stuck-never net laws live stage after most now t moved = never-stuck net laws live stage now moved.2

pub goes-on : (net : Net) (stage after : Stage) (most now t : ℕ) → IsMove net most stage now Stepped after t → GoesOn net most stage now true after t
goes-on net stage after most now t steps = (steps.runs, steps.next, steps.within)

pub goes-over : (net : Net) → Lawful net → HasInputs net → (stage after : Stage) (most now t : ℕ) → (stage ≡ Fresh) ⊎ (stage ≡ Running) → IsMove net most stage now Move.Spent after t → GoesOn net most stage now false after t
goes-over net laws fed stage after most now t ready (spent, inr (u, next, over)) = (u, next, over (earliest net (u + 1)) (early_at net (regular net laws) fed (u + 1)))
goes-over net laws fed stage after most now t (inl fresh) (spent, inl before) = absurd (let clash : Fresh ≡ Stage.Spent = sym fresh ∙ before in cc)
goes-over net laws fed stage after most now t (inr running) (spent, inl before) = absurd (let clash : Running ≡ Stage.Spent = sym running ∙ before in cc)

module _ (net : Net) (laws : Lawful net) (fed : HasInputs net) where
  -- the next event is no later than one that lies ahead
  pub next-within : (now t end : ℕ) → IsNextEvent net now t → IsEvent net end → now < end → t ≤ end
  next-within now t end next event ahead = ⊎_elim
      (λ (past : end < t). absurd (next.quiet end ahead past event))
      (λ (h : t ≤ end). h) (cases_lt end t)

  -- so its starts are no more
  pub next-few : (most now t end : ℕ) → IsNextEvent net now t → IsEvent net end → now < end → starts_by net end ≤ most → starts_by net t ≤ most
  next-few most now t end next event ahead few = omega (arith, starts-rise net laws fed t end (next-within now t end next event ahead))

  pub first-few : (most now t end : ℕ) (stage : Stage) → stage ≡ Fresh → ComesNext net stage now t → starts_by net end ≤ most → starts_by net t ≤ most
  first-few most now t end stage fresh next few =
      let zero_here : t ≡ 0 = rw fresh at next in
      omega (arith, starts-rise net laws fed t end (omega arith))

  -- the same of an engine that runs
  pub running-within : (now t end : ℕ) (stage : Stage) → stage ≡ Running → ComesNext net stage now t → IsEvent net end → now < end → (now < t) × (t ≤ end)
  running-within now t end stage runs next event ahead =
      let after : IsNextEvent net now t = rw runs at next in
      (after.later, next-within now t end after event ahead)

  pub running-few : (most now t end : ℕ) (stage : Stage) → stage ≡ Running → ComesNext net stage now t → IsEvent net end → now < end → starts_by net end ≤ most → starts_by net t ≤ most
  running-few most now t end stage runs next event ahead few = next-few most now t end (rw runs at next) event ahead few
