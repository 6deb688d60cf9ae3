-- From one visited event to the next.
use Rattle.std.proofs.Common.{◌≡◌, ℕ, ◌+◌, ◌≤◌, ◌<◌, inl, ap, ◌∙◌, arith}
use Rattle.sd_base.specs.Net.{Net}
use Rattle.sd_base.specs.Schedules.{HasInputs}
use Rattle.sd_base.specs.SelfTimed.{IsEvent, events_by, starts_by}
use Rattle.sd_base.specs.Lawful.{Lawful}
use Rattle.selftimed.specs.declared.engine.Stage.{Stage}
use Rattle.selftimed.specs.declared.engine.Stage.TheVariants.{Fresh, Running, Spent, OutOfMemory}
use Rattle.selftimed.specs.Moves.{ComesNext}
use Rattle.loops.specs.LoopAnswers.{FirstDiffer, IsStatesSpent, IsTooManyStarts}
use Rattle.event_loops.specs.inside.Going.{StandsAt}
use Rattle.loops.proofs.RanksRise.{rank-first, rank-grows, rank-after}

module _ (net : Net) (laws : Lawful net) (fed : HasInputs net) where
  -- the next event after n events is the one with the next number
  pub next-visit : (n : ℕ) (stage : Stage) (now t : ℕ) → StandsAt net n stage now → ComesNext net stage now t → IsEvent net t × (events_by net t ≡ n + 1)
  next-visit n Fresh now t stands next = (inl next, ap (events_by net) next ∙ (rank-first net ∙ let e : 1 ≡ n + 1 = omega (arith, stands) in e))
  next-visit n Running now t stands next = (next.event, rank-after net laws fed now t next ∙ ap (λ (x : ℕ). x + 1) stands.1)
  next-visit n Spent now t stands next = absurd stands
  next-visit n OutOfMemory now t stands next = absurd stands

  -- the starts of the next event are too many
  pub too-many : (n states t : ℕ) → FirstDiffer net n → n < states → IsEvent net t → events_by net t ≡ n + 1 → 4000000 < starts_by net t → IsTooManyStarts net states
  too-many n states t differ below event number many = record {
    last = t;
    event = event;
    number = omega arith;
    differ = λ x y one other less before. differ x y one other less (omega (arith, rank-grows net laws fed y t before event));
    many = many;
  }

  -- the starts of the next event pass the bound
  pub ends-many : (n states now : ℕ) (stage : Stage) → FirstDiffer net n → StandsAt net n stage now → n < states → (u : ℕ) × ComesNext net stage now u × (4000000 < starts_by net u) → IsTooManyStarts net states
  ends-many n states now stage differ stands below (u, next, many) =
      let event : IsEvent net u × (events_by net u ≡ n + 1) = next-visit n stage now u stands next in
      too-many n states u differ below event.0 event.1 many

-- as many events as were allowed have different shapes
pub ends-spent : (net : Net) (states now : ℕ) (stage : Stage) → FirstDiffer net states → StandsAt net states stage now → 1 ≤ states → IsStatesSpent net states
ends-spent net states now Fresh differ stands some = absurd (omega arith)
ends-spent net states now Running differ stands some = record { last = now; event = stands.0; number = stands.1; differ = differ; few = stands.2 }
ends-spent net states now Spent differ stands some = absurd stands
ends-spent net states now OutOfMemory differ stands some = absurd stands
