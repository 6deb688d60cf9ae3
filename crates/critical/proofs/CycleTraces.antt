-- Need cycles of small nets, by the definitions.
use Rattle.std.proofs.Common.{ℕ, [], ◌∷◌, refl, lit<, arith}
use Rattle.sd_base.specs.declared.role.Role.TheVariants.{Token}
use Rattle.critical.specs.declared.cycle.FiringNo.{FiringNo}
use Rattle.critical.specs.declared.cycle.CycleStep.{CycleStep}
use Rattle.critical.specs.declared.cycle.NeedCycle.{NeedCycle}
use Rattle.sd_base.specs.Net.{Channel, Net, total}
use Rattle.critical.specs.Cycles.{IsStep, HoldsOn}

abbrev one : ℕ → ℕ → ℕ → ℕ → ℕ → ℕ → Channel
one source made taken target tokens number = record { source = source; target = target; made = made ∷ []; taken = taken ∷ []; tokens = tokens; size = 1; role = Token number }

abbrev firing : ℕ → ℕ → FiringNo
firing actor number = record { actor = actor; number = number }

abbrev step : ℕ → ℕ → ℕ → CycleStep
step channel actor number = record { channel = channel; to = firing actor number }

-- x of time 2 and y of time 3 in a ring with one token
abbrev ring : Net
ring = record { times = (2 ∷ []) ∷ (3 ∷ []) ∷ []; channels = one 0 1 1 1 0 0 ∷ one 1 1 1 0 1 1 ∷ []; round = 1 ∷ 1 ∷ [] }

-- from firing 0 of x by firing 0 of y to firing 1 of x: a round in 5 time units
abbrev ring_cycle : NeedCycle
ring_cycle = record { time = 5; rounds = 1; first = firing 0 0; steps = step 0 1 0 ∷ step 1 0 1 ∷ [] }

ring-first : IsStep ring (firing 0 0) (step 0 1 0)
unfolding total
ring-first = record { place = lit< tt; source = refl; target = refl; last = record { needed = lit< tt; enough = omega arith } }

ring-second : IsStep ring (firing 1 0) (step 1 0 1)
unfolding total
ring-second = record { place = lit< tt; source = refl; target = refl; last = record { needed = lit< tt; enough = omega arith } }

ring-holds : HoldsOn ring ring_cycle
ring-holds = record { some_step = omega arith; some_round = omega arith; chain = (ring-first, (ring-second, tt)); actor = refl; number = refl; time = refl }

-- not in 4
ring-slow : ¬ HoldsOn ring (record ring_cycle { time = 4 })
ring-slow = λ holds. absurd (omega (arith, holds.time))

-- x of time 4 and y of time 5, each one firing at a time, in a ring with rates 2 and 1 and eight tokens
abbrev multi : Net
multi = record { times = (4 ∷ []) ∷ (5 ∷ []) ∷ []; channels = one 0 2 1 1 0 0 ∷ one 1 1 2 0 8 1 ∷ one 0 1 1 0 1 2 ∷ one 1 1 1 1 1 3 ∷ []; round = 1 ∷ 2 ∷ [] }

-- three firings of y, one after another: a round in 10 time units
abbrev multi_cycle : NeedCycle
multi_cycle = record { time = 10; rounds = 1; first = firing 1 1; steps = step 3 1 2 ∷ step 3 1 3 ∷ [] }

multi-first : IsStep multi (firing 1 1) (step 3 1 2)
unfolding total
multi-first = record { place = lit< tt; source = refl; target = refl; last = record { needed = lit< tt; enough = omega arith } }

multi-second : IsStep multi (firing 1 2) (step 3 1 3)
unfolding total
multi-second = record { place = lit< tt; source = refl; target = refl; last = record { needed = lit< tt; enough = omega arith } }

multi-holds : HoldsOn multi multi_cycle
multi-holds = record { some_step = omega arith; some_round = omega arith; chain = (multi-first, (multi-second, tt)); actor = refl; number = refl; time = refl }
