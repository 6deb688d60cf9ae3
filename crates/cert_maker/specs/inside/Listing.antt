-- Cycles that are listed each once, in the order in which they were entered.
use Rattle.std.specs.Prelude.{◌≡◌, ◌⊎◌, ℕ, ◌<◌, Bool, true, ◌&&◌, nat_eq, List, [], ◌∷◌, ◌++◌, length}
use Rattle.std.specs.Cmp.{first_so, second_so}
use Rattle.std.specs.Cmp.Lexicographic.{pointwise}
use Rattle.std.specs.Hash as fed
use Rattle.std.specs.Hash.{items_Alike}
use Rattle.std.proofs.lemmas.Bool.{eqb-true}
use Rattle.cert_text.specs.declared.certificates.LinkStep.{LinkStep}
use Rattle.cert_text.specs.declared.certificates.LinkCycle.{LinkCycle}
use Rattle.cert_maker.specs.declared.listing.ListedCycle.{ListedCycle}

-- a cycle as it is listed
abbrev pub listed_of : LinkCycle → ListedCycle
listed_of c = record { time = c.time; rounds = c.rounds; first = c.first; steps = c.steps }

abbrev pub cycle_of : ListedCycle → LinkCycle
cycle_of c = record { time = c.time; rounds = c.rounds; first = c.first; steps = c.steps }

-- the cycle has number i: it is one of those that were there, or comes next
abbrev pub IsEntered : List LinkCycle → LinkCycle → ℕ → List LinkCycle → Type 0
IsEntered old cycle i new = ((i < length old) × (new ≡ old)) ⊎ ((i ≡ length old) × (new ≡ old ++ cycle ∷ []))

-- what a step feeds a hasher: its firing, which tells most steps apart
abbrev pub firing_input : LinkStep → fed.HashWrites
firing_input step = fed.u32 step.to.actor ++ fed.u64 step.to.number

-- equal firings are fed alike
pub firing_alike : (s t : LinkStep) (r : Bool) → ((nat_eq s.to.actor t.to.actor && nat_eq s.to.number t.to.number) && r) ≡ true → firing_input s ≡ firing_input t
firing_alike s t r same =
    let firing = first_so (nat_eq s.to.actor t.to.actor && nat_eq s.to.number t.to.number) r same in
    let actor = eqb-true s.to.actor t.to.actor (first_so (nat_eq s.to.actor t.to.actor) (nat_eq s.to.number t.to.number) firing) in
    let number = eqb-true s.to.number t.to.number (second_so (nat_eq s.to.actor t.to.actor) (nat_eq s.to.number t.to.number) firing) in
    λ i. fed.u32 (actor i) ++ fed.u64 (number i)

-- so are the steps of equal cycles
pub steps_alike : (E : LinkStep → LinkStep → Bool) → ((s t : LinkStep) → E s t ≡ true → firing_input s ≡ firing_input t) → (time rounds first : Bool) (xs ys : List LinkStep) → (time && (rounds && (first && pointwise E xs ys))) ≡ true
    → fed.slice firing_input xs ≡ fed.slice firing_input ys
steps_alike E alike time rounds first xs ys same =
    let later = second_so time (rounds && (first && pointwise E xs ys)) same in
    let last = second_so rounds (first && pointwise E xs ys) later in
    (items_Alike {E = E} {F = firing_input} (record { fed = alike })).fed xs ys (second_so first (pointwise E xs ys) last)
