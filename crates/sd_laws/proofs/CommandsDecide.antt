-- The words and files decide a command where they decide each of its steps.
use Rattle.std.proofs.Common.{◌≡◌, ℕ, ◌⊎◌, inl, inr, List, sym, ap, subst, ◌∙◌}
use Rattle.report.specs.declared.refusal.Refusal.{Refusal}
use Rattle.sd_steps.specs.declared.answer.Answer.{Answer}
use Rattle.sd_steps.specs.ScenarioSteps.{naming, of_scenario}
use Rattle.sd_steps.specs.Courses.{Step, through, Ending, Answered, Refused, Ended, Failed, Lacking, After, Analysis, ends_by, refused, failed, lacking, passed, IsCutOff}

-- a step passes on one value, or has one refusal
pub record Determines {A : Type 0} (step : Step A) : Type 0 where
  pub one : (a b : A) → step.passes a → step.passes b → a ≡ b
  pub refusal : (r s : Refusal) → step.refuses r → step.refuses s → r ≡ s
  pub never : (r : Refusal) (a : A) → step.refuses r → step.passes a → ⊥

-- Two steps in turn of which each determines.
module _ {A B : Type 0} (step : Step A) (next : A → Step B) where
  module _ (d : Determines step) (rest : (a : A) → step.passes a → Determines (next a)) where
    one : (b c : B) → (through step next).passes b → (through step next).passes c → b ≡ c
    one b c (a, is, p) (z, also, q) = (rest a is).one b c p (subst (λ x. (next x).passes c) (d.one z a also is) q)

    refusal : (r s : Refusal) → (through step next).refuses r → (through step next).refuses s → r ≡ s
    refusal r s (inl x) (inl y) = d.refusal r s x y
    refusal r s (inl x) (inr (a, is, y)) = absurd (d.never r a x is)
    refusal r s (inr (a, is, x)) (inl y) = absurd (d.never s a y is)
    refusal r s (inr (a, is, x)) (inr (z, also, y)) = (rest a is).refusal r s x (subst (λ w. (next w).refuses s) (d.one z a also is) y)

    never : (r : Refusal) (b : B) → (through step next).refuses r → (through step next).passes b → ⊥
    never r b (inl x) (a, is, p) = d.never r a x is
    never r b (inr (a, is, x)) (z, also, p) = (rest a is).never r b x (subst (λ w. (next w).passes b) (d.one z a also is) p)

    pub through_determines : Determines (through step next)
    through_determines = record { one = one; refusal = refusal; never = never }

-- a step that names its scenario
module _ {A : Type 0} (name : List ℕ) (step : Step A) where
  pub naming_determines : Determines step → Determines (naming name step)
  naming_determines d = record {
    one = d.one;
    refusal = λ r s (x, is, e) (y, also, f). e ∙ ap (of_scenario name) (d.refusal x y is also) ∙ sym f;
    never = λ r a (x, is, e) p. d.never x a is p;
  }

-- a command that has a refusal ends by it, unless it is cut off
abbrev pub Decides : (Ending → ℕ → Type 0) → Type 0
Decides command = (r : Refusal) (n m : ℕ) (ending : Ending) → command (Refused r) n → command ending m → IsCutOff ending ⊎ ((ending ≡ Refused r) × (m ≡ n))

-- an ending that no step comes to: an answer, an end by a limit, or a refusal after executions
abbrev pub IsPast : Ending → ℕ → Type 0
IsPast (Answered answer) n = Unit {0}
IsPast (Refused refusal) n = n ≡ 0 → ⊥
IsPast (Ended refusal) n = Unit {0}
IsPast (Failed refusal) n = ⊥
IsPast Lacking n = ⊥

module _ {A : Type 0} (step : Step A) (next : A → Ending → ℕ → Type 0) where
  -- a step that determines, and then what decides
  pub after_decides : Determines step → ((a : A) → step.passes a → Decides (next a)) → Decides (After step next)
  after_decides d rest r n m ending (refused s is e none) (refused t also f none') =
      inr (f ∙ ap (λ (x : Refusal). Refused x) (d.refusal t s also is) ∙ sym e, none' ∙ sym none)
  after_decides d rest r n m ending (refused s is e none) (failed t also f none') = inl (subst IsCutOff (sym f) tt)
  after_decides d rest r n m ending (refused s is e none) (lacking f none') = inl (subst IsCutOff (sym f) tt)
  after_decides d rest r n m ending (refused s is e none) (passed a also came) = absurd (d.never s a is also)
  after_decides d rest r n m ending (failed s is e none) other = absurd (cc)
  after_decides d rest r n m ending (lacking e none) other = absurd (cc)
  after_decides d rest r n m ending (passed a is came) (refused t also f none') = absurd (d.never t a also is)
  after_decides d rest r n m ending (passed a is came) (failed t also f none') = inl (subst IsCutOff (sym f) tt)
  after_decides d rest r n m ending (passed a is came) (lacking f none') = inl (subst IsCutOff (sym f) tt)
  after_decides d rest r n m ending (passed a is came) (passed b also came') =
      rest a is r n m ending came (subst (λ (x : A). next x ending m) (d.one b a also is) came')

  -- a command that ends past its first steps has passed this one
  pub goes_past : (ending : Ending) (n : ℕ) → IsPast ending n → After step next ending n → (a : A) × step.passes a × next a ending n
  goes_past ending n past (refused r is e none) = absurd (subst (λ (x : Ending). IsPast x n) e past none)
  goes_past ending n past (failed r is e none) = absurd (subst (λ (x : Ending). IsPast x n) e past)
  goes_past ending n past (lacking e none) = absurd (subst (λ (x : Ending). IsPast x n) e past)
  goes_past ending n past (passed a is came) = (a, is, came)

  -- what nothing that follows can end, nothing ends
  pub never_ends : (r : Refusal) (n : ℕ) → ((a : A) → step.passes a → next a (Ended r) n → ⊥) → After step next (Ended r) n → ⊥
  never_ends r n rest ended = let past = goes_past (Ended r) n tt ended in rest past.0 past.1 past.2

-- what the last part of a command decides
pub record DecidesLast (a : Analysis) : Type 0 where
  pub one : (r s : Refusal) (n m : ℕ) → a.refused r n → a.refused s m → (s ≡ r) × (m ≡ n)
  pub no_answer : (r : Refusal) (answer : Answer) (n m : ℕ) → a.refused r n → a.answered answer m → ⊥
  pub no_end : (r s : Refusal) (n m : ℕ) → a.refused r n → a.ended s m → ⊥

pub last_decides : (a : Analysis) → DecidesLast a → Decides (ends_by a)
last_decides a d r n m (Answered answer) is also = absurd (d.no_answer r answer n m is also)
last_decides a d r n m (Refused s) is also = let e = d.one r s n m is also in inr (ap (λ (x : Refusal). Refused x) e.0, e.1)
last_decides a d r n m (Ended s) is also = absurd (d.no_end r s n m is also)
last_decides a d r n m (Failed s) is also = absurd also
last_decides a d r n m Lacking is also = inl tt
