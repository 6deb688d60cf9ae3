-- Parts of a list of jobs.
use Rattle.std.specs.Prelude.{ℕ, ◌+◌, ◌<◌, ◌^◌, List, length}
use Rattle.fanout.specs.JobRuns.{AreReadyOnceEntered, EachEntered}

-- jobs that stand in their list from number `first` on, which are numbers of an index; each may run, once its own number
-- there has entered
pub record IsPart {A : Type 0} (ready : A → Type 0) (entered : ℕ → Type 0) (first : ℕ) (jobs : List A) : Type 0 where
  pub places : first + length jobs < 2 ^ 64
  pub may_run : AreReadyOnceEntered ready (λ k. entered (first + k)) jobs

-- of jobs that stand in their list from number `first` on, each number there is one of those that entered
abbrev pub PartEntered : {A : Type 0} → (ℕ → Type 0) → ℕ → List A → Type 0
PartEntered {A} entered first jobs = EachEntered (λ k. entered (first + k)) jobs
