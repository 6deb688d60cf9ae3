-- A command as a course of steps, which is the order in which it is refused.
use Rattle.std.specs.Prelude.{◌≡◌, ℕ, ◌⊎◌, List, Option}
use Rattle.sd_io.specs.Outside.{Rose}
use Rattle.report.specs.declared.refusal.Refusal.{Refusal}
use Rattle.sd_steps.specs.declared.answer.Answer.{Answer}
use Rattle.sd_steps.specs.declared.answer.Put.{Put}

-- What a command comes to: an answer; a refusal that the words and files decide; one by a limit of an execution, which they
-- need not decide; the refusal for a file whose taking failed; or want of memory.
pub data Ending : Type 0 where
  Answered : Answer → Ending
  Refused : Refusal → Ending
  Ended : Refusal → Ending
  Failed : Refusal → Ending
  Lacking : Ending

-- memory lacked, or taking a file failed
abbrev pub IsCutOff : Ending → Type 0
IsCutOff (Failed refusal) = Unit {0}
IsCutOff Lacking = Unit {0}
IsCutOff _ = ⊥

-- the refusal by which a command ended
abbrev pub IsRefusedBy : Ending → Refusal → Type 0
IsRefusedBy (Refused refusal) told = refusal ≡ told
IsRefusedBy (Ended refusal) told = refusal ≡ told
IsRefusedBy (Failed refusal) told = refusal ≡ told
IsRefusedBy _ told = ⊥

-- a count of faults is one more where taking a file failed, and else the same
abbrev pub Counted : Ending → ℕ → ℕ → Type 0
Counted (Failed refusal) faults faults' = Rose faults faults'
Counted _ faults faults' = faults' ≡ faults

-- A step passes a value on, or refuses the command; where it takes a file, that may fail. It executes nothing.
pub record Step (A : Type 0) : Type 1 where
  pub passes : A → Type 0
  pub refuses : Refusal → Type 0
  pub fails : Refusal → Type 0

-- a step that takes no file
abbrev pub deciding : {A : Type 0} → (A → Type 0) → (Refusal → Type 0) → Step A
deciding passes refuses = record { passes = passes; refuses = refuses; fails = λ refusal. ⊥ }

-- a step, and then another one with the value that it passes on, as one step
abbrev pub through : {A B : Type 0} → Step A → (A → Step B) → Step B
through {A} step next = record {
  passes = λ b. (a : A) × step.passes a × (next a).passes b;
  refuses = λ refusal. step.refuses refusal ⊎ ((a : A) × step.passes a × (next a).refuses refusal);
  fails = λ refusal. step.fails refusal ⊎ ((a : A) × step.passes a × (next a).fails refusal);
}

-- a step, and then what the command does with the value that it passes on: how the command may end, and after how many executions
pub data After {A : Type 0} (step : Step A) (next : A → Ending → ℕ → Type 0) (ending : Ending) (n : ℕ) : Type 0 where
  refused : (refusal : Refusal) → step.refuses refusal → ending ≡ Refused refusal → n ≡ 0 → After step next ending n
  failed : (refusal : Refusal) → step.fails refusal → ending ≡ Failed refusal → n ≡ 0 → After step next ending n
  lacking : ending ≡ Lacking → n ≡ 0 → After step next ending n
  passed : (a : A) → step.passes a → next a ending n → After step next ending n

-- The last part of a command, which may execute: what answers it, what refuses it and what may end it, each after so many
-- executions, and how many there may be where memory lacks.
pub record Analysis : Type 1 where
  pub answered : Answer → ℕ → Type 0
  pub refused : Refusal → ℕ → Type 0
  pub ended : Refusal → ℕ → Type 0
  pub counted : ℕ → Type 0

abbrev pub ends_by : Analysis → Ending → ℕ → Type 0
ends_by analysis (Answered answer) n = analysis.answered answer n
ends_by analysis (Refused refusal) n = analysis.refused refusal n
ends_by analysis (Ended refusal) n = analysis.ended refusal n
ends_by analysis (Failed refusal) n = ⊥
ends_by analysis Lacking n = analysis.counted n

-- a text is sent, after a file is put, where there is one; nothing is executed
abbrev pub printing : List ℕ → Option Put → Analysis
printing text put = record {
  answered = λ answer n. (n ≡ 0) × (answer.text ≡ text) × (answer.put ≡ put);
  refused = λ refusal n. ⊥;
  ended = λ refusal n. ⊥;
  counted = λ n. n ≡ 0;
}
