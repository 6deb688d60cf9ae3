-- From what was put and sent to how the run ended.
use Rattle.std.proofs.Common.{◌≡◌, ℕ, List, Bool, true, false, refl, sym, subst, inl, inr}
use Rattle.sd_steps.specs.declared.answer.Answer.{Answer}
use Rattle.sd_steps.specs.declared.status.Status.{Status}
use Rattle.sd_steps.specs.declared.status.Status.TheVariants as statuses
use Rattle.sd_steps.specs.Courses.{Ending, Answered}
use Rattle.sd_steps.specs.RunEndings.{GetsNothing, HasPut, HasLine, Outside, Ends, done, told, out_fault, err_fault}
use Rattle.sd_steps.specs.Deliveries.{Sends}

module _ (o : Outside) (status : Status) where
  -- the text of an answer was sent
  pub ends_answered : (answer : Answer) (shown : List ℕ) → HasPut answer.put o.shelf → shown ≡ answer.text → Sends statuses.Done shown status o.out → GetsNothing o.err
      → (cut : Bool) × Ends o status cut (Answered answer)
  ends_answered answer shown put same sends nothing = by_sends (subst (λ (t : List ℕ). Sends statuses.Done t status o.out) same sends)
    where
      by_sends : Sends statuses.Done answer.text status o.out → (cut : Bool) × Ends o status cut (Answered answer)
      by_sends (inl (is, whole)) = (false, done refl answer refl put is whole nothing)
      by_sends (inr (is, part)) = (true, out_fault refl answer refl put is part nothing)

  -- a line was sent
  pub ends_told : (ending : Ending) (line : List ℕ) (whole : Status) → HasLine ending o.shelf line whole → Sends whole line status o.err → GetsNothing o.out
      → (cut : Bool) × Ends o status cut ending
  ends_told ending line whole has (inl (is, sent)) nothing = (false, told refl line (subst (λ (s : Status). HasLine ending o.shelf line s) (sym is) has) nothing sent)
  ends_told ending line whole has (inr (is, part)) nothing = (false, err_fault refl line whole has is nothing part)
