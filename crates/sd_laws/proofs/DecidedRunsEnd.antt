-- Where words and files decide a command, a run ends as they say.
use Rattle.std.proofs.Common.{◌≡◌, ◌⊎◌, ℕ, Bool, List, sym, ap, subst, ◌∙◌, inl, inr}
use Rattle.report.specs.declared.refusal.Refusal.{Refusal}
use Rattle.sd_io.specs.Outside.{Rose}
use Rattle.sd_steps.specs.declared.status.Status.{Status}
use Rattle.sd_steps.specs.declared.status.Status.TheVariants as statuses
use Rattle.sd_steps.specs.Statuses.{status_of}
use Rattle.sd_steps.specs.Courses.{Ending, Answered, Refused, Ended, Failed, Lacking, IsCutOff, IsRefusedBy}
use Rattle.sd_command.specs.Requests.{course_of}
use Rattle.sd_steps.specs.RunEndings.{Shelving, HasTaken, HasLine, of_refusal, of_putting, of_memory, Ends, done, told, out_fault, err_fault}
use Rattle.sd_command.specs.Runs.{Run}
use Rattle.sd_laws.specs.Endings.{IsFaultless, DueIsOne, DueIsAnswered, ElseIsDone}

-- a run without faults ends with the refusal of its command, is done with its answer, or lacks memory
abbrev Settles : Ending → Status → Type 0
Settles (Answered answer) status = (status ≡ statuses.Done) ⊎ (status ≡ statuses.Memory)
Settles (Refused refusal) status = (status ≡ status_of refusal) ⊎ (status ≡ statuses.Memory)
Settles (Ended refusal) status = (status ≡ status_of refusal) ⊎ (status ≡ statuses.Memory)
Settles (Failed refusal) status = ⊥
Settles Lacking status = status ≡ statuses.Memory

-- memory is lacking
lacks : (ending : Ending) (shelf : Shelving) (status : Status) → (Rose shelf.faults shelf.faults_after → ⊥) → HasTaken ending shelf → status ≡ statuses.Memory → Settles ending status
lacks (Answered answer) shelf status quiet taken is = inr is
lacks (Refused refusal) shelf status quiet taken is = inr is
lacks (Ended refusal) shelf status quiet taken is = inr is
lacks (Failed refusal) shelf status quiet taken is = quiet taken.counted
lacks Lacking shelf status quiet taken is = is

refuses : (ending : Ending) (shelf : Shelving) (status : Status) (refusal : Refusal) → (Rose shelf.faults shelf.faults_after → ⊥) → HasTaken ending shelf → IsRefusedBy ending refusal
    → status ≡ status_of refusal → Settles ending status
refuses (Answered answer) shelf status refusal quiet taken by is = absurd by
refuses (Refused other) shelf status refusal quiet taken by is = inl (is ∙ ap (λ (x : Refusal). status_of x) (sym by))
refuses (Ended other) shelf status refusal quiet taken by is = inl (is ∙ ap (λ (x : Refusal). status_of x) (sym by))
refuses (Failed other) shelf status refusal quiet taken by is = quiet taken.counted
refuses Lacking shelf status refusal quiet taken by is = absurd by

line_settles : (ending : Ending) (shelf : Shelving) (line : List ℕ) (status : Status) → (Rose shelf.faults shelf.faults_after → ⊥) → HasLine ending shelf line status → Settles ending status
line_settles ending shelf line status quiet (of_refusal refusal by taken p q) = refuses ending shelf status refusal quiet taken by q
line_settles ending shelf line status quiet (of_putting answer put is unput p q) = absurd (quiet unput.rose)
line_settles ending shelf line status quiet (of_memory taken p q) = lacks ending shelf status quiet taken q

settles : (run : Run) (cut : Bool) (ending : Ending) → IsFaultless run → Ends run.outside run.status cut ending → Settles ending run.status
settles run cut ending good (done c answer is put status out err) = subst (λ (e : Ending). Settles e run.status) (sym is) (inl status)
settles run cut ending good (told c line has out err) = line_settles ending run.outside.shelf line run.status good.shelf has
settles run cut ending good (out_fault c answer is put status part err) = absurd (good.out part.1)
settles run cut ending good (err_fault c line whole has status out part) = absurd (good.err part.1)

-- what ends a run for want of memory alone
cut_off : (ending : Ending) (status : Status) → IsCutOff ending → Settles ending status → status ≡ statuses.Memory
cut_off (Answered answer) status off is = absurd off
cut_off (Refused refusal) status off is = absurd off
cut_off (Ended refusal) status off is = absurd off
cut_off (Failed refusal) status off is = absurd is
cut_off Lacking status off is = is

pub due_is_answered : DueIsOne → DueIsAnswered
due_is_answered one run cut refusal n good due shows =
    by_ending (one run.words run.outside.shelf.files refusal n shows.number shows.ending good.told due shows.came)
  where
    settled : Settles shows.ending run.status
    settled = settles run cut shows.ending good shows.ends

    by_ending : IsCutOff shows.ending ⊎ ((shows.ending ≡ Refused refusal) × (shows.number ≡ n)) → (run.status ≡ status_of refusal) ⊎ (run.status ≡ statuses.Memory)
    by_ending (inl off) = inr (cut_off shows.ending run.status off settled)
    by_ending (inr (is, count)) = subst (λ (e : Ending). Settles e run.status) is settled

-- nothing refuses or ends the command
free : (run : Run) (ending : Ending) (n : ℕ) → ((r : Refusal) (m : ℕ) → course_of run.words run.outside.shelf.files (Refused r) m → ⊥)
    → ((r : Refusal) (m : ℕ) → course_of run.words run.outside.shelf.files (Ended r) m → ⊥) → course_of run.words run.outside.shelf.files ending n
    → Settles ending run.status → (run.status ≡ statuses.Done) ⊎ (run.status ≡ statuses.Memory)
free run (Answered answer) n none nothing came is = is
free run (Refused refusal) n none nothing came is = absurd (none refusal n came)
free run (Ended refusal) n none nothing came is = absurd (nothing refusal n came)
free run (Failed refusal) n none nothing came is = absurd is
free run Lacking n none nothing came is = inr is

pub else_is_done : ElseIsDone
else_is_done run cut good none nothing shows = free run shows.ending shows.number none nothing shows.came (settles run cut shows.ending good shows.ends)
