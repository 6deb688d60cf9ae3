-- Words that ask for a request go on with its command.
use Rattle.std.proofs.Common.{◌≡◌, ℕ, List, Result, Ok, sym, subst, ◌∙◌}
use Rattle.sd_words.specs.declared.request.Request.{Request}
use Rattle.sd_words.specs.declared.request.UsageCause.{UsageCause}
use Rattle.sd_words.specs.Asked.{request_of}
use Rattle.sd_io.specs.Outside.{Files}
use Rattle.sd_steps.specs.Courses.{Ending}
use Rattle.sd_steps.specs.Askings.{asking}
use Rattle.sd_command.specs.Requests.{command_of, course_of}
use Rattle.sd_laws.proofs.CommandsDecide.{IsPast, goes_past}

one_request : (words : List (List ℕ)) (q r : Request) → request_of words ≡ Ok q → request_of words ≡ Ok r → q ≡ r
one_request words q r p s = let e : ◌≡◌ {A = Result Request UsageCause} (Ok q) (Ok r) = sym p ∙ s in (cc)

pub of_request : (words : List (List ℕ)) (shelf : Files) (request : Request) → request_of words ≡ Ok request → (ending : Ending) (n : ℕ) → IsPast ending n → course_of words shelf ending n → command_of request shelf ending n
of_request words shelf request asked ending n past came =
    let ask = goes_past (asking words) _ ending n past came in
    subst (λ (q : Request). command_of q shelf ending n) (one_request words ask.0 request ask.1 asked) ask.2
