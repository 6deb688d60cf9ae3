-- The numbers of the request that words ask for are within their ranges.
use Rattle.std.proofs.Common.{◌≡◌, ℕ, List, Ok, subst, sym}
use Rattle.sd_words.specs.declared.request.Request.{Request}
use Rattle.sd_words.specs.Asked.{IsWithinLimits, request_of, values_in}
use Rattle.sd_words.proofs.AnswersFollowRules.{asks}
use Rattle.sd_words.proofs.ReadNumbersFit.{request-within}

pub asked_within : (words : List (List ℕ)) (r : Request) → request_of words ≡ Ok r → IsWithinLimits r
asked_within words r is = let a = asks words r is in subst IsWithinLimits (sym a.6) (request-within a.1 (values_in a.0))
