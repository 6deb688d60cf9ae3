use Rattle.std.proofs.Common.{◌∙◌, ap, sym, subst}
use Rattle.sd_words.specs.declared.request.Request.{Request}
use Rattle.sd_words.specs.Asked.{IsWithinLimits, request_for}
use Rattle.sd_words.proofs.ReadNumbersFit.{request-within}
use Rattle.sd_words.proofs.request_given.Goals as goal

pub request_for-requires : goal.request_for-requires
request_for-requires c = (_, c.in_ok-values.ensures.read)

pub returns-clause-within : goal.returns-clause-within
returns-clause-within c =
    let same = c.in_ok-request_for.ensures ∙ ap (request_for c.in_ok-algo.algo) c.in_ok-values.ensures.read in
    subst (λ (r : Request). IsWithinLimits r) (sym same) (request-within c.in_ok-algo.algo _)
