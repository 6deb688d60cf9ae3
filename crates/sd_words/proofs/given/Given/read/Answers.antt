use Rattle.std.proofs.Common.{◌∙◌, ℕ, List, Bor, ap, map}
use Rattle.std.proofs.lemmas.Result.{err_from_is_err_and}
use Rattle.clap.specs.Words.{App, found_of, is_simple, matches_of, takes}
use Rattle.sd_words.proofs.ClapFindsValues.{found, simple, taken}
use Rattle.sd_words.proofs.given.Given.read.Goals as goal

pub returns-in_err-matches-clause-refused : goal.returns-in_err-matches-clause-refused
returns-in_err-matches-clause-refused c = λ settings e.
    let words = map (λ (w : Bor (List ℕ)). w.now) c.args.words.now in
    let p = err_from_is_err_and c.from_residual-in_err-matches.result c.from_residual-in_err-matches.ensures.1 in
    rw (p.1, p.2) (c.in_err-matches.ensures.passes (ap (λ (a : App). takes a words) c.in_ok-command.ensures ∙ taken words settings e))

pub returns-clause-given : goal.returns-clause-given
returns-clause-given c = λ settings e.
    let words = map (λ (w : Bor (List ℕ)). w.now) c.args.words.now in
    let matches = c.in_ok-matches.ensures.matches (ap is_simple c.in_ok-command.ensures ∙ simple) in
    found (found_of c.in_ok-matches.matches) words settings e (matches.0 ∙ ap (λ (a : App). matches_of a words) c.in_ok-command.ensures)
