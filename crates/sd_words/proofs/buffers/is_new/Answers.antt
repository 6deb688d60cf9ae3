use Rattle.std.proofs.Common.{◌∙◌, ap, not}
use Rattle.std.specs.List.{list_any}
use Rattle.std.specs.Str.{bytes_eq}
use Rattle.std.specs.String.{string_bytes}
use Rattle.sd_words.proofs.buffers.is_new.Goals as goal

pub returns-clause-new : goal.returns-clause-new
returns-clause-new c = c.in_ok-insert.ensures.added ∙ ap (λ n. not (list_any (λ k. bytes_eq n (string_bytes k)) c.args.names.now.set.keys)) c.in_ok-copy.ensures.ok
