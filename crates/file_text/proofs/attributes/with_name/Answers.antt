use Rattle.std.proofs.Common.{string_bytes}
use Rattle.std.proofs.lemmas.Map.Text.{btree_set_updates_text}
use Rattle.file_text.proofs.attributes.with_name.Goals as goal

pub returns : goal.returns
returns c = λ q. btree_set_updates_text (string_bytes c.args.name) c.args.names c.insert.new.self _ c.in_ok-insert.ensures.updates q
