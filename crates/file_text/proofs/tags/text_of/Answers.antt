use Rattle.file_text.proofs.BytesSpellUtf8.{IsUtf8-due_along}
use Rattle.file_text.proofs.tags.text_of.Goals as goal

pub from_utf8_unchecked-requires : goal.from_utf8_unchecked-requires
from_utf8_unchecked-requires c = IsUtf8-due_along c.args.bytes.now c.requires
