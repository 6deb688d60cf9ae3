use Rattle.std.proofs.Common.{arith}
use Rattle.sd_io.proofs.WholeFiles.{whole-IsWithin}
use Rattle.sd_io.proofs.streams.read_within.Goals as goal

pub returns-else-len-limit-clause-within : goal.returns-else-len-limit-clause-within
returns-else-len-limit-clause-within g c =
    let read = rw (c.take.ensures.inner, c.take.ensures.limit, c.new-bytes.ensures.items) at c.in_ok-read_to_end.ensures.bytes in
    rw c.from_vec.ensures (whole-IsWithin (g.R.Read.remaining c.args.reader) c.args.limit _ read (omega arith))
