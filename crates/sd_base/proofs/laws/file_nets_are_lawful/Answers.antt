use Rattle.sd_base.proofs.FileNets.{net_of-lawful}
use Rattle.sd_base.proofs.laws.file_nets_are_lawful.Goals as goal

pub returns : goal.returns
returns c = λ g gamma no_overlap rules timed gives small. net_of-lawful g gamma no_overlap rules timed gives small
