-- The words and files decide the expansion of a net.
use Rattle.std.proofs.Common.{None, sym, ap, ◌∙◌}
use Rattle.sd_base.specs.declared.tables.GraphFile.{GraphFile}
use Rattle.sd_base.specs.declared.limits.Quantity.{Quantity}
use Rattle.sd_base.specs.Limits.{greatest_of}
use Rattle.sd_base.specs.Net.{Net}
use Rattle.sd_base.proofs.ByteTestsDecide.{one-some, some-none}
use Rattle.single_rate.specs.Limits.{excess}
use Rattle.report.specs.declared.refusal.Refusal.{Refusal}
use Rattle.report.specs.declared.refusal.Refusal.TheVariants.{Above}
use Rattle.report.specs.QuantityWords.{quantity_text}
use Rattle.sd_command.specs.commands.Expansions.{expanding}
use Rattle.sd_laws.proofs.CommandsDecide.{Determines}

told_of : Quantity → Refusal
told_of what = Above None (quantity_text what) (greatest_of what)

pub expanding_determines : (net : Net) (graph : GraphFile) → Determines (expanding net graph)
unfolding told_of
expanding_determines net graph = record {
  one = λ a b is also. is.is ∙ sym also.is;
  refusal = λ r s is also. is.told ∙ ap told_of (one-some (excess net graph) is.what also.what is.first also.first) ∙ sym also.told;
  never = λ r a is also. some-none (excess net graph) is.what is.first also.whole;
}
