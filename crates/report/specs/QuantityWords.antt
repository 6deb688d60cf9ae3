-- The printed words of quantities.
use Rattle.std.specs.Prelude.{ℕ, List, codes}
use Rattle.sd_base.specs.declared.limits.Quantity.{Quantity}
use Rattle.sd_base.specs.declared.limits.Quantity.TheVariants.{FileBytes, CertificateBytes, Depth, NameBytes, Actors, Channels, Ports, Phases, Rate, Tokens, Size, Time, Ratio, Round, Starts, Scenarios, AutomatonStates, Nodes, Stamps, Edges, OrderPairs, CertificateNumber}

unfoldable pub quantity_text : Quantity → List ℕ
quantity_text FileBytes = codes "file bytes"
quantity_text CertificateBytes = codes "certificate bytes"
quantity_text Depth = codes "depth"
quantity_text NameBytes = codes "name bytes"
quantity_text Actors = codes "actors"
quantity_text Channels = codes "channels"
quantity_text Ports = codes "ports"
quantity_text Phases = codes "phases"
quantity_text Rate = codes "rate"
quantity_text Tokens = codes "tokens"
quantity_text Size = codes "size"
quantity_text Time = codes "time"
quantity_text Ratio = codes "ratio"
quantity_text Round = codes "round"
quantity_text Starts = codes "starts"
quantity_text Scenarios = codes "scenarios"
quantity_text AutomatonStates = codes "automaton states"
quantity_text Nodes = codes "nodes"
quantity_text Stamps = codes "stamps"
quantity_text Edges = codes "edges"
quantity_text OrderPairs = codes "order pairs"
quantity_text CertificateNumber = codes "certificate number"
