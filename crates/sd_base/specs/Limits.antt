-- The greatest numbers of quantities.
use Rattle.std.specs.Prelude.{ℕ}
use Rattle.sd_base.specs.declared.limits.Quantity.{Quantity}
use Rattle.sd_base.specs.declared.limits.Quantity.TheVariants.{FileBytes, CertificateBytes, Depth, NameBytes, Actors, Channels, Ports, Phases, Rate, Tokens, Size, Time, Ratio, Round, Starts, Scenarios, AutomatonStates, Nodes, Stamps, Edges, OrderPairs, CertificateNumber}
use Rattle.sd_base.specs.declared.limits.TheConstants.{FILE_BYTES, CERTIFICATE_BYTES, DEPTH, NAME_BYTES, ACTORS, CHANNELS, PORTS, PHASES, RATE, TOKENS, SIZE, TIME, RATIO, ROUND, STARTS, SCENARIOS, AUTOMATON_STATES, NODES, STAMPS, EDGES, ORDER_PAIRS, CERTIFICATE_NUMBER}

-- the greatest number of a quantity
unfoldable pub greatest_of : Quantity → ℕ
greatest_of FileBytes = FILE_BYTES
greatest_of CertificateBytes = CERTIFICATE_BYTES
greatest_of Depth = DEPTH
greatest_of NameBytes = NAME_BYTES
greatest_of Actors = ACTORS
greatest_of Channels = CHANNELS
greatest_of Ports = PORTS
greatest_of Phases = PHASES
greatest_of Rate = RATE
greatest_of Tokens = TOKENS
greatest_of Size = SIZE
greatest_of Time = TIME
greatest_of Ratio = RATIO
greatest_of Round = ROUND
greatest_of Starts = STARTS
greatest_of Scenarios = SCENARIOS
greatest_of AutomatonStates = AUTOMATON_STATES
greatest_of Nodes = NODES
greatest_of Stamps = STAMPS
greatest_of Edges = EDGES
greatest_of OrderPairs = ORDER_PAIRS
greatest_of CertificateNumber = CERTIFICATE_NUMBER
