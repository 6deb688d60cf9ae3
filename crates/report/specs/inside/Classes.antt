-- Classes of refusals whose reasons are made together.
use Rattle.report.specs.declared.refusal.Class.{Class}
use Rattle.report.specs.declared.refusal.Class.TheVariants.{Inconsistent, Connection, Deadlock, Budget, Rejected, Shelf}

-- of what is wrong with a graph or its net
abbrev pub IsOfNet : Class → Type 0
IsOfNet Inconsistent = Unit {0}
IsOfNet Connection = Unit {0}
IsOfNet Deadlock = Unit {0}
IsOfNet _ = ⊥

-- of what ends a command beside its graph
abbrev pub IsOfEnd : Class → Type 0
IsOfEnd Budget = Unit {0}
IsOfEnd Rejected = Unit {0}
IsOfEnd Shelf = Unit {0}
IsOfEnd _ = ⊥
