-- Which of two streams a sink writes to, and what was written to it.
use Rattle.std.specs.Prelude.{ℕ, List, Option}
use Rattle.std.specs.Io.KnownBytes.{Appends, Keeps}
use Rattle.sd_io.specs.declared.real_sink.Stream.{Stream}
use Rattle.sd_io.specs.declared.real_sink.Stream.TheVariants.{Output, Error}

abbrev pub IsOutput : {O E : Type 0} → Stream O E → Type 0
IsOutput (Output writer) = Unit {0}
IsOutput (Error writer) = ⊥

abbrev pub IsError : {O E : Type 0} → Stream O E → Type 0
IsError (Output writer) = ⊥
IsError (Error writer) = Unit {0}

-- the stream is the same one, and the bytes were appended to what it holds, where that is known
abbrev pub StreamAppends : {O E : Type 0} → (O → Option (List ℕ)) → (E → Option (List ℕ)) → Stream O E → Stream O E → List ℕ → Type 0
StreamAppends outputs errors (Output old) (Output new) bytes = Appends (outputs old) (outputs new) bytes
StreamAppends outputs errors (Error old) (Error new) bytes = Appends (errors old) (errors new) bytes
StreamAppends outputs errors (Output old) (Error new) bytes = ⊥
StreamAppends outputs errors (Error old) (Output new) bytes = ⊥

-- the stream is the same one, and holds what it held, where that is known
abbrev pub StreamKeeps : {O E : Type 0} → (O → Option (List ℕ)) → (E → Option (List ℕ)) → Stream O E → Stream O E → Type 0
StreamKeeps outputs errors (Output old) (Output new) = Keeps (outputs old) (outputs new)
StreamKeeps outputs errors (Error old) (Error new) = Keeps (errors old) (errors new)
StreamKeeps outputs errors (Output old) (Error new) = ⊥
StreamKeeps outputs errors (Error old) (Output new) = ⊥
