pub use Rattle.loops.specs.LoopAnswers
pub use Rattle.loops.specs.declared.error.RunError
