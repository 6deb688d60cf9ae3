use Rattle.std.proofs.Common.{◌≡◌, ◌++◌, length, fold, take}
use Rattle.std.specs.List.{flat_map}
use Rattle.std.specs.Hash as fed
use Rattle.cert_maker.specs.inside.Listing.{firing_input}
use Rattle.cert_maker.proofs.listing.ListedCycleHash.hash.Given as goal

-- the number of steps was fed, and the firings of those that were passed
abbrev pub invariant-loop-step : goal.invariant-loop-step
invariant-loop-step g l = l.state ≡ fold (g.H.Hasher.write) l.fn.state (fed.usize (length l.self.steps) ++ flat_map firing_input (take l.step-index l.self.steps))
