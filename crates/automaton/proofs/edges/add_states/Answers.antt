use Rattle.std.proofs.Common.{◌≡◌, ℕ, ◌*◌, ◌≤◌, ◌<◌, Some, refl, length, arith}
use Rattle.std.specs.Prelude.{slice_get}
use Rattle.std.proofs.Math.Nat.{mul-le-mul_right}
use Rattle.std.proofs.lemmas.Option.{slice_get_read}
use Rattle.automaton.proofs.EdgesAddInTurn.{added-state}
use Rattle.automaton.proofs.edges.add_states.Goals as goal

-- the first node of each state is within the bound of all
first-few : (state states tokens most : ℕ) → state < states → states * tokens ≤ most → state * tokens ≤ most
first-few state states tokens most below few =
    let more : state * tokens ≤ states * tokens = mul-le-mul_right tokens (let h : state ≤ states = omega arith in h) in
    omega (arith, more, few)

pub add_state-requires-clause-place : goal.add_state-requires-clause-place
add_state-requires-clause-place c = first-few c.loop-place.place (length c.args.states.now) c.args.tokens _ c.loop-place-test.true c.requires.nodes

pub add_state-requires-clause-known : goal.add_state-requires-clause-known
add_state-requires-clause-known c = λ p r next.
    let at : slice_get c.args.states.now c.loop-place.place ≡ Some c.index-states-place.result = slice_get_read c.args.states.now (length c.args.states.now) c.loop-place.place c.index-states-place.result refl c.loop-place-test.true c.index-states-place.is in
    first-few r (length c.args.states.now) c.args.tokens _ (c.requires.known c.loop-place.place p r c.index-states-place.result at next) c.requires.nodes

pub loop-place-preserved : goal.loop-place-preserved
loop-place-preserved c = added-state c.args.edges.now.items c.loop-place.edges.items c.add_state.new.edges.items c.args.tokens c.args.matrices.now c.args.states.now c.loop-place.place c.index-states-place.result
    (slice_get_read c.args.states.now (length c.args.states.now) c.loop-place.place c.index-states-place.result refl c.loop-place-test.true c.index-states-place.is) c.loop-place.invariant
    c.in_ok-add_state.ensures
