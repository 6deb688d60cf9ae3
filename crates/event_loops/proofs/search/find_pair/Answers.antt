use Rattle.std.proofs.Common.{◌≡◌, refl, arith}
use Rattle.sd_base.specs.SelfTimed.{shape_at, starts_by}
use Rattle.event_loops.specs.inside.Fingerprinting.{IsNew, AreFingerprints, upper_fingerprint}
use Rattle.event_loops.specs.inside.Searching.{IsLast, NoneSoon}
use Rattle.event_loops.proofs.FingerprintsTellShapes.{spent-fingerprints, many-fingerprints, refusal-is}
use Rattle.event_loops.proofs.KeptShapesFindPairs.{spent-last, many-last}
use Rattle.event_loops.proofs.search.find_pair.Goals as goal

pub checkpoint_of-requires : goal.checkpoint_of-requires
checkpoint_of-requires g c =
    let allowed = rw c.in_default.is at c.in_ok-pair.ensures.found in
    rw c.search_allowed.ensures.net (record { running = allowed.0; event = allowed.1.event })

pub search_on-requires-clause-runs : goal.search_on-requires-clause-runs
search_on-requires-clause-runs g c = rw c.search_allowed.ensures.net c.requires.runs

pub returns-then-is_new-clause-refused : goal.returns-then-is_new-clause-refused
returns-then-is_new-clause-refused g c =
    let allowed = rw c.in_default.is at c.in_ok-pair.ensures.found in
    let is : IsLast (g.F.Firing.net c.args.engine.now.net.now) c.args.states c.search_allowed.new.engine.moment = allowed.1 in
    let have : AreFingerprints (g.F.Firing.net c.args.engine.now.net.now) c.search_allowed.new.engine.moment c.search_allowed.new.fingerprints.items = rw c.in_default.is at c.in_ok-pair.ensures.fingerprints in
    let fingerprint : c.upper_half.result ≡ upper_fingerprint (shape_at (g.F.Firing.net c.args.engine.now.net.now) c.search_allowed.new.engine.moment) = rw c.search_allowed.ensures.net at c.upper_half.ensures in
    let new : IsNew (upper_fingerprint (shape_at (g.F.Firing.net c.args.engine.now.net.now) c.search_allowed.new.engine.moment)) c.search_allowed.new.fingerprints.items =
    rw fingerprint at (rw c.as_slice.ensures.value at (c.if-is_new.ensures refl)) in
    let starts : c.starts.result ≡ starts_by (g.F.Firing.net c.args.engine.now.net.now) c.search_allowed.new.engine.moment = rw c.search_allowed.ensures.net at c.starts.ensures in
    refusal-is (g.F.Firing.net c.args.engine.now.net.now) c.args.states c.starts.result c.refusal_at.result
    (λ few. spent-fingerprints (g.F.Firing.net c.args.engine.now.net.now) (g.met.F.Firing.lawful c.args.engine.now.net.now) c.requires.runs.inputs c.args.states c.search_allowed.new.engine.moment c.search_allowed.new.fingerprints.items is have new (omega (arith, starts)))
    (λ many. many-fingerprints (g.F.Firing.net c.args.engine.now.net.now) (g.met.F.Firing.lawful c.args.engine.now.net.now) c.requires.runs.inputs c.args.states c.search_allowed.new.engine.moment c.search_allowed.new.fingerprints.items is have new (omega (arith, starts)))
    c.refusal_at.ensures.spent c.refusal_at.ensures.many

pub returns-clause-refused : goal.returns-clause-refused
returns-clause-refused g c =
    let allowed = rw c.in_default.is at c.in_ok-pair.ensures.found in
    let is : IsLast (g.F.Firing.net c.args.engine.now.net.now) c.args.states c.in_ok-last.last.moment = rw c.in_ok-last.ensures.moment allowed.1 in
    let none : NoneSoon (g.F.Firing.net c.args.engine.now.net.now) c.in_ok-last.last.moment 16000000 =
    rw (c.search_allowed.ensures.most, c.requires.most) at (rw c.search_allowed.ensures.net at (rw c.in_default-2.is at c.in_ok-pair-2.ensures.found)) in
    let starts : c.in_ok-last.last.starts ≡ starts_by (g.F.Firing.net c.args.engine.now.net.now) c.in_ok-last.last.moment = rw c.search_allowed.ensures.net at c.in_ok-last.ensures.checkpoint.starts in
    refusal-is (g.F.Firing.net c.args.engine.now.net.now) c.args.states c.in_ok-last.last.starts c.refusal_at-2.result
    (λ few. spent-last (g.F.Firing.net c.args.engine.now.net.now) (g.met.F.Firing.lawful c.args.engine.now.net.now) c.requires.runs.inputs c.args.states c.in_ok-last.last.moment is none (omega (arith, starts)))
    (λ many. many-last (g.F.Firing.net c.args.engine.now.net.now) (g.met.F.Firing.lawful c.args.engine.now.net.now) c.requires.runs.inputs c.args.states c.in_ok-last.last.moment is none (omega (arith, starts)))
    c.refusal_at-2.ensures.spent c.refusal_at-2.ensures.many
