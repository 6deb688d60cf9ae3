use Rattle.std.proofs.Common.{◌≡◌, ◌≤◌, ◌<◌, ℕ, ◌+◌, Bool, Option, Vec, Global, length, subst, sym, arith}
use Rattle.std.specs.Prelude.{MatchOption}
use Rattle.storage.specs.declared.distribution.Distribution.{Distribution}
use Rattle.storage.specs.Distributions.{storage_of}
use Rattle.storage.specs.StorageOrder.{stepped}
use Rattle.cert_checker.specs.ShownChannels.{Shows}
use Rattle.cert_checker.proofs.ChildMarks.{AreMarked, marked-more, marked-none, marked-same}
use Rattle.cert_checker.proofs.children.mark_children.Goals as goal
use Rattle.cert_checker.proofs.children.mark_children.Goals.{in-Some, in_default}

pub loop-channel-init : goal.loop-channel-init
loop-channel-init g c = marked-none (g.F.Firing.net c.args.net.now) c.args.certificate.now c.args.members.now c.args.member.now c.args.marks.now.items c.requires.size

pub loop-channel-preserved : goal.loop-channel-preserved
loop-channel-preserved g c =
    let net = g.F.Firing.net c.args.net.now in
    let cert = c.args.certificate.now in
    let m = c.args.member.now in
    let n = c.loop-channel.channel in
    let P : Vec Bool Global → Type 0 = λ v. AreMarked net cert c.args.members.now m c.args.marks.now.items (n + 1) v.items in
    let none : Type 0 = Shows net cert.limit cert.cycles m n → cert.limit < storage_of net.channels (stepped net.channels m.capacities.capacities n) in
    let some : Distribution → Type 0 = λ d. Shows net cert.limit cert.cycles m n × (d.capacities ≡ stepped net.channels m.capacities.capacities n) × (storage_of net.channels (stepped net.channels m.capacities.capacities n) ≤ cert.limit) in
    let Q : Option Distribution → Type 0 = λ o. MatchOption o none some in
    elim c.match-branch-2.branch [
      | in-Some w ↦
          let child : some w.in-Some.child = subst Q w.in-Some.is c.in_ok-child.ensures in
          subst P (sym w.marks-is) (marked-more net cert c.args.members.now m c.args.marks.now.items n c.loop-channel.marks.items w.mark.new.marks.items w.in-Some.child.capacities c.loop-channel.invariant c.requires.members
          w.mark.ensures.size w.mark.ensures.marked child)
      | in_default w ↦
          let childless : none = subst Q w.in_default.is c.in_ok-child.ensures in
          subst P (sym w.marks-is) (marked-same net cert c.args.members.now m c.args.marks.now.items n c.loop-channel.marks.items c.loop-channel.invariant childless)
    ]

pub returns-clause-marked : goal.returns-clause-marked
returns-clause-marked g c =
    let net = g.F.Firing.net c.args.net.now in
    let e : c.loop-channel.channel ≡ length net.channels = omega (arith, c.loop-channel-test.false, c.loop-channel.auto.channel-end, c.channels-channel-end.ensures) in
    (subst (λ (n : ℕ). AreMarked net c.args.certificate.now c.args.members.now c.args.member.now c.args.marks.now.items n c.loop-channel.marks.items) e c.loop-channel.invariant).1
