use Rattle.std.proofs.Common.{◌≡◌, Some, true, false, length, refl}
use Rattle.std.specs.Prelude.{slice_get}
use Rattle.std.proofs.lemmas.Option.{slice_get_read}
use Rattle.std.proofs.lemmas.Result.{on_ok_weaker}
use Rattle.balance.specs.declared.search.Found.{Found}
use Rattle.balance.proofs.SearchFindsWays.{mark_read, stepped, no_step}
use Rattle.balance.proofs.search.look.Goals as goal
use Rattle.balance.proofs.search.look.Goals.{else-from-link-via-then-from-link+else-not-index, else-from-link-via-else-from-link, else-from-link-2-via-then-from-link-2+else-not-index-2, else-from-link-2-via-else-from-link-2}

pub returns-then-not-index : goal.returns-then-not-index
returns-then-not-index c =
    let s = c.args.search.now in
    let x : Found = c.index.result.now in
    let here : slice_get s.found.items c.args.place ≡ Some x = slice_get_read s.found.items (length s.found.items) c.args.place x refl c.requires.listed c.index.ensures in
    on_ok_weaker c.take.result
    (stepped s.found.items c.take.new.search.found.items s.seen.items c.take.new.search.seen.items c.args.place c.args.channel true c.args.link x here c.if-from-link.true
    (mark_read s.seen.items c.args.link.target c.index-then-from-link.result.now false c.requires.target c.index-then-from-link.ensures c.if-not-index.true))
    c.take.ensures

pub returns-then-not-index-2 : goal.returns-then-not-index-2
returns-then-not-index-2 c =
    let s = c.args.search.now in
    let x : Found = c.index.result.now in
    let here : slice_get s.found.items c.args.place ≡ Some x = slice_get_read s.found.items (length s.found.items) c.args.place x refl c.requires.listed c.index.ensures in
    on_ok_weaker c.take-then-not-index-2.result
    (stepped s.found.items c.take-then-not-index-2.new.search.found.items s.seen.items c.take-then-not-index-2.new.search.seen.items c.args.place c.args.channel false c.args.link x here c.if-from-link-2.true
    (mark_read s.seen.items c.args.link.source c.index-then-from-link-2.result.now false c.requires.source c.index-then-from-link-2.ensures c.if-not-index-2.true))
    c.take-then-not-index-2.ensures

pub returns : goal.returns
returns c =
    let s = c.args.search.now in
    let x : Found = c.index.result.now in
    let here : slice_get s.found.items c.args.place ≡ Some x = slice_get_read s.found.items (length s.found.items) c.args.place x refl c.requires.listed c.index.ensures in
    no_step s.found.items s.seen.items c.args.place c.args.channel c.args.link x here
    (λ e. elim c.else-from-link.branch [
      | else-from-link-via-then-from-link+else-not-index w ↦
          mark_read s.seen.items c.args.link.target w.index-then-from-link.result.now true c.requires.target w.index-then-from-link.ensures w.if-not-index.false
      | else-from-link-via-else-from-link w ↦ absurd (w.if-from-link.false e)
    ])
    (λ e. elim c.else-from-link-2.branch [
      | else-from-link-2-via-then-from-link-2+else-not-index-2 w ↦
          mark_read s.seen.items c.args.link.source w.index-then-from-link-2.result.now true c.requires.source w.index-then-from-link-2.ensures w.if-not-index-2.false
      | else-from-link-2-via-else-from-link-2 w ↦ absurd (w.if-from-link-2.false e)
    ])
