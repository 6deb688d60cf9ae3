use Rattle.std.proofs.Common.{◌≡◌, arith, refl}
use Rattle.std.proofs.lemmas.List.{map-append}
use Rattle.file_text.specs.declared.scanner.Frame.{Frame}
use Rattle.file_text.specs.Node.{tree_of}
use Rattle.file_text.specs.inside.Machine.{grown}
use Rattle.file_text.specs.inside.Seen.{opened_of}
use Rattle.file_text.proofs.ReaderMatchesMachine.{grows}
use Rattle.file_text.proofs.end_tags.grow.Goals as goal

pub returns : goal.returns
returns c =
    let parent = c.in-Some.parent.now in
    let g : Frame = record { name = parent.name; attributes = parent.attributes; children = c.push.new.self } in
    let like : opened_of g ≡ grown (opened_of parent) (tree_of c.args.element) = rw (c.in_ok-push.ensures.items, map-append) refl in
    λ root. grows _ c.args.frames.now.items _ root parent g (tree_of c.args.element) (omega (arith, c.requires)) (rw (← c.in-Some.ensures.value) like)
