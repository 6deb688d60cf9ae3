use Rattle.std.proofs.Common.{◌∙◌, ap, map}
use Rattle.file_text.specs.Node.{tree_of}
use Rattle.graph_reader.proofs.ElementsFormTrees.{map-children}
use Rattle.graph_reader.proofs.elements.elements_in.Goals as goal

pub returns : goal.returns
returns c = ap (map tree_of) c.as_slice.ensures.value ∙ map-children c.args.element.now
