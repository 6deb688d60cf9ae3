-- The elements in an element, as a plain tree has them.
use Rattle.std.proofs.Common.{◌≡◌, List, [], ◌∷◌, map, refl, sym, ap, ◌∙◌}
use Rattle.file_text.specs.declared.tree.Element.{Element, out-Element}
use Rattle.file_text.specs.declared.tree.Element.TheFolds.{fold_out-Element}
use Rattle.file_text.specs.Node.{Node, list_of, nodes, layer, tree_of, children_of}

pub list_of_nodes : (es : List Node) → list_of (nodes es) ≡ es
list_of_nodes [] = refl
list_of_nodes (e ∷ es) = ap (λ rest. e ∷ rest) (list_of_nodes es)

pub map-children : (e : Element) → map tree_of (out-Element e).children.items ≡ children_of (tree_of e)
map-children e = sym (ap children_of (fold_out-Element Node layer e) ∙ list_of_nodes (map tree_of (out-Element e).children.items))
