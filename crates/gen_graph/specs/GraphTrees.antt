-- The tree of a table, and its text.
use Rattle.std.specs.Prelude.{ℕ, ◌+◌, ◌==◌, if◌then◌else◌, List, [], ◌∷◌, ◌++◌, map, slice_index_or, codes}
use Rattle.std.specs.List.{join_by}
use Rattle.std.specs.Fmt.{decimal}
use Rattle.sd_base.specs.declared.tables.Kind.{Kind}
use Rattle.sd_base.specs.declared.tables.Kind.TheVariants.{Sdf, Csdf}
use Rattle.sd_base.specs.declared.tables.GraphFile.{GraphFile}
use Rattle.sd_base.specs.declared.tables.ActorRow.{ActorRow}
use Rattle.sd_base.specs.declared.tables.ChannelRow.{ChannelRow}
use Rattle.file_text.specs.declared.tree.Attribute.{Attribute}
use Rattle.file_text.specs.Node.{Node, node, nodes}
use Rattle.gen_graph.specs.declared.direction.Direction.{Direction}
use Rattle.gen_graph.specs.declared.direction.Direction.TheVariants.{Out, In}
use Rattle.gen_graph.specs.NodeTexts.{element_text}

abbrev pub attribute : List ℕ → List ℕ → Attribute
attribute name value = record { name = name; value = value }

abbrev pub element : List ℕ → List Attribute → List Node → Node
element name attributes children = node name attributes (nodes children)

-- an element with one attribute, in which nothing stands
abbrev pub leaf : List ℕ → List ℕ → List ℕ → Node
leaf word name value = element word (attribute name value ∷ []) []

-- numbers by phase, with commas between
unfoldable pub numbers_text : List ℕ → List ℕ
numbers_text numbers = join_by decimal (codes ",") numbers

-- the name of the port of channel i at its source, and at its target
unfoldable pub port_name : Direction → ℕ → List ℕ
port_name Out i = codes "o" ++ decimal i
port_name In i = codes "i" ++ decimal i

abbrev pub direction_word : Direction → List ℕ
direction_word Out = codes "out"
direction_word In = codes "in"

unfoldable pub port_node : Direction → ℕ → List ℕ → Node
port_node direction i rates = element (codes "port") (
    attribute (codes "name") (port_name direction i)
    ∷ attribute (codes "type") (direction_word direction)
    ∷ attribute (codes "rate") (numbers_text rates) ∷ []) []

-- the ports of actor a on channel i, the one at the source first
unfoldable pub ports_on : ℕ → ℕ → ChannelRow → List Node
ports_on a i c =
    (if c.source == a then port_node Out i c.made ∷ [] else [])
    ++ (if c.target == a then port_node In i c.taken ∷ [] else [])

-- the ports of actor a on channels, of which the first is channel i
abbrev pub ports_from : ℕ → ℕ → List ChannelRow → List Node
ports_from a i [] = []
ports_from a i (c ∷ cs) = ports_on a i c ++ ports_from a (i + 1) cs

-- actor a with its ports
unfoldable pub actor_node : List ChannelRow → ℕ → ActorRow → Node
actor_node channels a row = element (codes "actor") (
    attribute (codes "name") row.name
    ∷ attribute (codes "type") row.name ∷ []) (ports_from a 0 channels)

abbrev pub actor_nodes : List ChannelRow → ℕ → List ActorRow → List Node
actor_nodes channels a [] = []
actor_nodes channels a (row ∷ rows) = actor_node channels a row ∷ actor_nodes channels (a + 1) rows

-- what stands for an actor that doesn't exist
abbrev pub no_actor : ActorRow
no_actor = record { name = []; phases = 1; times = [] }

-- channel i, between its ports
unfoldable pub channel_node : List ActorRow → ℕ → ChannelRow → Node
channel_node actors i c = element (codes "channel") (
    attribute (codes "name") c.name
    ∷ attribute (codes "srcActor") (slice_index_or actors c.source no_actor).name
    ∷ attribute (codes "srcPort") (port_name Out i)
    ∷ attribute (codes "dstActor") (slice_index_or actors c.target no_actor).name
    ∷ attribute (codes "dstPort") (port_name In i)
    ∷ attribute (codes "initialTokens") (decimal c.tokens) ∷ []) []

abbrev pub channel_nodes : List ActorRow → ℕ → List ChannelRow → List Node
channel_nodes actors i [] = []
channel_nodes actors i (c ∷ cs) = channel_node actors i c ∷ channel_nodes actors (i + 1) cs

-- the processor on which times are
unfoldable pub processor_node : List ℕ → Node
processor_node times = element (codes "processor") (attribute (codes "type") (codes "p") ∷ attribute (codes "default") (codes "true") ∷ [])
    (leaf (codes "executionTime") (codes "time") (numbers_text times) ∷ [])

-- the times of an actor
unfoldable pub times_node : List ℕ → List ℕ → Node
times_node name times = element (codes "actorProperties") (attribute (codes "actor") name ∷ []) (processor_node times ∷ [])

-- those of an actor that has times
abbrev pub times_of : List ℕ → List ℕ → List Node
times_of name [] = []
times_of name (t ∷ ts) = times_node name (t ∷ ts) ∷ []

abbrev pub times_nodes : List ActorRow → List Node
times_nodes [] = []
times_nodes (row ∷ rows) = times_of row.name row.times ++ times_nodes rows

-- the size of a channel's tokens
unfoldable pub size_node : ChannelRow → Node
size_node c = element (codes "channelProperties") (attribute (codes "channel") c.name ∷ [])
    (leaf (codes "tokenSize") (codes "sz") (decimal c.size) ∷ [])

-- the word of a kind, and the element of its properties
abbrev pub kind_word : Kind → List ℕ
kind_word Sdf = codes "sdf"
kind_word Csdf = codes "csdf"

abbrev pub properties_word : Kind → List ℕ
properties_word Sdf = codes "sdfProperties"
properties_word Csdf = codes "csdfProperties"

-- actors, then channels
unfoldable pub section_node : GraphFile → Node
section_node g = element (kind_word g.kind) (attribute (codes "name") (codes "g") ∷ attribute (codes "type") (codes "G") ∷ [])
    (actor_nodes g.channels 0 g.actors ++ channel_nodes g.actors 0 g.channels)

-- times, then sizes
unfoldable pub properties_node : GraphFile → Node
properties_node g = element (properties_word g.kind) [] (times_nodes g.actors ++ map size_node g.channels)

-- the two
unfoldable pub application_node : GraphFile → Node
application_node g = element (codes "applicationGraph") (attribute (codes "name") (codes "g") ∷ []) (section_node g ∷ properties_node g ∷ [])

-- the tree of a table
unfoldable pub graph_tree : GraphFile → Node
graph_tree g = element (codes "sdf3") (attribute (codes "type") (kind_word g.kind) ∷ attribute (codes "version") (codes "1.0") ∷ []) (application_node g ∷ [])

-- the file of a table: a declaration, and the tree
unfoldable pub written : GraphFile → List ℕ
written g = codes "<?xml version=\"1.0\" encoding=\"UTF-8\"?>\n" ++ element_text (graph_tree g)
