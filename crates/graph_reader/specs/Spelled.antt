-- The table that a tree spells, said of both at once, without an order of tests.
use Rattle.std.specs.Prelude.{◌≡◌, ◌≢◌, ℕ, ◌≤◌, ◌⊎◌, Bool, false, IsTrue, List, [], ◌∷◌, length, sum, All, Option, Some, None, codes}
use Rattle.std.specs.List.{find}
use Rattle.std.specs.Option.{option_to_list}
use Rattle.sd_base.specs.declared.tables.GraphFile.{GraphFile}
use Rattle.sd_base.specs.Tables.{IsTimed}
use Rattle.sd_base.specs.declared.limits.TheConstants.{ACTORS, CHANNELS, NAME_BYTES, PHASES, PORTS, RATE, SIZE, TIME, TOKENS}
use Rattle.sd_base.specs.declared.tables.Kind.{Kind}
use Rattle.sd_base.specs.declared.tables.Kind.TheVariants.{Sdf, Csdf}
use Rattle.file_text.specs.Node.{Node, name_of}
use Rattle.file_text.specs.Grammar.{Each}
use Rattle.graph_reader.specs.declared.field.Field.{Field}
use Rattle.graph_reader.specs.declared.field.Field.TheVariants as field
use Rattle.graph_reader.specs.declared.numbers.Item.{Item}
use Rattle.graph_reader.specs.declared.actors.Direction.{Direction}
use Rattle.graph_reader.specs.declared.actors.Direction.TheVariants.{In, Out}
use Rattle.graph_reader.specs.declared.actors.Port.{Port}
use Rattle.graph_reader.specs.declared.actors.Actor.{Actor}
use Rattle.graph_reader.specs.declared.channels.End.{End}
use Rattle.graph_reader.specs.declared.channels.Channel.{Channel}
use Rattle.graph_reader.specs.declared.properties.TimeEntry.{TimeEntry}
use Rattle.graph_reader.specs.declared.properties.SizeEntry.{SizeEntry}
use Rattle.graph_reader.specs.Field.{word_of}
use Rattle.graph_reader.specs.TreeSteps.{children, attribute}
use Rattle.graph_reader.specs.NumberTexts.{number_in, items_in, numbers_of}
use Rattle.graph_reader.specs.Sections.{port_count, numbered, is_port, is_same_port, execution_of, size_text, some_size, lists_of, phases_in, section_of, properties_of, table}

-- the relation holds of elements and what is read of them, place by place
abbrev pub Pairwise : {X : Type 0} → (Node → X → Type 0) → List Node → List X → Type 0
Pairwise R [] [] = Unit {0}
Pairwise R (e ∷ es) (x ∷ xs) = R e x × Pairwise R es xs
Pairwise R [] (x ∷ xs) = ⊥
Pairwise R (e ∷ es) [] = ⊥

-- the relation holds of each two, the earlier one first
abbrev pub EachTwo : {X : Type 0} → (X → X → Type 0) → List X → Type 0
EachTwo R [] = Unit {0}
EachTwo R (x ∷ xs) = Each (R x) xs × EachTwo R xs

-- the element has an attribute of this name and value
abbrev pub Has : Field → Node → List ℕ → Type 0
Has what e value = attribute (word_of what) e ≡ Some value

-- the text is a number of this value, up to a limit
abbrev pub IsNumber : ℕ → List ℕ → ℕ → Type 0
IsNumber limit text n = (number_in text ≡ Some n) × (n ≤ limit)

-- the text is one number or, of a cyclo-static graph, a list of numbers
abbrev pub Spells : Kind → List ℕ → List ℕ → Type 0
Spells Sdf text numbers = (n : ℕ) × (number_in text ≡ Some n) × (numbers ≡ n ∷ [])
Spells Csdf text numbers = (items : List Item) × (items_in text ≡ Some items) × (numbers ≡ numbers_of items)

-- numbers by phase: each from a least one up to a limit, at most one for each phase that an actor may have, and not all 0
pub record ArePhased (least limit : ℕ) (numbers : List ℕ) : Type 0 where
  pub within : All (λ n. (least ≤ n) × (n ≤ limit)) numbers
  pub few : length numbers ≤ PHASES
  pub moves : 1 ≤ sum numbers

-- an attribute spells numbers by phase
abbrev pub HasNumbers : Kind → Field → ℕ → ℕ → Node → List ℕ → Type 0
HasNumbers kind what least limit e numbers = (text : List ℕ) × Has what e text × Spells kind text numbers × ArePhased least limit numbers

-- the element's name, which isn't empty or too long
pub record HasName (e : Node) (name : List ℕ) : Type 0 where
  pub has : Has field.Name e name
  pub some : 1 ≤ length name
  pub short : length name ≤ NAME_BYTES

-- the word for a direction
abbrev pub direction_word : Direction → List ℕ
direction_word In = codes "in"
direction_word Out = codes "out"

-- an element spells a port
pub record IsPort (kind : Kind) (e : Node) (p : Port) : Type 0 where
  pub name : HasName e p.name
  pub direction : Has field.TypeWord e (direction_word p.direction)
  pub rates : HasNumbers kind field.Rate 0 RATE e p.rates

-- an actor's ports have names of their own
pub record IsActor (kind : Kind) (e : Node) (a : Actor) : Type 0 where
  pub name : HasName e a.name
  pub ports : Pairwise (IsPort kind) (children (codes "port") e) a.ports
  pub apart : EachTwo (λ (p q : Port). p.name ≢ q.name) a.ports

-- actors have names of their own; there is one at least, and neither they nor their ports are too many
pub record AreActors (kind : Kind) (section : Node) (actors : List Actor) : Type 0 where
  pub rows : Pairwise (IsActor kind) (children (word_of field.Actor) section) actors
  pub apart : EachTwo (λ (a b : Actor). a.name ≢ b.name) actors
  pub some : 1 ≤ length actors
  pub few : length actors ≤ ACTORS
  pub few_ports : port_count actors ≤ PORTS

-- an end of a channel: the number of the actor that is named, and the rates of the port of it that is named
pub record IsEnd (actors : List Actor) (direction : Direction) (actor_word port_word : Field) (e : Node) (x : End) : Type 0 where
  pub actor_name : List ℕ
  pub actor : Actor
  pub port : Port
  pub has_actor : Has actor_word e actor_name
  pub is_actor : numbered 0 actor_name actors ≡ Some (x.actor, actor)
  pub has_port : Has port_word e x.port
  pub is_port : find (is_port direction x.port) actor.ports ≡ Some port
  pub rates : port.rates ≡ x.rates

-- initial tokens: as many as are given, or none
abbrev pub AreTokens : Option (List ℕ) → ℕ → Type 0
AreTokens None n = n ≡ 0
AreTokens (Some text) n = IsNumber TOKENS text n

-- an element spells a channel between ports of these actors
pub record IsChannel (actors : List Actor) (e : Node) (c : Channel) : Type 0 where
  pub name : HasName e c.name
  pub source : IsEnd actors Out field.SrcActor field.SrcPort e c.source
  pub target : IsEnd actors In field.DstActor field.DstPort e c.target
  pub tokens : AreTokens (attribute (word_of field.InitialTokens) e) c.tokens

-- two channels have different names, and different ports at each end
pub record AreApart (c d : Channel) : Type 0 where
  pub names : c.name ≢ d.name
  pub sources : is_same_port c.source d.source ≡ false
  pub targets : is_same_port c.target d.target ≡ false

-- the channels of a section, which aren't too many
pub record AreChannels (actors : List Actor) (section : Node) (channels : List Channel) : Type 0 where
  pub rows : Pairwise (IsChannel actors) (children (word_of field.Channel) section) channels
  pub apart : EachTwo AreApart channels
  pub few : length channels ≤ CHANNELS

-- the times of an execution, if there is one
abbrev pub AreGiven : Kind → Option Node → List ℕ → Type 0
AreGiven kind None times = times ≡ []
AreGiven kind (Some execution) times = HasNumbers kind field.Time 1 TIME execution times

-- what properties say of an actor
pub record IsTimeEntry (kind : Kind) (actors : List Actor) (e : Node) (t : TimeEntry) : Type 0 where
  pub actor : Has field.Actor e t.actor
  pub known : Each (λ (a : Actor). a.name ≢ t.actor) actors → ⊥
  pub times : AreGiven kind (execution_of e) t.times

-- each entry is of another actor
abbrev pub AreTimes : Kind → List Actor → Option Node → List TimeEntry → Type 0
AreTimes kind actors None times = times ≡ []
AreTimes kind actors (Some properties) times =
    Pairwise (IsTimeEntry kind actors) (children (codes "actorProperties") properties) times
    × EachTwo (λ (s t : TimeEntry). s.actor ≢ t.actor) times

-- the size of a token: 1 where none is given
abbrev pub IsSize : Option (List ℕ) → ℕ → Type 0
IsSize None size = size ≡ 1
IsSize (Some text) size = (n : ℕ) × IsNumber SIZE text n × (size ≡ some_size n)

-- what properties say of a channel
pub record IsSizeEntry (channels : List Channel) (e : Node) (s : SizeEntry) : Type 0 where
  pub channel : Has field.Channel e s.channel
  pub known : Each (λ (c : Channel). c.name ≢ s.channel) channels → ⊥
  pub size : IsSize (size_text e) s.size

-- each entry is of another channel
abbrev pub AreSizes : List Channel → Option Node → List SizeEntry → Type 0
AreSizes channels None sizes = sizes ≡ []
AreSizes channels (Some properties) sizes =
    Pairwise (IsSizeEntry channels) (children (codes "channelProperties") properties) sizes
    × EachTwo (λ (s t : SizeEntry). s.channel ≢ t.channel) sizes

-- the lists of an actor are of its phases: each as long, or with one number for all, or none
abbrev pub IsEven : List TimeEntry → Actor → Type 0
IsEven times a = Each (λ xs. (length xs ≡ phases_in times a) ⊎ (length xs ≤ 1)) (lists_of times a)

-- the sections in an element spell the table
pub record IsGraph (kind : Kind) (need_times : Bool) (e : Node) (t : GraphFile) : Type 0 where
  pub section : Node
  pub properties : Option Node
  pub actors : List Actor
  pub channels : List Channel
  pub times : List TimeEntry
  pub sizes : List SizeEntry
  pub one_section : children (word_of (section_of kind)) e ≡ section ∷ []
  pub no_second : children (word_of (properties_of kind)) e ≡ option_to_list properties
  pub are_actors : AreActors kind section actors
  pub are_channels : AreChannels actors section channels
  pub are_times : AreTimes kind actors properties times
  pub are_sizes : AreSizes channels properties sizes
  pub even : Each (IsEven times) actors
  pub is_table : t ≡ table kind actors channels times sizes
  pub timed : IsTrue need_times → IsTimed t

-- the tree spells the table
pub record IsTable (need_times : Bool) (tree : Node) (t : GraphFile) : Type 0 where
  pub graph : Node
  pub root : name_of tree ≡ word_of field.Sdf3
  pub kind : Has field.TypeWord tree (word_of (section_of t.kind))
  pub one_graph : children (word_of field.ApplicationGraph) tree ≡ graph ∷ []
  pub is_graph : IsGraph t.kind need_times graph t
