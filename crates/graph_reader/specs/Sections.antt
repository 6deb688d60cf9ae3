-- The rules of a graph file for synchronous or cyclo-static dataflow, in the order in which they are tested.
use Rattle.std.specs.Prelude.{ℕ, ◌+◌, Bool, true, false, ◌&&◌, ◌||◌, not, ◌==◌, nat_lt, nat_le, if◌then◌else◌, List, [], ◌∷◌, length, map, max, replicate, slice_index, Option, Some, None, Result, Ok, Err, sum_by, codes}
use Rattle.std.specs.List.{list_any, list_all, find}
use Rattle.std.specs.Option.{option_or, option_and_then, option_map_or}
use Rattle.std.specs.Str.{bytes_eq}
use Rattle.sd_base.specs.declared.limits.Quantity.TheVariants as quantity
use Rattle.sd_base.specs.declared.limits.TheConstants.{ACTORS, CHANNELS, NAME_BYTES, PORTS, RATE, SIZE, TIME, TOKENS}
use Rattle.sd_base.specs.declared.tables.Kind.{Kind}
use Rattle.sd_base.specs.declared.tables.Kind.TheVariants.{Sdf, Csdf}
use Rattle.sd_base.specs.declared.tables.GraphFile.{GraphFile}
use Rattle.sd_base.specs.declared.tables.ActorRow.{ActorRow}
use Rattle.sd_base.specs.declared.tables.ChannelRow.{ChannelRow}
use Rattle.file_text.specs.Node.{Node, name_of}
use Rattle.graph_reader.specs.declared.field.Field.{Field}
use Rattle.graph_reader.specs.declared.field.Field.TheVariants as field
use Rattle.graph_reader.specs.declared.error.ReadError.{ReadError}
use Rattle.graph_reader.specs.declared.error.ReadError.TheVariants.{WrongKind, Missing, Unknown, Twice, BadWord, PhaseCount, Limit}
use Rattle.graph_reader.specs.declared.actors.Direction.{Direction}
use Rattle.graph_reader.specs.declared.actors.Direction.TheVariants.{In, Out}
use Rattle.graph_reader.specs.declared.actors.Port.{Port}
use Rattle.graph_reader.specs.declared.actors.Actor.{Actor}
use Rattle.graph_reader.specs.declared.channels.End.{End}
use Rattle.graph_reader.specs.declared.channels.Channel.{Channel}
use Rattle.graph_reader.specs.declared.properties.TimeEntry.{TimeEntry}
use Rattle.graph_reader.specs.declared.properties.SizeEntry.{SizeEntry}
use Rattle.graph_reader.specs.Field.{word_of}
use Rattle.graph_reader.specs.TreeSteps.{◌>>=◌, file, children, first_child, attribute, required, at_most_one, one, each}
use Rattle.graph_reader.specs.NumberTexts.{within, number, numbers}

-- ---- names

-- whether the name is one of these
abbrev pub is_among : List ℕ → List (List ℕ) → Bool
is_among name names = list_any (λ other. bytes_eq other name) names

-- a name that isn't empty, isn't too long, and isn't an earlier one
abbrev pub tested_name : List ℕ → List (List ℕ) → List ℕ → Result (List ℕ) ReadError
tested_name of earlier name =
    if length name == 0 then Err (Missing field.Name of)
    else if nat_lt NAME_BYTES (length name) then Err (Limit quantity.NameBytes)
    else if is_among name earlier then Err (Twice field.Name name)
    else Ok name

-- the name of an element of which each needs one of its own
unfoldable pub new_name : List ℕ → List (List ℕ) → Node → Result (List ℕ) ReadError
new_name of earlier e = do
  name ← required field.Name of e
  tested_name of earlier name

-- a name that is one of these, and isn't an earlier one
abbrev pub tested_mention : Field → List (List ℕ) → List (List ℕ) → List ℕ → Result (List ℕ) ReadError
tested_mention what names earlier name =
    if not (is_among name names) then Err (Unknown what name)
    else if is_among name earlier then Err (Twice what name)
    else Ok name

-- the name of what an element speaks of: one of these names, and none of which an earlier element speaks
unfoldable pub mention : Field → List ℕ → List (List ℕ) → List (List ℕ) → Node → Result (List ℕ) ReadError
mention what of names earlier e = do
  name ← required what of e
  tested_mention what names earlier name

-- ---- actors

-- the direction that a word says
abbrev pub direction_in : List ℕ → List ℕ → Result Direction ReadError
direction_in of word =
    if bytes_eq word (codes "in") then Ok In
    else if bytes_eq word (codes "out") then Ok Out
    else Err (BadWord field.TypeWord of)

-- a port of an actor, after the actor's earlier ones and with that many ports of other actors before it
unfoldable pub port_of : Kind → List ℕ → ℕ → List Port → Node → Result Port ReadError
port_of kind actor before done e = do
  name ← new_name actor (map (λ (p : Port). p.name) done) e
  count ← within quantity.Ports PORTS (before + length done + 1)
  word ← required field.TypeWord actor e
  direction ← direction_in actor word
  text ← required field.Rate actor e
  rates ← numbers kind 0 field.Rate actor quantity.Rate RATE text
  Ok (record { name = name; direction = direction; rates = rates })

-- the ports of some actors
abbrev pub port_count : List Actor → ℕ
port_count actors = sum_by (λ (a : Actor). length a.ports) actors

-- an actor, after the earlier ones
unfoldable pub actor_of : Kind → List ℕ → List Actor → Node → Result Actor ReadError
actor_of kind of done e = do
  name ← new_name of (map (λ (a : Actor). a.name) done) e
  count ← within quantity.Actors ACTORS (length done + 1)
  ports ← each (port_of kind name (port_count done)) [] (children (codes "port") e)
  Ok (record { name = name; ports = ports })

-- there is an actor
abbrev pub some_actor : List ℕ → List Actor → Result (List Actor) ReadError
some_actor of [] = Err (Missing field.Actor of)
some_actor of (a ∷ rest) = Ok (a ∷ rest)

-- the actors of a section; there is one at least
unfoldable pub actors_of : Kind → List ℕ → Node → Result (List Actor) ReadError
actors_of kind of section = do
  actors ← each (actor_of kind of) [] (children (word_of field.Actor) section)
  some_actor of actors

-- ---- channels

-- the number of the actor of this name, and the actor, where the list begins with number i
abbrev pub numbered : ℕ → List ℕ → List Actor → Option (ℕ × Actor)
numbered i name [] = None
numbered i name (a ∷ rest) = if bytes_eq a.name name then Some (i, a) else numbered (i + 1) name rest

-- whether the directions are one
abbrev pub is_same_direction : Direction → Direction → Bool
is_same_direction In In = true
is_same_direction Out Out = true
is_same_direction In Out = false
is_same_direction Out In = false

-- whether a port has this direction and name
abbrev pub is_port : Direction → List ℕ → Port → Bool
is_port direction name p = bytes_eq p.name name && is_same_direction direction p.direction

-- what a name stands for
abbrev pub known : {A : Type 0} → Field → List ℕ → Option A → Result A ReadError
known what name None = Err (Unknown what name)
known what name (Some x) = Ok x

-- the end of a channel: an actor, and a port of that direction of it
unfoldable pub end_of : List Actor → Direction → Field → Field → List ℕ → Node → Result End ReadError
end_of actors direction actor_word port_word of e = do
  actor_name ← required actor_word of e
  actor ← known actor_word actor_name (numbered 0 actor_name actors)
  port_name ← required port_word of e
  port ← known port_word port_name (find (is_port direction port_name) actor.1.ports)
  Ok (record { actor = actor.0; port = port_name; rates = port.rates })

-- whether two ends are at one port
abbrev pub is_same_port : End → End → Bool
is_same_port a b = (a.actor == b.actor) && bytes_eq a.port b.port

-- an end at a port that no earlier channel uses
abbrev pub unused : Field → End → Bool → Result End ReadError
unused what e used = if used then Err (Twice what e.port) else Ok e

-- the initial tokens, which are 0 where none are given
abbrev pub tokens_in : List ℕ → Option (List ℕ) → Result ℕ ReadError
tokens_in of None = Ok 0
tokens_in of (Some text) = number field.InitialTokens of quantity.Tokens TOKENS text

-- a channel between ports of these actors, after the earlier ones; each port serves one channel
unfoldable pub channel_of : List ℕ → List Actor → List Channel → Node → Result Channel ReadError
channel_of of actors done e = do
  name ← new_name of (map (λ (c : Channel). c.name) done) e
  count ← within quantity.Channels CHANNELS (length done + 1)
  start ← end_of actors Out field.SrcActor field.SrcPort name e
  source ← unused field.SrcPort start (list_any (λ (c : Channel). is_same_port c.source start) done)
  stop ← end_of actors In field.DstActor field.DstPort name e
  target ← unused field.DstPort stop (list_any (λ (c : Channel). is_same_port c.target stop) done)
  tokens ← tokens_in name (attribute (word_of field.InitialTokens) e)
  Ok (record { name = name; source = source; target = target; tokens = tokens })

-- the channels of a section
unfoldable pub channels_of : List ℕ → List Actor → Node → Result (List Channel) ReadError
channels_of of actors section = each (channel_of of actors) [] (children (word_of field.Channel) section)

-- ---- properties

-- whether a value is there, and is this word
abbrev pub is_word : List ℕ → Option (List ℕ) → Bool
is_word word None = false
is_word word (Some value) = bytes_eq value word

-- a processor that is marked as the one that counts
unfoldable pub is_default : Node → Bool
is_default processor = is_word (codes "true") (attribute (codes "default") processor)

-- the first element that passes a test, or else the first
abbrev pub first_by : (Node → Bool) → List Node → Option Node
first_by test [] = None
first_by test (e ∷ es) = option_or (find test (e ∷ es)) (Some e)

-- the processor that counts: the first one so marked, or else the first
unfoldable pub counting_processor : Node → Option Node
counting_processor e = first_by is_default (children (codes "processor") e)

-- the first execution time on the processor that counts
unfoldable pub execution_of : Node → Option Node
execution_of e = option_and_then (first_child (word_of field.ExecutionTime)) (counting_processor e)

-- the times of an execution, by phase
abbrev pub times_by : Kind → List ℕ → Option Node → Result (List ℕ) ReadError
times_by kind of None = Ok []
times_by kind of (Some execution) = do
  text ← required field.Time of execution
  numbers kind 1 field.Time of quantity.Time TIME text

-- the times that an actor's properties give; none, where they give no execution
unfoldable pub times_in : Kind → List ℕ → Node → Result (List ℕ) ReadError
times_in kind of e = times_by kind of (execution_of e)

-- the times that are given for an actor, after the earlier ones
unfoldable pub time_entry : Kind → List ℕ → List Actor → List TimeEntry → Node → Result TimeEntry ReadError
time_entry kind of actors done e = do
  name ← mention field.Actor of (map (λ (a : Actor). a.name) actors) (map (λ (t : TimeEntry). t.actor) done) e
  times ← times_in kind name e
  Ok (record { actor = name; times = times })

-- the times that the properties give
unfoldable pub times_of : Kind → List ℕ → List Actor → Option Node → Result (List TimeEntry) ReadError
times_of kind of actors None = Ok []
times_of kind of actors (Some properties) = each (time_entry kind of actors) [] (children (codes "actorProperties") properties)

-- a size of 0 is one of 1
abbrev pub some_size : ℕ → ℕ
some_size n = if n == 0 then 1 else n

-- the size of the first token size
unfoldable pub size_text : Node → Option (List ℕ)
size_text e = option_and_then (attribute (word_of field.Sz)) (first_child (codes "tokenSize") e)

-- the size that a text gives; 1 where there is none
abbrev pub size_in : List ℕ → Option (List ℕ) → Result ℕ ReadError
size_in of None = Ok 1
size_in of (Some text) = do
  size ← number field.Sz of quantity.Size SIZE text
  Ok (some_size size)

-- the size that a channel's properties give, and 1 where they give none
unfoldable pub size_of : List ℕ → Node → Result ℕ ReadError
size_of of e = size_in of (size_text e)

-- the size that is given for a channel, after the earlier ones
unfoldable pub size_entry : List ℕ → List Channel → List SizeEntry → Node → Result SizeEntry ReadError
size_entry of channels done e = do
  name ← mention field.Channel of (map (λ (c : Channel). c.name) channels) (map (λ (s : SizeEntry). s.channel) done) e
  size ← size_of name e
  Ok (record { channel = name; size = size })

-- the sizes that the properties give
unfoldable pub sizes_of : List ℕ → List Channel → Option Node → Result (List SizeEntry) ReadError
sizes_of of channels None = Ok []
sizes_of of channels (Some properties) = each (size_entry of channels) [] (children (codes "channelProperties") properties)

-- ---- the table

-- the times that are given for an actor
abbrev pub times_at : List TimeEntry → List ℕ → List ℕ
times_at times name = option_map_or (λ (t : TimeEntry). t.times) (find (λ (t : TimeEntry). bytes_eq t.actor name) times) []

-- the size that is given for a channel, else 1
abbrev pub size_at : List SizeEntry → List ℕ → ℕ
size_at sizes name = option_map_or (λ (s : SizeEntry). s.size) (find (λ (s : SizeEntry). bytes_eq s.channel name) sizes) 1

-- the greatest length of some lists, and 1 at the least
abbrev pub longest : List (List ℕ) → ℕ
longest [] = 1
longest (xs ∷ lists) = max (length xs) (longest lists)

-- the lists that an actor has by phase: its times, and the rates of its ports
abbrev pub lists_of : List TimeEntry → Actor → List (List ℕ)
lists_of times a = times_at times a.name ∷ map (λ (p : Port). p.rates) a.ports

-- the phases of an actor
abbrev pub phases_in : List TimeEntry → Actor → ℕ
phases_in times a = longest (lists_of times a)

-- a list is one of so many phases: it has a number for each, or one for all, or none
abbrev pub fits_phases : ℕ → List ℕ → Bool
fits_phases phases xs = (length xs == phases) || nat_le (length xs) 1

-- the lists of an actor are all of its phases
abbrev pub is_even : List TimeEntry → Actor → Bool
is_even times a = list_all (fits_phases (phases_in times a)) (lists_of times a)

-- actors among which none is found whose lists differ
abbrev pub even : List Actor → Option Actor → Result (List Actor) ReadError
even actors None = Ok actors
even actors (Some a) = Err (PhaseCount a.name)

-- the lists of each actor are of its phases
unfoldable pub even_phases : List TimeEntry → List Actor → Result (List Actor) ReadError
even_phases times actors = even actors (find (λ (a : Actor). not (is_even times a)) actors)

-- a number for each phase, of a list that has one for all
abbrev pub widened : ℕ → List ℕ → List ℕ
widened phases [] = []
widened phases (x ∷ []) = replicate phases x
widened phases (x ∷ (y ∷ xs)) = x ∷ (y ∷ xs)

-- the row of an actor
abbrev pub actor_row : List TimeEntry → Actor → ActorRow
actor_row times a = record { name = a.name; phases = phases_in times a; times = widened (phases_in times a) (times_at times a.name) }

-- the row of a channel between actors of these phases
abbrev pub channel_row : List ℕ → List SizeEntry → Channel → ChannelRow
channel_row phases sizes c = record {
  name = c.name;
  source = c.source.actor;
  target = c.target.actor;
  made = widened (slice_index phases c.source.actor) c.source.rates;
  taken = widened (slice_index phases c.target.actor) c.target.rates;
  tokens = c.tokens;
  size = size_at sizes c.name;
}

-- the table of these actors and channels
unfoldable pub table : Kind → List Actor → List Channel → List TimeEntry → List SizeEntry → GraphFile
table kind actors channels times sizes = record {
  kind = kind;
  actors = map (actor_row times) actors;
  channels = map (channel_row (map (phases_in times) actors) sizes) channels;
}

-- a table in which no actor without a time is found
abbrev pub timed : GraphFile → Option ActorRow → Result GraphFile ReadError
timed t None = Ok t
timed t (Some a) = Err (Missing field.ExecutionTime a.name)

-- each actor has a time, if times are needed
unfoldable pub all_timed : Bool → GraphFile → Result GraphFile ReadError
all_timed need_times t = if need_times then timed t (find (λ (a : ActorRow). length a.times == 0) t.actors) else Ok t

-- the table of these actors and channels with these times and sizes
abbrev pub timed_table : Kind → Bool → List Actor → List Channel → List TimeEntry → List SizeEntry → Result GraphFile ReadError
timed_table kind need_times actors channels times sizes = do
  fit ← even_phases times actors
  all_timed need_times (table kind actors channels times sizes)

-- the table of these actors and channels with what the properties give
abbrev pub with_properties : Kind → List ℕ → Bool → List Actor → List Channel → Option Node → Result GraphFile ReadError
with_properties kind of need_times actors channels properties = do
  times ← times_of kind of actors properties
  sizes ← sizes_of of channels properties
  timed_table kind need_times actors channels times sizes

-- the root is named as it has to be
unfoldable pub root_of : Node → Result Node ReadError
root_of e = if bytes_eq (name_of e) (word_of field.Sdf3) then Ok e else Err (Missing field.Sdf3 file)

-- the element of a kind's actors and channels, whose name is the kind's word
abbrev pub section_of : Kind → Field
section_of Sdf = field.Sdf
section_of Csdf = field.Csdf

-- the element of a kind's properties
abbrev pub properties_of : Kind → Field
properties_of Sdf = field.SdfProperties
properties_of Csdf = field.CsdfProperties

-- the kind that a word names
unfoldable pub kind_in : List ℕ → Result Kind ReadError
kind_in word =
    if bytes_eq word (word_of field.Sdf) then Ok Sdf
    else if bytes_eq word (word_of field.Csdf) then Ok Csdf
    else Err WrongKind

-- the table of the sections in an element; `of` is named where no actor or channel is being read
unfoldable pub graph_in : Kind → List ℕ → Bool → Node → Result GraphFile ReadError
graph_in kind of need_times e = do
  section ← one (section_of kind) of e
  actors ← actors_of kind of section
  channels ← channels_of of actors section
  properties ← at_most_one (properties_of kind) e
  with_properties kind of need_times actors channels properties

-- the table of a tree, or the first rule that the tree breaks
unfoldable pub table_of : Bool → Node → Result GraphFile ReadError
table_of need_times tree = do
  root ← root_of tree
  word ← required field.TypeWord file root
  kind ← kind_in word
  graph ← one field.ApplicationGraph file root
  graph_in kind file need_times graph
