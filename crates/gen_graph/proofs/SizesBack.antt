-- The sizes that are read of a written table.
use Rattle.std.proofs.Common.{◌≡◌, ◌≢◌, ℕ, zero, suc, ◌+◌, ◌≤◌, List, [], ◌∷◌, map, refl, arith}
use Rattle.std.proofs.lemmas.Bool.{ne_eqb}
use Rattle.sd_base.specs.declared.tables.ChannelRow.{ChannelRow}
use Rattle.sd_base.proofs.ByteTestsDecide.{same_bytes, bytes_differ}
use Rattle.file_text.specs.Grammar.{Each}
use Rattle.graph_reader.specs.declared.channels.Channel.{Channel}
use Rattle.graph_reader.specs.declared.properties.SizeEntry.{SizeEntry}
use Rattle.graph_reader.specs.Field.{word_of}
use Rattle.graph_reader.specs.TreeSteps
use Rattle.graph_reader.specs.Sections.{size_text, some_size, size_at}
use Rattle.graph_reader.specs.Spelled.{Pairwise, EachTwo, IsSizeEntry}
use Rattle.graph_reader.proofs.ElementPlaces.{Each-weaker}
use Rattle.gen_graph.specs.GraphTrees.{size_node}
use Rattle.gen_graph.proofs.NumbersBack.{number_back}
use Rattle.gen_graph.proofs.ActorsBack.{channels_read}

-- ---- sizes

abbrev pub size_read : ChannelRow → SizeEntry
size_read c = record { channel = c.name; size = c.size }

abbrev IsKnownChannel : List Channel → ChannelRow → Type 0
IsKnownChannel channels row = Each (λ (c : Channel). c.name ≢ row.name) channels → ⊥

pub all_channels_known : (i : ℕ) (cs : List ChannelRow) → Each (IsKnownChannel (channels_read i cs)) cs
all_channels_known i [] = tt
all_channels_known i (c ∷ cs) = ((λ none. none.0 refl), Each-weaker (IsKnownChannel (channels_read (i + 1) cs)) (IsKnownChannel (channels_read i (c ∷ cs))) cs (all_channels_known (i + 1) cs) (λ r known none. known none.1))

abbrev pub IsSized : ChannelRow → Type 0
IsSized c = (1 ≤ c.size) × (c.size ≤ 1000000)

own_size : (n : ℕ) → 1 ≤ n → n ≡ some_size n
own_size zero some = absurd (omega (arith, some))
own_size (suc n) some = rw (ne_eqb (suc n) 0 (λ e. omega arith)) refl

size_back : (channels : List Channel) (c : ChannelRow) → IsSized c → IsKnownChannel channels c → IsSizeEntry channels (size_node c) (size_read c)
unfolding size_node size_text TreeSteps.first_child TreeSteps.children TreeSteps.attribute word_of
size_back channels c sized known = record {
  channel = refl;
  known = known;
  size = (c.size, (number_back c.size (omega (arith, sized.1)), sized.1), own_size c.size sized.0);
}

pub sizes_back : (channels : List Channel) (cs : List ChannelRow) → Each IsSized cs → Each (IsKnownChannel channels) cs → Pairwise (IsSizeEntry channels) (map size_node cs) (map size_read cs)
sizes_back channels [] sized known = tt
sizes_back channels (c ∷ cs) sized known = (size_back channels c sized.0 known.0, sizes_back channels cs sized.1 known.1)

sizes_named : (P : List ℕ → Type 0) (cs : List ChannelRow) → Each (λ (c : ChannelRow). P c.name) cs → Each (λ (s : SizeEntry). P s.channel) (map size_read cs)
sizes_named P [] each = tt
sizes_named P (c ∷ cs) each = (each.0, sizes_named P cs each.1)

pub sizes_apart : (cs : List ChannelRow) → EachTwo (λ (c d : ChannelRow). c.name ≢ d.name) cs → EachTwo (λ (s t : SizeEntry). s.channel ≢ t.channel) (map size_read cs)
sizes_apart [] two = tt
sizes_apart (c ∷ cs) two = (sizes_named (λ name. c.name ≢ name) cs two.0, sizes_apart cs two.1)

abbrev pub HasSize : List SizeEntry → ChannelRow → Type 0
HasSize entries c = size_at entries c.name ≡ c.size

still_sized : (c : ChannelRow) (rest : List SizeEntry) (cs : List ChannelRow) → Each (λ (d : ChannelRow). c.name ≢ d.name) cs → Each (HasSize rest) cs → Each (HasSize (size_read c ∷ rest)) cs
still_sized c rest [] differ have = tt
still_sized c rest (d ∷ cs) differ have = (rw (bytes_differ c.name d.name differ.0) have.0, still_sized c rest cs differ.1 have.1)

pub sizes_found : (cs : List ChannelRow) → EachTwo (λ (c d : ChannelRow). c.name ≢ d.name) cs → Each (HasSize (map size_read cs)) cs
sizes_found [] two = tt
sizes_found (c ∷ cs) two = (rw (same_bytes c.name) refl, still_sized c (map size_read cs) cs two.0 (sizes_found cs two.1))
