-- The nodes in their slots: that of an index stands in the slot index % 1024.
use Rattle.std.specs.Prelude.{ℕ, ◌%◌, List, replicate, slice_index_or}
use Rattle.min_lists.specs.declared.nodes.Link.{Link}
use Rattle.min_lists.specs.declared.nodes.Node.{Node}

abbrev pub no_link : Link
no_link = record { before = 0; after = 0 }

abbrev pub no_node : Node
no_node = record { trip = 0; links = replicate 6 no_link }

-- the node of an index
abbrev pub node_at : List Node → ℕ → Node
node_at ns i = slice_index_or ns (i % 1024) no_node

-- its round trip
abbrev pub trip_at : List Node → ℕ → ℕ
trip_at ns i = (node_at ns i).trip

-- how it is linked in the list at a place
abbrev pub link_at : List Node → ℕ → ℕ → Link
link_at ns p i = slice_index_or (node_at ns i).links p no_link

abbrev pub before_at : List Node → ℕ → ℕ → ℕ
before_at ns p i = (link_at ns p i).before

abbrev pub after_at : List Node → ℕ → ℕ → ℕ
after_at ns p i = (link_at ns p i).after
