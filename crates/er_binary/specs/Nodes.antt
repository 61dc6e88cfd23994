-- Nodes, and the calls that led to them.
use Rattle.std.specs.Prelude.{ℕ, zero, suc, ◌-◌, ◌==◌, List, [], ◌∷◌, Option, None, Some, slice_index_or, if◌then◌else◌}
use Rattle.er_binary.specs.declared.nodes.Node.{Node}

-- the node of a number from 1 on
abbrev pub node_at : List Node → ℕ → Node
node_at nodes n = slice_index_or nodes (n - 1) (record { caller = 0; shown = 0; place = 0 })

-- the places of a node and its callers, at most so many
unfoldable pub way_out : List Node → ℕ → ℕ → List ℕ
way_out nodes zero n = []
way_out nodes (suc k) n = if n == 0 then [] else (node_at nodes n).place ∷ way_out nodes k (node_at nodes n).caller

-- the place that is shown for a node; of node 0 there is none
abbrev pub place_of : List Node → ℕ → Option ℕ
place_of nodes n = if n == 0 then None else Some (node_at nodes (node_at nodes n).shown).place

-- the place that is shown for a node, and those of the calls that led there, outward, of which there are at most 64
abbrev pub way_to : List Node → ℕ → List ℕ
way_to nodes n = if n == 0 then [] else way_out nodes 65 (node_at nodes n).shown
