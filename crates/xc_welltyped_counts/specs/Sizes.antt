-- How large a node is: how much it declares, and how many nodes of a tree are made of it, is at most so many times as much.
use Rattle.std.specs.Prelude.{ℕ, ◌+◌, List, [], ◌∷◌, length, map, slice_range}
use Rattle.xc_lex.specs.declared.token.Token.{Token}
use Rattle.xc_raw.specs.declared.tree.Raw.{Raw, out-Raw}
use Rattle.xc_raw_parts.specs.Nodes.{by_nodes}
use Rattle.xc_tree_sizes.specs.Nodes.{total}

-- how many tokens from one on up to another stand in none of these nodes
abbrev pub own_from : List Token → ℕ → ℕ → List Raw → ℕ
own_from ts at end [] = length (slice_range ts at end)
own_from ts at end (p ∷ ps) = length (slice_range ts at (out-Raw p).first) + own_from ts (out-Raw p).end end ps

-- the tokens of a node that stand in none of its parts
abbrev pub own_tokens : List Token → Raw → ℕ
own_tokens ts node = own_from ts (out-Raw node).first (out-Raw node).end (out-Raw node).parts

-- one, and one for each token of its own
abbrev pub size_step : List Token → Raw → List ℕ → ℕ
size_step ts node sizes = 1 + own_tokens ts node + total sizes

-- the node, and all nodes in it
unfoldable pub size : List Token → Raw → ℕ
size ts = by_nodes (size_step ts)

-- nodes one behind another
abbrev pub sizes : List Token → List Raw → ℕ
sizes ts ns = total (map (size ts) ns)
