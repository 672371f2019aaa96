-- The untyped tree of a tree of the grammar.
use Rattle.std.specs.Prelude.{ℕ, ◌+◌, List, [], ◌∷◌, ◌++◌, length, Option, Some, None}
use Rattle.xc_raw.specs.declared.rule.Rule.{Rule}
use Rattle.xc_raw.specs.declared.tree.Raw.{Raw, roll-Raw}
use Rattle.xc_parse_grammar.specs.Grammar.{Form, leaf, begin, ◌▹◌, leaves, sort}

-- a node of the rule that covers the tokens from first to end; a token makes no node
abbrev pub node_at : Option Rule → (first end : ℕ) → List Raw → List Raw
node_at None first end parts = []
node_at (Some r) first end parts = roll-Raw (record { rule = r; first = first; end = end; parts = parts }) ∷ []

-- the parts of a tree that begins at the token start
abbrev pub parts_of : ℕ → Form → List Raw
parts_of start (leaf w) = []
parts_of start (begin r) = []
parts_of start (f ▹ g) = let here = start + length (leaves f) in parts_of start f ++ node_at (sort g) here (here + length (leaves g)) (parts_of here g)

-- the node of a tree that begins at the token start
abbrev pub raws_of : ℕ → Form → List Raw
raws_of start f = node_at (sort f) start (start + length (leaves f)) (parts_of start f)
