-- How deep the nodes of a tree stand.
use Rattle.std.specs.Prelude.{◌≡◌, ◌⊎◌, ℕ, ◌+◌, ◌≤◌, ◌<◌, length, Option, Some, None, Bool, true, false}
use Rattle.xc_raw.specs.declared.rule.Rule.{Rule}
use Rattle.xc_raw.specs.declared.rule.Rule.TheVariants as rule
use Rattle.xc_parse_grammar.specs.Grammar.{Form, leaf, begin, ◌▹◌, leaves, sort}

-- the nodes that count: statements (C99 6.8), and expressions with parentheses among them (6.5); the place of a `future` statement is an expression
abbrev pub counts : Rule → Bool
counts rule.Block = true
counts rule.Eval = true
counts rule.If = true
counts rule.While = true
counts rule.Do = true
counts rule.For = true
counts rule.Return = true
counts rule.Break = true
counts rule.Continue = true
counts rule.Future = true
counts rule.Place = true
counts rule.Comma = true
counts rule.Assign = true
counts rule.Cond = true
counts (rule.Binary level) = true
counts rule.Cast = true
counts rule.Unary = true
counts rule.Postfix = true
counts rule.Prim = true
counts _ = false

-- how many nodes that count the node itself is
abbrev pub weight_of : Bool → ℕ
weight_of true = 1
weight_of false = 0

abbrev pub weight : Option Rule → ℕ
weight None = 0
weight (Some r) = weight_of (counts r)

-- a node that counts and stands deeper than the limit begins at this token, where the depth of a node is the number of nodes that count in which it stands, itself among them; the tree begins at the token start and stands in so many of them
abbrev pub IsDeepAt : (limit outer start : ℕ) → Form → ℕ → Type 0
IsDeepAt limit outer start (leaf w) k = ⊥
IsDeepAt limit outer start (begin r) k = (counts r ≡ true) × (limit < outer + 1) × (start ≡ k)
IsDeepAt limit outer start (f ▹ g) k = IsDeepAt limit outer start f k ⊎ IsDeepAt limit (outer + weight (sort f)) (start + length (leaves f)) g k

-- the greatest depth
abbrev pub depth_limit : ℕ
depth_limit = 128

-- no node is too deep
abbrev pub IsShallow : Form → Type 0
IsShallow f = (k : ℕ) → IsDeepAt depth_limit 0 0 f k → ⊥

-- the first node that is too deep begins at this token
abbrev pub IsFirstDeep : Form → ℕ → Type 0
IsFirstDeep f k = IsDeepAt depth_limit 0 0 f k × ((j : ℕ) → IsDeepAt depth_limit 0 0 f j → k ≤ j)
