-- What the nodes at work stand for.
use Rattle.std.specs.Prelude.{◌≡◌, ℕ, ◌+◌, ◌≤◌, List, [], ◌∷◌, length, reverse, Option, Some, Bool, true, cond, ◌&&◌, nat_le, nat_lt, All}
use Rattle.xc_parse_depth.specs.Depths.{depth_at}
use Rattle.xc_raw.specs.declared.rule.Rule.{Rule}
use Rattle.xc_parse_grammar.specs.declared.goals.Shape.{Shape}
use Rattle.xc_parse_grammar.specs.declared.goals.Shape.TheVariants as shape
use Rattle.xc_parse_grammar.specs.Grammar.{Form, leaf, begin, ◌▹◌, leaves, sort}
use Rattle.xc_parse_grammar.specs.Building.{spell}
use Rattle.xc_parse.specs.declared.nodes.Open.{Open}
use Rattle.xc_parse.specs.declared.nodes.Nodes.{Nodes}
use Rattle.xc_parse.specs.Depth.{weight}
use Rattle.xc_parse.specs.Raws.{parts_of}

-- whether a node of these tokens counts at a token
abbrev pub own : Option Rule → (first end k : ℕ) → ℕ
own o first end k = cond (nat_le first k && nat_lt k end) (weight o) 0

-- in how many nodes that count the token stands, of those inside a tree that begins at the token start
abbrev pub inside : (start k : ℕ) → Form → ℕ
inside start k (leaf w) = 0
inside start k (begin r) = 0
inside start k (f ▹ g) = let here = start + length (leaves f) in inside start k f + own (sort g) here (here + length (leaves g)) k + inside here k g

-- the same, inside all nodes at work
abbrev pub standing : List Form → ℕ → ℕ
standing [] k = 0
standing (f ∷ d) k = standing d k + inside (length (spell d)) k f

-- the node is that of a tree that begins at the token start, with its parts unless some were too high
pub record IsOpen (is_whole : Bool) (start : ℕ) (f : Form) (o : Open) : Type 0 where
  pub rule : sort f ≡ Some o.rule
  pub first : o.first ≡ start
  pub parts : is_whole ≡ true → o.parts ≡ parts_of start f

-- the last node first
abbrev pub AreOpen : Bool → List Form → List Open → Type 0
AreOpen is_whole [] [] = Unit {0}
AreOpen is_whole [] (o ∷ os) = ⊥
AreOpen is_whole (f ∷ d) [] = ⊥
AreOpen is_whole (f ∷ d) (o ∷ os) = IsOpen is_whole (length (spell d)) f o × AreOpen is_whole d os

-- the stretches end at the token or before
abbrev pub AllWithin : ℕ → Nodes → Type 0
AllWithin end n = All (λ s. (s.first ≤ s.end) × (s.end ≤ end)) n.stretches.items

-- the stretches are those of the nodes that count inside the nodes at work and inside a node that was set aside, up to a token
pub record Builds (aside : ℕ → ℕ) (end : ℕ) (d : List Form) (n : Nodes) : Type 0 where
  pub working : AreOpen n.is_whole d (reverse n.working.items)
  pub depth : (k : ℕ) → depth_at n.stretches.items k ≡ standing d k + aside k
  pub within : AllWithin end n

-- none is aside
abbrev pub nowhere : ℕ → ℕ
nowhere k = 0

-- how many nodes at work a change needs
abbrev pub needed : Shape → ℕ
needed shape.Keep = 0
needed (shape.Begin r) = 0
needed shape.Join = 2
needed (shape.Wrap r) = 1
needed shape.Cast = 1
needed shape.Specify = 1
needed shape.Declare = 2
needed shape.Call = 2
needed shape.Enlist = 2
