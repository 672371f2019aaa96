-- Nodes at work, the last one first, and what is done to them.
use Rattle.std.specs.Prelude.{List, [], ◌∷◌, ◌++◌, Option, Some, None}
use Rattle.xc_raw.specs.declared.word.Word.{Word}
use Rattle.xc_raw.specs.declared.rule.Rule.{Rule}
use Rattle.xc_raw.specs.declared.rule.Rule.TheVariants as rule
use Rattle.xc_parse_grammar.specs.declared.goals.Shape.{Shape}
use Rattle.xc_parse_grammar.specs.declared.goals.Shape.TheVariants as shape
use Rattle.xc_parse_grammar.specs.Grammar.{Form, leaf, begin, ◌▹◌, leaves}

-- the words of all nodes, in order
abbrev pub spell : List Form → List Word
spell [] = []
spell (f ∷ d) = spell d ++ leaves f

-- the node, of another rule
abbrev pub retitle : Rule → Form → Form
retitle r (leaf w) = leaf w
retitle r (begin q) = begin r
retitle r (f ▹ g) = retitle r f ▹ g

-- the nodes after a change
abbrev pub apply : Shape → List Form → Option (List Form)
apply shape.Keep d = Some d
apply (shape.Begin r) d = Some (begin r ∷ d)
apply shape.Join (f ∷ p ∷ d) = Some ((p ▹ f) ∷ d)
apply (shape.Wrap r) (f ∷ d) = Some ((begin r ▹ f) ∷ d)
apply shape.Cast (p ∷ d) = Some (retitle rule.Cast p ∷ d)
apply shape.Specify (q ∷ d) = Some (retitle rule.Specs q ∷ begin rule.Declaration ∷ d)
apply shape.Declare (p ∷ q ∷ d) = Some ((begin rule.Dinit ▹ retitle rule.Declr p) ∷ (begin rule.Declaration ▹ retitle rule.Specs q) ∷ d)
apply shape.Call (p ∷ f ∷ d) = Some ((begin rule.Function ▹ f ▹ retitle rule.Callee p) ∷ d)
apply shape.Enlist (p ∷ f ∷ d) = Some (p ∷ begin rule.Dinit ∷ (begin rule.Declaration ▹ f) ∷ d)
apply _ _ = None

-- the nodes after a token
abbrev pub put : Word → List Form → Option (List Form)
put w [] = None
put w (p ∷ d) = Some ((p ▹ leaf w) ∷ d)
