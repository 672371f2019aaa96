-- What only private functions and proofs speak of, beside `Texts`.
use Rattle.std.specs.Prelude.{◌≡◌, List, [], ◌∷◌, ◌++◌, reverse, length}
use Rattle.xc_raw.specs.declared.word.Word.{Word}
use Rattle.xc_parse_grammar.specs.declared.goals.Goal.{Goal}
use Rattle.xc_parse_grammar.specs.Grammar.{Form}
use Rattle.xc_parse_grammar.specs.Plan.{Act, does, shift, wrong}
use Rattle.xc_parse.specs.declared.nodes.Nodes.{Nodes}
use Rattle.xc_parse.specs.Nodes.{Builds, nowhere}
use Rattle.xc_parse.specs.declared.parser.Turn.{Turn}
use Rattle.xc_parse.specs.declared.parser.Turn.TheVariants as turn
use Rattle.xc_parse.specs.Texts.{IsTree}

-- the goals before and after a move
abbrev pub Pushed : Act → Turn → List Goal → List Goal → Type 0
Pushed (does x new) (turn.Do y) old now = (x ≡ y) × (now ≡ old ++ reverse new)
Pushed (shift new) turn.Shift old now = now ≡ old ++ reverse new
Pushed wrong turn.Wrong old now = now ≡ old
Pushed _ _ old now = ⊥

-- the nodes at work are the one tree of the words
pub record IsDone (words : List Word) (n : Nodes) : Type 0 where
  pub tree : Form
  pub is_tree : IsTree words tree
  pub builds : Builds nowhere (length words) (tree ∷ []) n
