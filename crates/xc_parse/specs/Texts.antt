-- The words of a text, and which fault it is.
use Rattle.std.specs.Prelude.{◌≡◌, ℕ, List, [], ◌∷◌, map, length, Option, Some, None, slice_get, slice_range}
use Rattle.xc_lex.specs.declared.token.Token.{Token}
use Rattle.xc_text_place.specs.declared.Pos.{Pos}
use Rattle.xc_text_place.specs.Place.{IsPosition}
use Rattle.xc_raw.specs.declared.tree.Raw.{Raw}
use Rattle.xc_raw.specs.declared.word.Word.{Word}
use Rattle.xc_raw.specs.Words.{word_of}
use Rattle.xc_parse_grammar.specs.Grammar.{Form, Derives, Stops}
use Rattle.xc_parse.specs.Depth.{IsShallow, IsFirstDeep}
use Rattle.xc_parse.specs.Raws.{raws_of}
use Rattle.xc_parse.specs.declared.parser.ParseFault.{ParseFault}
use Rattle.xc_parse.specs.declared.parser.ParseFault.TheVariants.{NoMemory, Syntax, Depth}

-- the words of the tokens of a source
abbrev pub words_of : List ℕ → List Token → List Word
words_of source tokens = map (λ t. word_of t.kind (slice_range source t.text.start t.text.end)) tokens

-- where a token stands, or the end of the source
abbrev pub place_of : ℕ → Option Token → ℕ
place_of end None = end
place_of end (Some t) = t.at.start

-- the one tree of the grammar that the words have
pub record IsTree (words : List Word) (f : Form) : Type 0 where
  pub derives : Derives f words
  pub only : (g : Form) → Derives g words → f ≡ g

-- the untyped tree is that of the one tree of the words, in which no node is too deep
pub record Parsed (words : List Word) (raw : Raw) : Type 0 where
  pub tree : Form
  pub is_tree : IsTree words tree
  pub shallow : IsShallow tree
  pub made : raw ∷ [] ≡ raws_of 0 tree

-- the first node of the words' one tree that is too deep begins at this token
pub record IsTooDeep (words : List Word) (k : ℕ) : Type 0 where
  pub tree : Form
  pub is_tree : IsTree words tree
  pub first : IsFirstDeep tree k

-- this token, or the end of the source, stands there
abbrev pub StandsAt : List ℕ → List Token → ℕ → Pos → Type 0
StandsAt source tokens k pos = IsPosition source (place_of (length source) (slice_get tokens k)) pos

-- why there is no tree: no text goes on behind the tokens before this place, or a node is too deep
abbrev pub FaultFits : List ℕ → List Token → ParseFault → Type 0
FaultFits source tokens NoMemory = Unit {0}
FaultFits source tokens (Syntax pos) = (k : ℕ) × Stops (words_of source tokens) k × StandsAt source tokens k pos
FaultFits source tokens (Depth pos) = (k : ℕ) × IsTooDeep (words_of source tokens) k × StandsAt source tokens k pos
