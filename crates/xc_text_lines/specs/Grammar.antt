-- Grammars of texts of lines, and the first bad line of a text.
use Rattle.std.specs.Prelude.{◌≡◌, ℕ, ◌-◌, ◌<◌, List, [], ◌∷◌, ◌++◌, length}
use Rattle.std.specs.List.{flat_map}
use Rattle.xc_text_lines.specs.Lines.{pieces}

-- the lines, each with its line feed
abbrev pub with_feeds : List (List ℕ) → List ℕ
with_feeds lines = flat_map (λ line. line ++ 10 ∷ []) lines

-- The first n lines of the text are there, each with its line feed, and begin some text of the grammar.
abbrev pub IsGood : (List ℕ → Type 0) → List ℕ → ℕ → Type 0
IsGood InGrammar text n =
    (lines : List (List ℕ)) × (others : List (List ℕ)) × (more : List ℕ)
    × (length lines ≡ n) × (0 < length others) × (pieces text ≡ lines ++ others) × InGrammar (with_feeds lines ++ more)

-- Line k is the first bad line of a text outside the grammar.
pub record IsFirstBad (InGrammar : List ℕ → Type 0) (text : List ℕ) (k : ℕ) : Type 0 where
  pub outside : InGrammar text → ⊥
  pub numbered : 0 < k
  pub good_before : IsGood InGrammar text (k - 1)
  pub bad : IsGood InGrammar text k → ⊥
