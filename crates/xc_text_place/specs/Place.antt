-- Lines and columns.
use Rattle.std.specs.Prelude.{ℕ, ◌+◌, ◌≡◌, List, count_by, ◌==◌, reverse, not, take}
use Rattle.std.specs.List.{prefix_len}
use Rattle.xc_text_place.specs.declared.Pos.{Pos}

-- lines are ended by line feeds: one more than those before
abbrev pub line_of : List ℕ → ℕ
line_of before = count_by (λ b. b == 10) before + 1

-- one more than the bytes since the last line feed
abbrev pub column_of : List ℕ → ℕ
column_of before = prefix_len (λ b. not (b == 10)) (reverse before) + 1

-- the position of the byte at a place of the text, or of its end
pub record IsPosition (text : List ℕ) (at : ℕ) (pos : Pos) : Type 0 where
  pub line : pos.line ≡ line_of (take at text)
  pub column : pos.col ≡ column_of (take at text)
