-- What only private functions and proofs speak of, beside `Lines`.
use Rattle.std.specs.Prelude.{◌≡◌, ℕ, ◌+◌, List, ◌∷◌, length, ◌<◌, count_by}
use Rattle.xc_text_lines.specs.Lines.{is_feed, pieces}

-- the first line of a text, and what follows its line feed
pub record CutsLine (text line rest : List ℕ) : Type 0 where
  pub shorter : length rest < length text
  pub parts : pieces text ≡ line ∷ pieces rest
  pub count : count_by is_feed text ≡ count_by is_feed rest + 1
