-- What only private functions and proofs speak of, beside `Grammar`.
use Rattle.std.specs.Prelude.{◌≡◌, ℕ, Bool, true, false, List, [], ◌∷◌, ◌++◌, Option, Some, None}
use Rattle.std.specs.List.{AllByRecursion, list_any}
use Rattle.xc_text_lines.specs.Lines.{is_feed, at_option}
use Rattle.xc_text_lines.specs.Grammar.{with_feeds}

-- the state after lines
abbrev pub runs : {S : Type 0} → (S → List ℕ → Option S) → S → List (List ℕ) → Option S
runs next s [] = Some s
runs next s (line ∷ lines) = at_option (next s line) None (λ t. runs next t lines)

abbrev pub HasNoFeed : List ℕ → Type 0
HasNoFeed line = list_any is_feed line ≡ false

-- A format whose states are the values that lines build up, and their lines the text.
pub record IsFormat {S : Type 0} (next : S → List ℕ → Option S) (whole : S → Bool) (start : S) (lines_of : S → List (List ℕ)) (Fits : S → Type 0) : Type 0 where
  pub starts : Fits start × (lines_of start ≡ [])
  pub grows : (s t : S) (line : List ℕ) → Fits s → next s line ≡ Some t → Fits t × (lines_of t ≡ lines_of s ++ line ∷ [])
  pub again : (v : S) → Fits v → whole v ≡ true → runs next start (lines_of v) ≡ Some v
  pub no_feeds : (v : S) → Fits v → AllByRecursion HasNoFeed (lines_of v)
  pub ends : (s : S) → Fits s → (t : S) × (lines : List (List ℕ)) × (runs next s lines ≡ Some t) × (whole t ≡ true)

-- what a text of a format spells
pub record Spells {S : Type 0} (whole : S → Bool) (lines_of : S → List (List ℕ)) (Fits : S → Type 0) (text : List ℕ) (v : S) : Type 0 where
  pub fits : Fits v
  pub is_whole : whole v ≡ true
  pub is_text : text ≡ with_feeds (lines_of v)

abbrev pub InFormat : {S : Type 0} → (S → Bool) → (S → List (List ℕ)) → (S → Type 0) → List ℕ → Type 0
InFormat {S} whole lines_of Fits text = (v : S) × Spells whole lines_of Fits text v
