-- Texts of lines, read from the front.
use Rattle.std.specs.Prelude.{◌≡◌, ℕ, ◌+◌, ◌==◌, Bool, ◌&&◌, List, [], ◌∷◌, length, ◌<◌, count_by, ◌-◌, ◌^◌, Option, Some, None, Result, Ok, Err, if◌then◌else◌}
use Rattle.std.specs.List.{slice_split}
use Rattle.xc_text_lines.specs.declared.lines.ReadFault.{ReadFault}
use Rattle.xc_text_lines.specs.declared.lines.ReadFault.TheVariants.{Line, NoMemory}

abbrev pub is_feed : ℕ → Bool
is_feed b = b == 10

-- the lines, and what stands behind the last line feed
abbrev pub pieces : List ℕ → List (List ℕ)
pieces text = slice_split is_feed text

-- Fewer line feeds than 2^32 - 1, so that a `u32` numbers each line and the one after the last.
abbrev pub HasFewLines : List ℕ → Type 0
HasFewLines text = count_by is_feed text < 2 ^ 32 - 1

abbrev pub is_space : ℕ → Bool
is_space b = b == 32

-- the words between single spaces
abbrev pub words_of : List ℕ → List (List ℕ)
words_of line = slice_split is_space line

abbrev pub at_option : {A B : Type 0} → Option A → B → (A → B) → B
at_option None none some = none
at_option (Some x) none some = some x

-- Reading from state s, where the piece has number k and the others come after it. Err k: piece k is the first that does not fit.
abbrev pub read_from : {S : Type 0} → (S → List ℕ → Option S) → (S → Bool) → S → ℕ → List ℕ → List (List ℕ) → Result S ℕ
read_from next whole s k piece [] = if length piece == 0 && whole s then Ok s else Err k
read_from next whole s k piece (other ∷ others) = at_option (next s piece) (Err k) (λ t. read_from next whole t (k + 1) other others)

abbrev pub read_pieces : {S : Type 0} → (S → List ℕ → Option S) → (S → Bool) → S → ℕ → List (List ℕ) → Result S ℕ
read_pieces next whole s k [] = Err k
read_pieces next whole s k (piece ∷ others) = read_from next whole s k piece others

-- what a reader answers, unless memory runs out
abbrev pub Reads : {S : Type 0} → Result (Unit {0}) ReadFault → S → Result S ℕ → Type 0
Reads (Ok u) s read = read ≡ Ok s
Reads (Err (Line k)) s read = read ≡ Err k
Reads (Err NoMemory) s read = Unit {0}
