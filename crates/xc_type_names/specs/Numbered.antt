-- The numbers of names.
use Rattle.std.specs.Prelude.{ℕ, Bool, true, false, if◌then◌else◌, List, [], ◌∷◌, fold, map, codes, position, Option, None, option_map, slice_get, slice_range}
use Rattle.std.specs.Str.{bytes_eq}
use Rattle.indexmap.specs.IndexSet.{insert_key}
use Rattle.xc_lex.specs.declared.token.Token.{Token}
use Rattle.xc_lex.specs.declared.token.TokenKind.{TokenKind}
use Rattle.xc_lex.specs.declared.token.TokenKind.TheVariants as kind
use Rattle.xc_type_names.specs.declared.numbers.Reserved.{Reserved}
use Rattle.xc_type_names.specs.declared.numbers.Reserved.TheVariants.{Printf, ReadFe, ReadFf, ReadXx, WriteEf, WriteFf, WriteXf, Purge, FetchAdd}

-- the names that cannot be declared; each has its place here as its number
unfoldable pub reserved : List (List ℕ × Reserved)
reserved = (codes "printf", Printf) ∷ (codes "readfe", ReadFe) ∷ (codes "readff", ReadFf) ∷ (codes "readxx", ReadXx)
    ∷ (codes "writeef", WriteEf) ∷ (codes "writeff", WriteFf) ∷ (codes "writexf", WriteXf) ∷ (codes "purge", Purge)
    ∷ (codes "int_fetch_add", FetchAdd) ∷ []

abbrev pub reserved_of : ℕ → Option Reserved
reserved_of number = option_map (λ p. p.1) (slice_get reserved number)

abbrev pub name_at : TokenKind → Bool
name_at kind.Name = true
name_at _ = false

abbrev pub text_of : List ℕ → Token → List ℕ
text_of source t = slice_range source t.text.start t.text.end

abbrev pub with_token : List ℕ → List (List ℕ) → Token → List (List ℕ)
with_token source known t = if name_at t.kind then insert_key bytes_eq known (text_of source t) else known

-- each spelling once: the reserved names, and then the names of the text in the order in which they come first
abbrev pub spellings : List ℕ → List Token → List (List ℕ)
spellings source tokens = fold (with_token source) (map (λ p. p.0) reserved) tokens

-- a name's number is the place of its spelling
abbrev pub number_in : List (List ℕ) → List ℕ → Token → Option ℕ
number_in known source t = if name_at t.kind then position (bytes_eq (text_of source t)) known else None

-- the number of each token, and the spelling of each number
pub record Numbered : Type 0 where
  pub numbers : List (Option ℕ)
  pub spellings : List (List ℕ)

abbrev pub numbered : List ℕ → List Token → Numbered
numbered source tokens = let known = spellings source tokens in record { numbers = map (number_in known source) tokens; spellings = known }
