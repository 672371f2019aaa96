-- Which tokens of a node are names.
use Rattle.std.specs.Prelude.{ℕ, ◌+◌, ◌-◌, Bool, true, false, if◌then◌else◌, List, [], ◌∷◌, Option, Some, None, unwrap_or, option_map, option_and_then, slice_get, slice_range}
use Rattle.xc_lex.specs.declared.token.Token.{Token}
use Rattle.xc_lex.specs.declared.token.TokenKind.{TokenKind}
use Rattle.xc_lex.specs.declared.token.TokenKind.TheVariants as kind
use Rattle.xc_raw.specs.declared.tree.Raw.{Raw, out-Raw}
use Rattle.xc_raw_parts.specs.Spans.{behind}

abbrev pub is_name_kind : TokenKind → Bool
is_name_kind kind.Name = true
is_name_kind _ = false

abbrev pub is_name : Token → Bool
is_name t = is_name_kind t.kind

-- the number of a token that is a name
abbrev pub name_at : List Token → ℕ → Option ℕ
name_at ts n = option_and_then (λ t. if is_name t then Some n else None) (slice_get ts n)

-- the numbers of the names among tokens of which the first has number n
abbrev pub names_from : ℕ → List Token → List ℕ
names_from n [] = []
names_from n (t ∷ ts) = if is_name t then n ∷ names_from (n + 1) ts else names_from (n + 1) ts

-- the first name among the tokens from one up to another
abbrev pub first_name : List Token → ℕ → ℕ → Option ℕ
first_name ts from to = slice_get (names_from from (slice_range ts from to)) 0

-- `struct` and the name
abbrev pub struct_name : List Token → Raw → Option ℕ
struct_name ts node = name_at ts ((out-Raw node).first + 1)

-- the last token
abbrev pub callee_name : List Token → Raw → Option ℕ
callee_name ts node = name_at ts ((out-Raw node).end - 1)

-- the first name, behind the stars
abbrev pub declarator_name : List Token → Raw → Option ℕ
declarator_name ts node = first_name ts (out-Raw node).first (out-Raw node).end

-- where a parameter's first bound begins that is written, or else its end
abbrev pub first_bound : Raw → ℕ
first_bound node = unwrap_or (option_map (λ p. (out-Raw p).first) (slice_get (out-Raw node).parts 1)) (out-Raw node).end

-- the first name behind the specifiers that stands in no bound
abbrev pub parameter_name : List Token → Raw → Option ℕ
parameter_name ts node = option_and_then (λ from. first_name ts from (first_bound node)) (behind node)

-- the name behind the operator
abbrev pub member_name : List Token → Raw → Option ℕ
member_name ts node = option_and_then (λ n. name_at ts (n + 1)) (behind node)

abbrev pub names_between : List Token → List Raw → List ℕ
names_between ts [] = []
names_between ts (place ∷ []) = []
names_between ts (place ∷ block ∷ ps) = names_from (out-Raw place).end (slice_range ts (out-Raw place).end (out-Raw block).first)

-- those between the place and the block
abbrev pub captured_names : List Token → Raw → List ℕ
captured_names ts node = names_between ts (out-Raw node).parts
