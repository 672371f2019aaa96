-- Where the tokens and the nodes of a text stand.
use Rattle.std.specs.Prelude.{ℕ, ◌-◌, List, nat_lt, if◌then◌else◌, Option, Some, None, option_map, slice_get, unwrap_or}
use Rattle.xc_text_place.specs.declared.Span.{Span}
use Rattle.xc_lex.specs.declared.token.Token.{Token}
use Rattle.xc_raw.specs.declared.tree.Raw.{Raw, out-Raw}
use Rattle.xc_raw.specs.declared.word.Word.{Word}
use Rattle.xc_raw.specs.declared.word.Word.TheVariants as word
use Rattle.xc_raw_parts.specs.Words.{word_in}

-- where no token stands
abbrev pub nowhere : Span
nowhere = record { start = 0; end = 0 }

-- where a token stands: of a macro's tokens, the macro's name
abbrev pub spot : List Token → ℕ → Span
spot ts n = unwrap_or (option_map (λ t. t.at) (slice_get ts n)) nowhere

-- from where the first token begins to where the last one ends
abbrev pub span_over : List Token → ℕ → ℕ → Span
span_over ts first end = record { start = (spot ts first).start; end = (spot ts (end - 1)).end }

abbrev pub span_of : List Token → Raw → Span
span_of ts node = span_over ts (out-Raw node).first (out-Raw node).end

-- the token behind the first part
abbrev pub behind : Raw → Option ℕ
behind node = option_map (λ p. (out-Raw p).end) (slice_get (out-Raw node).parts 0)

abbrev pub from_or_all : List Token → Raw → Option ℕ → Span
from_or_all ts node None = span_of ts node
from_or_all ts node (Some from) = if nat_lt from (out-Raw node).end then span_over ts from (out-Raw node).end else span_of ts node

-- what stands behind the first part, or all where nothing does
abbrev pub declarator_span : List Token → Raw → Span
declarator_span ts node = from_or_all ts node (behind node)

-- a token as the grammar sees it; what is no token stands in no rule
abbrev pub word_at : List ℕ → List Token → ℕ → Word
word_at source ts n = unwrap_or (option_map (word_in source) (slice_get ts n)) word.Foreign
