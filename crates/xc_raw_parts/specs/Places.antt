-- The steps of a place, and the brackets of a parameter.
use Rattle.std.specs.Prelude.{ℕ, ◌+◌, Bool, true, false, nat_lt, if◌then◌else◌, List, [], ◌∷◌, ◌++◌, length, Option, Some, None, option_to_list, slice_range, unwrap_or}
use Rattle.std.specs.List.{list_any}
use Rattle.xc_lex.specs.declared.token.Token.{Token}
use Rattle.xc_raw.specs.declared.tree.Raw.{Raw, out-Raw}
use Rattle.xc_raw.specs.declared.word.Word.{Word}
use Rattle.xc_raw.specs.declared.word.Word.TheVariants as word
use Rattle.xc_raw_parts.specs.Words.{word_in}
use Rattle.xc_raw_parts.specs.declared.places.PlaceStep.{PlaceStep}
use Rattle.xc_raw_parts.specs.declared.places.PlaceStep.TheVariants as place
use Rattle.xc_raw_parts.specs.declared.places.Brackets.{Brackets}
use Rattle.xc_raw_parts.specs.declared.places.Brackets.TheVariants as brace
use Rattle.xc_raw_parts.specs.Spans.{behind}
use Rattle.xc_raw_parts.specs.Names.{first_bound}

-- `.` and `->` have the member's name behind them
abbrev pub member_of : ℕ → Word → Option PlaceStep
member_of n (word.Access a) = Some (place.Member a (n + 1))
member_of n _ = None

-- the members among tokens of which the first has number n
abbrev pub members_from : List ℕ → ℕ → List Token → List PlaceStep
members_from source n [] = []
members_from source n (t ∷ ts) = option_to_list (member_of n (word_in source t)) ++ members_from source (n + 1) ts

-- from one token on: the members before each index, the index, and the members behind the last one
unfoldable pub steps_around : List ℕ → List Token → ℕ → ℕ → List Raw → List PlaceStep
steps_around source ts at end [] = members_from source at (slice_range ts at end)
steps_around source ts at end (p ∷ ps) = members_from source at (slice_range ts at (out-Raw p).first) ++ place.Index ∷ steps_around source ts (out-Raw p).end end ps

abbrev pub place_steps : List ℕ → List Token → Raw → List PlaceStep
place_steps source ts node = steps_around source ts (out-Raw node).first (out-Raw node).end (out-Raw node).parts

abbrev pub is_close : Word → Bool
is_close word.CloseBracket = true
is_close _ = false

abbrev pub has_close : List ℕ → List Token → Bool
has_close source ts = list_any (λ t. is_close (word_in source t)) ts

-- brackets end before the first bound where they have none
abbrev pub has_empty : List ℕ → List Token → Raw → Bool
has_empty source ts node = has_close source (slice_range ts (unwrap_or (behind node) (out-Raw node).end) (first_bound node))

abbrev pub first_brackets : List ℕ → List Token → Raw → Brackets
first_brackets source ts node = if has_empty source ts node then brace.Empty
    else if nat_lt 1 (length (out-Raw node).parts) then brace.Bound else brace.Absent
