-- What a pragma says (C99 6.10.6), by its words.
use Rattle.std.specs.Prelude.{ℕ, ◌+◌, ◌==◌, ◌&&◌, if◌then◌else◌, List, [], ◌∷◌, take, Option, Some, None, slice_range, codes}
use Rattle.std.specs.Str.{bytes_eq}
use Rattle.xc_text_place.specs.declared.Span.{Span}
use Rattle.xc_text_lines.specs.Numbers.{number_of}
use Rattle.xc_tree.specs.declared.pragmas.Schedule.TheVariants.{Block, Interleave, Dynamic, BlockDynamic}
use Rattle.xc_type_pragmas.specs.declared.read.Pragma.{Pragma}
use Rattle.xc_type_pragmas.specs.declared.read.Pragma.TheVariants.{Parallel, Nodep, Noalias, Serial, Streams, Dealt, Other}
use Rattle.xc_type_pragmas.specs.declared.words.Mode.TheVariants.{Text}
use Rattle.xc_type_pragmas.specs.Words.{words_from}

abbrev pub text_of : List ℕ → Span → List ℕ
text_of source w = slice_range source w.start w.end

abbrev pub streams_of : Option ℕ → Pragma
streams_of None = Other
streams_of (Some k) = if k == 0 then Other else Streams k

-- a pragma of two words
unfoldable pub by_two : List ℕ → List ℕ → Pragma
by_two a b =
    if bytes_eq a (codes "assert") && bytes_eq b (codes "parallel") then Parallel
    else if bytes_eq a (codes "loop") && bytes_eq b (codes "serial") then Serial
    else if bytes_eq b (codes "schedule") then (
    if bytes_eq a (codes "block") then Dealt Block
    else if bytes_eq a (codes "interleave") then Dealt Interleave
    else if bytes_eq a (codes "dynamic") then Dealt Dynamic
    else Other)
    else Other

-- a pragma of three words, of which `w` is the middle one's or the last one's place where it is a name
unfoldable pub by_three : List ℕ → List ℕ → List ℕ → Span → Pragma
by_three a b c name =
    if bytes_eq a (codes "assert") && bytes_eq b (codes "nodep") then Nodep name
    else if bytes_eq a (codes "assert") && bytes_eq b (codes "noalias") then Noalias name
    else if bytes_eq a (codes "use") && bytes_eq c (codes "streams") then streams_of (number_of 8193 b)
    else if bytes_eq a (codes "block") && (bytes_eq b (codes "dynamic") && bytes_eq c (codes "schedule")) then Dealt BlockDynamic
    else Other

-- by the words behind `mta`
abbrev pub by_words : List ℕ → List Span → Pragma
by_words source (a ∷ b ∷ []) = by_two (text_of source a) (text_of source b)
by_words source (a ∷ b ∷ c ∷ []) = by_three (text_of source a) (text_of source b) (text_of source c) c
by_words source _ = Other

-- by the words behind `#`
abbrev pub by_line : List ℕ → List Span → Pragma
by_line source (a ∷ b ∷ ws) =
    if bytes_eq (text_of source a) (codes "pragma") && bytes_eq (text_of source b) (codes "mta") then by_words source ws else Other
by_line source _ = Other

-- the pragma whose text this is, from its `#` to the end of its line
abbrev pub pragma_of : List ℕ → Span → Pragma
pragma_of source line = by_line source (words_from (take line.end source) (record { mode = Text; at = line.start + 1 }))
