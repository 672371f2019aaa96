-- What only private functions and proofs speak of, beside `Readings`.
use Rattle.std.specs.Prelude.{ℕ, zero, suc, ◌-◌, ◌==◌, Bool, true, false, ◌&&◌, not, List, [], ◌∷◌, ◌++◌, length, find, nat_le, is_some, Option, Some, None, codes, if◌then◌else◌}
use Rattle.std.specs.Option.{option_and_then}
use Rattle.std.specs.Str.{bytes_eq}
use mathlib.Core.Bool.{beq}
use Rattle.xc_text_format.specs.Pieces.{pieces_of}
use Rattle.xc_text_lines.specs.Lines.{words_of}
use Rattle.xc_text_lines.specs.HexWords.{bytes_of}
use Rattle.xc_isa.specs.declared.code.Run.{Run}
use Rattle.xc_isa.specs.declared.code.LoopMark.{LoopMark}
use Rattle.xc_isa.specs.declared.instr.Instr.{Instr}
use Rattle.xc_isa_text.specs.declared.keyword.Keyword.{Keyword}
use Rattle.xc_isa_text.specs.declared.keyword.Keyword.TheVariants as keyword
use Rattle.xc_isa_text.specs.declared.draft.Stage.{Stage}
use Rattle.xc_isa_text.specs.declared.draft.Stage.TheVariants as stage
use Rattle.xc_isa_text.specs.Operands.{Number, Value, State}
use Rattle.xc_isa_text.specs.InnerOperands.{numbers_in, none_left}
use Rattle.xc_isa_text.specs.InnerInstructions.{instr_in}
use Rattle.xc_isa_text.specs.Texts.{header, Contents}
use Rattle.xc_isa_text.specs.Readings.{Reading}

abbrev pub at_start : Reading
at_start = record { stage = stage.Start; missing = 0; runs = []; globals = []; formats = []; loops = []; instrs = [] }

-- what a whole draft says
abbrev pub contents_in : Reading → Contents
contents_in s = record { globals = s.globals; formats = s.formats; loops = s.loops; instrs = s.instrs }

-- ---- elements that may follow the last one

abbrev pub last_of : {X : Type 0} → Option X → List X → Option X
last_of before [] = before
last_of before (x ∷ xs) = last_of (Some x) xs

abbrev pub may_follow : {X : Type 0} → (X → X → Bool) → Option X → X → Bool
may_follow test None x = true
may_follow test (Some y) x = test y x

abbrev pub differ : Run → Run → Bool
differ a b = not ((a.cell.value == b.cell.value) && beq a.cell.full b.cell.full)

abbrev pub in_order : LoopMark → LoopMark → Bool
in_order a b = nat_le a.id b.id

-- ---- lines of data

abbrev pub keyword_name : Keyword → List ℕ
keyword_name keyword.Global = codes "global"
keyword_name keyword.Cells = codes "cells"
keyword_name keyword.Format = codes "format"
keyword_name keyword.Loop = codes "loop"
keyword_name keyword.Code = codes "code"

abbrev pub all_keywords : List Keyword
all_keywords = keyword.Global ∷ keyword.Cells ∷ keyword.Format ∷ keyword.Loop ∷ keyword.Code ∷ []

abbrev pub keyword_named : List ℕ → Option Keyword
keyword_named word = find (λ k. bytes_eq (keyword_name k) word) all_keywords

-- a global of so many cells begins, where no cell is missing and no format or mark has been read
abbrev pub with_global : Reading → List ℕ → Option Reading
with_global s (n ∷ []) =
    if nat_le 1 n && ((s.missing == 0) && ((length s.formats == 0) && (length s.loops == 0))) then Some (record s { missing = n }) else None
with_global s _ = None

abbrev pub is_full : ℕ → Bool
is_full zero = false
is_full (suc n) = true

abbrev pub run_of : ℕ → ℕ → ℕ → Run
run_of count value state = record { count = count; cell = record { value = value; full = is_full state } }

-- the global ends where no cell is missing
abbrev pub with_runs : Reading → ℕ → List Run → Reading
with_runs s zero runs = record s { missing = 0; runs = []; globals = s.globals ++ runs ∷ [] }
with_runs s (suc n) runs = record s { missing = suc n; runs = runs }

abbrev pub with_this_run : Reading → Run → Option Reading
with_this_run s r =
    if nat_le 1 r.count && (nat_le r.count s.missing && may_follow differ (last_of None s.runs) r)
    then Some (with_runs s (s.missing - r.count) (s.runs ++ r ∷ [])) else None

abbrev pub with_run : Reading → List ℕ → Option Reading
with_run s (count ∷ value ∷ state ∷ []) = with_this_run s (run_of count value state)
with_run s _ = None

-- the bytes that the only word spells
abbrev pub bytes_in : List (List ℕ) → Option (List ℕ)
bytes_in (w ∷ []) = bytes_of w
bytes_in _ = None

abbrev pub with_format : Reading → List ℕ → Option Reading
with_format s bytes =
    if (s.missing == 0) && ((length s.loops == 0) && is_some (pieces_of bytes)) then Some (record s { formats = s.formats ++ bytes ∷ [] }) else None

abbrev pub with_this_mark : Reading → LoopMark → Option Reading
with_this_mark s m =
    if (s.missing == 0) && may_follow in_order (last_of None s.loops) m then Some (record s { loops = s.loops ++ m ∷ [] }) else None

abbrev pub with_mark : Reading → List ℕ → Option Reading
with_mark s (a ∷ b ∷ c ∷ d ∷ e ∷ []) = with_this_mark s (record { id = a; start = b; worker = c; serial = d; after = e })
with_mark s _ = None

abbrev pub with_code : Reading → List ℕ → Option Reading
with_code s [] = if s.missing == 0 then Some (record s { stage = stage.Code }) else None
with_code s (n ∷ ns) = None

-- one more line of data, by the words after the keyword
abbrev pub with_data : Reading → List (List ℕ) → Keyword → Option Reading
with_data s ws keyword.Global = option_and_then (with_global s) (numbers_in (Number ∷ []) ws)
with_data s ws keyword.Cells = option_and_then (with_run s) (numbers_in (Number ∷ Value ∷ State ∷ []) ws)
with_data s ws keyword.Format = option_and_then (with_format s) (bytes_in ws)
with_data s ws keyword.Loop = option_and_then (with_mark s) (numbers_in (Number ∷ Number ∷ Number ∷ Number ∷ Number ∷ []) ws)
with_data s ws keyword.Code = option_and_then (with_code s) (none_left ws)

abbrev pub data_next : Reading → List (List ℕ) → Option Reading
data_next s [] = None
data_next s (w ∷ ws) = option_and_then (with_data s ws) (keyword_named w)

-- ---- the automaton

abbrev pub with_instr : Reading → Instr → Option Reading
with_instr s i = Some (record s { instrs = s.instrs ++ i ∷ [] })

abbrev pub next_at : Stage → Reading → List ℕ → Option Reading
next_at stage.Start s line = if bytes_eq line header then Some (record s { stage = stage.Data }) else None
next_at stage.Data s line = data_next s (words_of line)
next_at stage.Code s line = option_and_then (with_instr s) (instr_in (words_of line))

abbrev pub next : Reading → List ℕ → Option Reading
next s line = next_at s.stage s line

abbrev pub whole_at : Stage → Bool
whole_at stage.Start = false
whole_at stage.Data = false
whole_at stage.Code = true

abbrev pub whole : Reading → Bool
whole s = whole_at s.stage
