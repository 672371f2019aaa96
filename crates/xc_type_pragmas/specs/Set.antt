-- What the pragmas before a loop set together.
use Rattle.std.specs.Prelude.{ℕ, Bool, true, false, ◌==◌, not, cond, List, [], ◌∷◌, map, filter}
use Rattle.std.specs.Int.RustNames.{bit_or}
use Rattle.std.specs.List.{list_any}
use Rattle.xc_text_place.specs.declared.Span.{Span}
use Rattle.xc_tree.specs.declared.pragmas.Marks.{Marks}
use Rattle.xc_tree.specs.declared.pragmas.Root.{Root}
use Rattle.xc_tree.specs.declared.pragmas.Schedule.{Schedule}
use Rattle.xc_tree.specs.declared.pragmas.Schedule.TheVariants.{Block}
use Rattle.xc_tree.specs.declared.pragmas.Pragmas.{Pragmas}
use Rattle.xc_tree.specs.Lists.{joined}
use Rattle.xc_type_pragmas.specs.declared.read.Pragma.{Pragma}
use Rattle.xc_type_pragmas.specs.declared.read.Pragma.TheVariants.{Parallel, Nodep, Noalias, Serial, Streams, Dealt, Other}
use Rattle.xc_type_pragmas.specs.declared.set.Named.{Named}
use Rattle.xc_type_pragmas.specs.declared.set.Named.TheVariants.{Nothing, Object, Pointer}
use Rattle.xc_type_pragmas.specs.declared.set.Said.{Said}
use Rattle.xc_type_pragmas.specs.declared.set.Settings.{Settings}

-- each pragma ------------------------------------------------------------

abbrev pub is_serial : Pragma → Bool
is_serial Serial = true
is_serial _ = false

abbrev pub is_streams : Pragma → Bool
is_streams (Streams k) = true
is_streams _ = false

abbrev pub is_schedule : Pragma → Bool
is_schedule (Dealt s) = true
is_schedule _ = false

-- a pragma of this kind is among them
abbrev pub says : (Pragma → Bool) → List Said → Bool
says p all = list_any (λ s. p s.pragma) all

abbrev pub is_named : Named → Bool
is_named Nothing = false
is_named _ = true

abbrev pub is_pointer : Named → Bool
is_pointer (Pointer object pointer) = true
is_pointer _ = false

-- the bit of a mark, where the pragma has an effect
abbrev pub marked : Bool → ℕ → Marks
marked has_effect bit = record { 0 = cond has_effect bit 0 }

-- the mark of a pragma, none where it has no effect: `serial` tells whether a `loop serial` stands before the loop too, and
-- `later` has the pragmas behind this one
abbrev pub mark_by : Bool → List Said → Named → Pragma → Marks
mark_by serial later named Parallel = marked (not serial) 1
mark_by serial later named Serial = marked true 2
mark_by serial later named (Nodep name) = marked (is_named named) 4
mark_by serial later named (Noalias name) = marked (is_pointer named) 8
mark_by serial later named (Streams k) = marked (not (says is_streams later)) 16
mark_by serial later named (Dealt s) = marked (not (says is_schedule later)) 32
mark_by serial later named Other = marked false 0

abbrev pub mark_of : Bool → List Said → Said → Marks
mark_of serial later s = mark_by serial later s.named s.pragma

abbrev pub given_in : Bool → List Said → List (Span × Marks)
given_in serial [] = []
given_in serial (s ∷ ss) = (s.span, mark_of serial ss s) ∷ given_in serial ss

-- all of them ------------------------------------------------------------

-- each pragma with its mark
abbrev pub given_of : List Said → List (Span × Marks)
given_of all = given_in (says is_serial all) all

abbrev pub union : ℕ → List (Span × Marks) → ℕ
union so_far [] = so_far
union so_far (g ∷ gs) = union (bit_or so_far g.1.0) gs

abbrev pub is_noted : Span × Marks → Bool
is_noted g = g.1.0 == 0

abbrev pub noted : List (Span × Marks) → List Span
noted gs = map (λ g. g.0) (filter is_noted gs)

-- a pointer's name stands for the pointer itself too
abbrev pub both_roots : Named → List Root
both_roots Nothing = []
both_roots (Object r) = r ∷ []
both_roots (Pointer object pointer) = object ∷ pointer ∷ []

abbrev pub pointer_root : Named → List Root
pointer_root (Pointer object pointer) = pointer ∷ []
pointer_root _ = []

abbrev pub nodep_by : Named → Pragma → List Root
nodep_by named (Nodep name) = both_roots named
nodep_by named _ = []

abbrev pub noalias_by : Named → Pragma → List Root
noalias_by named (Noalias name) = pointer_root named
noalias_by named _ = []

abbrev pub nodep_of : List Said → List Root
nodep_of all = joined (map (λ s. nodep_by s.named s.pragma) all)

abbrev pub noalias_of : List Said → List Root
noalias_of all = joined (map (λ s. noalias_by s.named s.pragma) all)

-- the later one counts
abbrev pub streams_by : ℕ → Pragma → ℕ
streams_by so_far (Streams k) = k
streams_by so_far _ = so_far

abbrev pub streams_after : ℕ → List Said → ℕ
streams_after so_far [] = so_far
streams_after so_far (s ∷ ss) = streams_after (streams_by so_far s.pragma) ss

abbrev pub schedule_by : Schedule → Pragma → Schedule
schedule_by so_far (Dealt s) = s
schedule_by so_far _ = so_far

abbrev pub schedule_after : Schedule → List Said → Schedule
schedule_after so_far [] = so_far
schedule_after so_far (s ∷ ss) = schedule_after (schedule_by so_far s.pragma) ss

-- 8 streams and the schedule `block` where none is asked for
abbrev pub pragmas_of : List Said → Pragmas
pragmas_of all = record {
  marks = record { 0 = union 0 (given_of all) };
  nodep = nodep_of all;
  noalias = noalias_of all;
  streams = streams_after 8 all;
  schedule = schedule_after Block all;
  given = given_of all;
}

-- what they set, and which of them have no effect
abbrev pub settings_of : List Said → Settings
settings_of all = record { pragmas = pragmas_of all; notes = noted (given_of all) }
