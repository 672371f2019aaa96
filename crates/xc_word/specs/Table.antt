-- What an access does: the access modes of R. Alverson and others, The Tera Computer System, 1990, and purge.
use Rattle.std.specs.Prelude.{ℕ, true, false, Option, Some, None, ◌+◌, ◌%◌, ◌^◌, if◌then◌else◌}
use Rattle.std.specs.Option.{option_map}
use Rattle.xc_word.specs.declared.memory.Cell.{Cell}
use Rattle.xc_word.specs.declared.memory.Place.{Place}
use Rattle.xc_word.specs.declared.memory.Access.{Access}
use Rattle.xc_word.specs.declared.memory.Kind.{Kind}
use Rattle.xc_word.specs.declared.memory.Kind.TheVariants.{ReadXx, ReadFe, ReadFf, WriteXf, WriteEf, WriteFf, Purge, Add}
use Rattle.xc_word.specs.declared.memory.Applied.{Applied}
use Rattle.xc_word.specs.declared.memory.Applied.TheVariants.{Done, Blocked, Bad}
use Rattle.xc_word.specs.Cells.{Segments, cell_at, put_cell}

-- a full cell
abbrev pub full_with : ℕ → Cell
full_with n = record { value = n; full = true }

-- an empty cell, with the value that it keeps
abbrev pub empty_with : ℕ → Cell
empty_with n = record { value = n; full = false }

-- what an access with this value answers at a cell, and the cell that it leaves; none: it waits
abbrev pub on_cell : Kind → ℕ → Cell → Option (ℕ × Cell)
on_cell ReadXx v c = Some (c.value, c)
on_cell ReadFe v c = if c.full then Some (c.value, empty_with c.value) else None
on_cell ReadFf v c = if c.full then Some (c.value, c) else None
on_cell WriteXf v c = Some (0, full_with v)
on_cell WriteEf v c = if c.full then None else Some (0, full_with v)
on_cell WriteFf v c = if c.full then Some (0, full_with v) else None
on_cell Purge v c = Some (0, empty_with 0)
on_cell Add v c = if c.full then Some (c.value, full_with ((c.value + v) % 2 ^ 64)) else None

-- what comes of an access; none: no live segment has the place, some none: it waits
abbrev pub outcome : Segments → Access → Option (Option (ℕ × Cell))
outcome m act = option_map (on_cell act.kind act.value) (cell_at m act.place)

-- the answer
abbrev pub answer_of : Option (Option (ℕ × Cell)) → Applied
answer_of None = Bad
answer_of (Some None) = Blocked
answer_of (Some (Some x)) = Done x.0

-- the memory afterwards: only an access that is made changes it, and only at its place
abbrev pub left_by : Segments → Place → Option (Option (ℕ × Cell)) → Segments
left_by m p None = m
left_by m p (Some None) = m
left_by m p (Some (Some x)) = put_cell m p x.1
