-- Places that pointers name.
use Rattle.std.specs.Prelude.{ℕ, ◌+◌, ◌^◌, nat_lt, Option, Some, None, if◌then◌else◌}
use Rattle.xc_word.specs.declared.memory.Place.{Place}
use Rattle.xc_isa.specs.Words.{segment_of, offset_of}

-- at offset n from the pointer w
abbrev pub place_of : ℕ → ℕ → Option Place
place_of w n = if nat_lt (offset_of w + n) (2 ^ 32) then Some (record { seg = segment_of w; off = offset_of w + n }) else None
