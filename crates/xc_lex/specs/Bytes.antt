-- Classes of bytes.
use Rattle.std.specs.Prelude.{ℕ, Bool, ◌==◌, ◌||◌, ◌&&◌, nat_le, not}

abbrev pub is_between : ℕ → ℕ → ℕ → Bool
is_between low high b = nat_le low b && nat_le b high

abbrev pub is_digit : ℕ → Bool
is_digit b = is_between 48 57 b

-- letters, `_` and `$` (C99 6.4.2.1, which leaves `$` to the implementation)
abbrev pub is_name_start : ℕ → Bool
is_name_start b = is_between 65 90 b || is_between 97 122 b || b == 95 || b == 36

abbrev pub is_name_char : ℕ → Bool
is_name_char b = is_name_start b || is_digit b

-- white space within a line: space, tab, carriage return, form feed (C99 6.4; a vertical tab is none here)
abbrev pub is_blank : ℕ → Bool
is_blank b = b == 32 || b == 9 || b == 13 || b == 12

abbrev pub is_printable : ℕ → Bool
is_printable b = is_between 32 126 b

-- the bytes of a line outside comments
abbrev pub is_source : ℕ → Bool
is_source b = is_printable b || is_blank b

-- no line feed
abbrev pub is_in_line : ℕ → Bool
is_in_line b = not (b == 10)
