-- The members of structs, in lists by the structs' numbers.
use Rattle.std.specs.Prelude.{ℕ, ◌==◌, Bool, false, cond, List, [], ◌∷◌, Option, Some, None, slice_get, unwrap_or}
use Rattle.xc_type_rule.specs.declared.found.Member.{Member}

-- the first member with this name
abbrev pub member_named : ℕ → List Member → Option Member
member_named name [] = None
member_named name (m ∷ ms) = cond (name == m.name) (Some m) (member_named name ms)

-- the struct's members
abbrev pub members_of : List (List Member) → ℕ → List Member
members_of members s = unwrap_or (slice_get members s) []

-- the struct mixes a pointer with a cell of another type
abbrev pub mixes : List Bool → ℕ → Bool
mixes mixed s = unwrap_or (slice_get mixed s) false
