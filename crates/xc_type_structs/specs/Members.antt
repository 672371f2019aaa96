-- The members of one struct.
use Rattle.std.specs.Prelude.{◌≡◌, ℕ, is_some, if◌then◌else◌, List, [], ◌∷◌, ◌++◌}
use Rattle.std.specs.List.{All}
use Rattle.xc_type_rule.specs.declared.found.Member.{Member}
use Rattle.xc_type_rule.specs.Members.{member_named}

-- one more member; a second one of a name is none
abbrev pub added : List Member → Member → List Member
added ms m = if is_some (member_named m.name ms) then ms else ms ++ m ∷ []

-- each member stands under its name
abbrev pub AreNamed : List (ℕ × Member) → Type 0
AreNamed es = All (λ e. e.0 ≡ e.1.name) es
