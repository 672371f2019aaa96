-- Faults, and the least of some: the first place, and there a name before a type.
use Rattle.std.specs.Prelude.{ℕ, Bool, true, false, nat_le, nat_lt, cond, List, [], ◌∷◌, Option, Some, None}
use Rattle.xc_text_place.specs.declared.Span.{Span}
use Rattle.xc_type_rule.specs.declared.fault.Fault.{Fault}
use Rattle.xc_type_rule.specs.declared.fault.Breach.{Breach}
use Rattle.xc_type_rule.specs.declared.fault.Breach.TheVariants as breach

abbrev pub before_at : Breach → Breach → ℕ → ℕ → Bool
before_at breach.Name breach.Typing m n = nat_le m n
before_at _ _ m n = nat_lt m n

-- the first is the one to tell
abbrev pub is_before : Fault → Fault → Bool
is_before a b = before_at a.breach b.breach a.at b.at

abbrev pub lesser : Option Fault → Fault → Option Fault
lesser None f = Some f
lesser (Some g) f = cond (is_before f g) (Some f) (Some g)

-- the least of a fault and some more
unfoldable pub least_from : Option Fault → List Fault → Option Fault
least_from f [] = f
least_from f (g ∷ gs) = least_from (lesser f g) gs

-- what covers these bytes breaks a rule of types; its first byte is told
abbrev pub type_fault : Span → List Fault
type_fault span = record { at = span.start; breach = breach.Typing } ∷ []

abbrev pub name_fault : Span → List Fault
name_fault span = record { at = span.start; breach = breach.Name } ∷ []

abbrev pub fault_unless : Bool → Span → List Fault
fault_unless true span = []
fault_unless false span = type_fault span
