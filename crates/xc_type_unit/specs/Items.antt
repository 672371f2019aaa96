-- What the items of a text make of file scope, one behind another (C99 6.9).
use Rattle.std.specs.Prelude.{List, [], ◌∷◌, ◌++◌}
use Rattle.xc_type_rule.specs.declared.fault.Fault.{Fault}
use Rattle.xc_type_scopes.specs.Judge.{Judge}
use Rattle.xc_type_unit.specs.declared.scope.FileScope.{FileScope}

-- file scope behind an item, and the item's faults
pub record Outcome : Type 0 where
  pub scope : FileScope
  pub faults : List Fault

abbrev pub Item : Type 0
Item = FileScope → Outcome

-- it adds nothing
abbrev pub nothing : Item
nothing s = record { scope = s; faults = [] }

-- it becomes this
abbrev pub becomes : FileScope → Outcome
becomes s = record { scope = s; faults = [] }

-- a part that is judged by what is declared, and what is made of that
abbrev pub by_part : {A : Type 0} → Judge A → (A → Item) → Item
by_part j k s = let a = j s.env in let b = k a.part (record s { env = a.env }) in record { scope = b.scope; faults = a.faults ++ b.faults }

-- one behind another
unfoldable pub in_turn : List Item → Item
in_turn [] s = nothing s
in_turn (i ∷ is) s = let a = i s in let b = in_turn is a.scope in record { scope = b.scope; faults = a.faults ++ b.faults }
