-- What is found of a part of a text by what is found of its own parts alone.
use Rattle.std.specs.Prelude.{List}
use Rattle.xc_type_rule.specs.declared.fault.Fault.{Fault}
use Rattle.xc_type_scopes.specs.Judge.{Judge, give}

-- what it is, and its faults
pub record Told (A : Type 0) : Type 0 where
  pub part : A
  pub faults : List Fault

abbrev pub told : {A : Type 0} → A → List Fault → Told A
told x faults = record { part = x; faults = faults }

-- it is that wherever it stands, and declares nothing
abbrev pub anywhere : {A : Type 0} → Told A → Judge A
anywhere t = give t.part t.faults
