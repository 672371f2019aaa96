-- What is found of a part of a text, by what is declared where it stands.
use Rattle.std.specs.Prelude.{◌≡◌, List, [], ◌∷◌, ◌++◌, Option}
use Rattle.xc_type_rule.specs.declared.fault.Fault.{Fault}
use Rattle.xc_type_rule.specs.Least.{least_from}
use Rattle.xc_type_scopes.specs.declared.env.Env.{Env}
use Rattle.xc_type_scopes.specs.Env.{inside, outside}

-- what a part is, what is declared behind it, and its faults
pub record Judged (A : Type 0) : Type 0 where
  pub env : Env
  pub part : A
  pub faults : List Fault

abbrev pub Judge : Type 0 → Type 0
Judge A = Env → Judged A

-- it declares nothing, and has these faults
abbrev pub give : {A : Type 0} → A → List Fault → Judge A
give x faults env = record { env = env; part = x; faults = faults }

-- one part, and then another by what the first is
abbrev pub and_then : {A B : Type 0} → Judge A → (A → Judge B) → Judge B
and_then j k env = let a = j env in let b = k a.part a.env in
    record { env = b.env; part = b.part; faults = a.faults ++ b.faults }

-- the same, with a part made of its part
abbrev pub mapped : {A B : Type 0} → (A → B) → Judge A → Judge B
mapped f j env = let a = j env in record { env = a.env; part = f a.part; faults = a.faults }

-- several parts, one behind another
unfoldable pub each : {A : Type 0} → List (Judge A) → Judge (List A)
each [] = give [] []
each (j ∷ js) = and_then j (λ x. and_then (each js) (λ xs. give (x ∷ xs) []))

-- one part, where these changes stand before and behind it
abbrev pub framed : {A : Type 0} → (Env → Env) → (Env → Env) → Judge A → Judge A
framed begins ends j env = let a = j (begins env) in record { env = ends a.env; part = a.part; faults = a.faults }

-- within one more block
abbrev pub in_block : {A : Type 0} → Judge A → Judge A
in_block j = framed inside outside j

-- what a call says that judges a part: its answer is the part, and it leaves what is declared behind it and the least fault
abbrev pub Judges : {A : Type 0} → Judge A → Env → Env → Option Fault → Option Fault → A → Type 0
Judges j before behind was now x = (x ≡ (j before).part) × (behind ≡ (j before).env) × (now ≡ least_from was (j before).faults)
