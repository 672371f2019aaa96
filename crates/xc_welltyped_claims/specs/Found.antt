-- What is found where there is no fault.
use Rattle.std.specs.Prelude.{ℕ, Bool, List, length}
use Rattle.xc_type_rule.specs.declared.found.Found.{Found}
use Rattle.xc_type_scopes.specs.declared.env.Env.{Env}
use Rattle.xc_type_expressions.specs.declared.text.Text.{Text}
use Rattle.xc_welltyped.specs.Sound.{Point, IsSound, IsWhole}
use Rattle.xc_welltyped_locals.specs.Seen.{IsSeen}
use Rattle.xc_welltyped_locals.specs.Used.{IsUsed}
use Rattle.xc_welltyped_claims.specs.Lists.{Each, StaysSet}
use Rattle.xc_welltyped_claims.specs.Env.{At, Covers}

-- it is made, well typed in each program that has what stands there, of locals that are in scope, and uses them as it may
pub record Fine (t : Text) (e : Env) (f : Found) : Type 0 where
  pub whole : IsWhole f
  pub sound : (so : Point) → At t so e → IsSound so f
  pub seen : (seen : List ℕ) → Covers seen e → IsSeen seen f
  pub used : (flags : List Bool) → StaysSet e.addressed flags → IsUsed flags (length e.locals) f

abbrev pub AreFine : Text → Env → List Found → Type 0
AreFine t e fs = Each (Fine t e) fs
