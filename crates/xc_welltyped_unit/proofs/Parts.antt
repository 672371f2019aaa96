-- Items of parts, where nothing has a fault.
use Rattle.std.proofs.Common.{◌≡◌, ℕ, ◌^◌, ◌≤◌, Bool, true, false, refl}
use Rattle.std.specs.Prelude.{IsTrue, not, if◌then◌else◌, Option, Some, None}
use Rattle.std.proofs.lemmas.Bool.{leb-true}
use Rattle.xc_text_place.specs.declared.Span.{Span}
use Rattle.xc_tree.specs.declared.ty.Ty.{Ty}
use Rattle.xc_tree.proofs.Lists.{and_right}
use Rattle.xc_type_names.specs.Scoped.{is_new}
use Rattle.xc_type_scopes.specs.declared.env.Env.{Env}
use Rattle.xc_type_scopes.specs.Env as env
use Rattle.xc_type_scopes.specs.Judge.{Judge}
use Rattle.xc_type_expressions.specs.Places.{is_reserved}
use Rattle.xc_type_unit.specs.declared.scope.FileScope.{FileScope}
use Rattle.xc_type_unit.specs.Items.{Item, by_part}
use Rattle.xc_type_unit.specs.Globals as globals
use Rattle.xc_welltyped_claims.specs.Judges.{Clean}
use Rattle.xc_welltyped_claims.proofs.Judges.{none_left, none_right}
use Rattle.xc_welltyped_unit.specs.Files.{CleanItem}
use Rattle.xc_welltyped_unit.proofs.Passing.{ItemPassing}
use Rattle.xc_welltyped_expressions.proofs.Members.{unless_told}

module _ {A : Type 0} (j : Judge A) (k : A → Item) (s : FileScope) (c : CleanItem (by_part j k) s) where
  pub part_first : ((x : A) → ItemPassing (k x)) → Clean j s.env
  part_first p = record { faultless = none_left (j s.env).faults _ c.faultless; within = p (j s.env).part (record s { env = (j s.env).env }) c.within }

  pub part_second : CleanItem (k (j s.env).part) (record s { env = (j s.env).env })
  part_second = record { faultless = none_right (j s.env).faults _ c.faultless; within = c.within }

pub named_new : (at : Span) (ty : Option Ty) (n name : ℕ) (e : Env) → Clean (globals.named_global at ty n (Some name)) e → IsTrue (is_new name e.file)
unfolding globals.named_global
named_new at ty n name e c = and_right (not (is_reserved name)) _ (unless_told (globals.may_be_declared name e) at c.faultless)

-- cells
last_none : (a o : Option ℕ) → env.least_place a o ≡ None → o ≡ None
last_none None o e = e
last_none (Some n) None e = refl
last_none (Some n) (Some m) e = absurd cc

not_over : (b : Bool) (n : ℕ) → (if b then None else Some n) ≡ None → b ≡ true
not_over true n e = refl
not_over false n e = absurd cc

pub cells_fit : (over : Option ℕ) (n : ℕ) (at : Span) → env.least_place over (globals.over_at n at) ≡ None → (globals.fits n ≡ true) × (n ≤ 2 ^ 22)
cells_fit over n at e =
    let fits = not_over (globals.fits n) at.start (last_none over (globals.over_at n at) e) in
    (fits, leb-true n (2 ^ 22) fits)
