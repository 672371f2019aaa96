-- What is made uses the place of a local whose address is never taken only to access it.
use Rattle.std.specs.Prelude.{◌≡◌, ℕ, ◌<◌, Bool, true, false, IsTrue, List, [], ◌∷◌, Option, Some, None, slice_get}
use Rattle.xc_tree.specs.declared.ty.Ty.{Ty, Ptr}
use Rattle.xc_tree.specs.declared.expr.Expr.{Expr}
use Rattle.xc_tree.specs.declared.expr.ExprKind.{out-ExprKind}
use Rattle.xc_tree.specs.declared.expr.ExprKind.TheOpen.{ExprKind-F}
use Rattle.xc_type_rule.specs.declared.found.Found.{Found}
use Rattle.xc_type_rule.specs.declared.found.Known.{Known}
use Rattle.xc_type_rule.specs.declared.found.Known.TheVariants as known
use Rattle.xc_type_rule.specs.declared.found.Thing.{Thing}
use Rattle.xc_type_rule.specs.declared.found.Thing.TheVariants as thing
use Rattle.xc_type_scopes.specs.Env.{has_address}
use Rattle.xc_type_lowering.specs.Accessed.{use_of, only_accessed}

-- the place of an object of this type: where the type demands an address, it is that of no value; `flags` tells of each
-- local whether its address is taken, and those numbered below `count` are declared
pub record IsUsedPlace (flags : List Bool) (count : ℕ) (ty : Ty) (e : Expr) : Type 0 where
  pub own : e.ty ≡ Ptr ty
  pub ok : IsTrue (use_of flags e).ok
  pub unread : (use_of flags e).read ≡ false
  pub lies : has_address ty ≡ true → (use_of flags e).place ≡ false
  pub declared : (n : ℕ) → out-ExprKind e.kind ≡ ExprKind-F.Auto n → n < count

-- a value is the place of no value itself
abbrev pub UsedAs : List Bool → ℕ → Known → Option Expr → Type 0
UsedAs flags count k None = Unit {0}
UsedAs flags count (known.Place ty within) (Some e) = IsUsedPlace flags count ty e
UsedAs flags count k (Some e) = IsTrue (only_accessed flags e)

abbrev pub IsUsed : List Bool → ℕ → Found → Type 0
IsUsed flags count f = UsedAs flags count f.known f.made

abbrev pub AreUsed : List Bool → ℕ → List Found → Type 0
AreUsed flags count [] = Unit {0}
AreUsed flags count (f ∷ fs) = IsUsed flags count f × AreUsed flags count fs

-- a local is declared, and marked where its type demands an address
abbrev pub ThingMarked : List Bool → ℕ → Option Thing → Type 0
ThingMarked flags count (Some (thing.Local n (Some ty))) = (n < count) × (has_address ty ≡ true → slice_get flags n ≡ Some true)
ThingMarked flags count _ = Unit {0}

-- the local whose place it is, if it is a local's, is marked
abbrev pub TakenMarked : List Bool → Option Expr → Type 0
TakenMarked flags None = Unit {0}
TakenMarked flags (Some e) = (n : ℕ) → out-ExprKind e.kind ≡ ExprKind-F.Auto n → slice_get flags n ≡ Some true
