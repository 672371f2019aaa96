-- What is made is well typed with the type that is known, in a program whose names agree with what is known of them.
use Rattle.std.specs.Prelude.{◌≡◌, ℕ, ◌^◌, Bool, true, false, not, nat_le, ◌&&◌, ◌||◌, ◌==◌, IsTrue, List, Option, Some, None, slice_get}
use Rattle.xc_tree.specs.declared.ty.Ty.{Ty, Ptr}
use Rattle.xc_tree.specs.declared.expr.Expr.{Expr}
use Rattle.xc_tree.specs.declared.expr.ExprKind.{ExprKind, out-ExprKind}
use Rattle.xc_tree.specs.declared.expr.ExprKind.TheOpen.{ExprKind-F}
use Rattle.xc_tree.specs.Lists.{passes}
use Rattle.xc_tree.specs.Types.{Shape, is_void, is_size, is_object, array_under}
use Rattle.xc_tree.specs.Typed.{Context, part_of}
use Rattle.xc_type_rule.specs.declared.found.Found.{Found}
use Rattle.xc_type_rule.specs.declared.found.Known.{Known}
use Rattle.xc_type_rule.specs.declared.found.Known.TheVariants as known
use Rattle.xc_type_rule.specs.Tests.{is_unknown}

-- an expression that is well typed at this type, and no variable itself; `within` says that it is a place in a mixed
-- struct
pub record IsMade (cx : Context) (of : Ty) (inside : Bool) (e : Expr) : Type 0 where
  pub own : e.ty ≡ of
  pub typed : (part_of cx e).ty ≡ of
  pub ok : (part_of cx e).ok ≡ true
  pub within : (part_of cx e).within ≡ inside
  pub variable : (part_of cx e).variable ≡ false

-- an element of an array has the array's bound, which so may be one more under `&` (C99 6.5.6 paragraph 8)
abbrev pub unraised_at : ExprKind-F ExprKind Expr → Bool
unraised_at (ExprKind-F.Index base index size (Some bound)) = passes (λ a. bound == a.0 && nat_le bound (2 ^ 22)) (array_under base.ty)
unraised_at _ = true

-- the place of an object is the pointer to it
pub record IsPlace (cx : Context) (of : Ty) (inside : Bool) (e : Expr) : Type 0 where
  pub made : IsMade cx (Ptr of) inside e
  pub unraised : IsTrue (unraised_at (out-ExprKind e.kind))

-- the cells of some structs are those of all
abbrev pub Grows : List Shape → List Shape → Type 0
Grows few all = (s : ℕ) (x : Shape) → slice_get few s ≡ Some x → IsTrue (is_size x.size) → slice_get all s ≡ Some x

-- a program, and the cells of the structs of it that are complete where something is found
pub record Point : Type 0 where
  pub cx : Context
  pub shapes : List Shape
  pub grows : Grows shapes cx.shapes

-- a value is void, or of a type that an object may have; a place is an object's
abbrev pub known_ok : Point → Known → Bool
known_ok so (known.Unknown place) = true
known_ok so (known.Value ty) = is_void ty || is_object so.shapes ty
known_ok so (known.Place ty within) = is_object so.shapes ty

-- what is made is of what is known, and nothing is made of what is unknown
abbrev pub Stands : Context → Known → Option Expr → Type 0
Stands cx k None = Unit {0}
Stands cx (known.Unknown place) (Some e) = ⊥
Stands cx (known.Value ty) (Some e) = IsMade cx ty false e
Stands cx (known.Place ty within) (Some e) = IsPlace cx ty within e

pub record IsSound (so : Point) (f : Found) : Type 0 where
  pub known : IsTrue (known_ok so f.known)
  pub made : Stands so.cx f.known f.made

-- its type is known, and it is made
pub record IsWhole (f : Found) : Type 0 where
  pub known : IsTrue (not (is_unknown f.known))
  pub made : IsTrue (passes (λ e. true) f.made)
