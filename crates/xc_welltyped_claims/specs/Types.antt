-- Types by the sizes of the structs alone.
use Rattle.std.specs.Prelude.{ℕ, ◌*◌, Bool, true, false, ◌&&◌, nat_lt, List, [], length, map, None}
use Rattle.xc_tree.specs.declared.ty.Ty.{Ty, Void, Int, Uint, Ptr, Array, Struct, Sync, Future}
use Rattle.xc_tree.specs.declared.ty.Ty.TheOpen.{Ty-F}
use Rattle.xc_tree.specs.declared.ty.Ty.TheFolds.{fold-Ty}
use Rattle.xc_tree.specs.Types.{Shape, is_size, is_plain, is_object}
use Rattle.xc_type_rule.specs.Cells.{listed}

-- cells of which only the number is known
abbrev pub counted : ℕ → Shape
counted n = record { size = n; kinds = []; cell = λ k. None }

-- a type that an object may have
abbrev pub is_object_by : List ℕ → Ty → Bool
is_object_by sizes ty = is_object (map counted sizes) ty

-- open structs --------------------------------------------------------------

-- a type with its cells; whether an object may have it once all structs are complete, with no struct in it that is not
-- complete yet; and whether a pointer may lead to it
pub record Promise : Type 0 where
  pub ty : Ty
  pub size : ℕ
  pub kept : Bool
  pub pointed : Bool

abbrev pub promise : Ty → ℕ → Bool → Promise
promise ty size kept = record { ty = ty; size = size; kept = kept; pointed = kept }

abbrev pub promise_step : List ℕ → Ty-F Promise → Promise
promise_step sizes Ty-F.Void = promise Void 0 false
promise_step sizes Ty-F.Int = promise Int 1 true
promise_step sizes Ty-F.Uint = promise Uint 1 true
promise_step sizes (Ty-F.Ptr to) = promise (Ptr to.ty) 1 to.pointed
promise_step sizes (Ty-F.Array n of) = promise (Array n of.ty) (n * of.size) (of.kept && is_size (n * of.size))
promise_step sizes (Ty-F.Struct s) = record { ty = Struct s; size = listed sizes s; kept = is_size (listed sizes s); pointed = nat_lt s (length sizes) }
promise_step sizes (Ty-F.Sync of) = promise (Sync of.ty) 1 (of.kept && is_plain of.ty)
promise_step sizes (Ty-F.Future of) = promise (Future of.ty) 1 (of.kept && is_plain of.ty)

abbrev pub promised : List ℕ → Ty → Promise
promised sizes = fold-Ty Promise (promise_step sizes)

-- an object may have the type, once all structs are complete
abbrev pub will_be_object : List ℕ → Ty → Bool
will_be_object sizes ty = (promised sizes ty).kept

-- a pointer may lead there
abbrev pub may_be_pointed_to : List ℕ → Ty → Bool
may_be_pointed_to sizes ty = (promised sizes ty).pointed
