-- When what is known of functions and of texts agrees with a program.
use Rattle.std.specs.Prelude.{◌≡◌, ℕ, Bool, true, nat_lt, IsTrue, List, [], ◌∷◌, length, map, take, Option, Some, None, slice_get}
use Rattle.xc_tree.specs.declared.ty.Ty.{Ty}
use Rattle.xc_tree.specs.declared.tree.Local.{Local}
use Rattle.xc_tree.specs.declared.tree.Func.{Func}
use Rattle.xc_tree.specs.Lists.{every, passes, allows}
use Rattle.xc_tree.specs.Types.{is_object}
use Rattle.xc_tree.specs.Typed.{Context}
use Rattle.xc_tree.specs.Formats.{integers_taken}
use Rattle.xc_type_rule.specs.declared.found.Found.{Found}
use Rattle.xc_type_rule.specs.declared.found.Known.TheVariants as known
use Rattle.xc_type_rule.specs.declared.found.Thing.{Thing}
use Rattle.xc_type_rule.specs.declared.found.Thing.TheVariants as thing
use Rattle.xc_type_rule_calls.specs.declared.print.Text.{Text}
use Rattle.xc_welltyped.specs.Sound.{Point, known_ok, IsSound, IsWhole}

-- arguments -------------------------------------------------------------------

abbrev pub AreSound : Point → List Found → Type 0
AreSound so [] = Unit {0}
AreSound so (f ∷ fs) = IsSound so f × AreSound so fs

abbrev pub AreWhole : List Found → Type 0
AreWhole [] = Unit {0}
AreWhole (f ∷ fs) = IsWhole f × AreWhole fs

-- functions -------------------------------------------------------------------

abbrev pub param_of : Local → Option Ty
param_of p = Some p.ty

-- a function with these parameters and this result
pub record IsFunc (params : List (Option Ty)) (ret : Option Ty) (f : Func) : Type 0 where
  pub takes : map param_of (take f.params f.locals) ≡ params
  pub gives : ret ≡ Some f.ret

abbrev pub HasFunc : List (Option Ty) → Option Ty → Option Func → Type 0
HasFunc params ret None = ⊥
HasFunc params ret (Some f) = IsFunc params ret f

-- the program has the function with this number
pub record Defines (cx : Context) (params : List (Option Ty)) (ret : Option Ty) (n : ℕ) : Type 0 where
  pub named : IsTrue (nat_lt n (length cx.funcs))
  pub func : HasFunc params ret (slice_get cx.funcs n)

abbrev pub DefinesAny : Context → List (Option Ty) → Option Ty → Option ℕ → Type 0
DefinesAny cx params ret None = Unit {0}
DefinesAny cx params ret (Some n) = Defines cx params ret n

abbrev pub params_ok : Point → List (Option Ty) → Bool
params_ok so params = every (map (λ p. allows (is_object so.shapes) p) params)

-- a result is void, or of a type that an object may have
abbrev pub ret_ok : Point → Option Ty → Bool
ret_ok so ret = allows (λ ty. known_ok so (known.Value ty)) ret

-- what is known of a function is so in the program, which has it if it is defined
pub record IsCallee (so : Point) (number : Option ℕ) (params : List (Option Ty)) (ret : Option Ty) : Type 0 where
  pub takes : IsTrue (params_ok so params)
  pub gives : IsTrue (ret_ok so ret)
  pub defined : DefinesAny so.cx params ret number

abbrev pub IsCalled : Point → Option Thing → Type 0
IsCalled so (Some (thing.Func number params ret)) = IsCallee so number params ret
IsCalled so _ = Unit {0}

-- the type of the function's result is known
abbrev pub is_typed_call : Option Thing → Bool
is_typed_call (Some (thing.Func number params ret)) = passes (λ ty. true) ret
is_typed_call _ = true

-- texts -----------------------------------------------------------------------

-- the program has the text, which takes so many integers
abbrev pub TakesSo : Option ℕ → Option (List ℕ) → Type 0
TakesSo takes None = ⊥
TakesSo takes (Some bytes) = takes ≡ integers_taken bytes

pub record IsText (cx : Context) (text : Text) : Type 0 where
  pub named : IsTrue (nat_lt text.number (length cx.formats))
  pub takes : TakesSo text.takes (slice_get cx.formats text.number)
