-- What the head of a function and its body make, where nothing has a fault (C99 6.9.1).
use Rattle.std.specs.Prelude.{◌≡◌, ◌⊎◌, ℕ, ◌||◌, ◌&&◌, is_some, IsTrue, [], length, map, Option, Some}
use Rattle.xc_text_place.specs.declared.Span.{Span}
use Rattle.xc_tree.specs.declared.ty.Ty.{Ty, Int}
use Rattle.xc_tree.specs.declared.tree.Func.{Func}
use Rattle.xc_tree.specs.Lists.{indices}
use Rattle.xc_tree.specs.Types.{is_void, is_plain, base}
use Rattle.xc_tree.specs.Walk.{loop_ids}
use Rattle.xc_type_rule.specs.declared.found.Thing.{Thing}
use Rattle.xc_type_rule.specs.declared.found.Thing.TheVariants as thing
use Rattle.xc_type_names.specs.Scoped.{found_in}
use Rattle.xc_welltyped_rules.specs.Callees.{IsFunc}
use Rattle.xc_type_scopes.specs.declared.env.Env.{Env}
use Rattle.xc_type_scopes.specs.Env.{after_function}
use Rattle.xc_type_expressions.specs.declared.text.Text.{Text}
use Rattle.xc_type_unit.specs.declared.heads.Head.{Head}
use Rattle.xc_type_unit.specs.declared.scope.FileScope.{FileScope}
use Rattle.xc_type_unit.specs.Functions.{Bodies, main_of}
use Rattle.xc_welltyped_claims.specs.Lists.{Each, Fresh}
use Rattle.xc_welltyped_claims.specs.Types.{is_object_by}
use Rattle.xc_welltyped_claims.specs.Table.{Grows}
use Rattle.xc_welltyped_claims.specs.Env.{Ready, Extends, Covers}
use Rattle.xc_welltyped_unit.specs.Files.{FuncFine}

-- the name stands for a function with this head
abbrev pub is_for : Bodies → Head → ℕ → Thing
is_for b h name = thing.Func (found_in name b) h.params h.ret

-- behind the head of a function, whose name stands for it; its parameters are the first objects of the function
pub record IsHead (t : Text) (b : Bodies) (s : FileScope) (e : Env) (h : Head) : Type 0 where
  pub ready : Ready e
  pub one : length e.file ≡ 1
  pub structs : Grows s.env.structs e.structs
  pub loops : e.loops ≡ s.env.loops
  pub name : ℕ
  pub named : h.name ≡ Some name
  pub stays : (y : ℕ) (x : Thing) → found_in y s.env.file ≡ Some x → found_in y e.file ≡ Some x
  pub stands : found_in name e.file ≡ Some (is_for b h name)
  pub others : (y : ℕ) (x : Thing) → found_in y e.file ≡ Some x → ((y ≡ name) × (x ≡ is_for b h name)) ⊎ (found_in y s.env.file ≡ Some x)
  pub main : main_of t ≡ Some name → (h.params ≡ []) × (h.ret ≡ Some Int)
  pub ret : Ty
  pub gives : h.ret ≡ Some ret
  pub given : IsTrue (is_void ret || (is_plain ret && is_object_by e.structs.sizes ret))
  pub params : h.params ≡ map (λ (l : Span × Ty). Some l.1) e.locals
  pub scalars : Each (λ (l : Span × Ty). IsTrue (is_some (base l.1))) e.locals
  pub covers : Covers (indices (length e.locals)) e

-- the function that a block makes behind its head, where `e` stands before the block and `e'` behind it
pub record IsBody (t : Text) (e e' : Env) (h : Head) (o : Option Func) : Type 0 where
  pub ready : Ready e'
  pub extends : Extends e e'
  pub file : e'.file ≡ e.file
  pub func : Func
  pub known : o ≡ Some func
  pub is : IsFunc h.params h.ret func
  pub fine : FuncFine t (after_function e') func
  pub ids : Fresh e.loops e'.loops (loop_ids func.body)
