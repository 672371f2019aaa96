-- What is made of a name is well typed, as it is known.
use Rattle.std.proofs.Common.{rules, ℕ, Bool, true, false, refl, length}
use Rattle.std.specs.Prelude.{IsTrue, nat_lt, Option, Some, None, slice_get}
use Rattle.xc_text_place.specs.declared.Span.{Span}
use Rattle.xc_tree.specs.declared.ty.Ty.{Ty, Ptr}
use Rattle.xc_tree.specs.declared.expr.ExprKind.{Global, Auto}
use Rattle.xc_tree.specs.declared.expr.ExprKind.TheOpen.{ExprKind-F}
use Rattle.xc_tree.proofs.Lists.{and_left, and_right}
use Rattle.xc_tree.specs.Types.{is_object}
use Rattle.xc_tree.specs.Typed.{Context, rule, are_values, leads_to, global_type, addressed_type}
use Rattle.xc_type_rule.specs.declared.found.Thing.{Thing}
use Rattle.xc_type_rule.specs.declared.found.Thing.TheVariants as thing
use Rattle.xc_type_rule.specs.Making.{typed, unknown}
use Rattle.xc_welltyped.specs.Sound.{Point, IsPlace, IsSound}
use Rattle.xc_welltyped.proofs.Forms.{opened, Layer, made_at}
use Rattle.xc_welltyped.proofs.Founds.{Declared, declared_sound}
use Rattle.xc_type_rule_places.specs.Places.{name_part}
use Rattle.xc_welltyped_rules.specs.Agrees.{declared_ok, global_ok, local_ok, thing_ok}

module _ (cx : Context) (span : Span) (ty : Ty) where
  global_row : (n : ℕ) → IsTrue (nat_lt n (length cx.globals)) → IsTrue (leads_to (global_type (slice_get cx.globals n)) (Ptr ty)) → Layer cx (Ptr ty) (ExprKind-F.Global n)
  unfolding rule are_values
  global_row n lt leads = simp (lt, leads) refl

  global_made : (n : ℕ) → IsTrue (global_ok cx n ty) → IsPlace cx ty false (typed span (Ptr ty) (Global n))
  global_made n h = record {
    made = made_at cx span (Ptr ty) false (Global n) (ExprKind-F.Global n) (search (rules, opened))
        (global_row n (and_left (nat_lt n (length cx.globals)) _ h) (and_right (nat_lt n (length cx.globals)) _ h));
    unraised = search (rules, opened);
  }

  auto_row : (n : ℕ) → IsTrue (nat_lt n (length cx.locals)) → IsTrue (leads_to (addressed_type (slice_get cx.locals n)) (Ptr ty)) → Layer cx (Ptr ty) (ExprKind-F.Auto n)
  unfolding rule are_values
  auto_row n lt leads = simp (lt, leads) refl

  auto_made : (n : ℕ) → IsTrue (local_ok cx n ty) → IsPlace cx ty false (typed span (Ptr ty) (Auto n))
  auto_made n h = record {
    made = made_at cx span (Ptr ty) false (Auto n) (ExprKind-F.Auto n) (search (rules, opened))
        (auto_row n (and_left (nat_lt n (length cx.locals)) _ h) (and_right (nat_lt n (length cx.locals)) _ h));
    unraised = search (rules, opened);
  }

pub unknown_sound : (so : Point) (place : Bool) → IsSound so (unknown place)
unknown_sound so place = record { known = refl; made = tt }

module _ (so : Point) (span : Span) where
  global_declared : (n : ℕ) (ty : Option Ty) → IsTrue (declared_ok so (global_ok so.cx n) ty) → Declared so span ty false (Some (Global n))
  global_declared n None h = tt
  global_declared n (Some t) h = (and_left (is_object so.shapes t) _ h, global_made so.cx span t n (and_right (is_object so.shapes t) _ h))

  local_declared : (n : ℕ) (ty : Option Ty) → IsTrue (declared_ok so (local_ok so.cx n) ty) → Declared so span ty false (Some (Auto n))
  local_declared n None h = tt
  local_declared n (Some t) h = (and_left (is_object so.shapes t) _ h, auto_made so.cx span t n (and_right (is_object so.shapes t) _ h))

  pub name_sound : (t : Option Thing) → IsTrue (thing_ok so t) → IsSound so (name_part span t)
  unfolding name_part
  name_sound None h = unknown_sound so true
  name_sound (Some (thing.Global n ty)) h = declared_sound so span ty false (Some (Global n)) (global_declared n ty h)
  name_sound (Some (thing.Local n ty)) h = declared_sound so span ty false (Some (Auto n)) (local_declared n ty h)
  name_sound (Some (thing.Func number params ret)) h = unknown_sound so true
