-- One part of a text, and then another.
use Rattle.std.proofs.Common.{◌≡◌, refl, sym, ap, ◌∙◌}
use Rattle.std.specs.Prelude.{Option, Result, Ok, Err, IfOk}
use Rattle.xc_type_rule.specs.declared.fault.Fault.{Fault}
use Rattle.xc_type_rule.specs.Least.{least_from}
use Rattle.xc_type_rule.proofs.Least.{least_append}
use Rattle.xc_type_scopes.specs.declared.env.Env.{Env}
use Rattle.xc_type_scopes.specs.Judge.{Judged, Judge, Judges, and_then}
use Rattle.xc_type_scopes.specs.Told.{Told, anywhere}
use Rattle.xc_type_scopes.specs.InnerTold.{Tells}

module _ {A B : Type 0} (j : Judge A) (k : A → Judge B) where
  pub judges_then : (e e' e'' : Env) (f f' f'' : Option Fault) (x : A) (y : B) → Judges j e e' f f' x → Judges (k x) e' e'' f' f'' y → Judges (and_then j k) e e'' f f'' y
  judges_then e e' e'' f f' f'' x y h i =
      let same : k x e' ≡ k (j e).part (j e).env = ap (λ a. k a e') h.0 ∙ ap (k (j e).part) h.1 in (
        i.0 ∙ ap (λ (r : Judged B). r.part) same,
        i.1 ∙ ap (λ (r : Judged B). r.env) same,
        i.2 ∙ ap (λ a. least_from a (k x e').faults) h.2 ∙ ap (λ (r : Judged B). least_from (least_from f (j e).faults) r.faults) same
            ∙ sym (least_append f (j e).faults (k (j e).part (j e).env).faults),
      )

  -- where the second part is what a call answers
  pub ok_then : {E : Type 0} (e e' e'' : Env) (f f' f'' : Option Fault) (x : A) (r : Result B E) → Judges j e e' f f' x →
      IfOk r (λ y. Judges (k x) e' e'' f' f'' y) → IfOk r (λ y. Judges (and_then j k) e e'' f f'' y)
  ok_then e e' e'' f f' f'' x (Ok y) h i = judges_then e e' e'' f f' f'' x y h i
  ok_then e e' e'' f f' f'' x (Err r) h i = i

-- what is told by the parts alone is judged anywhere
pub ok_anywhere : {A E : Type 0} (t : Told A) (e : Env) (f f' : Option Fault) (r : Result A E) → IfOk r (λ y. Tells t f f' y) → IfOk r (λ y. Judges (anywhere t) e e f f' y)
ok_anywhere t e f f' (Ok y) h = (h.0, refl, h.1)
ok_anywhere t e f f' (Err r) h = h
