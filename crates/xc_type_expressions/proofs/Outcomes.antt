-- What an outcome holds that a call judged, and a part that is handed on.
use Rattle.std.proofs.Common.{◌≡◌, sym, subst}
use Rattle.std.specs.Prelude.{Option, Result, Ok, IfOk}
use Rattle.xc_type_rule.specs.declared.fault.Fault.{Fault}
use Rattle.xc_type_scopes.specs.declared.env.Env.{Env}
use Rattle.xc_type_scopes.specs.Judge.{Judge, Judges}

pub judges_ok : {A E : Type 0} (j : Judge A) (e e' : Env) (f f' : Option Fault) (o : Result A E) (x : A) →
    IfOk o (λ r. Judges j e e' f f' r) → o ≡ Ok x → Judges j e e' f f' x
judges_ok j e e' f f' o x h is = subst (λ p. IfOk p (λ r. Judges j e e' f f' r)) is h

pub judges_same : {A : Type 0} (j : Judge A) (e e' : Env) (f f' : Option Fault) (x y : A) → Judges j e e' f f' x → y ≡ x → Judges j e e' f f' y
judges_same j e e' f f' x y h is = subst (λ z. Judges j e e' f f' z) (sym is) h
