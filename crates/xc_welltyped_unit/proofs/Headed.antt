-- The result and the parameters of a function, where nothing has a fault (C99 6.9.1).
use Rattle.std.proofs.Common.{◌≡◌, ℕ, List, Bool, true, false, refl, sym, subst}
use Rattle.std.specs.Prelude.{IsTrue, ◌&&◌, ◌||◌, Option, Some}
use Rattle.xc_tree.specs.declared.ty.Ty.{Ty}
use Rattle.xc_tree.specs.Types.{is_void, is_plain}
use Rattle.xc_tree.proofs.Lists.{and_left, and_right}
use Rattle.xc_raw.specs.declared.rule.Rule.{Rule}
use Rattle.xc_raw.specs.declared.rule.Rule.TheVariants as rule
use Rattle.xc_raw.specs.declared.tree.Raw.{Raw, out-Raw}
use Rattle.xc_type_declarators.specs.declared.declarators.Typing.{Typing}
use Rattle.xc_type_declarators.specs.Declarators.{typing_faults}
use Rattle.xc_raw_parts.specs.Names.{callee_name}
use Rattle.xc_type_scopes.specs.declared.env.Env.{Env}
use Rattle.xc_type_scopes.specs.Judge.{Judge, give}
use Rattle.xc_type_expressions.specs.declared.text.Text.{Text}
use Rattle.xc_type_expressions.specs.Judged.{span_in}
use Rattle.xc_type_unit.specs.declared.heads.Head.{Head}
use Rattle.xc_type_unit.specs.Parameters.{parameters}
use Rattle.xc_type_unit.specs.Functions.{callee_of, head_by, result_of, headed}
use Rattle.xc_welltyped_claims.specs.Types.{is_object_by, will_be_object}
use Rattle.xc_welltyped_claims.specs.Env.{Ready}
use Rattle.xc_welltyped_claims.specs.Judges.{Clean, Made}
use Rattle.xc_welltyped_claims.specs.Roles.{IsBase}
use Rattle.xc_welltyped_claims.specs.Shaped.{rule_in, is_callee, is_params, none_of, is_named, is_token, stars_in, level_ok, Shaped, IsLexed, Spoken}
use Rattle.xc_welltyped_claims.proofs.Judges.{clean_first, clean_second}
use Rattle.xc_welltyped_claims.proofs.Nodes.{level_shaped}
use Rattle.xc_welltyped_claims.proofs.Strings.{spoken_of}
use Rattle.xc_welltyped_structs.proofs.Promises.{promise_kept}
use Rattle.xc_welltyped_structs.proofs.Typed.{result_typed}
use Rattle.xc_welltyped_expressions.proofs.Specified.{kept_if}
use Rattle.xc_welltyped_statements.proofs.Simple.{none_spoken}
use Rattle.xc_welltyped_statements.proofs.Values.{some_of}
use Rattle.xc_welltyped_statements.proofs.Sized.{object_stays}
use Rattle.xc_welltyped_unit.proofs.Listed.{AreParameters, parameters_fine}

-- results -----------------------------------------------------------------------

abbrev is_result : List ℕ → Ty → Bool
is_result sizes ty = is_void ty || (is_plain ty && is_object_by sizes ty)

result_by : (a b c d : Bool) → (IsTrue c → IsTrue d) → IsTrue (a || (b && c)) → IsTrue (a || (b && d))
result_by true b c d f h = refl
result_by false true c d f h = f h
result_by false false c d f h = h

-- heads ---------------------------------------------------------------------------

-- behind the parameters, which are the next objects, with the head
pub record IsHeaded (t : Text) (callee params : Raw) (e e' : Env) (h : Head) : Type 0 where
  pub name : ℕ
  pub named : h.name ≡ Some name
  pub ret : Ty
  pub gives : h.ret ≡ Some ret
  pub given : IsTrue (is_result e'.structs.sizes ret)
  pub types : AreParameters t (out-Raw params).parts e e' h.params
  pub spoken : Spoken t callee × Spoken t params

callee_is : (r : Rule) → IsTrue (is_callee r) → r ≡ rule.Callee
callee_is rule.Callee h = refl
callee_is _ h = absurd cc

module _ (t : Text) (lexed : IsLexed t) where
  pub headed_fine : (base : Option Ty) (callee params : Raw) → Shaped t callee → IsTrue (is_callee (rule_in callee)) → Shaped t params → IsTrue (is_params (rule_in params)) →
      (e : Env) → Ready e → IsBase e base → Clean (headed t base callee params) e →
      Made e (headed t base callee params e).env (IsHeaded t callee params e (headed t base callee params e).env (headed t base callee params e).part)
  unfolding headed level_ok
  headed_fine base callee params hc xc hp xp e r u c =
      let j : Judge (List (Option Ty)) = parameters t (out-Raw params).parts in
      let k : List (Option Ty) → Judge Head = λ ps. give (head_by t callee (result_of t base callee) ps) (typing_faults (span_in t callee) (result_of t base callee)) in
      let a = parameters_fine t lexed params hp xp e r (clean_first j k e c (λ ps e h. h)) in
      let e' = (j e).env in
      let is = callee_is (rule_in callee) xc in
      let parts = (out-Raw callee).parts in
      let ws = stars_in t (out-Raw callee).first (out-Raw callee).end in
      let l = subst (λ q. IsTrue (level_ok t callee q parts)) is (level_shaped t callee hc) in
      let m = and_right (none_of parts) _ l in
      let name = some_of (callee_of t callee) (and_left (is_named t (callee_name t.tokens.now callee)) _ m) in
      let typing : Option Ty → Typing = λ o. result_of t o callee in
      let sound : (typing base).sound ≡ true = kept_if (span_in t callee) (typing base).sound (clean_second j k e c).faultless in
      let o = result_typed e.structs.sizes u.ty u.fits ws (and_right (is_named t (callee_name t.tokens.now callee)) _ m) (subst (λ x. (typing x).sound ≡ true) u.known sound) in
      record {
        ready = a.ready;
        extends = a.extends;
        file = a.file;
        holds = record {
          name = name.0;
          named = name.1;
          ret = o.0;
          gives = subst (λ x. (typing x).ty ≡ Some o.0) (sym u.known) o.1;
          given = result_by (is_void o.0) (is_plain o.0) (will_be_object e.structs.sizes o.0) (is_object_by e'.structs.sizes o.0) (λ w. object_stays e.structs e'.structs a.extends.structs o.0 (promise_kept e.structs.sizes r.complete o.0 w)) o.2;
          types = a.holds.0;
          spoken = (spoken_of t lexed callee hc (subst (λ q. is_token q parts ≡ false) (sym is) refl) (none_spoken t parts (and_left (none_of parts) _ l)), a.holds.1);
        };
      }
