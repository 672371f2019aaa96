-- Nodes by how many parts they have.
use Rattle.std.proofs.Common.{◌≡◌, ℕ, ◌≤◌, ◌^◌, List, [], ◌∷◌, length, map, refl, sym, ap, subst, ◌∙◌, arith}
use Rattle.std.specs.Prelude.{Bool, false, ⊤, nat_lt, not, Option, Some, option_and_then, option_map, unwrap_or, slice_get, Result, IfOk}
use Rattle.xc_text_place.specs.declared.Span.{Span}
use Rattle.xc_tree.specs.declared.ty.Ty.{Ty}
use Rattle.xc_raw.specs.declared.rule.Rule.{Rule}
use Rattle.xc_raw.specs.declared.tree.Raw.{Raw, out-Raw}
use Rattle.xc_raw_parts.specs.Words.{star_words}
use Rattle.xc_type_rule.specs.declared.fault.Fault.{Fault}
use Rattle.xc_type_rule.specs.declared.found.Found.{Found}
use Rattle.xc_type_rule.specs.Least.{least_from}
use Rattle.xc_type_rule.specs.Making.{unknown_place}
use Rattle.xc_type_rule.proofs.Least.{least_append, least_none}
use Rattle.xc_type_structs.specs.declared.structs.Layout.{Layout}
use Rattle.xc_raw_parts.specs.Names.{struct_name}
use Rattle.xc_type_scopes.specs.declared.env.Env.{Env}
use Rattle.xc_type_scopes.specs.Env as env
use Rattle.xc_type_scopes.specs.Judge.{Judged, Judge, Judges, give, and_then}
use Rattle.xc_type_scopes.specs.Told.{anywhere}
use Rattle.xc_type_scopes.specs.InnerTold.{Tells}
use Rattle.xc_type_scopes.proofs.Chains.{ok_then, ok_anywhere}
use Rattle.xc_type_expressions.specs.declared.text.Text.{Text}
use Rattle.xc_type_expressions.specs.declared.types.Tagged.{Tagged}
use Rattle.xc_type_expressions.specs.Roles.{Role, value}
use Rattle.xc_type_expressions.specs.Places.{name_of}
use Rattle.xc_type_expressions.specs.Operations.{has_any, cast_to}
use Rattle.xc_type_expressions.specs.Types.{name_fault_unless, the_next, struct_begun, struct_with, struct_by, members}
use Rattle.xc_type_expressions.specs.Judged.{span_in, spot_in, has_stars, takes_value, with_two, with_three, operand, by_parts, casted, judged}
use Rattle.xc_type_expressions.proofs.Roles.{span_is, struct_is}

module _ (t : Text) (node : Raw) where
  abbrev roles : List Role
  roles = map (judged t) (out-Raw node).parts

  -- casts ------------------------------------------------------------------

  module _ (specs a : Raw) (is : (out-Raw node).parts ≡ specs ∷ a ∷ []) where
    stars_are : has_stars t node ≡ has_any (star_words t.source.now t.tokens.now (out-Raw specs).end (out-Raw node).end)
    stars_are = ap (λ ps. has_any (star_words t.source.now t.tokens.now (unwrap_or (option_map (λ p. (out-Raw p).end) (slice_get ps 0)) 0) (out-Raw node).end)) is

    abbrev behind_type : Option Ty → Judge Found
    behind_type ty = and_then (value (judged t a)) (λ v. anywhere (cast_to (span_in t node) (has_stars t node) ty v))

    cast_opens : casted t node roles ≡ and_then ((judged t specs).specified false) behind_type
    unfolding casted
    cast_opens = ap (λ ps. casted t node (map (judged t) ps)) is

    pub cast_judged : {E : Type 0} (e e' e'' : Env) (f f' f'' g : Option Fault) (stars : Bool) (ty : Option Ty) (v : Found) (r : Result Found E) →
        stars ≡ has_any (star_words t.source.now t.tokens.now (out-Raw specs).end (out-Raw node).end) →
        Judges ((judged t specs).specified false) e e' f f' ty → Judges (value (judged t a)) e' e'' f' f'' v →
        IfOk r (λ x. Tells (cast_to (span_in t node) stars ty v) f'' g x) → IfOk r (λ x. Judges (casted t node roles) e e'' f g x)
    cast_judged e e' e'' f f' f'' g stars ty v r st h i l =
        let told : IfOk r (λ x. Tells (cast_to (span_in t node) (has_stars t node) ty v) f'' g x) =
        subst (λ s. IfOk r (λ x. Tells (cast_to (span_in t node) s ty v) f'' g x)) (st ∙ sym stars_are) l in
        subst (λ (j : Judge Found). IfOk r (λ x. Judges j e e'' f g x)) (sym cast_opens)
        (ok_then ((judged t specs).specified false) behind_type e e' e'' f f' g ty r h
        (ok_then (value (judged t a)) (λ w. anywhere (cast_to (span_in t node) (has_stars t node) ty w)) e' e'' e'' f' f'' g v r i
        (ok_anywhere (cast_to (span_in t node) (has_stars t node) ty v) e'' f'' g r told)))

  -- two parts, three, and more ----------------------------------------------

  abbrev rule_in : Rule
  rule_in = (out-Raw node).rule

  module _ (a b : Raw) (is : (out-Raw node).parts ≡ a ∷ b ∷ []) where
    abbrev behind_one : Found → Judge Found
    behind_one x = and_then (value (judged t b)) (with_two t node rule_in (judged t a).span x)

    two_open : by_parts t node rule_in roles ≡ and_then (operand (takes_value t node rule_in) (judged t a)) behind_one
    unfolding by_parts
    two_open = ap (λ ps. by_parts t node rule_in (map (judged t) ps)) is

    pub two_judged : {E : Type 0} (e e' e'' g : Env) (f f' f'' h : Option Fault) (as_value : Bool) (at : Span) (x y : Found) (r : Result Found E) →
        as_value ≡ takes_value t node rule_in → at ≡ span_in t a →
        Judges (operand as_value (judged t a)) e e' f f' x → Judges (value (judged t b)) e' e'' f' f'' y →
        IfOk r (λ z. Judges (with_two t node rule_in at x y) e'' g f'' h z) → IfOk r (λ z. Judges (by_parts t node rule_in roles) e g f h z)
    two_judged e e' e'' g f f' f'' h as_value at x y r taken here i j l =
        let one : Judges (operand (takes_value t node rule_in) (judged t a)) e e' f f' x =
        subst (λ v. Judges (operand v (judged t a)) e e' f f' x) taken i in
        let both : IfOk r (λ z. Judges (with_two t node rule_in (judged t a).span x y) e'' g f'' h z) =
        subst (λ s. IfOk r (λ z. Judges (with_two t node rule_in s x y) e'' g f'' h z)) (here ∙ sym (span_is t a)) l in
        subst (λ (k : Judge Found). IfOk r (λ z. Judges k e g f h z)) (sym two_open)
        (ok_then (operand (takes_value t node rule_in) (judged t a)) behind_one e e' g f f' h x r one
        (ok_then (value (judged t b)) (with_two t node rule_in (judged t a).span x) e' e'' g f' f'' h y r j both))

  module _ (a b d : Raw) (is : (out-Raw node).parts ≡ a ∷ b ∷ d ∷ []) where
    abbrev behind_two : Found → Found → Judge Found
    behind_two x y = and_then (value (judged t d)) (λ z. anywhere (with_three t node rule_in x y z))

    abbrev behind_first : Found → Judge Found
    behind_first x = and_then (value (judged t b)) (behind_two x)

    three_open : by_parts t node rule_in roles ≡ and_then (value (judged t a)) behind_first
    unfolding by_parts
    three_open = ap (λ ps. by_parts t node rule_in (map (judged t) ps)) is

    pub three_judged : {E : Type 0} (e e' e'' g : Env) (f f' f'' h m : Option Fault) (x y z : Found) (r : Result Found E) →
        Judges (value (judged t a)) e e' f f' x → Judges (value (judged t b)) e' e'' f' f'' y → Judges (value (judged t d)) e'' g f'' h z →
        IfOk r (λ w. Tells (with_three t node rule_in x y z) h m w) → IfOk r (λ w. Judges (by_parts t node rule_in roles) e g f m w)
    three_judged e e' e'' g f f' f'' h m x y z r i j k l =
        subst (λ (n : Judge Found). IfOk r (λ w. Judges n e g f m w)) (sym three_open)
        (ok_then (value (judged t a)) behind_first e e' g f f' m x r i
        (ok_then (value (judged t b)) (behind_two x) e' e'' g f' f'' m y r j
        (ok_then (value (judged t d)) (λ w. anywhere (with_three t node rule_in x y w)) e'' g g f'' h m z r k
        (ok_anywhere (with_three t node rule_in x y z) g h m r l))))

  many_open : (ps : List Raw) → 4 ≤ length ps → by_parts t node rule_in (map (judged t) ps) ≡ give unknown_place []
  unfolding by_parts
  many_open [] le = absurd (omega arith)
  many_open (a ∷ []) le = absurd (omega arith)
  many_open (a ∷ b ∷ []) le = absurd (omega arith)
  many_open (a ∷ b ∷ d ∷ []) le = absurd (omega arith)
  many_open (a ∷ b ∷ d ∷ g ∷ ps) le = refl

  pub many_judged : 4 ≤ length (out-Raw node).parts → (e : Env) (f : Option Fault) (x : Found) → x ≡ unknown_place → Judges (by_parts t node rule_in roles) e e f f x
  many_judged le e f x is =
      subst (λ (j : Judge Found). Judges j e e f f x) (sym (many_open (out-Raw node).parts le)) (is, refl, sym (least_none f))

  -- structs with braces --------------------------------------------------------

  abbrev at : Span
  at = spot_in t (struct_name t.tokens.now node)

  braces_open : (name : ℕ) (ps : List Raw) → 1 ≤ length ps → struct_by at (Some name) (map (judged t) ps) ≡ struct_with at name (map (judged t) ps)
  unfolding struct_by
  braces_open name [] le = absurd (omega arith)
  braces_open name (p ∷ ps) le = refl

  pub struct_judged : (name : ℕ) → option_and_then (name_of t) (struct_name t.tokens.now node) ≡ Some name → 1 ≤ length (out-Raw node).parts →
      (is_new : Bool) (e e' e'' g : Env) (f f' f'' : Option Fault) (number : ℕ) (before : Layout) (large : Bool) →
      is_new ≡ env.is_new_tag name e → f' ≡ least_from f (name_fault_unless is_new at) →
      number ≡ the_next e → before ≡ e.layout → e' ≡ struct_begun name e →
      Judges (members roles) e' e'' f' f'' tt → large ≡ nat_lt (2 ^ 22) e''.layout.size → g ≡ env.after_struct number before e'' →
      Judges ((judged t node).struct) e g f f'' (record { number = number; fits = not large })
  struct_judged name named le is_new e e' e'' g f f' f'' number before large new first next lay begun inner wide ends =
      let opens : (judged t node).struct ≡ struct_with at name roles =
      struct_is t node ∙ ap (λ o. struct_by at o roles) named ∙ braces_open name (out-Raw node).parts le in
      let within : Judged ⊤ = members roles (struct_begun name e) in
      let behind : e'' ≡ within.env = inner.1 ∙ ap (λ a. (members roles a).env) begun in
      let told : (members roles e').faults ≡ within.faults = ap (λ a. (members roles a).faults) begun in
      subst (λ (j : Judge Tagged). Judges j e g f f'' (record { number = number; fits = not large })) (sym opens) (
        ap (λ n. record { number = n; fits = not large }) next ∙ ap (λ b. record { number = the_next e; fits = not b }) (wide ∙ ap (λ (a : Env). nat_lt (2 ^ 22) a.layout.size) behind),
        ends ∙ ap (λ n. env.after_struct n before e'') next ∙ ap (λ l. env.after_struct (the_next e) l e'') lay ∙ ap (env.after_struct (the_next e) e.layout) behind,
        inner.2 ∙ ap (λ a. least_from a (members roles e').faults) (first ∙ ap (λ b. least_from f (name_fault_unless b at)) new)
            ∙ ap (λ fs. least_from (least_from f (name_fault_unless (env.is_new_tag name e) at)) fs) told
            ∙ sym (least_append f (name_fault_unless (env.is_new_tag name e) at) within.faults),
      )
