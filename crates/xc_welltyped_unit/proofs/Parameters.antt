-- A parameter without a fault is the next object of the function (C99 6.7.5.3).
use Rattle.std.proofs.Common.{◌≡◌, ℕ, List, [], ◌∷◌, ◌++◌, length, map, true, false, refl, sym, ap, ◌∙◌, subst}
use Rattle.std.specs.Prelude.{IsTrue, ◌||◌, is_some, Option, Some, None}
use Rattle.xc_text_place.specs.declared.Span.{Span}
use Rattle.xc_tree.specs.declared.ty.Ty.{Ty, Ptr, roll-Ty, out-roll-Ty}
use Rattle.xc_tree.specs.declared.ty.Ty.TheOpen.{Ty-F}
use Rattle.xc_tree.specs.Types.{is_void, base_at}
use Rattle.xc_tree.specs.Types as types
use Rattle.xc_tree.proofs.Lists.{and_left, and_right}
use Rattle.xc_raw.specs.declared.rule.Rule.{Rule}
use Rattle.xc_raw.specs.declared.rule.Rule.TheVariants as rule
use Rattle.xc_raw.specs.declared.tree.Raw.{Raw, out-Raw}
use Rattle.xc_raw.specs.declared.word.Word.{Word}
use Rattle.xc_type_declarators.specs.declared.declarators.Bound.{Bound}
use Rattle.xc_type_declarators.specs.declared.declarators.Typing.{Typing}
use Rattle.xc_type_declarators.specs.Declarators.{pointer_typing, array_parameter_typing, bound_faults, bounds_faults}
use Rattle.xc_raw_parts.specs.declared.places.Brackets.{Brackets}
use Rattle.xc_raw_parts.specs.declared.places.Brackets.TheVariants as brace
use Rattle.xc_raw_parts.specs.Spans.{declarator_span}
use Rattle.xc_raw_parts.specs.Places.{first_brackets}
use Rattle.xc_type_scopes.specs.declared.env.Env.{Env}
use Rattle.xc_type_scopes.specs.Judge.{Judge, and_then, mapped}
use Rattle.xc_type_expressions.specs.declared.text.Text.{Text}
use Rattle.xc_type_expressions.specs.declared.types.Declared.{Declared}
use Rattle.xc_type_expressions.specs.Types.{bounds}
use Rattle.xc_type_expressions.specs.Judged.{judged}
use Rattle.xc_type_unit.specs.Parameters.{parameter_typing, typed_by, described_by, unnamed, object_of, begun, parameter}
use Rattle.xc_welltyped_claims.specs.Lists.{Each}
use Rattle.xc_welltyped_claims.specs.Types.{is_object_by, will_be_object, may_be_pointed_to}
use Rattle.xc_welltyped_claims.specs.Env.{Ready, Covers}
use Rattle.xc_welltyped_claims.specs.Judges.{Gives, Made, Makes}
use Rattle.xc_welltyped_claims.specs.Shaped.{rule_in, is_expr, is_specs, is_param, all_of, is_token, level_ok, begins_with_star, stars_in, Shaped, IsLexed, Spoken}
use Rattle.xc_welltyped_claims.proofs.Env.{stays_then, stays_extends, extends_then}
use Rattle.xc_welltyped_claims.proofs.Judges.{none_left, none_right, clean_first, clean_second, made_of}
use Rattle.xc_welltyped_claims.proofs.Nodes.{level_shaped, parts_shaped}
use Rattle.xc_welltyped_claims.proofs.Strings.{spoken_of}
use Rattle.xc_welltyped_structs.proofs.Promises.{promise_kept}
use Rattle.xc_welltyped_structs.proofs.Typed.{scalar_typed, array_parameter_typed}
use Rattle.xc_welltyped_expressions.proofs.Passing.{all_passing, passing_bounds}
use Rattle.xc_welltyped_expressions.proofs.Specified.{kept_if}
use Rattle.xc_welltyped_expressions.proofs.Bounds.{base_behind}
use Rattle.xc_welltyped_statements.specs.Stmts.{IsObject}
use Rattle.xc_welltyped_statements.proofs.Objects.{unnamed_fine, object_fine}
use Rattle.xc_welltyped_statements.proofs.Simple.{covers_stays}
use Rattle.xc_welltyped_expressions.proofs.Roles.{role_fine, bounds_fine}
use Rattle.xc_welltyped_unit.proofs.Passing.{passing_next}

-- types -------------------------------------------------------------------------

abbrev pub HasValue : Bound → Type 0
HasValue b = IsTrue (is_some b.value)

-- a scalar that an object may have once all structs are complete
abbrev IsScalar : List ℕ → Option Ty → Type 0
IsScalar ns o = (ty : Ty) × (o ≡ Some ty) × IsTrue (will_be_object ns ty) × IsTrue (is_some (types.base ty))

pointer_scalar : (to : Ty) → IsTrue (is_some (types.base (Ptr to)))
unfolding roll-Ty denote.Hole.Carrier.roll
pointer_scalar to = ap (λ l. is_some (base_at (Ptr to) l)) (out-roll-Ty (Ty-F.Ptr to))

module _ (ns : List ℕ) (base : Ty) (h : IsTrue (is_void base || may_be_pointed_to ns base)) (ws : List Word) (stars : IsTrue (begins_with_star ws)) where
  array_typed : (bs : List Bound) → Each HasValue bs → bounds_faults bs ≡ [] → (array_parameter_typing ns (pointer_typing (Some base) ws) bs).sound ≡ true → IsScalar ns (array_parameter_typing ns (pointer_typing (Some base) ws) bs).ty
  array_typed bs each none w = let is = array_parameter_typed ns base h ws stars bs each none w in (Ptr is.0, is.1, is.2, pointer_scalar is.0)

  parameter_typed : (k : Brackets) (bs : List Bound) → Each HasValue bs → bounds_faults bs ≡ [] → (parameter_typing ns (pointer_typing (Some base) ws) k bs).sound ≡ true → IsScalar ns (parameter_typing ns (pointer_typing (Some base) ws) k bs).ty
  unfolding bounds_faults
  parameter_typed brace.Absent bs each none w = scalar_typed ns base h ws stars w
  parameter_typed brace.Empty bs each none w = array_typed bs each none w
  parameter_typed brace.Bound [] each none w = array_typed [] tt refl w
  parameter_typed brace.Bound (b ∷ bs) each none w = array_typed bs each.1 (none_right (bound_faults b) (bounds_faults bs) none) w

-- objects -----------------------------------------------------------------------

-- the next object of the function, with a name or without one
begun_fine : (d : Declared) (ty : Ty) → d.ty ≡ Some ty → (e : Env) → Ready e → IsTrue (is_object_by e.structs.sizes ty) → Made e (begun d e).env (IsObject d.at ty e (begun d e).env)
unfolding begun
begun_fine d ty known e r h = by d.name refl
  where
    by : (o : Option ℕ) → d.name ≡ o → Made e (object_of d o e).env (IsObject d.at ty e (object_of d o e).env)
    by None named = subst (λ x. Made e (unnamed d.at x e) (IsObject d.at ty e (unnamed d.at x e))) (sym known) (unnamed_fine d.at ty e r h)
    by (Some name) named = let m = object_fine d ty name known named e r h in record { ready = m.ready; extends = m.extends; file = m.file; holds = m.holds.0 }

-- parameters --------------------------------------------------------------------

-- what calls ask for is the type of the next object, a scalar
pub record IsParameter (t : Text) (node : Raw) (e e' : Env) (o : Option Ty) : Type 0 where
  pub at : Span
  pub ty : Ty
  pub known : o ≡ Some ty
  pub scalar : IsTrue (is_some (types.base ty))
  pub locals : e'.locals ≡ e.locals ++ (at, ty) ∷ []
  pub loops : e'.loops ≡ e.loops
  pub covers : (seen : List ℕ) → Covers seen e → Covers (length e.locals ∷ seen) e'
  pub spoken : Spoken t node

param_is : (r : Rule) → IsTrue (is_param r) → r ≡ rule.Param
param_is rule.Param h = refl
param_is _ h = absurd cc

module _ (t : Text) (lexed : IsLexed t) where
  abbrev IsDescribed : List Raw → Env → Declared → Type 0
  IsDescribed ps e d = IsScalar e.structs.sizes d.ty × Each (Spoken t) ps

  shaped_exprs : (bs : List Raw) → Each (Shaped t) bs → IsTrue (all_of is_expr bs) → Each (λ n. Shaped t n × IsTrue (is_expr (rule_in n))) bs
  shaped_exprs [] h x = tt
  shaped_exprs (b ∷ bs) h x = ((h.0, and_left (is_expr (rule_in b)) _ x), shaped_exprs bs h.1 (and_right (is_expr (rule_in b)) _ x))

  module _ (node : Raw) where
    described_fine : (specs : Raw) (bs : List Raw) → Each (Shaped t) (specs ∷ bs) → IsTrue (is_specs (rule_in specs)) → IsTrue (all_of is_expr bs) → IsTrue (begins_with_star (stars_in t (out-Raw specs).end (out-Raw node).end)) →
        Gives (IsDescribed (specs ∷ bs)) (described_by t node (specs ∷ bs))
    unfolding described_by
    described_fine specs bs h xs xb stars e g c =
        let j : Judge (Option Ty) = (judged t specs).specified false in
        let j' : Judge (List Bound) = bounds (map (judged t) bs) in
        let k' : Option Ty → List Bound → Judge Declared = λ base. typed_by t node base (out-Raw specs).end in
        let k : Option Ty → Judge Declared = λ base. and_then j' (k' base) in
        let a = (role_fine t lexed specs h.0).specified xs false e g (clean_first j k e c (λ x. passing_bounds (map (judged t) bs) (all_passing t bs))) in
        let e1 = (j e).env in
        let base = (j e).part in
        let d = clean_second j k e c in
        let b = bounds_fine t lexed bs (shaped_exprs bs h.1 xb) e1 a.good (clean_first j' (k' base) e1 d (λ x e h. h)) in
        let e2 = (j' e1).env in
        let vs = (j' e1).part in
        let u = base_behind e1 e2 b.stays.structs base a.holds.0 in
        let none = (clean_second j' (k' base) e1 d).faultless in
        let ws = stars_in t (out-Raw specs).end (out-Raw node).end in
        let typing : Option Ty → Typing = λ o. parameter_typing e2.structs.sizes (pointer_typing o ws) (first_brackets t.source.now t.tokens.now node) vs in
        let sound : (typing base).sound ≡ true = kept_if (declarator_span t.tokens.now node) (typing base).sound (none_right (bounds_faults vs) _ none) in
        let o = parameter_typed e2.structs.sizes u.ty u.fits ws stars (first_brackets t.source.now t.tokens.now node) vs b.holds.0 (none_left (bounds_faults vs) _ none) (subst (λ o. (typing o).sound ≡ true) u.known sound) in
        record {
          good = b.good;
          stays = stays_then e e1 e2 a.stays b.stays;
          holds = ((o.0, subst (λ x. (typing x).ty ≡ Some o.0) (sym u.known) o.1, o.2, o.3), (a.holds.1, b.holds.1));
        }

    object_made : (ps : List Raw) (spoken : Each (Spoken t) ps → Spoken t node) → Gives (IsDescribed ps) (described_by t node ps) →
        Makes (IsParameter t node) (and_then (described_by t node ps) (λ d. mapped (λ x. d.ty) (begun d)))
    object_made ps spoken f e r c =
        let j : Judge Declared = described_by t node ps in
        let k : Declared → Judge (Option Ty) = λ d. mapped (λ x. d.ty) (begun d) in
        let a = f e r.good (clean_first j k e c passing_next) in
        let e1 = (j e).env in
        let d = (j e).part in
        let ready = (made_of e e1 _ r a).ready in
        let ty = a.holds.0.0 in
        let b = begun_fine d ty a.holds.0.1 e1 ready (promise_kept e1.structs.sizes ready.complete ty a.holds.0.2) in
        let e2 = (begun d e1).env in
        let o = b.holds in
        record {
          ready = b.ready;
          extends = extends_then e e1 e2 (stays_extends e e1 a.stays) b.extends;
          file = b.file ∙ a.stays.file;
          holds = record {
            at = d.at;
            ty = ty;
            known = a.holds.0.1;
            scalar = a.holds.0.3;
            locals = o.locals ∙ ap (λ ls. ls ++ (d.at, ty) ∷ []) a.stays.locals;
            loops = o.loops ∙ a.stays.loops;
            covers = λ seen s. subst (λ ls. Covers (length ls ∷ seen) e2) a.stays.locals (o.covers seen (covers_stays seen e e1 a.stays s));
            spoken = spoken a.holds.1;
          };
        }

    param_fine : (ps : List Raw) → IsTrue (level_ok t node rule.Param ps) → Each (Shaped t) ps → (Each (Spoken t) ps → Spoken t node) →
        Makes (IsParameter t node) (and_then (described_by t node ps) (λ d. mapped (λ x. d.ty) (begun d)))
    unfolding level_ok
    param_fine [] l h spoken = absurd cc
    param_fine (specs ∷ bs) l h spoken =
        let m = and_right (is_specs (rule_in specs)) _ l in
        object_made (specs ∷ bs) spoken (described_fine specs bs h (and_left (is_specs (rule_in specs)) _ l) (and_left (all_of is_expr bs) _ m) (and_right (all_of is_expr bs) _ m))

    pub parameter_fine : Shaped t node → IsTrue (is_param (rule_in node)) → Makes (IsParameter t node) (parameter t node)
    unfolding parameter
    parameter_fine h x = let is = param_is (rule_in node) x in
        param_fine (out-Raw node).parts (subst (λ q. IsTrue (level_ok t node q (out-Raw node).parts)) is (level_shaped t node h)) (parts_shaped t node h)
        (λ s. spoken_of t lexed node h (subst (λ q. is_token q (out-Raw node).parts ≡ false) (sym is) refl) s)
