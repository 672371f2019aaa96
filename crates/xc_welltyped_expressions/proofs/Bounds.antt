-- Bounds and declarators without faults.
use Rattle.std.proofs.Common.{◌≡◌, ℕ, List, [], ◌∷◌, ◌++◌, map, Bool, true, false, refl, sym, subst, cond}
use Rattle.std.specs.Prelude.{IsTrue, ◌||◌, is_some, Option, Some, None, option_and_then}
use Rattle.xc_text_place.specs.declared.Span.{Span}
use Rattle.xc_tree.specs.declared.ty.Ty.{Ty}
use Rattle.xc_tree.specs.Types.{is_void}
use Rattle.xc_tree.proofs.Lists.{and_left, and_right}
use Rattle.xc_raw.specs.declared.rule.Rule.TheVariants as rule
use Rattle.xc_raw.specs.declared.tree.Raw.{Raw, out-Raw}
use Rattle.xc_raw.specs.declared.word.Word.{Word}
use Rattle.xc_type_rule.specs.declared.found.Found.{Found}
use Rattle.xc_type_declarators.specs.declared.declarators.Bound.{Bound}
use Rattle.xc_type_declarators.specs.declared.declarators.Typing.{Typing}
use Rattle.xc_type_declarators.specs.Declarators.{pointer_typing, object_typing, bounds_faults, typing_faults}
use Rattle.xc_raw_parts.specs.Names.{declarator_name}
use Rattle.xc_type_constants.specs.Pieces.{Piece, constant_value, constant_faults}
use Rattle.xc_type_scopes.specs.declared.env.Env.{Env}
use Rattle.xc_type_scopes.specs.Judge.{Judge, give}
use Rattle.xc_type_expressions.specs.declared.text.Text.{Text}
use Rattle.xc_type_expressions.specs.declared.types.Declared.{Declared}
use Rattle.xc_type_expressions.specs.Places.{name_of}
use Rattle.xc_type_expressions.specs.Roles.{Role, value}
use Rattle.xc_type_expressions.specs.Types.{bound_of, bound_by, bounds, declared_by}
use Rattle.xc_type_expressions.specs.Judged.{judged, span_in, spot_in, declared_of}
use Rattle.xc_welltyped_claims.specs.Lists.{Each}
use Rattle.xc_welltyped_claims.specs.Types.{will_be_object, may_be_pointed_to}
use Rattle.xc_welltyped_claims.specs.Env.{Good, Stays}
use Rattle.xc_welltyped_claims.specs.Judges.{Clean, Given, Gives, Lasts}
use Rattle.xc_welltyped_claims.specs.Shaped.{rule_in, is_expr, is_named, begins_with_star, stars_in, all_of, level_ok, Spoken}
use Rattle.xc_welltyped_claims.specs.Roles.{IsBase, IsDeclared, IsConstant}
use Rattle.xc_welltyped_claims.proofs.Judges.{none_left, none_right, clean_first, clean_second}
use Rattle.xc_welltyped_structs.proofs.Promises.{pointed_grows, promise_grows}
use Rattle.xc_welltyped_structs.proofs.Typed.{object_typed}
use Rattle.xc_welltyped_expressions.proofs.Passing.{passing_bound}
use Rattle.xc_welltyped_expressions.proofs.Parts.{value_fine, gives_parts}
use Rattle.xc_welltyped_expressions.proofs.Expressions.{IsJudged, expr_part}
use Rattle.xc_welltyped_expressions.proofs.Constants.{value_clean}
use Rattle.xc_welltyped_expressions.proofs.Specified.{kept_if}
use Rattle.xc_welltyped_claims.specs.Table.{Grows}

-- a bound has a value
abbrev pub HasValue : Env → Bound → Type 0
HasValue e b = IsTrue (is_some b.value)

value_lasts : Lasts HasValue
value_lasts e e' b g s h = h

constant_some : (p : Piece) → IsTrue p.part.pure → IsTrue (is_some p.part.value) → IsTrue (is_some (constant_value p))
constant_some p pure h = by p.part.pure pure
  where
    by : (b : Bool) → IsTrue b → IsTrue (is_some (cond b p.part.value None))
    by true is = h
    by false is = absurd cc

-- what a type promises, it promises behind
module _ (e e' : Env) (s : Stays e e') where
  pub object_behind : (ty : Ty) → IsTrue (will_be_object e.structs.sizes ty) → IsTrue (will_be_object e'.structs.sizes ty)
  object_behind ty h = subst (λ ns. IsTrue (will_be_object ns ty)) (sym s.structs.sizes) (promise_grows e.structs.sizes s.structs.added ty h)

-- where structs grow, what specifiers give stays a type to which a pointer may lead
pub base_behind : (e e' : Env) → Grows e.structs e'.structs → (base : Option Ty) → IsBase e base → IsBase e' base
base_behind e e' s base h = record { ty = h.ty; known = h.known; fits = by (is_void h.ty) h.fits }
  where
    by : (b : Bool) → IsTrue (b || may_be_pointed_to e.structs.sizes h.ty) → IsTrue (b || may_be_pointed_to e'.structs.sizes h.ty)
    by true k = refl
    by false k = subst (λ ns. IsTrue (may_be_pointed_to ns h.ty)) (sym s.sizes) (pointed_grows e.structs.sizes s.added h.ty k)

module _ (t : Text) where
  -- a bound is a constant without a fault
  bound_fine : (n : Raw) → IsJudged t n → IsTrue (is_expr (rule_in n)) → Gives (λ e b. HasValue e b × Spoken t n) (bound_by (judged t n))
  unfolding bound_by
  bound_fine n h x e g c =
      let r : Role = judged t n in
      let j : Judge Found = value r in
      let k : Found → Judge Bound = λ v. give (bound_of r) (constant_faults r.constant) in
      let c0 = clean_first j k e c (λ v e h. h) in
      let a = value_fine t n r (expr_part t n x h).found e g c0 in
      let is : IsConstant r true = h.role.constant x e g (value_clean r e c0) true (clean_second j k e c).faultless in
      record { good = a.good; stays = a.stays; holds = (constant_some r.constant is.pure (is.value refl), a.holds.1) }

  each_bound : (ns : List Raw) → Each (IsJudged t) ns → IsTrue (all_of is_expr ns) → Each (λ n. Gives (λ e b. HasValue e b × Spoken t n) (bound_by (judged t n))) ns
  each_bound [] h x = tt
  each_bound (n ∷ ns) h x = (bound_fine n h.0 (and_left (is_expr (rule_in n)) _ x), each_bound ns h.1 (and_right (is_expr (rule_in n)) _ x))

  pub bounds_given : (ns : List Raw) → Each (IsJudged t) ns → IsTrue (all_of is_expr ns) → Gives (λ e bs. Each (HasValue e) bs × Each (Spoken t) ns) (bounds (map (judged t) ns))
  bounds_given ns h x = gives_parts t bound_by passing_bound HasValue value_lasts ns (each_bound ns h x)

  -- declarators -----------------------------------------------------------------------------

  module _ (node : Raw) where
    abbrev Behind : Env → Env → Declared → List Raw → Type 0
    Behind e e' d ns = Given e e' (IsDeclared e' d × Each (Spoken t) ns)

    abbrev stars : List Word
    stars = stars_in t (out-Raw node).first (out-Raw node).end

    declared_given : (span at : Span) (name : Option ℕ) → IsTrue (is_some name) → IsTrue (begins_with_star stars) → (ns : List Raw) → Each (IsJudged t) ns → IsTrue (all_of is_expr ns) →
        (base : Option Ty) (e : Env) → Good e → IsBase e base → Clean (declared_by span at name stars (map (judged t) ns) base) e →
        Behind e (declared_by span at name stars (map (judged t) ns) base e).env (declared_by span at name stars (map (judged t) ns) base e).part ns
    unfolding declared_by
    declared_given span at name named begins ns h x base e g b c =
        let j : Judge (List Bound) = bounds (map (judged t) ns) in
        let typing : Option Ty → List Bound → Env → Typing = λ ty bs e. object_typing e.structs.sizes (pointer_typing ty stars) bs in
        let k : List Bound → Judge Declared = λ bs e. let ty = typing base bs e in give (record { name = name; at = at; ty = ty.ty }) (bounds_faults bs ++ typing_faults span ty) e in
        let a = bounds_given ns h x e g (clean_first j k e c (λ bs e h. h)) in
        let none = (clean_second j k e c).faultless in
        let v : Env = (j e).env in
        let bs : List Bound = (j e).part in
        let u : IsBase v base = base_behind e v a.stays.structs base b in
        let sound : (typing base bs v).sound ≡ true = kept_if span (typing base bs v).sound (none_right (bounds_faults bs) _ none) in
        let o = object_typed v.structs.sizes u.ty u.fits stars begins bs a.holds.0 (none_left (bounds_faults bs) _ none) (subst (λ ty. (typing ty bs v).sound ≡ true) u.known sound) in
        record {
          good = a.good;
          stays = a.stays;
          holds = (record { ty = o.0; known = subst (λ ty. (typing ty bs v).ty ≡ Some o.0) (sym u.known) o.1; object = o.2; named = named }, a.holds.1);
        }

    pub declarator_given : (ns : List Raw) → IsTrue (level_ok t node rule.Declr ns) → Each (IsJudged t) ns → (base : Option Ty) (e : Env) → Good e → IsBase e base →
        Clean (declared_of t node (map (judged t) ns) base) e →
        Behind e (declared_of t node (map (judged t) ns) base e).env (declared_of t node (map (judged t) ns) base e).part ns
    unfolding declared_of level_ok
    declarator_given ns l h base e g b c =
        let y = and_right (all_of is_expr ns) _ l in
        declared_given (span_in t node) (spot_in t (declarator_name t.tokens.now node)) (option_and_then (name_of t) (declarator_name t.tokens.now node))
        (and_left (is_named t (declarator_name t.tokens.now node)) _ y) (and_right (is_named t (declarator_name t.tokens.now node)) _ y) ns h (and_left (all_of is_expr ns) _ l) base e g b c
