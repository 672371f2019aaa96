-- The head of a function without a fault (C99 6.9.1).
use Rattle.std.proofs.Common.{◌≡◌, ℕ, List, [], ◌∷◌, length, map, Bool, true, false, refl, sym, ap, ◌∙◌, subst}
use Rattle.std.specs.Prelude.{⊤, IsTrue, ◌&&◌, ◌||◌, ◌==◌, not, is_some, Option, Some}
use Rattle.std.proofs.lemmas.Bool.{eqb-true, eq-eqb}
use Rattle.xc_text_place.specs.declared.Span.{Span}
use Rattle.xc_tree.specs.declared.ty.Ty.{Ty, Int}
use Rattle.xc_tree.specs.declared.tree.Func.{Func}
use Rattle.xc_tree.specs.Lists.{every, passes, allows}
use Rattle.xc_tree.specs.Types.{is_void, is_plain}
use Rattle.xc_tree.specs.Types as types
use Rattle.xc_tree.proofs.Lists.{and_left, and_right, and_both}
use Rattle.xc_type_lowering.proofs.Types.{same_is}
use Rattle.xc_raw.specs.declared.tree.Raw.{Raw}
use Rattle.xc_type_rule.specs.declared.found.Thing.{Thing}
use Rattle.xc_type_names.specs.Scoped.{found_in, declared_in}
use Rattle.xc_type_scopes.specs.declared.env.Env.{Env}
use Rattle.xc_type_scopes.specs.Env as env
use Rattle.xc_type_scopes.specs.Judge.{Judge, and_then}
use Rattle.xc_type_expressions.specs.declared.text.Text.{Text}
use Rattle.xc_type_expressions.specs.Places.{is_reserved}
use Rattle.xc_type_expressions.specs.Types.{name_fault_unless}
use Rattle.xc_type_unit.specs.declared.heads.Head.{Head}
use Rattle.xc_type_unit.specs.declared.scope.FileScope.{FileScope}
use Rattle.xc_type_unit.specs.Functions.{Bodies, is_int, main_of, is_main, may_be_main, may_be_declared, may_stand_beside, headed, named_function, defined_as, inner}
use Rattle.xc_welltyped_claims.specs.Lists.{Each}
use Rattle.xc_welltyped_claims.specs.Types.{is_object_by}
use Rattle.xc_welltyped_claims.specs.Things.{FileThing}
use Rattle.xc_welltyped_claims.specs.Env.{Ready}
use Rattle.xc_welltyped_claims.specs.Judges.{Clean, Made}
use Rattle.xc_welltyped_claims.specs.Roles.{IsBase}
use Rattle.xc_welltyped_claims.specs.Shaped.{rule_in, is_callee, is_params, Shaped, IsLexed, Spoken}
use Rattle.xc_welltyped_claims.proofs.Things.{length_declared}
use Rattle.xc_welltyped_claims.proofs.Judges.{none_left, none_right, passing_then, clean_first, clean_second, clean_framed}
use Rattle.xc_welltyped_expressions.proofs.Specified.{kept_if}
use Rattle.xc_welltyped_unit.specs.Files.{FileFine}
use Rattle.xc_welltyped_unit.specs.Functions.{is_for, IsHead}
use Rattle.xc_welltyped_unit.proofs.Passing.{passing_named_function, passing_defined}
use Rattle.xc_welltyped_unit.proofs.Names.{found_same}
use Rattle.xc_welltyped_unit.proofs.Going.{no_element}
use Rattle.xc_welltyped_unit.proofs.Added.{good_named}
use Rattle.xc_welltyped_unit.proofs.Listed.{known_ty}
use Rattle.xc_welltyped_unit.proofs.Headed.{IsHeaded, headed_fine}
use Rattle.xc_welltyped_unit.proofs.Again.{IsKnown, stays_for, others_for}
use Rattle.xc_welltyped_expressions.proofs.Members.{unless_told}

-- names -----------------------------------------------------------------------------

-- the types of objects are known, and pass what they pass
types_known : (ls : List (Span × Ty)) → Each IsKnown (map known_ty ls)
types_known [] = tt
types_known (l ∷ ls) = (refl, types_known ls)

types_pass : (p : Ty → Bool) (ls : List (Span × Ty)) → Each (λ (l : Span × Ty). IsTrue (p l.1)) ls → IsTrue (every (map (passes p) (map known_ty ls)))
types_pass p [] h = refl
types_pass p (l ∷ ls) h = and_both (p l.1) _ h.0 (types_pass p ls h.1)

-- a result is void or an object's type
result_object : (a b c : Bool) → IsTrue (a || (b && c)) → IsTrue (a || c)
result_object true b c h = refl
result_object false true c h = h
result_object false false c h = absurd cc

where_true : (a b : Bool) → a ≡ true → IsTrue (not a || b) → IsTrue b
where_true true b e h = h
where_true false b e h = absurd cc

-- `main` has no parameters and the result `int`
is_main_head : (t : Text) (h : Head) (name : ℕ) (ret : Ty) → h.ret ≡ Some ret → IsTrue (not (is_main t name) || may_be_main h) → main_of t ≡ Some name → (h.params ≡ []) × (h.ret ≡ Some Int)
is_main_head t h name ret gives told e =
    let m : IsTrue (may_be_main h) = where_true (is_main t name) (may_be_main h) (subst (λ o. passes (λ m. m == name) o ≡ true) (sym e) (eq-eqb name name refl)) told in
    let int : IsTrue (is_int ret) = subst (λ o. IsTrue (allows is_int o)) gives (and_left (allows is_int h.ret) _ m) in
    (no_element h.params (eqb-true (length h.params) 0 (and_right (allows is_int h.ret) _ m)), gives ∙ ap Some (same_is ret Int int))

-- where the head of a function begins
abbrev pub begins : FileScope → Env
begins s = env.in_function s.env

-- the head, and what stands before the body
module _ (t : Text) (b : Bodies) (s : FileScope) (base : Option Ty) (callee params : Raw) where
  abbrev pub head : Head
  head = (headed t base callee params (begins s)).part

  abbrev pub head_env : Env
  head_env = (headed t base callee params (begins s)).env

  abbrev pub body_env : Env
  body_env = (named_function t b head head.name head_env).env

  -- the body alone makes the function
  pub inner_env : (n : ℕ) (rest : List Raw) → (inner t b n base callee params rest s.env).env ≡ env.after_function (defined_as t b n head rest body_env).env
  unfolding inner
  inner_env n rest = refl

  pub inner_part : (n : ℕ) (rest : List Raw) → (inner t b n base callee params rest s.env).part ≡ (defined_as t b n head rest body_env).part
  unfolding inner
  inner_part n rest = refl

module _ (t : Text) (b : Bodies) (s : FileScope) (f : FileFine t b s) where
  -- the parameters are the first objects of the function
  begins_ready : Ready (begins s)
  begins_ready = let g = f.stands.good in record {
    good = record {
      table = g.table;
      layout = g.layout;
      file = g.file;
      own = (tt, tt);
      file_tags = g.file_tags;
      own_tags = (tt, tt);
      locals = tt;
      marks = record { many = refl; marked = λ n l e h. absurd cc };
    };
    complete = f.stands.complete;
    within = refl;
  }

  module _ (callee params : Raw) (e : Env) (h : Head) (m : Made (begins s) e (IsHeaded t callee params (begins s) e h)) where
    -- what the name stands for
    abbrev it : Thing
    it = is_for b h m.holds.name

    locals_are : e.locals ≡ m.holds.types.more
    locals_are = m.holds.types.locals

    params_are : h.params ≡ map known_ty e.locals
    params_are = m.holds.types.known ∙ ap (map known_ty) (sym locals_are)

    it_ok : FileThing e.structs.sizes it
    it_ok = and_both (every (map (passes (is_object_by e.structs.sizes)) h.params)) _
        (subst (λ ps. IsTrue (every (map (passes (is_object_by e.structs.sizes)) ps))) (sym params_are) (types_pass (is_object_by e.structs.sizes) e.locals m.ready.good.locals))
        (subst (λ r. IsTrue (passes (λ ty. is_void ty || is_object_by e.structs.sizes ty) r)) (sym m.holds.gives) (result_object (is_void m.holds.ret) (is_plain m.holds.ret) _ m.holds.given))

    name_known : Each IsKnown h.params
    name_known = subst (Each IsKnown) (sym params_are) (types_known e.locals)

    ret_known : IsKnown h.ret
    ret_known = subst IsKnown (sym m.holds.gives) refl

    -- the name may stand for it
    named_head : Clean (named_function t b h (Some m.holds.name)) e → IsHead t b s (named_function t b h (Some m.holds.name) e).env h
    unfolding named_function
    named_head c =
        let file : e.file ≡ s.env.file = m.file in
        let declared = unless_told (may_be_declared h m.holds.name e) h.at (none_left (name_fault_unless (may_be_declared h m.holds.name e) h.at) _ c.faultless) in
        let beside = subst (λ l. IsTrue (may_stand_beside h (found_in m.holds.name l))) file (and_right (not (is_reserved m.holds.name)) _ declared) in
        let sizes = s.env.structs.sizes in
        let g = f.stands in
        record {
          ready = record { good = good_named m.holds.name it e m.ready.good it_ok; complete = m.ready.complete; within = m.ready.within };
          one = length_declared m.holds.name it e.file ∙ ap length file ∙ g.one;
          structs = m.extends.structs;
          loops = m.holds.types.loops;
          name = m.holds.name;
          named = m.holds.named;
          stays = λ y x k. subst (λ l. found_in y (declared_in m.holds.name it l) ≡ Some x) (sym file) (stays_for sizes s.env.file g.one g.good.file b f.numbers h m.holds.name name_known ret_known beside y x k);
          stands = found_same m.holds.name it e.file (ap length file ∙ g.one);
          others = λ y x k. others_for sizes s.env.file g.one g.good.file b f.numbers h m.holds.name name_known ret_known beside y x (subst (λ l. found_in y (declared_in m.holds.name it l) ≡ Some x) file k);
          main = is_main_head t h m.holds.name m.holds.ret m.holds.gives (kept_if h.span _ (none_right (name_fault_unless (may_be_declared h m.holds.name e) h.at) _ c.faultless));
          ret = m.holds.ret;
          gives = m.holds.gives;
          given = m.holds.given;
          params = params_are;
          scalars = subst (Each (λ (l : Span × Ty). IsTrue (is_some (types.base l.1)))) (sym locals_are) m.holds.types.scalars;
          covers = m.holds.types.covers (tt, tt);
        }

    head_named : Clean (named_function t b h h.name) e → IsHead t b s (named_function t b h h.name e).env h
    head_named c = subst (λ n. IsHead t b s (named_function t b h n e).env h) (sym m.holds.named) (named_head (subst (λ n. Clean (named_function t b h n) e) m.holds.named c))

  module _ (lexed : IsLexed t) (base : Option Ty) (is_base : IsBase s.env base) (callee params : Raw) (hc : Shaped t callee) (xc : IsTrue (is_callee (rule_in callee))) (hp : Shaped t params) (xp : IsTrue (is_params (rule_in params))) where
    abbrev h : Head
    h = head t b s base callee params

    abbrev e : Env
    e = head_env t b s base callee params

    abbrev e' : Env
    e' = body_env t b s base callee params

    pub head_fine : Clean (headed t base callee params) (begins s) → Clean (named_function t b h h.name) e → IsHead t b s e' h × (Spoken t callee × Spoken t params)
    head_fine c d =
        let m = headed_fine t lexed base callee params hc xc hp xp (begins s) begins_ready (record { ty = is_base.ty; known = is_base.known; fits = is_base.fits }) c in
        (head_named callee params e h m d, m.holds.spoken)

    -- what stands behind the head has no fault either
    pub inner_head : (n : ℕ) (rest : List Raw) → Clean (inner t b n base callee params rest) s.env → IsHead t b s e' h × (Spoken t callee × Spoken t params) × Clean (defined_as t b n h rest) e'
    unfolding inner
    inner_head n rest c =
        let j : Judge Head = headed t base callee params in
        let k' : Head → ⊤ → Judge (Option (List Func)) = λ h x. defined_as t b n h rest in
        let k : Head → Judge (Option (List Func)) = λ h. and_then (named_function t b h h.name) (k' h) in
        let c' = clean_framed env.in_function env.after_function (and_then j k) s.env (λ e. refl) c in
        let named = clean_second j k (begins s) c' in
        let first = clean_first j k (begins s) c' (λ h. passing_then (named_function t b h h.name) (k' h) (passing_named_function t b h h.name) (λ x. passing_defined t b n h rest)) in
        let second = clean_first (named_function t b h h.name) (k' h) e named (λ x. passing_defined t b n h rest) in
        let a = head_fine first second in
        (a.0, a.1, clean_second (named_function t b h h.name) (k' h) e named)
