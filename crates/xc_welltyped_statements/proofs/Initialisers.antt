-- What initialisers without faults give an object.
use Rattle.std.proofs.Common.{◌≡◌, ℕ, ◌+◌, ◌^◌, ◌≤◌, List, [], ◌∷◌, map, Bool, true, false, refl, sym, ap, ◌∙◌, subst, arith, cond}
use Rattle.std.specs.Prelude.{IsTrue, ◌||◌, Option, Some, None}
use Rattle.xc_tree.specs.declared.ty.Ty.{Ty, out-Ty}
use Rattle.xc_tree.specs.declared.expr.Expr.{Expr}
use Rattle.xc_raw.specs.declared.rule.Rule.{Rule}
use Rattle.xc_raw.specs.declared.rule.Rule.TheVariants as rule
use Rattle.xc_raw.specs.declared.tree.Raw.{Raw, out-Raw}
use Rattle.xc_type_rule.specs.declared.found.Found.{Found}
use Rattle.xc_type_rule.specs.Cells.{cells}
use Rattle.xc_type_rule.specs.Nulls.{given}
use Rattle.xc_type_rule.specs.Least.{fault_unless}
use Rattle.xc_type_initialiser_objects.specs.declared.target.Target.{Target}
use Rattle.xc_type_initialiser_objects.specs.declared.inits.Inits.{Inits}
use Rattle.xc_type_initialiser_objects.specs.Parts.{target, may_be_braced, is_braced_at}
use Rattle.xc_type_initialiser_objects.specs.Inits.{one_init, if_whole, value_made, value_faults}
use Rattle.xc_type_scopes.specs.declared.env.Env.{Env}
use Rattle.xc_type_scopes.specs.Judge.{Judge, give, and_then}
use Rattle.xc_type_expressions.specs.declared.text.Text.{Text}
use Rattle.xc_type_expressions.specs.Roles.{value}
use Rattle.xc_type_expressions.specs.Judged.{judged, span_in}
use Rattle.xc_type_initialisers.specs.Forms.{form_in}
use Rattle.xc_type_initialisers.specs.Lasting.{held, lasting_made, lasting_faults}
use Rattle.xc_type_initialisers.specs.Initialisers.{placed, fitted, valued, in_turn, braced, given_by, initialiser, whole_object, local_inits}
use Rattle.xc_welltyped.proofs.Whole.{kept}
use Rattle.xc_welltyped_locals.specs.Used.{IsUsed}
use Rattle.xc_welltyped_claims.specs.Lists.{Each}
use Rattle.xc_welltyped_claims.specs.Types.{is_object_by}
use Rattle.xc_welltyped_claims.specs.Env.{Good, AreComplete}
use Rattle.xc_welltyped_claims.specs.Judges.{Clean, Given, Gives}
use Rattle.xc_welltyped_claims.specs.Found.{Fine}
use Rattle.xc_welltyped_claims.specs.Shaped.{rule_in, is_expr, is_init, is_braces, is_token, all_of, level_ok, Shaped, IsLexed, Spoken}
use Rattle.xc_welltyped_claims.proofs.Env.{stays_self}
use Rattle.xc_welltyped_claims.proofs.Judges.{none_left, none_right, passing_give, clean_first, clean_second}
use Rattle.xc_welltyped_claims.proofs.Nodes.{by_parts, parts_shaped, level_shaped}
use Rattle.xc_welltyped_claims.proofs.Strings.{spoken_of}
use Rattle.xc_welltyped_statements.specs.Inits.{GivesAll, InitialiserFine, LocalInits}
use Rattle.xc_welltyped_statements.proofs.Passing.{initialiser_is}
use Rattle.xc_welltyped_statements.proofs.Sized.{cells_most, object_stays}
use Rattle.xc_welltyped_statements.proofs.Fitted.{ObjectTold, IsFitted, fitted_fine}
use Rattle.xc_welltyped_statements.proofs.One.{one_given}
use Rattle.xc_welltyped_statements.proofs.Declarations.{PromiseKept}
use Rattle.xc_welltyped_statements.proofs.Parts.{CellsTold, StructsTold}
use Rattle.xc_welltyped_statements.proofs.Turns.{turn_fine}

-- an expression that is what is asked of it at file scope gives a scalar its word
abbrev pub LastingFine : Text → Type 0
LastingFine t = (node : Raw) → Shaped t node → IsTrue (is_expr (rule_in node)) → (e0 : Env) → Good e0 → Clean (judged t node).found e0 → (e : Env) (ty : Ty) → IsTrue (is_object_by e.structs.sizes ty) →
    (o : Option Expr) → IsFitted t e ty o → (off : ℕ) → lasting_faults (held (Some ty)) (span_in t node) (form_in t node) (judged t node).constant o ≡ [] →
    GivesAll t e ty off true (one_init off (lasting_made (held (Some ty)) (judged t node).constant o))

module _ (t : Text) (lexed : IsLexed t)
    (valued_fine : (node : Raw) → Shaped t node → IsTrue (is_expr (rule_in node)) → Gives (λ e f. Fine t e f × Spoken t node) (value (judged t node)))
    (object_told : ObjectTold t) (cells_told : CellsTold t) (structs_told : StructsTold t) (promise_kept : PromiseKept)
    (given_used : (flags : List Bool) (count : ℕ) (to : Ty) (f : Found) → IsUsed flags count f → IsUsed flags count (given to f))
    (lasting : LastingFine t) where
  -- an expression --------------------------------------------------------------

  module _ (node : Raw) (shaped : Shaped t node) (expr : IsTrue (is_expr (rule_in node))) (to : Target) (ty : Ty) (typed : to.ty ≡ Some ty)
      (e : Env) (good : Good e) (object : IsTrue (is_object_by e.structs.sizes ty)) where
    abbrev j : Judge Found
    j = value (judged t node)

    abbrev GivesOne : Bool → Inits → Type 0
    GivesOne outermost is = Given e (j e).env (GivesAll t (j e).env ty to.off outermost is × Spoken t node)

    found_clean : Clean j e → Clean (judged t node).found e
    unfolding value
    found_clean c = record { faultless = none_left ((judged t node).found e).faults _ c.faultless; within = c.within }

    fitted_at : (g : Given e (j e).env (Fine t (j e).env (j e).part × Spoken t node)) → value_faults (span_in t node) to.ty (j e).part ≡ [] → IsFitted t (j e).env ty (value_made (Some ty) (j e).part)
    fitted_at g none = fitted_fine t object_told given_used (span_in t node) (j e).env g.good ty (object_stays e.structs (j e).env.structs g.stays.structs ty object) (j e).part g.holds.0
        (subst (λ o. value_faults (span_in t node) o (j e).part ≡ []) typed none)

    local_valued : Clean (valued t node false to) e → GivesOne false (one_init to.off (value_made to.ty (j e).part))
    unfolding valued placed fitted
    local_valued c =
        let f : Found → Judge Inits = λ v. and_then (fitted t node to.ty v) (λ m. and_then (placed t node false to.ty m) (λ x. give (one_init to.off x) [])) in
        let g = valued_fine node shaped expr e good (clean_first j f e c (λ v b h. h)) in
        let d = clean_second j f e c in
        let fit = fitted_at g (none_left (value_faults (span_in t node) to.ty (j e).part) _ d.faultless) in
        let b = (j e).env in
        record {
          good = g.good;
          stays = g.stays;
          holds = (
            subst (λ o. GivesAll t b ty to.off false (one_init to.off (value_made o (j e).part))) (sym typed)
                (subst (λ m. GivesAll t b ty to.off false (one_init to.off m)) (sym fit.known)
                (one_given t b ty fit.plain fit.own (object_stays e.structs b.structs g.stays.structs ty object) fit.base fit.fits fit.made fit.value to.off false (λ no. absurd cc) (λ no. absurd cc))),
            g.holds.1,
          );
        }

    global_valued : Clean (valued t node true to) e → GivesOne true (one_init to.off (lasting_made (held to.ty) (judged t node).constant (value_made to.ty (j e).part)))
    unfolding valued placed fitted
    global_valued c =
        let f : Found → Judge Inits = λ v. and_then (fitted t node to.ty v) (λ m. and_then (placed t node true to.ty m) (λ x. give (one_init to.off x) [])) in
        let g = valued_fine node shaped expr e good (clean_first j f e c (λ v b h. h)) in
        let d = clean_second j f e c in
        let b = (j e).env in
        let faults = value_faults (span_in t node) to.ty (j e).part in
        let fit = fitted_at g (none_left faults _ d.faultless) in
        let rest = none_left (lasting_faults (held to.ty) (span_in t node) (form_in t node) (judged t node).constant (value_made to.ty (j e).part)) _ (none_right faults _ d.faultless) in
        record {
          good = g.good;
          stays = g.stays;
          holds = (
            subst (λ o. GivesAll t b ty to.off true (one_init to.off (lasting_made (held o) (judged t node).constant (value_made o (j e).part)))) (sym typed)
                (lasting node shaped expr e good (found_clean (clean_first j f e c (λ v b h. h))) b ty (object_stays e.structs b.structs g.stays.structs ty object) (value_made (Some ty) (j e).part) fit to.off
                (subst (λ o. lasting_faults (held o) (span_in t node) (form_in t node) (judged t node).constant (value_made o (j e).part) ≡ []) typed rest)),
            g.holds.1,
          );
        }

    pub expression_fine : (outermost : Bool) → Clean (valued t node outermost to) e →
        Given e (valued t node outermost to e).env (GivesAll t (valued t node outermost to e).env ty to.off outermost (valued t node outermost to e).part × Spoken t node)
    unfolding valued placed fitted
    expression_fine false c = local_valued c
    expression_fine true c = global_valued c

  -- braces -----------------------------------------------------------------------

  abbrev Claimed : Raw → Type 0
  Claimed n = Shaped t n → InitialiserFine t n (initialiser t n)

  both_of : (ns : List Raw) → Each Claimed ns → Each (Shaped t) ns → Each (λ n. InitialiserFine t n (initialiser t n)) ns
  both_of [] f h = tt
  both_of (n ∷ ns) f h = (f.0 h.0, both_of ns f.1 h.1)

  may_be_of : (ty : Ty) (o : Option Ty) → o ≡ Some ty → IsTrue (may_be_braced o) → IsTrue (is_braced_at (out-Ty ty))
  may_be_of ty o is h = subst (λ o. IsTrue (may_be_braced o)) is h

  braces_level : (node : Raw) (r : Rule) → r ≡ rule.Initialisers → (ps : List Raw) → IsTrue (level_ok t node r ps) → IsTrue (all_of is_init ps)
  unfolding level_ok
  braces_level node r is ps h = subst (λ r. IsTrue (level_ok t node r ps)) is h

  module _ (node : Raw) (shaped : Shaped t node) (is : rule_in node ≡ rule.Initialisers) (fs : Each Claimed (out-Raw node).parts) (to : Target) (ty : Ty) (typed : to.ty ≡ Some ty)
      (e : Env) (good : Good e) (complete : AreComplete e.structs.sizes) (object : IsTrue (is_object_by e.structs.sizes ty)) (fits : to.off + cells e.structs.sizes ty ≤ 2 ^ 22) (outermost : Bool) where
    abbrev all : Judge Inits
    all = braced (span_in t node) (map (initialiser t) (out-Raw node).parts) outermost to

    braces_spoken : Each (Spoken t) (out-Raw node).parts → Spoken t node
    braces_spoken s = spoken_of t lexed node shaped (ap (λ r. is_token_of r) is) s
      where
        is_token_of : Rule → Bool
        is_token_of r = is_token r (out-Raw node).parts

    pub braces_fine : Clean all e → Given e (all e).env (GivesAll t (all e).env ty to.off outermost (all e).part × Spoken t node)
    unfolding braced
    braces_fine c =
        let ps = (out-Raw node).parts in
        let j : Judge Inits = in_turn outermost to 0 (map (initialiser t) ps) in
        let f : Inits → Judge Inits = λ x. give x (fault_unless (may_be_braced to.ty) (span_in t node)) in
        let braces = may_be_of ty to.ty typed (kept (span_in t node) (may_be_braced to.ty) (clean_second j f e c).faultless) in
        let r = turn_fine t cells_told structs_told promise_kept outermost e good complete ty object braces to typed fits 0 ps (both_of ps fs (parts_shaped t node shaped)) (braces_level node (rule_in node) is ps (level_shaped t node shaped))
        e good (stays_self e) (clean_first j f e c (λ x. passing_give x (fault_unless (may_be_braced to.ty) (span_in t node)))) in
        record { good = r.good; stays = r.stays; holds = (r.holds.0.gives, braces_spoken r.holds.1) }

  -- nodes --------------------------------------------------------------------------

  init_is : (r : Rule) → IsTrue (is_init r) → is_braces r ≡ false → IsTrue (is_expr r)
  init_is r h e = by (is_expr r) (is_braces r) e h
    where
      by : (a b : Bool) → b ≡ false → IsTrue (a || b) → IsTrue a
      by true b e h = refl
      by false b e h = let no : false ≡ true = sym e ∙ h in absurd cc

  abbrev pub GivenFine : Raw → Judge Inits → Target → Ty → Bool → Env → Type 0
  GivenFine node k to ty outermost e = Given e (k e).env (GivesAll t (k e).env ty to.off outermost (k e).part × Spoken t node)

  node_fine : (node : Raw) (shaped : Shaped t node) → Each Claimed (out-Raw node).parts → (r : Rule) → rule_in node ≡ r → IsTrue (is_init r) → (outermost : Bool) (to : Target) (ty : Ty) → to.ty ≡ Some ty →
      (e : Env) → Good e → AreComplete e.structs.sizes → IsTrue (is_object_by e.structs.sizes ty) → to.off + cells e.structs.sizes ty ≤ 2 ^ 22 →
      Clean (given_by t node r (map (initialiser t) (out-Raw node).parts) outermost to) e → GivenFine node (given_by t node r (map (initialiser t) (out-Raw node).parts) outermost to) to ty outermost e
  unfolding given_by
  node_fine node shaped fs rule.Initialisers is h outermost to ty typed e good complete object fits c = braces_fine node shaped is fs to ty typed e good complete object fits outermost c
  node_fine node shaped fs r is h outermost to ty typed e good complete object fits c =
      expression_fine node shaped (subst (λ q. IsTrue (is_expr q)) (sym is) (init_is r h refl)) to ty typed e good object outermost c

  pub initialiser_fine : (node : Raw) → Shaped t node → InitialiserFine t node (initialiser t node)
  initialiser_fine = by_parts Claimed (λ n fs shaped. subst (InitialiserFine t n) (sym (initialiser_is t n))
      (record { given = λ h outermost to ty typed e good complete object fits c. node_fine n shaped fs (rule_in n) refl h outermost to ty typed e good complete object fits c }))

  -- objects ------------------------------------------------------------------------

  pub whole_fine : (outermost : Bool) (node : Raw) → Shaped t node → IsTrue (is_init (rule_in node)) → (ty : Ty) (e : Env) → Good e → AreComplete e.structs.sizes → IsTrue (is_object_by e.structs.sizes ty) →
      Clean (whole_object t node outermost (Some ty)) e → GivenFine node (whole_object t node outermost (Some ty)) (target (Some ty) 0) ty outermost e
  whole_fine outermost node shaped h ty e good complete object c =
      (initialiser_fine node shaped).given h outermost (target (Some ty) 0) ty refl e good complete object (let most = cells_most e.structs.sizes ty object in omega (arith, most)) c

  pub local_inits_fine : (node : Raw) → Shaped t node → IsTrue (is_init (rule_in node)) → (ty : Ty) (e : Env) → Good e → AreComplete e.structs.sizes →
      IsTrue (is_object_by e.structs.sizes ty) → Clean (local_inits t node (Some ty)) e →
      Given e (local_inits t node (Some ty) e).env (LocalInits t (local_inits t node (Some ty) e).env ty (local_inits t node (Some ty) e).part × Spoken t node)
  unfolding local_inits
  local_inits_fine node shaped h ty e good complete object c =
      let j : Judge Inits = whole_object t node false (Some ty) in
      let f : Inits → Judge (Option (List (ℕ × Expr))) = λ is. give (if_whole is) [] in
      let r = whole_fine false node shaped h ty e good complete object (clean_first j f e c (λ is. passing_give (if_whole is) [])) in
      let is = (j e).part in
      record {
        good = r.good;
        stays = r.stays;
        holds = (record { made = is.made; known = ap (λ b. cond b (Some is.made) None) r.holds.0.whole; inits = r.holds.0.inits }, r.holds.1);
      }
