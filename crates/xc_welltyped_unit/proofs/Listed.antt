-- The parameters of a function, one behind another, are its first objects (C99 6.7.5.3).
use Rattle.std.proofs.Common.{◌≡◌, ℕ, suc, ◌+◌, List, [], ◌∷◌, ◌++◌, length, map, Bool, true, false, refl, sym, ap, ◌∙◌, subst, arith, append_assoc, length-append}
use Rattle.std.specs.Prelude.{IsTrue, ◌||◌, ◌==◌, cond, is_some, Option, Some}
use Rattle.std.proofs.lemmas.Bool.{eqb-true}
use Rattle.std.proofs.lemmas.List.{append-nil}
use Rattle.xc_text_place.specs.declared.Span.{Span}
use Rattle.xc_tree.specs.declared.ty.Ty.{Ty}
use Rattle.xc_tree.specs.Lists.{has, indices}
use Rattle.xc_tree.specs.Types.{base}
use Rattle.xc_tree.proofs.Lists.{and_left, and_right}
use Rattle.xc_raw.specs.declared.rule.Rule.{Rule}
use Rattle.xc_raw.specs.declared.rule.Rule.TheVariants as rule
use Rattle.xc_raw.specs.declared.tree.Raw.{Raw, out-Raw}
use Rattle.xc_raw.specs.declared.word.Word.TheVariants as word
use Rattle.xc_raw.specs.declared.word.Literal.TheVariants as literal
use Rattle.xc_type_rule.specs.declared.found.Thing.{Thing}
use Rattle.xc_type_rule.specs.declared.found.Thing.TheVariants as thing
use Rattle.xc_raw_parts.specs.Spans.{word_at}
use Rattle.xc_type_scopes.specs.declared.env.Env.{Env}
use Rattle.xc_type_scopes.specs.Judge.{Judge, give, and_then, each}
use Rattle.xc_type_expressions.specs.declared.text.Text.{Text}
use Rattle.xc_type_unit.specs.Parameters.{is_lone, parameter, all_parameters, parameters}
use Rattle.xc_raw.specs.Kinds.{is_void}
use Rattle.xc_welltyped_claims.specs.Lists.{Each}
use Rattle.xc_welltyped_claims.specs.Things.{SeenThing}
use Rattle.xc_welltyped_claims.specs.Env.{Covers}
use Rattle.xc_welltyped_claims.specs.Judges.{Makes}
use Rattle.xc_welltyped_claims.specs.Shaped.{rule_in, is_param, is_params, all_of, is_token, level_ok, Shaped, IsLexed, Spoken}
use Rattle.xc_welltyped_claims.proofs.Env.{extends_then}
use Rattle.xc_welltyped_claims.proofs.Judges.{clean_first, clean_second, made_self}
use Rattle.xc_welltyped_claims.proofs.Nodes.{level_shaped, parts_shaped}
use Rattle.xc_welltyped_claims.proofs.Strings.{spoken_of}
use Rattle.xc_welltyped_unit.proofs.Passing.{passing_all_parameters}
use Rattle.xc_welltyped_unit.proofs.Parameters.{parameter_fine}
use Rattle.xc_welltyped_structs.proofs.Grown.{scopes_more}

-- what is seen --------------------------------------------------------------------

either_first : (a b c d : Bool) → (IsTrue (a || c) → IsTrue d) → IsTrue (a || (b || c)) → IsTrue (b || d)
either_first a true c d f h = refl
either_first a false c d f h = f h

-- a number at the end of a list
has_last : (m n : ℕ) (xs : List ℕ) → IsTrue (has m (n ∷ xs)) → IsTrue (has m (xs ++ n ∷ []))
has_last m n [] h = h
has_last m n (x ∷ xs) h = either_first (m == n) (m == x) (has m xs) (has m (xs ++ n ∷ [])) (has_last m n xs) h

seen_last : (n : ℕ) (xs : List ℕ) (x : Thing) → SeenThing (n ∷ xs) x → SeenThing (xs ++ n ∷ []) x
seen_last n xs (thing.Local m ty) h = has_last m n xs h
seen_last n xs (thing.Global m ty) h = tt
seen_last n xs (thing.Func number params ret) h = tt

covers_last : (n : ℕ) (e : Env) → Covers (n ∷ indices n) e → Covers (indices (suc n)) e
covers_last n e c = scopes_more (SeenThing (n ∷ indices n)) (SeenThing (indices (suc n))) (seen_last n (indices n)) e.own c

-- lists -----------------------------------------------------------------------------

-- a parameter as calls see it
abbrev pub known_ty : Span × Ty → Option Ty
known_ty l = Some l.1

-- what calls ask for are the types of the next objects, which are scalars
pub record AreParameters (t : Text) (ps : List Raw) (e e' : Env) (os : List (Option Ty)) : Type 0 where
  pub more : List (Span × Ty)
  pub known : os ≡ map known_ty more
  pub scalars : Each (λ (l : Span × Ty). IsTrue (is_some (base l.1))) more
  pub locals : e'.locals ≡ e.locals ++ more
  pub loops : e'.loops ≡ e.loops
  pub covers : Covers (indices (length e.locals)) e → Covers (indices (length e'.locals)) e'
  pub spoken : Each (Spoken t) ps

-- a node of this rule
params_is : (r : Rule) → IsTrue (is_params r) → r ≡ rule.Params
params_is rule.Params h = refl
params_is _ h = absurd cc

module _ (t : Text) (lexed : IsLexed t) where
  -- `void` is no string literal
  lone_spoken : (p : Raw) → IsTrue (is_lone t p) → Spoken t p
  lone_spoken p h token l le lt e =
      let first = (out-Raw p).first in
      let end : (out-Raw p).end ≡ first + 1 = eqb-true (out-Raw p).end (first + 1) (and_left ((out-Raw p).end == first + 1) _ h) in
      let same : first ≡ token = omega (arith, le, lt, end) in
      let at : IsTrue (is_void (word_at t.source.now t.tokens.now token)) = subst (λ n. IsTrue (is_void (word_at t.source.now t.tokens.now n))) same (and_right ((out-Raw p).end == first + 1) _ h) in
      let no : IsTrue (is_void (word.Literal literal.Text)) = subst (λ w. IsTrue (is_void w)) (lexed.literals token l e).word at in
      absurd cc

  each_fine : (ps : List Raw) → Each (Shaped t) ps → IsTrue (all_of is_param ps) → Makes (AreParameters t ps) (all_parameters t ps)
  unfolding each
  each_fine [] h x e r c = made_self e _ r (record { more = []; known = refl; scalars = tt; locals = sym (append-nil e.locals); loops = refl; covers = λ s. s; spoken = tt })
  each_fine (p ∷ ps) h x e r c =
      let j : Judge (Option Ty) = parameter t p in
      let js : Judge (List (Option Ty)) = all_parameters t ps in
      let k' : Option Ty → List (Option Ty) → Judge (List (Option Ty)) = λ x xs. give (x ∷ xs) [] in
      let k : Option Ty → Judge (List (Option Ty)) = λ x. and_then js (k' x) in
      let a = parameter_fine t lexed p h.0 (and_left (is_param (rule_in p)) _ x) e r (clean_first j k e c (λ x. passing_all_parameters t ps)) in
      let e1 = (j e).env in
      let o = a.holds in
      let b = each_fine ps h.1 (and_right (is_param (rule_in p)) _ x) e1 a.ready (clean_first js (k' (j e).part) e1 (clean_second j k e c) (λ xs e h. h)) in
      let e2 = (js e1).env in
      let os = b.holds in
      let l : Span × Ty = (o.at, o.ty) in
      let many : suc (length e.locals) ≡ length e1.locals = (let long = ap length o.locals ∙ length-append e.locals (l ∷ []) in omega (arith, long)) in
      record {
        ready = b.ready;
        extends = extends_then e e1 e2 a.extends b.extends;
        file = b.file ∙ a.file;
        holds = record {
          more = l ∷ os.more;
          known = λ i. o.known i ∷ os.known i;
          scalars = (o.scalar, os.scalars);
          locals = os.locals ∙ ap (λ ls. ls ++ os.more) o.locals ∙ append_assoc e.locals (l ∷ []) os.more;
          loops = os.loops ∙ o.loops;
          covers = λ s. os.covers (subst (λ n. Covers (indices n) e1) many (covers_last (length e.locals) e1 (o.covers (indices (length e.locals)) s)));
          spoken = (o.spoken, os.spoken);
        };
      }

  list_fine : (ps : List Raw) → Each (Shaped t) ps → IsTrue (all_of is_param ps) → Makes (AreParameters t ps) (parameters t ps)
  unfolding parameters each
  list_fine [] h x = each_fine [] h x
  list_fine (p ∷ q ∷ ps) h x = each_fine (p ∷ q ∷ ps) h x
  list_fine (p ∷ []) h x = by (is_lone t p) refl
    where
      by : (b : Bool) → is_lone t p ≡ b → Makes (AreParameters t (p ∷ [])) (all_parameters t (cond b [] (p ∷ [])))
      by true lone = λ e r c. made_self e _ r (record { more = []; known = refl; scalars = tt; locals = sym (append-nil e.locals); loops = refl; covers = λ s. s; spoken = (lone_spoken p lone, tt) })
      by false lone = each_fine (p ∷ []) h x

  -- `(void)` has none
  pub parameters_fine : (node : Raw) → Shaped t node → IsTrue (is_params (rule_in node)) → Makes (λ e e' os. AreParameters t (out-Raw node).parts e e' os × Spoken t node) (parameters t (out-Raw node).parts)
  unfolding level_ok
  parameters_fine node h x e r c =
      let is = params_is (rule_in node) x in
      let m = list_fine (out-Raw node).parts (parts_shaped t node h) (subst (λ q. IsTrue (level_ok t node q (out-Raw node).parts)) is (level_shaped t node h)) e r c in
      record { ready = m.ready; extends = m.extends; file = m.file; holds = (m.holds, spoken_of t lexed node h (subst (λ q. is_token q (out-Raw node).parts ≡ false) (sym is) refl) m.holds.spoken) }
