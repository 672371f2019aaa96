-- A function at file scope, with a block or without one, where nothing has a fault (C99 6.9.1).
use Rattle.std.proofs.Common.{◌≡◌, ℕ, ◌+◌, List, [], ◌∷◌, ◌++◌, true, refl, sym, ap, ◌∙◌, subst, arith}
use Rattle.std.specs.Prelude.{IsTrue, ◌&&◌, ◌==◌, Option, Some, None, slice_get}
use Rattle.std.proofs.lemmas.Bool.{eqb-true}
use Rattle.std.proofs.lemmas.List.{append-nil}
use Rattle.xc_tree.specs.declared.ty.Ty.{Ty}
use Rattle.xc_tree.specs.declared.tree.Func.{Func}
use Rattle.xc_tree.specs.Lists.{passes}
use Rattle.xc_tree.specs.Walk.{loop_ids}
use Rattle.xc_tree.proofs.Lists.{and_left, and_right}
use Rattle.xc_raw.specs.declared.rule.Rule.TheVariants as rule
use Rattle.xc_raw.specs.declared.tree.Raw.{Raw}
use Rattle.xc_type_rule.specs.declared.found.Thing.TheVariants as thing
use Rattle.xc_type_names.specs.Scoped.{found_in}
use Rattle.xc_type_scopes.specs.declared.env.Env.{Env}
use Rattle.xc_type_scopes.specs.Env as env
use Rattle.xc_type_expressions.specs.declared.text.Text.{Text}
use Rattle.xc_type_expressions.specs.Judged.{judged}
use Rattle.xc_type_statement_parts.specs.Making.{one, followed}
use Rattle.xc_type_unit.specs.declared.heads.Head.{Head}
use Rattle.xc_type_unit.specs.declared.scope.FileScope.{FileScope}
use Rattle.xc_type_unit.specs.Items.{Item, by_part}
use Rattle.xc_type_unit.specs.Functions as functions
use Rattle.xc_type_unit.specs.Functions.{Bodies, is_first, blocks}
use Rattle.xc_welltyped_claims.specs.Lists.{Each, Fresh}
use Rattle.xc_welltyped_claims.specs.Env.{Extends}
use Rattle.xc_welltyped_claims.specs.Judges.{Clean}
use Rattle.xc_welltyped_claims.specs.Roles.{IsBase}
use Rattle.xc_welltyped_claims.specs.Shaped.{rule_in, is_specs, is_callee, is_params, is_block, one_at_most, level_ok, Shaped, IsLexed, Spoken}
use Rattle.xc_welltyped_claims.proofs.Env.{stays_extends, extends_self, extends_then}
use Rattle.xc_welltyped_claims.proofs.Judges.{none_left}
use Rattle.xc_welltyped_structs.proofs.Lists.{get_end}
use Rattle.xc_welltyped_statements.proofs.Fresh.{fresh_none}
use Rattle.xc_welltyped_statements.proofs.Simple.{one_spoken}
use Rattle.xc_welltyped_unit.specs.Files.{IsDefined, AreApart, CleanItem, FileFine}
use Rattle.xc_welltyped_unit.specs.Functions.{IsHead, IsBody}
use Rattle.xc_welltyped_unit.proofs.Passing.{passing_inner}
use Rattle.xc_welltyped_unit.proofs.Going.{file_behind}
use Rattle.xc_welltyped_unit.proofs.Parts.{part_first, part_second}
use Rattle.xc_welltyped_expressions.proofs.Roles.{role_fine}
use Rattle.xc_welltyped_unit.proofs.Heads.{head, body_env, inner_head}
use Rattle.xc_welltyped_unit.proofs.Funcs.{body_fine}
use Rattle.xc_welltyped_unit.proofs.Behind.{AreNew, extends_after, file_after}
use Rattle.xc_welltyped_expressions.proofs.Members.{unless_told}

-- a number that passes for another is that one
same_number : (o : Option ℕ) (n : ℕ) → IsTrue (passes (λ m. m == n) o) → o ≡ Some n
same_number None n h = absurd cc
same_number (Some m) n h = ap Some (eqb-true m n h)

-- what a function adds
module _ (t : Text) (b : Bodies) (s : FileScope) (f : FileFine t b s) (h : Head) where
  -- without a block
  none_new : (e : Env) → IsHead t b s e h → AreNew t b s.defined f.funcs e e []
  none_new e head = record {
    ready = head.ready;
    extends = extends_self e;
    file = refl;
    fine = tt;
    ids = fresh_none e.loops e.loops;
    stand = λ y n i le lt. absurd (omega (arith, le, lt));
  }

  -- with a block, which is the first one of its name
  module _ (apart : AreApart b) (e e' : Env) (made : Option Func) (head : IsHead t b s e h) (body : IsBody t e e' h made) (first : found_in head.name b ≡ Some s.defined) where
    the_last : (y n : ℕ) → found_in y b ≡ Some n → n ≡ s.defined → IsDefined e'.file (f.funcs ++ body.func ∷ []) y n
    the_last y n i same =
        let number : found_in head.name b ≡ Some n = first ∙ ap Some (sym same) in
        let stands : found_in head.name e'.file ≡ Some (thing.Func (Some n) h.params h.ret) =
        ap (λ l. found_in head.name l) body.file ∙ head.stands ∙ ap (λ o. Some (thing.Func o h.params h.ret)) number in
        record {
          params = h.params;
          ret = h.ret;
          thing = subst (λ m. found_in m e'.file ≡ Some (thing.Func (Some n) h.params h.ret)) (sym (apart y head.name n i number)) stands;
          func = body.func;
          found = subst (λ k. slice_get (f.funcs ++ body.func ∷ []) k ≡ Some body.func) (f.many ∙ sym same) (get_end f.funcs body.func);
          is = body.is;
        }

    one_new : AreNew t b s.defined f.funcs e e' (body.func ∷ [])
    one_new = record {
      ready = body.ready;
      extends = body.extends;
      file = body.file;
      fine = (body.fine, tt);
      ids = subst (λ l. Fresh e.loops e'.loops l) (sym (append-nil (loop_ids body.func.body))) body.ids;
      stand = λ y n i le lt. the_last y n i (omega (arith, le, lt));
    }

module _ (t : Text) (lexed : IsLexed t) (b : Bodies) (apart : AreApart b) where
  module _ (s : FileScope) (f : FileFine t b s) where
    -- file scope behind the function, which makes these
    abbrev Claim : List Raw → List Raw → Env → Option (List Func) → Type 0
    Claim nodes rest e' made = FileFine t b (record s { env = e'; defined = s.defined + blocks rest; funcs = followed s.funcs made }) × Extends s.env e' × Each (Spoken t) nodes

    -- its block is the first one of its name
    is_named : (h : Head) (block : Raw) (e : Env) → Clean (functions.bodied t b s.defined h block) e → (name : ℕ) → h.name ≡ Some name → found_in name b ≡ Some s.defined
    unfolding functions.bodied
    is_named h block e c name named =
        same_number (found_in name b) s.defined (subst (λ o. IsTrue (is_first b o s.defined)) named (unless_told (is_first b h.name s.defined) h.at (none_left _ _ c.faultless)))

    -- behind the head
    rest_done : (h : Head) (e : Env) → IsHead t b s e h → (rest : List Raw) → Each (Shaped t) rest → IsTrue (one_at_most is_block rest) → Clean (functions.defined_as t b s.defined h rest) e →
        Claim rest rest (env.after_function (functions.defined_as t b s.defined h rest e).env) (functions.defined_as t b s.defined h rest e).part
    unfolding functions.defined_as one
    rest_done h e head [] shaped x c =
        let new = none_new t b s f h e head in
        (file_after t b s f e h head e [] new (Some []) refl, extends_after t b s f e h head e [] new, tt)
    rest_done h e head (block ∷ rest) shaped x c =
        let clean : Clean (functions.bodied t b s.defined h block) e = record { faultless = c.faultless; within = c.within } in
        let j = functions.bodied t b s.defined h block e in
        let m = body_fine t lexed b s e h head block shaped.0 (and_left (is_block (rule_in block)) _ x) s.defined clean in
        let new = one_new t b s f h apart e j.env j.part head m.0 (is_named h block e clean head.name head.named) in (
          file_after t b s f e h head j.env (m.0.func ∷ []) new (one j.part) (ap one m.0.known),
          extends_after t b s f e h head j.env (m.0.func ∷ []) new,
          one_spoken t block rest (and_right (is_block (rule_in block)) _ x) m.1,
        )

    -- behind the specifiers
    module _ (base : Option Ty) (is : IsBase s.env base) (callee params : Raw) (rest : List Raw) (shaped : Each (Shaped t) (callee ∷ params ∷ rest))
        (x : IsTrue (is_callee (rule_in callee) && (is_params (rule_in params) && one_at_most is_block rest))) where
      inner_done : Clean (functions.inner t b s.defined base callee params rest) s.env →
          Claim (callee ∷ params ∷ rest) rest (functions.inner t b s.defined base callee params rest s.env).env (functions.inner t b s.defined base callee params rest s.env).part
      unfolding functions.inner
      inner_done c =
          let y = and_right (is_callee (rule_in callee)) _ x in
          let m = inner_head t b s f lexed base is callee params shaped.0 (and_left (is_callee (rule_in callee)) _ x) shaped.1.0 (and_left (is_params (rule_in params)) _ y) s.defined rest c in
          let r = rest_done (head t b s base callee params) (body_env t b s base callee params) m.0 rest shaped.1.1 (and_right (is_params (rule_in params)) _ y) m.2 in
          (r.0, r.1, (m.1.0, (m.1.1, r.2)))

  -- file scope is fine behind a function without a fault
  pub function_done : (node specs callee params : Raw) (rest : List Raw) → Each (Shaped t) (specs ∷ callee ∷ params ∷ rest) → IsTrue (level_ok t node rule.Function (specs ∷ callee ∷ params ∷ rest)) →
      (s : FileScope) → FileFine t b s → CleanItem (functions.function t b (specs ∷ callee ∷ params ∷ rest)) s →
      FileFine t b (functions.function t b (specs ∷ callee ∷ params ∷ rest) s).scope × Extends s.env (functions.function t b (specs ∷ callee ∷ params ∷ rest) s).scope.env × Each (Spoken t) (specs ∷ callee ∷ params ∷ rest)
  unfolding functions.function level_ok
  function_done node specs callee params rest shaped x s f c =
      let j = (judged t specs).specified true in
      let k : Option Ty → Item = λ base s. by_part (functions.inner t b s.defined base callee params rest) (functions.with_funcs (blocks rest)) s in
      let all : CleanItem (by_part j k) s = record { faultless = c.faultless; within = c.within } in
      let m = (role_fine t lexed specs shaped.0).specified (and_left (is_specs (rule_in specs)) _ x) true s.env f.stands.good
      (part_first j k s all (λ base s h. passing_inner t b s.defined base callee params rest s.env h)) in
      let e = (j s.env).env in
      let more = part_second j k s all in
      let r = inner_done (record s { env = e }) (file_behind t b s f e m.stays m.good) (j s.env).part m.holds.0 callee params rest shaped.1 (and_right (is_specs (rule_in specs)) _ x)
      (record { faultless = none_left _ _ more.faultless; within = more.within }) in
      (r.0, extends_then s.env e _ (stays_extends s.env e m.stays) r.1, (m.holds.1, r.2))
