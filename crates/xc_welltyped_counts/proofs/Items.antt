-- What items declare.
use Rattle.std.proofs.Common.{◌≡◌, ℕ, ◌+◌, ◌≤◌, List, [], ◌∷◌, ◌++◌, map, length, length-append, Bool, true, false, refl, ap, subst, arith, cond}
use Rattle.std.specs.Prelude.{Option, Some, None, zip, option_map, unwrap_or}
use Rattle.std.proofs.lemmas.List.{length-map}
use Rattle.std.proofs.lemmas.Slice.Zip.{length-zip}
use Rattle.xc_text_place.specs.declared.Span.{Span}
use Rattle.xc_tree.specs.declared.ty.Ty.{Ty}
use Rattle.xc_tree.specs.declared.stmt.Stmt.{Stmt}
use Rattle.xc_tree.specs.declared.tree.Func.{Func}
use Rattle.xc_raw.specs.declared.rule.Rule.{Rule}
use Rattle.xc_raw.specs.declared.rule.Rule.TheVariants as rule
use Rattle.xc_raw.specs.declared.tree.Raw.{Raw, out-Raw}
use Rattle.xc_type_scopes.specs.declared.env.Env.{Env}
use Rattle.xc_type_scopes.specs.Env as env
use Rattle.xc_type_scopes.specs.Judge.{Judge, each}
use Rattle.xc_type_expressions.specs.declared.text.Text.{Text}
use Rattle.xc_type_expressions.specs.declared.types.Declared.{Declared}
use Rattle.xc_type_expressions.specs.Judged.{judged, span_in}
use Rattle.xc_type_statement_parts.specs.declared.answer.Answer.TheVariants as answer
use Rattle.xc_type_statement_parts.specs.Making.{one, followed}
use Rattle.xc_type_statements.specs.Stated.{statement}
use Rattle.xc_type_unit.specs.declared.scope.FileScope.{FileScope}
use Rattle.xc_type_unit.specs.declared.heads.Head.{Head}
use Rattle.xc_type_unit.specs.Items.{Item, by_part, in_turn}
use Rattle.xc_type_unit.specs.Globals as globals
use Rattle.xc_type_unit.specs.Parameters as parameters
use Rattle.xc_type_unit.specs.Functions as functions
use Rattle.xc_type_unit.specs.Functions.{Bodies, local_of, locals_of, func_of}
use Rattle.xc_type_unit.specs.Texts as texts
use Rattle.xc_welltyped_claims.proofs.Lists.{each_both, each_more}
use Rattle.xc_welltyped_counts.specs.Costs.{held, Costs, AreFuncs, Holds, ItemCosts}
use Rattle.xc_welltyped_counts.proofs.Roles.{keeps, cost, costs, role_known, all_known, costs_bounds, parts_less}
use Rattle.xc_welltyped_counts.proofs.Statements.{costs_object, costs_global, body_costs}

-- file scope ----------------------------------------------------------------------

-- the same functions, beside more structs
with_env : (from to most : ℕ) (s : FileScope) (e : Env) → Holds from most s → from ≤ to → held e ≤ to → Holds to most (record s { env = e })
with_env from to most s e h le now = record { held = now; funcs = λ fs is. (let few = h.funcs fs is in (omega (arith, few.0, le), few.1)) }

holds_more : (from to most : ℕ) (s : FileScope) → from ≤ to → Holds from most s → Holds to most s
holds_more from to most s le h = let now = h.held in with_env from to most s s.env h le (omega (arith, now, le))

costs_part : {A : Type 0} (n m : ℕ) (j : Judge A) (k : A → Item) → Costs n j → ((x : A) → ItemCosts m (k x)) → ItemCosts (n + m) (by_part j k)
costs_part n m j k p q from to most s le within h =
    let now = h.held in
    let x = j s.env in
    q x.part (from + n) to most (record s { env = x.env }) (omega (arith, le)) within (with_env from (from + n) most s x.env h (omega arith) (omega (arith, now, p s.env)))

costs_nothing : (n : ℕ) → ItemCosts n (λ s. record { scope = s; faults = [] })
costs_nothing n from to most s le within h = holds_more from to most s (omega (arith, le)) h

costs_fewer : (n m : ℕ) (i : Item) → n ≤ m → ItemCosts n i → ItemCosts m i
costs_fewer n m i less c from to most s le within h = c from to most s (omega (arith, le, less)) within h

module _ (t : Text) where
  costs_turn : (f : Raw → Item) → ((n : Raw) → ItemCosts (cost t n) (f n)) → (ns : List Raw) → ItemCosts (costs t ns) (in_turn (map f ns))
  unfolding in_turn
  costs_turn f p [] from to most s le within h = costs_nothing 0 from to most s le within h
  costs_turn f p (n ∷ ns) from to most s le within h =
      let middle = from + cost t n in
      costs_turn f p ns middle to most (f n s).scope (omega (arith, le)) within (p n from middle most s (omega arith) (omega (arith, le, within)) h)

  -- objects -----------------------------------------------------------------------

  costs_begun : (b : Bool) (ty : Ty) (is : List Raw) → Costs (costs t is) (globals.begun t b ty is)
  unfolding globals.begun
  costs_begun b ty [] e = keeps 0 e
  costs_begun b ty (i ∷ is) e = omega (arith, costs_global t i (Some ty) e)

  costs_unknown : (is : List Raw) → Costs (costs t is) (globals.begun_unknown t is)
  unfolding globals.begun_unknown
  costs_unknown [] e = keeps 0 e
  costs_unknown (i ∷ is) e = omega (arith, costs_global t i None e)

  costs_begins : (at : Span) (ty : Option Ty) (is : List Raw) → ItemCosts (costs t is) (globals.begins t at ty is)
  unfolding globals.begins globals.with_object
  costs_begins at None is from to most s le within h = let now = h.held in
      with_env from to most s (globals.begun_unknown t is s.env).env h (omega (arith, le)) (omega (arith, le, now, costs_unknown is s.env))
  costs_begins at (Some ty) is from to most s le within h =
      let now = h.held in
      let b = globals.fits (globals.cells_with ty s) in
      let same = with_env from to most s (globals.begun t b ty is s.env).env h (omega (arith, le)) (omega (arith, le, now, costs_begun b ty is s.env)) in
      record { held = same.held; funcs = same.funcs }

  costs_declares : (d : Declared) (is : List Raw) → ItemCosts (costs t is) (globals.declares t d is)
  unfolding globals.named_global
  costs_declares d is from to most s le within h = by d.name
    where
      by : (o : Option ℕ) → Holds to most (by_part (globals.named_global d.at d.ty (length s.globals) o) (λ x. globals.begins t d.at d.ty is) s).scope
      by None = costs_begins d.at d.ty is from to most s le within h
      by (Some name) = let e = (globals.named_global d.at d.ty (length s.globals) (Some name) s.env).env in
          costs_begins d.at d.ty is from to most (record s { env = e }) le within (record { held = h.held; funcs = h.funcs })

  costs_declared : (d : Raw) (base : Option Ty) → Costs (cost t d) ((judged t d).declared base)
  costs_declared d base e = omega (arith, (role_known t d).declared base e)

  costs_global_by : (base : Option Ty) (ps : List Raw) → ItemCosts (costs t ps) (globals.global_by t base ps)
  unfolding globals.global_by
  costs_global_by base [] = costs_nothing 0
  costs_global_by base (d ∷ is) = costs_part (cost t d) (costs t is) ((judged t d).declared base) (λ x. globals.declares t x is) (costs_declared d base) (λ x. costs_declares x is)

  costs_one_global : (base : Option Ty) (node : Raw) → ItemCosts (cost t node) (globals.global t base node)
  unfolding globals.global
  costs_one_global base node = costs_fewer (costs t (out-Raw node).parts) (cost t node) (globals.global_by t base (out-Raw node).parts) (omega (arith, parts_less t node)) (costs_global_by base (out-Raw node).parts)

  costs_declaration : (ps : List Raw) → ItemCosts (costs t ps) (globals.declaration t ps)
  unfolding globals.declaration globals.globals_by
  costs_declaration [] = costs_nothing 0
  costs_declaration (specs ∷ ds) = costs_part (cost t specs) (costs t ds) ((judged t specs).specified true) (λ base. in_turn (map (globals.global t base) ds))
      ((role_known t specs).specified true) (λ base. costs_turn (globals.global t base) (costs_one_global base) ds)

  -- parameters ----------------------------------------------------------------------

  costs_described : (node : Raw) (ps : List Raw) → Costs (costs t ps) (parameters.described_by t node ps)
  unfolding parameters.described_by
  costs_described node [] e = keeps 0 e
  costs_described node (specs ∷ bs) e =
      let x = (judged t specs).specified false e in
      omega (arith, (role_known t specs).specified false e, costs_bounds t bs (all_known t bs) x.env)

  costs_object_of : (d : Declared) (o : Option ℕ) → Costs 1 (parameters.object_of d o)
  costs_object_of d None e = by d.ty
    where
      by : (ty : Option Ty) → held (parameters.unnamed d.at ty e) ≤ held e + 1
      by None = keeps 1 e
      by (Some ty) = let many = length-append e.locals ((d.at, ty) ∷ []) in omega (arith, many)
  costs_object_of d (Some name) e = costs_object d e

  costs_parameter : (node : Raw) → Costs (cost t node) (parameters.parameter t node)
  unfolding parameters.parameter parameters.begun
  costs_parameter node e =
      let d = parameters.described_by t node (out-Raw node).parts e in
      omega (arith, parts_less t node, costs_described node (out-Raw node).parts e, costs_object_of d.part d.part.name d.env)

  costs_all : (ps : List Raw) → Costs (costs t ps) (parameters.all_parameters t ps)
  unfolding each
  costs_all [] e = keeps 0 e
  costs_all (p ∷ ps) e = omega (arith, costs_parameter p e, costs_all ps (parameters.parameter t p e).env)

  costs_parameters : (ps : List Raw) → Costs (costs t ps) (parameters.parameters t ps)
  unfolding parameters.parameters
  costs_parameters [] e = costs_all [] e
  costs_parameters (p ∷ []) e = by (parameters.is_lone t p)
    where
      by : (b : Bool) → held (parameters.all_parameters t (cond b [] (p ∷ [])) e).env ≤ held e + costs t (p ∷ [])
      by true = omega (arith, costs_all [] e)
      by false = costs_all (p ∷ []) e
  costs_parameters (p ∷ q ∷ ps) e = costs_all (p ∷ q ∷ ps) e

  -- functions -------------------------------------------------------------------------

  locals_few : (e : Env) → length (locals_of e.locals e.addressed) ≤ held e
  locals_few e = omega (arith, length-map (zip e.locals e.addressed) local_of, length-zip e.locals e.addressed)

  func_few : (h : Head) (params : ℕ) (e : Env) (ret : Option Ty) (body : Option Stmt) (f : Func) → func_of h params e ret body ≡ Some f → length f.locals ≤ held e
  func_few h params e (Some ret) (Some body) f is =
      let many : length (locals_of e.locals e.addressed) ≡ length f.locals = ap (λ o. unwrap_or (option_map (λ (g : Func). length g.locals) o) 0) is in
      omega (arith, many, locals_few e)
  func_few h params e (Some ret) None f is = absurd cc
  func_few h params e None body f is = absurd cc

  one_few : (o : Option Func) (n : ℕ) → ((f : Func) → o ≡ Some f → length f.locals ≤ n) → (fs : List Func) → one o ≡ Some fs → AreFuncs 1 n fs
  unfolding one
  one_few None n few fs is = absurd cc
  one_few (Some f) n few fs is = let same : f ∷ [] ≡ fs = cc in subst (AreFuncs 1 n) same (omega arith, (few f refl, tt))

  -- what a part declares that makes functions, and that these are one at most
  record Defines (n : ℕ) (j : Judge (Option (List Func))) (e : Env) : Type 0 where
    now : held (j e).env ≤ held e + n
    funcs : (fs : List Func) → (j e).part ≡ Some fs → AreFuncs 1 (held e + n) fs

  body_defines : (b : Bodies) (n : ℕ) (h : Head) (rest : List Raw) (e : Env) → Defines (costs t rest) (functions.defined_as t b n h rest) e
  unfolding functions.defined_as functions.bodied
  body_defines b n h [] e = record { now = keeps 0 e; funcs = λ fs is. (let same : [] ≡ fs = cc in subst (AreFuncs 1 (held e + 0)) same (omega arith, tt)) }
  body_defines b n h (block ∷ rest) e =
      let a = (statement t block).body (answer.Function h.ret) false e in
      let cheap = body_costs t block (answer.Function h.ret) false e in
      record {
        now = omega (arith, cheap);
        funcs = one_few (func_of h (length e.locals) a.env h.ret a.part) (held e + costs t (block ∷ rest)) (λ f is. omega (arith, cheap, func_few h (length e.locals) a.env h.ret a.part f is));
      }

  costs_headed : (base : Option Ty) (callee params : Raw) → Costs (cost t params) (functions.headed t base callee params)
  unfolding functions.headed
  costs_headed base callee params e = omega (arith, parts_less t params, costs_parameters (out-Raw params).parts e)

  costs_named_function : (b : Bodies) (h : Head) (o : Option ℕ) → Costs 0 (functions.named_function t b h o)
  unfolding functions.named_function
  costs_named_function b h None = keeps 0
  costs_named_function b h (Some name) = keeps 0

  inner_defines : (b : Bodies) (n : ℕ) (base : Option Ty) (callee params : Raw) (rest : List Raw) (e : Env) → Defines (cost t params + costs t rest) (functions.inner t b n base callee params rest) e
  unfolding functions.inner
  inner_defines b n base callee params rest e =
      let begun = env.in_function e in
      let h = functions.headed t base callee params begun in
      let x = functions.named_function t b h.part h.part.name h.env in
      let d = body_defines b n h.part rest x.env in
      let last = d.now in
      let first = costs_headed base callee params begun in
      let named = costs_named_function b h.part h.part.name h.env in
      record {
        now = omega (arith, last, first, named);
        funcs = λ fs is. (let few = d.funcs fs is in (
          few.0,
          each_more (λ (f : Func). length f.locals ≤ held x.env + costs t rest) (λ (f : Func). length f.locals ≤ held e + (cost t params + costs t rest))
              (λ f less. omega (arith, less, first, named)) fs few.1,
        ));
      }

  followed_few : (a b : Option (List Func)) (n m most : ℕ) → ((fs : List Func) → a ≡ Some fs → AreFuncs n most fs) → ((fs : List Func) → b ≡ Some fs → AreFuncs m most fs) →
      (fs : List Func) → followed a b ≡ Some fs → AreFuncs (n + m) most fs
  unfolding followed
  followed_few (Some xs) (Some ys) n m most f g fs is =
      let same : xs ++ ys ≡ fs = cc in
      let few = f xs refl in
      let more = g ys refl in
      subst (AreFuncs (n + m) most) same (omega (arith, few.0, more.0, length-append xs ys), each_both (λ (f : Func). length f.locals ≤ most) xs ys few.1 more.1)
  followed_few (Some xs) None n m most f g fs is = absurd cc
  followed_few None b n m most f g fs is = absurd cc

  costs_inner : (b : Bodies) (base : Option Ty) (callee params : Raw) (rest : List Raw) →
      ItemCosts (1 + (cost t params + costs t rest)) (λ s. by_part (functions.inner t b s.defined base callee params rest) (functions.with_funcs (functions.blocks rest)) s)
  costs_inner b base callee params rest from to most s le within h =
      let j = functions.inner t b s.defined base callee params rest in
      let d = inner_defines b s.defined base callee params rest s.env in
      let now = h.held in
      let more = d.now in
      record {
        held = omega (arith, le, now, more);
        funcs = λ fs is. (let few = followed_few s.funcs (j s.env).part from 1 most h.funcs
            (λ gs are. (let one = d.funcs gs are in (one.0, each_more (λ (f : Func). length f.locals ≤ held s.env + (cost t params + costs t rest)) (λ (f : Func). length f.locals ≤ most) (λ f less. omega (arith, less, le, now, within)) gs one.1)))
            fs is in (omega (arith, few.0, le), few.1));
      }

  costs_function : (b : Bodies) (ps : List Raw) → ItemCosts (1 + costs t ps) (functions.function t b ps)
  unfolding functions.function
  costs_function b [] = costs_nothing 1
  costs_function b (x ∷ []) = costs_nothing (1 + costs t (x ∷ []))
  costs_function b (x ∷ y ∷ []) = costs_nothing (1 + costs t (x ∷ y ∷ []))
  costs_function b (specs ∷ callee ∷ params ∷ rest) =
      let k : Option Ty → Item = λ base s. by_part (functions.inner t b s.defined base callee params rest) (functions.with_funcs (functions.blocks rest)) s in
      costs_fewer (cost t specs + (1 + (cost t params + costs t rest))) (1 + costs t (specs ∷ callee ∷ params ∷ rest)) (by_part ((judged t specs).specified true) k) (omega arith)
      (costs_part (cost t specs) (1 + (cost t params + costs t rest)) ((judged t specs).specified true) k ((role_known t specs).specified true) (λ base. costs_inner b base callee params rest))

  -- items -------------------------------------------------------------------------------

  costs_by : (b : Bodies) (node : Raw) (r : Rule) → ItemCosts (cost t node) (texts.item_by t b node r)
  unfolding texts.item_by
  costs_by b node rule.Pragma from to most s le within h = with_env from to most s (env.with_pragma (span_in t node) s.env) h (omega (arith, le)) (let now = h.held in omega (arith, now, le))
  costs_by b node rule.Declaration from to most s le within h = costs_declaration (out-Raw node).parts from to most (texts.past_pragmas s) (omega (arith, le, parts_less t node)) within (record { held = h.held; funcs = h.funcs })
  costs_by b node rule.Function from to most s le within h = costs_function b (out-Raw node).parts from to most (texts.past_pragmas s) (omega (arith, le, parts_less t node)) within (record { held = h.held; funcs = h.funcs })
  costs_by b node _ from to most s le within h = costs_nothing (cost t node) from to most s le within h

  costs_item : (b : Bodies) (node : Raw) → ItemCosts (cost t node) (texts.item t b node)
  unfolding texts.item
  costs_item b node = costs_by b node (out-Raw node).rule

  -- so much a whole text declares
  pub whole_holds : (raw : Raw) → Holds (cost t raw) (cost t raw) (texts.whole t raw).scope
  unfolding texts.whole_by texts.items
  whole_holds raw =
      let nodes = (out-Raw raw).parts in
      let b = functions.bodies_of t nodes in
      let none : Holds 0 (cost t raw) texts.empty = record { held = omega arith; funcs = λ fs is. (let same : [] ≡ fs = cc in subst (AreFuncs 0 (cost t raw)) same (omega arith, tt)) } in
      let all = costs_turn (texts.item t b) (costs_item b) nodes 0 (cost t raw) (cost t raw) texts.empty (omega (arith, parts_less t raw)) (omega arith) none in
      record { held = all.held; funcs = all.funcs }
