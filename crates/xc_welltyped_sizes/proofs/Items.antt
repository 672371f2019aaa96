-- What items make.
use Rattle.std.proofs.Common.{◌≡◌, ℕ, ◌+◌, ◌*◌, ◌≤◌, List, [], ◌∷◌, ◌++◌, map, length, length-append, true, false, refl, subst, arith}
use Rattle.std.specs.Prelude.{Option, Some, None}
use Rattle.xc_text_place.specs.declared.Span.{Span}
use Rattle.xc_tree.specs.declared.ty.Ty.{Ty}
use Rattle.xc_tree.specs.declared.stmt.Stmt.{Stmt}
use Rattle.xc_tree.specs.declared.tree.Func.{Func}
use Rattle.xc_raw.specs.declared.rule.Rule.{Rule}
use Rattle.xc_raw.specs.declared.rule.Rule.TheVariants as rule
use Rattle.xc_raw.specs.declared.tree.Raw.{Raw, out-Raw}
use Rattle.xc_type_scopes.specs.declared.env.Env.{Env}
use Rattle.xc_type_scopes.specs.Env as env
use Rattle.xc_type_scopes.specs.Judge.{Judge}
use Rattle.xc_type_expressions.specs.declared.text.Text.{Text}
use Rattle.xc_type_expressions.specs.declared.types.Declared.{Declared}
use Rattle.xc_type_expressions.specs.Judged.{judged, span_in}
use Rattle.xc_type_statement_parts.specs.declared.answer.Answer.TheVariants as answer
use Rattle.xc_type_statement_parts.specs.Making.{one, followed}
use Rattle.xc_type_statements.specs.Stated.{statement}
use Rattle.xc_type_unit.specs.declared.scope.FileScope.{FileScope}
use Rattle.xc_type_unit.specs.declared.heads.Head.{Head}
use Rattle.xc_type_unit.specs.Items.{Item, by_part, in_turn}
use Rattle.xc_type_unit.specs.Globals as globals
use Rattle.xc_type_unit.specs.Functions as functions
use Rattle.xc_type_unit.specs.Functions.{Bodies, func_of}
use Rattle.xc_type_unit.specs.Texts as texts
use Rattle.xc_tree_sizes.specs.Nodes.{if_there, stmt_nodes, funcs_nodes}
use Rattle.xc_tree_sizes.proofs.Lists.{total_both}
use Rattle.xc_welltyped_sizes.specs.Made.{Makes, Holds}
use Rattle.xc_welltyped_sizes.proofs.Lowered.{stmt_less}
use Rattle.xc_welltyped_counts.proofs.Roles.{cost, costs, parts_less}
use Rattle.xc_welltyped_sizes.proofs.Statements.{body_most}

-- file scope ----------------------------------------------------------------------

holds_more : (n m : ℕ) (s : FileScope) → n ≤ m → Holds n (7 * n) s → Holds m (7 * m) s
holds_more n m s le h = let few = h.objects_few in record { objects_few = omega (arith, few, le); nodes_few = λ fs is. omega (arith, h.nodes_few fs is, le) }

-- the same objects and functions
same_scope : (n : ℕ) (s : FileScope) (e : Env) → Holds n (7 * n) s → Holds n (7 * n) (record s { env = e })
same_scope n s e h = record { objects_few = h.objects_few; nodes_few = h.nodes_few }

-- an item of so large a node adds at most so much
abbrev Adds : ℕ → Item → Type 0
Adds n i = (m : ℕ) (s : FileScope) → Holds m (7 * m) s → Holds (m + n) (7 * (m + n)) (i s).scope

adds_nothing : (n : ℕ) → Adds n (λ s. record { scope = s; faults = [] })
adds_nothing n m s h = holds_more m (m + n) s (omega arith) h

adds_fewer : (n m : ℕ) (i : Item) → n ≤ m → Adds n i → Adds m i
adds_fewer n m i less a k s h = holds_more (k + n) (k + m) (i s).scope (omega (arith, less)) (a k s h)

adds_part : {A : Type 0} (n : ℕ) (j : Judge A) (k : A → Item) → ((x : A) → Adds n (k x)) → Adds n (by_part j k)
adds_part n j k q m s h = let x = j s.env in q x.part m (record s { env = x.env }) (same_scope m s x.env h)

-- functions -------------------------------------------------------------------------

abbrev made_funcs : Option (List Func) → ℕ
made_funcs fs = if_there funcs_nodes fs

func_most : (h : Head) (params : ℕ) (e : Env) (ret : Option Ty) (body : Option Stmt) → made_funcs (one (func_of h params e ret body)) ≤ if_there stmt_nodes body
unfolding one
func_most h params e (Some ret) (Some body) = omega (arith, stmt_less e.addressed body)
func_most h params e (Some ret) None = omega arith
func_most h params e None body = omega arith

followed_most : (n m : ℕ) (a b : Option (List Func)) → ((fs : List Func) → a ≡ Some fs → funcs_nodes fs ≤ n) → made_funcs b ≤ m → (fs : List Func) → followed a b ≡ Some fs → funcs_nodes fs ≤ n + m
unfolding followed
followed_most n m (Some xs) (Some ys) f g fs is =
    let same : xs ++ ys ≡ fs = cc in
    subst (λ zs. funcs_nodes zs ≤ n + m) same (omega (arith, f xs refl, g, total_both (λ (f : Func). stmt_nodes f.body) xs ys))
followed_most n m (Some xs) None f g fs is = absurd cc
followed_most n m None b f g fs is = absurd cc

module _ (t : Text) where
  adds_turn : (f : Raw → Item) → ((n : Raw) → Adds (cost t n) (f n)) → (ns : List Raw) → Adds (costs t ns) (in_turn (map f ns))
  unfolding in_turn
  adds_turn f p [] m s h = adds_nothing 0 m s h
  adds_turn f p (n ∷ ns) m s h =
      let a = (f n s).scope in
      holds_more (m + cost t n + costs t ns) (m + costs t (n ∷ ns)) (in_turn (map f ns) a).scope (omega arith) (adds_turn f p ns (m + cost t n) a (p n m s h))

  -- objects -----------------------------------------------------------------------

  adds_begins : (at : Span) (ty : Option Ty) (is : List Raw) → Adds 1 (globals.begins t at ty is)
  unfolding globals.begins globals.with_object
  adds_begins at None is m s h = holds_more m (m + 1) _ (omega arith) (same_scope m s (globals.begun_unknown t is s.env).env h)
  adds_begins at (Some ty) is m s h =
      let cs = (globals.begun t (globals.fits (globals.cells_with ty s)) ty is s.env).part in
      let few = h.objects_few in
      record {
        objects_few = omega (arith, few, length-append s.globals (globals.object at ty cs ∷ []));
        nodes_few = λ fs is. omega (arith, h.nodes_few fs is);
      }

  adds_declares : (d : Declared) (is : List Raw) → Adds 1 (globals.declares t d is)
  adds_declares d is m s h = adds_part 1 (globals.named_global d.at d.ty (length s.globals) d.name) (λ x. globals.begins t d.at d.ty is) (λ x. adds_begins d.at d.ty is) m s h

  adds_global_by : (base : Option Ty) (ps : List Raw) → Adds 1 (globals.global_by t base ps)
  unfolding globals.global_by
  adds_global_by base [] = adds_nothing 1
  adds_global_by base (d ∷ is) = adds_part 1 ((judged t d).declared base) (λ x. globals.declares t x is) (λ x. adds_declares x is)

  adds_global : (base : Option Ty) (node : Raw) → Adds (cost t node) (globals.global t base node)
  unfolding globals.global
  adds_global base node = adds_fewer 1 (cost t node) (globals.global_by t base (out-Raw node).parts) (omega (arith, parts_less t node)) (adds_global_by base (out-Raw node).parts)

  adds_declaration : (ps : List Raw) → Adds (costs t ps) (globals.declaration t ps)
  unfolding globals.declaration globals.globals_by
  adds_declaration [] = adds_nothing 0
  adds_declaration (specs ∷ ds) = adds_fewer (costs t ds) (costs t (specs ∷ ds)) (by_part ((judged t specs).specified true) (λ base. in_turn (map (globals.global t base) ds))) (omega arith)
      (adds_part (costs t ds) ((judged t specs).specified true) (λ base. in_turn (map (globals.global t base) ds)) (λ base. adds_turn (globals.global t base) (adds_global base) ds))

  -- definitions ---------------------------------------------------------------------

  defined_most : (b : Bodies) (n : ℕ) (h : Head) (rest : List Raw) → Makes made_funcs (7 * costs t rest) (functions.defined_as t b n h rest)
  unfolding functions.defined_as functions.bodied
  defined_most b n h [] e = omega arith
  defined_most b n h (block ∷ rest) e =
      let a = (statement t block).body (answer.Function h.ret) false e in
      omega (arith, body_most t block (answer.Function h.ret) false e, func_most h (length e.locals) a.env h.ret a.part)

  inner_most : (b : Bodies) (n : ℕ) (base : Option Ty) (callee params : Raw) (rest : List Raw) → Makes made_funcs (7 * costs t rest) (functions.inner t b n base callee params rest)
  unfolding functions.inner
  inner_most b n base callee params rest e =
      let h = functions.headed t base callee params (env.in_function e) in
      let x = functions.named_function t b h.part h.part.name h.env in
      defined_most b n h.part rest x.env

  adds_inner : (b : Bodies) (base : Option Ty) (callee params : Raw) (rest : List Raw) → Adds (costs t rest) (λ s. by_part (functions.inner t b s.defined base callee params rest) (functions.with_funcs (functions.blocks rest)) s)
  adds_inner b base callee params rest m s h =
      let j = functions.inner t b s.defined base callee params rest s.env in
      let few = h.objects_few in
      record {
        objects_few = omega (arith, few);
        nodes_few = λ fs is. (let most = followed_most (7 * m) (7 * costs t rest) s.funcs j.part h.nodes_few (inner_most b s.defined base callee params rest s.env) fs is in omega (arith, most));
      }

  adds_function : (b : Bodies) (ps : List Raw) → Adds (costs t ps) (functions.function t b ps)
  unfolding functions.function
  adds_function b [] = adds_nothing 0
  adds_function b (x ∷ []) = adds_nothing (costs t (x ∷ []))
  adds_function b (x ∷ y ∷ []) = adds_nothing (costs t (x ∷ y ∷ []))
  adds_function b (specs ∷ callee ∷ params ∷ rest) =
      let k : Option Ty → Item = λ base s. by_part (functions.inner t b s.defined base callee params rest) (functions.with_funcs (functions.blocks rest)) s in
      adds_fewer (costs t rest) (costs t (specs ∷ callee ∷ params ∷ rest)) (by_part ((judged t specs).specified true) k) (omega arith)
      (adds_part (costs t rest) ((judged t specs).specified true) k (λ base. adds_inner b base callee params rest))

  -- items -------------------------------------------------------------------------------

  adds_by : (b : Bodies) (node : Raw) (r : Rule) → Adds (cost t node) (texts.item_by t b node r)
  unfolding texts.item_by
  adds_by b node rule.Pragma m s h = holds_more m (m + cost t node) _ (omega arith) (same_scope m s (env.with_pragma (span_in t node) s.env) h)
  adds_by b node rule.Declaration m s h = adds_fewer (costs t (out-Raw node).parts) (cost t node) (globals.declaration t (out-Raw node).parts) (omega (arith, parts_less t node)) (adds_declaration (out-Raw node).parts) m (texts.past_pragmas s) (same_scope m s (env.past_pragmas s.env) h)
  adds_by b node rule.Function m s h = adds_fewer (costs t (out-Raw node).parts) (cost t node) (functions.function t b (out-Raw node).parts) (omega (arith, parts_less t node)) (adds_function b (out-Raw node).parts) m (texts.past_pragmas s) (same_scope m s (env.past_pragmas s.env) h)
  adds_by b node _ m s h = adds_nothing (cost t node) m s h

  adds_item : (b : Bodies) (node : Raw) → Adds (cost t node) (texts.item t b node)
  unfolding texts.item
  adds_item b node = adds_by b node (out-Raw node).rule

  -- so much a whole text makes
  pub whole_holds : (raw : Raw) → Holds (cost t raw) (7 * cost t raw) (texts.whole t raw).scope
  unfolding texts.whole_by texts.items
  whole_holds raw =
      let nodes = (out-Raw raw).parts in
      let b = functions.bodies_of t nodes in
      let none : Holds 0 (7 * 0) texts.empty = record { objects_few = omega arith; nodes_few = λ fs is. (let same : [] ≡ fs = cc in subst (λ zs. funcs_nodes zs ≤ 7 * 0) same (omega arith)) } in
      let all = adds_turn (texts.item t b) (adds_item b) nodes 0 texts.empty none in
      let more = holds_more (0 + costs t nodes) (cost t raw) (in_turn (map (texts.item t b) nodes) texts.empty).scope (omega (arith, parts_less t raw)) all in
      same_scope (cost t raw) (in_turn (map (texts.item t b) nodes) texts.empty).scope (env.past_pragmas (in_turn (map (texts.item t b) nodes) texts.empty).scope.env) more
