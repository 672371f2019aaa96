-- What initialisers, declarations and statements declare.
use Rattle.std.proofs.Common.{◌≡◌, ℕ, ◌+◌, ◌≤◌, List, [], ◌∷◌, map, length, length-append, Bool, true, false, refl, sym, ap, subst, arith}
use Rattle.std.specs.Prelude.{Option, Some, None}
use Rattle.xc_text_place.specs.declared.Span.{Span}
use Rattle.xc_tree.specs.declared.ty.Ty.{Ty}
use Rattle.xc_tree.specs.declared.expr.Expr.{Expr}
use Rattle.xc_tree.specs.declared.stmt.Stmt.{Stmt}
use Rattle.xc_raw.specs.declared.rule.Rule.{Rule}
use Rattle.xc_raw.specs.declared.rule.Rule.TheVariants as rule
use Rattle.xc_raw.specs.declared.tree.Raw.{Raw, out-Raw}
use Rattle.xc_raw.specs.declared.word.Access.TheVariants as access
use Rattle.xc_type_rule.specs.declared.found.Found.{Found}
use Rattle.xc_type_initialiser_objects.specs.declared.target.Target.{Target}
use Rattle.xc_type_initialiser_objects.specs.declared.target.Part.{Part as Piece}
use Rattle.xc_type_initialiser_objects.specs.Parts.{part_of as piece_of}
use Rattle.xc_raw_parts.proofs.Nodes.{by_nodes_is}
use Rattle.xc_raw_parts.specs.declared.places.PlaceStep.{PlaceStep}
use Rattle.xc_raw_parts.specs.declared.places.PlaceStep.TheVariants as place
use Rattle.xc_raw_parts.specs.Places.{place_steps}
use Rattle.xc_raw_parts.specs.Names.{captured_names}
use Rattle.xc_type_scopes.specs.declared.env.Env.{Env}
use Rattle.xc_type_scopes.specs.Env as env
use Rattle.xc_type_scopes.specs.Judge.{Judge}
use Rattle.xc_type_expressions.specs.declared.text.Text.{Text}
use Rattle.xc_type_expressions.specs.declared.types.Declared.{Declared}
use Rattle.xc_type_expressions.specs.Roles.{value}
use Rattle.xc_type_expressions.specs.Places.{name_of, named}
use Rattle.xc_type_expressions.specs.Judged.{judged, span_in}
use Rattle.xc_type_initialisers.specs.Initialisers.{placed, fitted, valued, in_turn, braced, given_by, initialiser_of, initialiser, local_inits, global_inits}
use Rattle.xc_type_statement_parts.specs.declared.answer.Answer.{Answer}
use Rattle.xc_type_statement_parts.specs.declared.futures.Copied.{Copied}
use Rattle.xc_type_statement_parts.specs.Pragmas.{begun}
use Rattle.xc_type_statement_parts.specs.Declarations.{with_name, object_by, declared_object, initialised, declares_by, declares, declares_all, declaration}
use Rattle.xc_type_statement_parts.specs.Futures as futures
use Rattle.xc_type_statements.specs.Stated.{Part, in_order, enclosed, tested, evaluated, eval_by, return_by, clause_by, test_clause, step_clause, else_by, if_by, while_by, do_by, clauses, repeated, for_inner, for_by, future_by, plain_by, stmt_by, stated_by, part_of, statement}
use Rattle.xc_welltyped_claims.specs.Lists.{Each}
use Rattle.xc_welltyped_claims.proofs.Nodes as nodes
use Rattle.xc_tree_sizes.specs.Nodes.{total}
use Rattle.xc_welltyped_counts.specs.Costs.{held, Costs, InitialiserCosts, PartCosts}
use Rattle.xc_welltyped_counts.proofs.Sizes.{captured_own}
use Rattle.xc_welltyped_counts.proofs.Roles.{keeps, costs_less, costs_named, cost, costs, role_known, value_costs, parts_less}

-- objects -----------------------------------------------------------------------

costs_name : (name : ℕ) (at : Span) (ty : Option Ty) (e : Env) → held (with_name name at ty e) ≤ held e + 1
costs_name name at None e = keeps 1 e
costs_name name at (Some ty) e = let many = length-append e.locals ((at, ty) ∷ []) in omega (arith, many)

costs_object_by : (at : Span) (ty : Option Ty) (o : Option ℕ) → Costs 1 (object_by at ty o)
unfolding object_by
costs_object_by at ty None e = keeps 1 e
costs_object_by at ty (Some name) e = costs_name name at ty e

pub costs_object : (d : Declared) → Costs 1 (declared_object d)
costs_object d = costs_object_by d.at d.ty d.name

-- copies ------------------------------------------------------------------------

costs_copied : (cs : List Copied) → Costs (length cs) (futures.copied cs)
unfolding futures.copied
costs_copied [] e = keeps 0 e
costs_copied (c ∷ cs) e = omega (arith, costs_object c.declared e, costs_copied cs (futures.capture c e).env)

module _ (t : Text) where
  -- initialisers ----------------------------------------------------------------

  costs_placed : (node : Raw) (outermost : Bool) (ty : Option Ty) (made : Option Expr) → Costs 0 (placed t node outermost ty made)
  unfolding placed
  costs_placed node false ty made = keeps 0
  costs_placed node true ty made = keeps 0

  costs_fitted : (node : Raw) (ty : Option Ty) (v : Found) → Costs 0 (fitted t node ty v)
  unfolding fitted
  costs_fitted node ty v = keeps 0

  costs_valued : (node : Raw) (outermost : Bool) (to : Target) → Costs (cost t node) (valued t node outermost to)
  unfolding valued
  costs_valued node outermost to e =
      let v = value (judged t node) e in
      let m = fitted t node to.ty v.part v.env in
      omega (arith, value_costs t node e, costs_fitted node to.ty v.part v.env, costs_placed node outermost to.ty m.part m.env)

  abbrev Given : Raw → Type 0
  Given n = InitialiserCosts (cost t n) (initialiser t n)

  costs_turn : (outermost : Bool) (to : Target) (k : ℕ) (ns : List Raw) → Each Given ns → Costs (costs t ns) (in_turn outermost to k (map (initialiser t) ns))
  unfolding in_turn
  costs_turn outermost to k [] p e = keeps 0 e
  costs_turn outermost to k (n ∷ ns) p e = let q : Piece = piece_of e.structs to k in
      omega (arith, p.0 outermost q.target e, costs_turn outermost to (k + 1) ns p.1 ((initialiser t n).given outermost q.target e).env)

  costs_braced : (span : Span) (ns : List Raw) (outermost : Bool) (to : Target) → Each Given ns → Costs (costs t ns) (braced span (map (initialiser t) ns) outermost to)
  unfolding braced
  costs_braced span ns outermost to p e = costs_turn outermost to 0 ns p e

  costs_given : (node : Raw) (r : Rule) (outermost : Bool) (to : Target) → Each Given (out-Raw node).parts → Costs (cost t node) (given_by t node r (map (initialiser t) (out-Raw node).parts) outermost to)
  unfolding given_by
  costs_given node rule.Initialisers outermost to p e = omega (arith, parts_less t node, costs_braced (span_in t node) (out-Raw node).parts outermost to p e)
  costs_given node r outermost to p e = costs_valued node outermost to e

  initialiser_given : (node : Raw) → Given node
  unfolding initialiser
  initialiser_given = nodes.by_parts Given (λ n p. subst (InitialiserCosts (cost t n)) (sym (by_nodes_is (initialiser_of t) n)) (λ outermost to. costs_given n (out-Raw n).rule outermost to p))

  costs_local : (node : Raw) (ty : Option Ty) → Costs (cost t node) (local_inits t node ty)
  unfolding local_inits
  costs_local node ty e = initialiser_given node false _ e

  pub costs_global : (node : Raw) (ty : Option Ty) → Costs (cost t node) (global_inits t node ty)
  unfolding global_inits
  costs_global node ty e = initialiser_given node true _ e

  -- declarations --------------------------------------------------------------------

  costs_initialised : (ty : Option Ty) (is : List Raw) → Costs (costs t is) (initialised t ty is)
  unfolding initialised
  costs_initialised ty [] e = keeps 0 e
  costs_initialised ty (i ∷ is) e = omega (arith, costs_local i ty e)

  costs_declares_by : (span : Span) (base : Option Ty) (ps : List Raw) → Costs (costs t ps) (declares_by t span base ps)
  unfolding declares_by
  costs_declares_by span base [] e = keeps 0 e
  costs_declares_by span base (d ∷ is) e =
      let x = (judged t d).declared base e in
      let n = declared_object x.part x.env in
      omega (arith, (role_known t d).declared base e, costs_object x.part x.env, costs_initialised x.part.ty is n.env)

  costs_declares : (base : Option Ty) (node : Raw) → Costs (cost t node) (declares t base node)
  costs_declares base node e = omega (arith, parts_less t node, costs_declares_by (span_in t node) base (out-Raw node).parts e)

  costs_declares_all : (base : Option Ty) (ds : List Raw) → Costs (costs t ds) (declares_all t base ds)
  unfolding declares_all
  costs_declares_all base [] e = keeps 0 e
  costs_declares_all base (d ∷ ds) e = omega (arith, costs_declares base d e, costs_declares_all base ds (declares t base d e).env)

  costs_declaration : (ps : List Raw) → Costs (costs t ps) (declaration t ps)
  unfolding declaration
  costs_declaration [] e = keeps 0 e
  costs_declaration (s ∷ ds) e =
      let base = (judged t s).specified false e in
      omega (arith, (role_known t s).specified false e, costs_declares_all base.part ds base.env)

  -- future statements -----------------------------------------------------------------

  costs_reached : (at : Span) (a : Found) (ss : List PlaceStep) (is : List Raw) → Costs (costs t is) (futures.reached t at a ss is)
  unfolding futures.reached futures.element futures.member
  costs_reached at a [] is e = keeps (costs t is) e
  costs_reached at a (place.Index ∷ ss) [] e = keeps 0 e
  costs_reached at a (place.Index ∷ ss) (i ∷ is) e =
      let span = futures.up_to at (futures.spot_of t (out-Raw i).end) in
      let b = futures.element t span at a i e in
      omega (arith, value_costs t i e, costs_reached span b.part ss is b.env)
  costs_reached at a (place.Member access.Dot name ∷ ss) is e =
      let span = futures.up_to at (futures.spot_of t name) in
      let b = futures.member t span at a access.Dot name e in
      costs_reached span b.part ss is b.env
  costs_reached at a (place.Member access.Arrow name ∷ ss) is e =
      let span = futures.up_to at (futures.spot_of t name) in
      let b = futures.member t span at a access.Arrow name e in
      costs_reached span b.part ss is b.env

  costs_awaited : (span : Span) (node : Raw) → Costs (cost t node) (futures.awaited t span node)
  unfolding futures.awaited futures.placed
  costs_awaited span node e =
      let at = futures.spot_of t (out-Raw node).first in
      let a = named at (name_of t (out-Raw node).first) e in
      omega (arith, parts_less t node, costs_named at (name_of t (out-Raw node).first) e, costs_reached at a.part (place_steps t.source.now t.tokens.now node) (out-Raw node).parts a.env)

  costs_copy : (token : ℕ) → Costs 0 (futures.copy_of t token)
  unfolding futures.copy_of
  costs_copy token e = costs_named (futures.spot_of t token) (name_of t token) e

  costs_copies : (ns : List ℕ) → Costs 0 (futures.copies t ns)
  unfolding futures.copies
  costs_copies [] e = keeps 0 e
  costs_copies (n ∷ ns) e = omega (arith, costs_copy n e, costs_copies ns (futures.copy_of t n e).env)

  -- one for each name
  copies_many : (ns : List ℕ) (e : Env) → length (futures.copies t ns e).part ≡ length ns
  unfolding futures.copies
  copies_many [] e = refl
  copies_many (n ∷ ns) e = let more = copies_many ns (futures.copy_of t n e).env in omega (arith, more)

  costs_begins : (node : Raw) (body : Judge (Option Stmt)) (n : ℕ) → Costs n body → Costs (length (captured_names t.tokens.now node) + n) (futures.begins t node body)
  unfolding futures.begins futures.threaded
  costs_begins node body n p e =
      let names = captured_names t.tokens.now node in
      let cs = futures.copies t names e in
      let captures = futures.copied cs.part (env.in_future cs.env) in
      omega (arith, costs_copies names e, copies_many names e, costs_copied cs.part (env.in_future cs.env), p captures.env)

  -- statements --------------------------------------------------------------------------

  abbrev tally : List Part → ℕ
  tally ps = total (map (λ p. cost t p.node) ps)

  abbrev AreKnown : List Part → Type 0
  AreKnown = Each (PartCosts t.tokens.now)

  costs_order : (a : Answer) (looping : Bool) (ps : List Part) → AreKnown ps → Costs (tally ps) (in_order a looping ps)
  unfolding in_order
  costs_order a looping [] p e = keeps 0 e
  costs_order a looping (x ∷ ps) p e = omega (arith, p.0.stated a looping e, costs_order a looping ps p.1 (x.stated a looping e).env)

  costs_enclosed : (span : Span) (a : Answer) (looping : Bool) (ps : List Part) → AreKnown ps → Costs (tally ps) (enclosed span a looping ps)
  unfolding enclosed
  costs_enclosed span a looping ps p e = costs_order a looping ps p e

  costs_tested : (span : Span) (node : Raw) → Costs (cost t node) (tested t span node)
  unfolding tested
  costs_tested span node e = value_costs t node e

  costs_evaluated : (node : Raw) → Costs (cost t node) (evaluated t node)
  unfolding evaluated
  costs_evaluated node e = value_costs t node e

  costs_eval : (span : Span) (es : List Raw) → Costs (costs t es) (eval_by t span es)
  unfolding eval_by
  costs_eval span [] e = keeps 0 e
  costs_eval span (x ∷ es) e = omega (arith, costs_evaluated x e)

  costs_return : (span : Span) (a : Answer) (es : List Raw) → Costs (costs t es) (return_by t span a es)
  unfolding return_by
  costs_return span a [] e = keeps 0 e
  costs_return span a (x ∷ es) e = omega (arith, value_costs t x e)

  costs_clause : (span : Span) (es : List Raw) → Costs (costs t es) (clause_by t span es)
  unfolding clause_by
  costs_clause span [] e = keeps 0 e
  costs_clause span (x ∷ es) e = omega (arith, costs_evaluated x e)

  costs_test : (span : Span) (node : Raw) → Costs (cost t node) (test_clause t span (out-Raw node).parts)
  unfolding test_clause
  costs_test span node e = omega (arith, parts_less t node, by (out-Raw node).parts)
    where
      by : (es : List Raw) → held (test_clause t span es e).env ≤ held e + costs t es
      by [] = keeps 0 e
      by (x ∷ es) = omega (arith, costs_tested span x e)

  costs_step : (node : Raw) → Costs (cost t node) (step_clause t (out-Raw node).parts)
  unfolding step_clause
  costs_step node e = omega (arith, parts_less t node, by (out-Raw node).parts)
    where
      by : (es : List Raw) → held (step_clause t es e).env ≤ held e + costs t es
      by [] = keeps 0 e
      by (x ∷ es) = omega (arith, costs_evaluated x e)

  costs_else : (a : Answer) (looping : Bool) (ps : List Part) → AreKnown ps → Costs (tally ps) (else_by a looping ps)
  unfolding else_by
  costs_else a looping [] p e = keeps 0 e
  costs_else a looping (x ∷ ps) p e = omega (arith, p.0.stated a looping e)

  costs_if : (span : Span) (a : Answer) (looping : Bool) (ps : List Part) → AreKnown ps → Costs (tally ps) (if_by t span a looping ps)
  unfolding if_by
  costs_if span a looping [] p e = keeps 0 e
  costs_if span a looping (c ∷ []) p e = keeps (tally (c ∷ [])) e
  costs_if span a looping (c ∷ x ∷ others) p e =
      let test = tested t span c.node e in
      let then = x.stated a looping test.env in
      omega (arith, costs_tested span c.node e, p.1.0.stated a looping test.env, costs_else a looping others p.1.1 then.env)

  costs_begun : (at : ℕ) → Costs 0 (begun t at)
  unfolding begun
  costs_begun at = keeps 0

  costs_while : (span : Span) (a : Answer) (ps : List Part) → AreKnown ps → Costs (tally ps) (while_by t span a ps)
  unfolding while_by
  costs_while span a [] p e = keeps 0 e
  costs_while span a (c ∷ []) p e = keeps (tally (c ∷ [])) e
  costs_while span a (c ∷ x ∷ ps) p e =
      let b = begun t span.start e in
      let test = tested t span c.node b.env in
      omega (arith, costs_begun span.start e, costs_tested span c.node b.env, p.1.0.stated a true test.env)

  costs_do : (span : Span) (a : Answer) (ps : List Part) → AreKnown ps → Costs (tally ps) (do_by t span a ps)
  unfolding do_by
  costs_do span a [] p e = keeps 0 e
  costs_do span a (c ∷ []) p e = keeps (tally (c ∷ [])) e
  costs_do span a (x ∷ c ∷ ps) p e =
      let b = begun t span.start e in
      let body = x.stated a true b.env in
      omega (arith, costs_begun span.start e, p.0.stated a true b.env, costs_tested span c.node body.env)

  -- the clauses of a `for`, and what it repeats
  costs_clauses : (span : Span) (a : Answer) (ps : List Part) → AreKnown ps → (e : Env) → held (repeated a ps (clauses t span a ps e).env).env ≤ held e + tally ps
  unfolding clauses repeated
  costs_clauses span a [] p e = keeps 0 e
  costs_clauses span a (x ∷ []) p e = keeps (tally (x ∷ [])) e
  costs_clauses span a (x ∷ y ∷ []) p e = keeps (tally (x ∷ y ∷ [])) e
  costs_clauses span a (first ∷ test ∷ step ∷ ps) p e =
      let i = first.stated a true e in
      let c = test_clause t span (out-Raw test.node).parts i.env in
      let s = step_clause t (out-Raw step.node).parts c.env in
      omega (arith, p.0.stated a true e, costs_test span test.node i.env, costs_step step.node c.env, by ps p.1.1.1 s.env)
    where
      by : (ps : List Part) → AreKnown ps → (e : Env) → held (repeated a (first ∷ test ∷ step ∷ ps) e).env ≤ held e + tally ps
      by [] p e = keeps 0 e
      by (body ∷ ps) p e = omega (arith, p.0.stated a true e)

  costs_for : (span : Span) (a : Answer) (ps : List Part) → AreKnown ps → Costs (tally ps) (for_by t span a ps)
  unfolding for_by for_inner
  costs_for span a ps p e =
      let b = begun t span.start e in
      omega (arith, costs_begun span.start e, costs_clauses span a ps p (env.inside b.env))

  costs_future : (node : Raw) (ps : List Part) → AreKnown ps → Costs (length (captured_names t.tokens.now node) + tally ps) (future_by t node ps)
  unfolding future_by
  costs_future node [] p e = keeps (length (captured_names t.tokens.now node) + tally []) e
  costs_future node (x ∷ []) p e = keeps (length (captured_names t.tokens.now node) + tally (x ∷ [])) e
  costs_future node (x ∷ block ∷ ps) p e =
      let f = futures.awaited t (span_in t node) x.node e in
      omega (arith, costs_awaited (span_in t node) x.node e, costs_begins node (block.body f.part.1 false) (cost t block.node) (p.1.0.body f.part.1 false) f.env)

  -- these are the parts of the node
  abbrev Of : Raw → List Part → Type 0
  Of node ps = tally ps ≡ costs t (out-Raw node).parts

  costs_plain : (node : Raw) (r : Rule) (ps : List Part) (a : Answer) (looping : Bool) → AreKnown ps → Of node ps → Costs (cost t node) (plain_by t node r ps a looping)
  unfolding plain_by
  costs_plain node rule.Block ps a looping p same e = omega (arith, parts_less t node, same, costs_enclosed (span_in t node) a looping ps p (env.inside e))
  costs_plain node rule.Eval ps a looping p same e = omega (arith, parts_less t node, costs_eval (span_in t node) (out-Raw node).parts e)
  costs_plain node rule.If ps a looping p same e = omega (arith, parts_less t node, same, costs_if (span_in t node) a looping ps p e)
  costs_plain node rule.Return ps a looping p same e = omega (arith, parts_less t node, costs_return (span_in t node) a (out-Raw node).parts e)
  costs_plain node rule.Future ps a looping p same e = omega (arith, parts_less t node, same, captured_own t.tokens.now node, costs_future node ps p e)
  costs_plain node _ ps a looping p same e = keeps (cost t node) e

  costs_stmt : (node : Raw) (r : Rule) (ps : List Part) (a : Answer) (looping : Bool) → AreKnown ps → Of node ps → Costs (cost t node) (stmt_by t node r ps a looping)
  unfolding stmt_by
  costs_stmt node rule.While ps a looping p same e = omega (arith, parts_less t node, same, costs_while (span_in t node) a ps p e)
  costs_stmt node rule.Do ps a looping p same e = omega (arith, parts_less t node, same, costs_do (span_in t node) a ps p e)
  costs_stmt node rule.For ps a looping p same e = omega (arith, parts_less t node, same, costs_for (span_in t node) a ps p e)
  costs_stmt node r ps a looping p same e = costs_plain node r ps a looping p same (env.past_pragmas e)

  costs_stated : (node : Raw) (r : Rule) (ps : List Part) (a : Answer) (looping : Bool) → AreKnown ps → Of node ps → Costs (cost t node) (stated_by t node r ps a looping)
  unfolding stated_by
  costs_stated node rule.Pragma ps a looping p same e = keeps (cost t node) e
  costs_stated node rule.Declaration ps a looping p same e = omega (arith, parts_less t node, costs_declaration (out-Raw node).parts (env.past_pragmas e))
  costs_stated node rule.ForDeclaration ps a looping p same e = omega (arith, parts_less t node, costs_declaration (out-Raw node).parts e)
  costs_stated node rule.Clause ps a looping p same e = omega (arith, parts_less t node, costs_clause (span_in t node) (out-Raw node).parts e)
  costs_stated node rule.Sub ps a looping p same e = omega (arith, parts_less t node, same, costs_order a looping ps p e)
  costs_stated node r ps a looping p same e = costs_stmt node r ps a looping p same e

  -- nodes -------------------------------------------------------------------------------

  statement_is : (n : Raw) → statement t n ≡ part_of t n (map (statement t) (out-Raw n).parts)
  unfolding statement
  statement_is n = by_nodes_is (part_of t) n

  node_is : (n : Raw) → (statement t n).node ≡ n
  node_is n = ap (λ p. p.node) (statement_is n)

  tally_is : (ns : List Raw) → tally (map (statement t) ns) ≡ costs t ns
  tally_is [] = refl
  tally_is (n ∷ ns) = omega (arith, ap (cost t) (node_is n), tally_is ns)

  are_known : (ns : List Raw) → Each (λ n. PartCosts t.tokens.now (statement t n)) ns → AreKnown (map (statement t) ns)
  are_known [] p = tt
  are_known (n ∷ ns) p = (p.0, are_known ns p.1)

  statement_known : (node : Raw) → PartCosts t.tokens.now (statement t node)
  statement_known = nodes.by_parts (λ n. PartCosts t.tokens.now (statement t n)) (λ n p. subst (PartCosts t.tokens.now) (sym (statement_is n))
      (let ps = map (statement t) (out-Raw n).parts in
      let q = are_known (out-Raw n).parts p in
      let same = tally_is (out-Raw n).parts in
      record {
        stated = λ a looping. costs_stated n (out-Raw n).rule ps a looping q same;
        body = λ a looping e. omega (arith, parts_less t n, same, costs_enclosed (span_in t n) a looping ps q e);
      }))

  pub body_costs : (node : Raw) (a : Answer) (looping : Bool) → Costs (cost t node) ((statement t node).body a looping)
  body_costs node a looping = costs_less (cost t (statement t node).node) (cost t node) ((statement t node).body a looping) (omega (arith, ap (cost t) (node_is node))) ((statement_known node).body a looping)
