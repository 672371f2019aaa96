-- What declarations and statements make.
use Rattle.std.proofs.Common.{◌≡◌, ℕ, ◌+◌, ◌*◌, ◌≤◌, List, [], ◌∷◌, map, length, Bool, true, false, refl, sym, ap, subst, arith}
use Rattle.std.specs.Prelude.{Option, Some, None, option_map}
use Rattle.xc_text_place.specs.declared.Span.{Span}
use Rattle.xc_tree.specs.declared.ty.Ty.{Ty}
use Rattle.xc_tree.specs.declared.expr.Expr.{Expr}
use Rattle.xc_tree.specs.declared.stmt.Stmt.{Stmt}
use Rattle.xc_tree.specs.declared.stmt.Capture.{Capture}
use Rattle.xc_tree.specs.declared.stmt.StmtKind.{Return}
use Rattle.xc_tree.specs.declared.stmt.LoopForm.{LoopForm}
use Rattle.xc_tree.specs.declared.stmt.LoopForm.TheVariants as form
use Rattle.xc_raw.specs.declared.rule.Rule.{Rule}
use Rattle.xc_raw.specs.declared.rule.Rule.TheVariants as rule
use Rattle.xc_raw.specs.declared.tree.Raw.{Raw, out-Raw}
use Rattle.xc_type_rule.specs.declared.found.Found.{Found}
use Rattle.xc_raw_parts.proofs.Nodes.{by_nodes_is}
use Rattle.xc_raw_parts.specs.Names.{captured_names}
use Rattle.xc_type_scopes.specs.Env as env
use Rattle.xc_type_expressions.specs.declared.text.Text.{Text}
use Rattle.xc_type_expressions.specs.Roles.{value}
use Rattle.xc_type_expressions.specs.Judged.{judged, span_in}
use Rattle.xc_type_statement_parts.specs.declared.answer.Answer.{Answer}
use Rattle.xc_type_statement_parts.specs.declared.make.Header.{Header}
use Rattle.xc_type_statement_parts.specs.declared.pragmas.Begun.{Begun}
use Rattle.xc_type_statement_parts.specs.Answers.{answer_ty, returned_value, return_part}
use Rattle.xc_type_statement_parts.specs.Making.{Stmts, stmt, one, followed, single, eval_made, block_made, if_made, headed, test_alone, loop_made, future_made}
use Rattle.xc_type_statement_parts.specs.Pragmas.{begun}
use Rattle.xc_type_statement_parts.specs.Declarations.{declared_object, initialised, declare_made, declares_by, declares, declares_all, declaration}
use Rattle.xc_type_statement_parts.specs.Futures as futures
use Rattle.xc_type_statements.specs.Stated.{Part, there, under, in_order, enclosed, tested, evaluated, eval_by, return_by, clause_by, test_clause, step_clause, else_by, if_by, while_by, do_by, clauses, repeated, for_inner, for_by, future_by, plain_by, stmt_by, stated_by, part_of, statement}
use Rattle.xc_tree_sizes.specs.Nodes.{total, if_there, inits_nodes, stmt_nodes, stmts_nodes}
use Rattle.xc_tree_sizes.proofs.Lists.{total_both}
use Rattle.xc_tree_sizes.proofs.Statements as stmts
use Rattle.xc_welltyped_claims.specs.Lists.{Each}
use Rattle.xc_welltyped_claims.proofs.Nodes as nodes
use Rattle.xc_welltyped_counts.proofs.Sizes.{captured_own}
use Rattle.xc_welltyped_sizes.specs.Made.{found_nodes, captures_nodes, Makes}
use Rattle.xc_welltyped_sizes.proofs.Forms.{made_nodes}
use Rattle.xc_welltyped_sizes.proofs.Operators.{suited_most}
use Rattle.xc_welltyped_counts.proofs.Roles.{cost, costs, parts_less}
use Rattle.xc_welltyped_sizes.proofs.Nodes.{value_most}
use Rattle.xc_welltyped_sizes.proofs.Initialisers.{local_most}
use Rattle.xc_welltyped_sizes.proofs.Futures.{awaited_most, begins_most}

-- putting together ----------------------------------------------------------------

abbrev made_stmt : Option Stmt → ℕ
made_stmt s = if_there stmt_nodes s

abbrev made_stmts : Stmts → ℕ
made_stmts ss = if_there stmts_nodes ss

one_most : (x : Option Stmt) → made_stmts (one x) ≤ made_stmt x
unfolding one
one_most None = omega arith
one_most (Some s) = omega arith

followed_most : (xs ys : Stmts) → made_stmts (followed xs ys) ≤ made_stmts xs + made_stmts ys
unfolding followed
followed_most None ys = omega arith
followed_most (Some xs) None = omega arith
followed_most (Some xs) (Some ys) = omega (arith, total_both stmt_nodes xs ys)

single_most : (ss : Stmts) → made_stmt (single ss) ≤ made_stmts ss
unfolding single
single_most None = omega arith
single_most (Some []) = omega arith
single_most (Some (s ∷ [])) = omega arith
single_most (Some (s ∷ r ∷ ss)) = omega arith

eval_most : (span : Span) (e : Option Expr) → made_stmt (eval_made span e) ≤ made_nodes e + 1
unfolding eval_made
eval_most span None = omega arith
eval_most span (Some e) = omega (arith, stmts.eval_is span e)

block_most : (span : Span) (ss : Stmts) → made_stmt (block_made span ss) ≤ made_stmts ss + 1
unfolding block_made
block_most span None = omega arith
block_most span (Some ss) = omega (arith, stmts.block_is span ss)

if_most : (span : Span) (test : Option Expr) (then : Option Stmt) (other : Option (Option Stmt)) → made_stmt (if_made span test then other) ≤ made_nodes test + made_stmt then + if_there made_stmt other + 1
unfolding if_made
if_most span None then other = omega arith
if_most span (Some c) None other = omega arith
if_most span (Some c) (Some s) None = omega arith
if_most span (Some c) (Some s) (Some None) = omega (arith, stmts.if_alone_is span c s)
if_most span (Some c) (Some s) (Some (Some o)) = omega (arith, stmts.if_is span c s o)

abbrev made_clause : Option (Option Expr) → ℕ
made_clause c = if_there made_nodes c

abbrev header_nodes : Header → ℕ
header_nodes h = stmts_nodes h.init + made_nodes h.test + made_nodes h.step

abbrev made_header : Option Header → ℕ
made_header h = if_there header_nodes h

headed_most : (init : Stmts) (test step : Option (Option Expr)) → made_header (headed init test step) ≤ made_stmts init + made_clause test + made_clause step
unfolding headed
headed_most None test step = omega arith
headed_most (Some init) None step = omega arith
headed_most (Some init) (Some test) None = omega arith
headed_most (Some init) (Some test) (Some step) = omega arith

there_most : (e : Option Expr) → made_clause (there e) ≤ made_nodes e
there_most None = omega arith
there_most (Some e) = omega arith

alone_most : (test : Option Expr) → made_header (test_alone test) ≤ made_nodes test
unfolding test_alone
alone_most test = omega (arith, headed_most (Some []) (there test) (Some None), there_most test)

loop_most : (span : Span) (f : LoopForm) (b : Begun) (h : Option Header) (body : Option Stmt) → made_stmt (loop_made span f b h body) ≤ made_header h + made_stmt body + 1
unfolding loop_made
loop_most span f b None body = omega arith
loop_most span f b (Some h) None = omega arith
loop_most span f b (Some h) (Some s) = omega (arith, stmts.loop_is span b.id f h.init h.test h.step s b.pragmas)

unmade : (span : Span) (f : LoopForm) (b : Begun) (h : Option Header) → made_stmt (loop_made span f b h None) ≡ 0
unfolding loop_made
unmade span f b None = refl
unmade span f b (Some h) = refl

future_most : (span : Span) (place : Option Expr) (captures : Option (List Capture)) (body : Option Stmt) → made_stmt (future_made span place captures body) ≤ made_nodes place + if_there captures_nodes captures + made_stmt body + 1
unfolding future_made
future_most span None captures body = omega arith
future_most span (Some p) None body = omega arith
future_most span (Some p) (Some cs) None = omega arith
future_most span (Some p) (Some cs) (Some s) = omega (arith, stmts.future_is span p cs s)

declare_most : (span : Span) (number : Option ℕ) (init : Option (List (ℕ × Expr))) → made_stmt (declare_made span number init) ≤ if_there inits_nodes init + 1
declare_most span None init = omega arith
declare_most span (Some n) None = omega arith
declare_most span (Some n) (Some init) = omega (arith, stmts.declare_is span n init)

return_most : (span : Span) (a : Answer) (v : Found) → made_stmt (return_part span a v) ≤ found_nodes v + 1
return_most span a v = omega (arith, by (returned_value a v).made, suited_most (answer_ty a) v)
  where
    by : (e : Option Expr) → made_stmt (option_map (λ e. stmt span (Return (Some e))) e) ≤ made_nodes e + 1
    by None = omega arith
    by (Some e) = omega (arith, stmts.return_is span (Some e))

module _ (t : Text) where
  -- declarations --------------------------------------------------------------------

  initialised_most : (ty : Option Ty) (is : List Raw) → Makes (if_there inits_nodes) (7 * costs t is) (initialised t ty is)
  unfolding initialised
  initialised_most ty [] e = omega arith
  initialised_most ty (i ∷ is) e = omega (arith, local_most t i ty e)

  declares_most_by : (span : Span) (base : Option Ty) (ps : List Raw) → Makes made_stmt (7 * costs t ps + 1) (declares_by t span base ps)
  unfolding declares_by
  declares_most_by span base [] e = omega arith
  declares_most_by span base (d ∷ is) e =
      let x = (judged t d).declared base e in
      let n = declared_object x.part x.env in
      let i = initialised t x.part.ty is n.env in
      omega (arith, initialised_most x.part.ty is n.env, declare_most span n.part i.part)

  declares_most : (base : Option Ty) (node : Raw) → Makes made_stmt (7 * cost t node) (declares t base node)
  declares_most base node e = omega (arith, parts_less t node, declares_most_by (span_in t node) base (out-Raw node).parts e)

  all_most : (base : Option Ty) (ds : List Raw) → Makes made_stmts (7 * costs t ds) (declares_all t base ds)
  unfolding declares_all
  all_most base [] e = omega arith
  all_most base (d ∷ ds) e =
      let x = declares t base d e in
      let xs = declares_all t base ds x.env in
      omega (arith, declares_most base d e, all_most base ds x.env, one_most x.part, followed_most (one x.part) xs.part)

  declaration_most : (ps : List Raw) → Makes made_stmts (7 * costs t ps) (declaration t ps)
  unfolding declaration
  declaration_most [] e = omega arith
  declaration_most (s ∷ ds) e =
      let base = (judged t s).specified false e in
      omega (arith, all_most base.part ds base.env)

  -- statements --------------------------------------------------------------------------

  abbrev tally : List Part → ℕ
  tally ps = total (map (λ p. cost t p.node) ps)

  record PartMakes (p : Part) : Type 0 where
    stated : (a : Answer) (looping : Bool) → Makes made_stmts (7 * cost t p.node) (p.stated a looping)
    body : (a : Answer) (looping : Bool) → Makes made_stmt (7 * cost t p.node) (p.body a looping)

  abbrev AreKnown : List Part → Type 0
  AreKnown = Each PartMakes

  order_most : (a : Answer) (looping : Bool) (ps : List Part) → AreKnown ps → Makes made_stmts (7 * tally ps) (in_order a looping ps)
  unfolding in_order
  order_most a looping [] p e = omega arith
  order_most a looping (x ∷ ps) p e =
      let s = x.stated a looping e in
      let ss = in_order a looping ps s.env in
      omega (arith, p.0.stated a looping e, order_most a looping ps p.1 s.env, followed_most s.part ss.part)

  enclosed_most : (span : Span) (a : Answer) (looping : Bool) (ps : List Part) → AreKnown ps → Makes made_stmt (7 * tally ps + 1) (enclosed span a looping ps)
  unfolding enclosed
  enclosed_most span a looping ps p e = omega (arith, order_most a looping ps p e, block_most span (in_order a looping ps e).part)

  under_most : (a : Answer) (looping : Bool) (x : Part) → PartMakes x → Makes made_stmt (7 * cost t x.node) (under a looping x)
  under_most a looping x p e = omega (arith, p.stated a looping e, single_most (x.stated a looping e).part)

  tested_most : (span : Span) (node : Raw) → Makes made_nodes (7 * cost t node) (tested t span node)
  unfolding tested
  tested_most span node e = omega (arith, value_most t node e)

  evaluated_most : (node : Raw) → Makes made_nodes (7 * cost t node) (evaluated t node)
  unfolding evaluated
  evaluated_most node e = omega (arith, value_most t node e)

  eval_by_most : (span : Span) (es : List Raw) → Makes made_stmt (7 * costs t es + 1) (eval_by t span es)
  unfolding eval_by
  eval_by_most span [] e = omega (arith, stmts.empty_is span)
  eval_by_most span (x ∷ es) e = omega (arith, evaluated_most x e, eval_most span (evaluated t x e).part)

  return_by_most : (span : Span) (a : Answer) (es : List Raw) → Makes made_stmt (7 * costs t es + 1) (return_by t span a es)
  unfolding return_by
  return_by_most span a [] e = omega (arith, stmts.return_is span None)
  return_by_most span a (x ∷ es) e = omega (arith, value_most t x e, return_most span a (value (judged t x) e).part)

  clause_by_most : (span : Span) (es : List Raw) → Makes made_stmts (7 * costs t es + 1) (clause_by t span es)
  unfolding clause_by
  clause_by_most span [] e = omega arith
  clause_by_most span (x ∷ es) e = let v = evaluated t x e in
      omega (arith, evaluated_most x e, eval_most span v.part, one_most (eval_made span v.part))

  test_most : (span : Span) (node : Raw) → Makes made_clause (7 * cost t node) (test_clause t span (out-Raw node).parts)
  unfolding test_clause
  test_most span node e = omega (arith, parts_less t node, by (out-Raw node).parts)
    where
      by : (es : List Raw) → made_clause (test_clause t span es e).part ≤ 7 * costs t es
      by [] = omega arith
      by (x ∷ es) = omega (arith, tested_most span x e, there_most (tested t span x e).part)

  step_most : (node : Raw) → Makes made_clause (7 * cost t node) (step_clause t (out-Raw node).parts)
  unfolding step_clause
  step_most node e = omega (arith, parts_less t node, by (out-Raw node).parts)
    where
      by : (es : List Raw) → made_clause (step_clause t es e).part ≤ 7 * costs t es
      by [] = omega arith
      by (x ∷ es) = omega (arith, evaluated_most x e, there_most (evaluated t x e).part)

  else_most : (a : Answer) (looping : Bool) (ps : List Part) → AreKnown ps → Makes (λ o. if_there made_stmt o) (7 * tally ps) (else_by a looping ps)
  unfolding else_by
  else_most a looping [] p e = omega arith
  else_most a looping (x ∷ ps) p e = by (under a looping x e).part (under_most a looping x p.0 e)
    where
      by : (s : Option Stmt) → made_stmt s ≤ 7 * cost t x.node → if_there made_stmt (there s) ≤ 7 * tally (x ∷ ps)
      by None h = omega arith
      by (Some s) h = omega (arith, h)

  if_by_most : (span : Span) (a : Answer) (looping : Bool) (ps : List Part) → AreKnown ps → Makes made_stmt (7 * tally ps + 1) (if_by t span a looping ps)
  unfolding if_by
  if_by_most span a looping [] p e = omega arith
  if_by_most span a looping (c ∷ []) p e = omega arith
  if_by_most span a looping (c ∷ x ∷ others) p e =
      let test = tested t span c.node e in
      let then = under a looping x test.env in
      let other = else_by a looping others then.env in
      omega (arith, tested_most span c.node e, under_most a looping x p.1.0 test.env, else_most a looping others p.1.1 then.env, if_most span test.part then.part other.part)

  while_most : (span : Span) (a : Answer) (ps : List Part) → AreKnown ps → Makes made_stmt (7 * tally ps + 1) (while_by t span a ps)
  unfolding while_by
  while_most span a [] p e = omega arith
  while_most span a (c ∷ []) p e = omega arith
  while_most span a (c ∷ x ∷ ps) p e =
      let b = begun t span.start e in
      let test = tested t span c.node b.env in
      let body = under a true x test.env in
      omega (arith, tested_most span c.node b.env, under_most a true x p.1.0 test.env, alone_most test.part, loop_most span form.While b.part (test_alone test.part) body.part)

  do_most : (span : Span) (a : Answer) (ps : List Part) → AreKnown ps → Makes made_stmt (7 * tally ps + 1) (do_by t span a ps)
  unfolding do_by
  do_most span a [] p e = omega arith
  do_most span a (c ∷ []) p e = omega arith
  do_most span a (x ∷ c ∷ ps) p e =
      let b = begun t span.start e in
      let body = under a true x b.env in
      let test = tested t span c.node body.env in
      omega (arith, under_most a true x p.0 b.env, tested_most span c.node body.env, alone_most test.part, loop_most span form.Do b.part (test_alone test.part) body.part)

  -- the clauses of a `for`, and what it repeats
  for_most : (span : Span) (a : Answer) (b : Begun) (ps : List Part) → AreKnown ps → Makes made_stmt (7 * tally ps + 1) (for_inner t span a b ps)
  unfolding for_inner clauses repeated
  for_most span a b [] p e = omega (arith, unmade span form.For b None)
  for_most span a b (x ∷ []) p e = omega (arith, unmade span form.For b None)
  for_most span a b (x ∷ y ∷ []) p e = omega (arith, unmade span form.For b None)
  for_most span a b (first ∷ test ∷ step ∷ []) p e = omega (arith, unmade span form.For b (clauses t span a (first ∷ test ∷ step ∷ []) e).part)
  for_most span a b (first ∷ test ∷ step ∷ body ∷ ps) p e =
      let i = first.stated a true e in
      let c = test_clause t span (out-Raw test.node).parts i.env in
      let s = step_clause t (out-Raw step.node).parts c.env in
      let x = under a true body s.env in
      omega (arith, p.0.stated a true e, test_most span test.node i.env, step_most step.node c.env, under_most a true body p.1.1.1.0 s.env, headed_most i.part c.part s.part, loop_most span form.For b (headed i.part c.part s.part) x.part)

  for_by_most : (span : Span) (a : Answer) (ps : List Part) → AreKnown ps → Makes made_stmt (7 * tally ps + 1) (for_by t span a ps)
  unfolding for_by
  for_by_most span a ps p e = let b = begun t span.start e in for_most span a b.part ps p (env.inside b.env)

  future_by_most : (node : Raw) (ps : List Part) → AreKnown ps → Makes made_stmt (3 * length (captured_names t.tokens.now node) + 7 * tally ps + 1) (future_by t node ps)
  unfolding future_by
  future_by_most node [] p e = omega arith
  future_by_most node (x ∷ []) p e = omega arith
  future_by_most node (x ∷ block ∷ ps) p e =
      let f = futures.awaited t (span_in t node) x.node e in
      let b = futures.begins t node (block.body f.part.1 false) f.env in
      omega (arith, awaited_most t (span_in t node) x.node e, begins_most t node (block.body f.part.1 false) (7 * cost t block.node) (p.1.0.body f.part.1 false) f.env, future_most (span_in t node) f.part.0 b.part.0 b.part.1)

  -- these are the parts of the node
  abbrev Of : Raw → List Part → Type 0
  Of node ps = tally ps ≡ costs t (out-Raw node).parts

  plain_most : (node : Raw) (r : Rule) (ps : List Part) (a : Answer) (looping : Bool) → AreKnown ps → Of node ps → Makes made_stmt (7 * cost t node) (plain_by t node r ps a looping)
  unfolding plain_by
  plain_most node rule.Block ps a looping p same e = omega (arith, parts_less t node, same, enclosed_most (span_in t node) a looping ps p (env.inside e))
  plain_most node rule.Eval ps a looping p same e = omega (arith, parts_less t node, eval_by_most (span_in t node) (out-Raw node).parts e)
  plain_most node rule.If ps a looping p same e = omega (arith, parts_less t node, same, if_by_most (span_in t node) a looping ps p e)
  plain_most node rule.Return ps a looping p same e = omega (arith, parts_less t node, return_by_most (span_in t node) a (out-Raw node).parts e)
  plain_most node rule.Break ps a looping p same e = omega (arith, parts_less t node, stmts.break_is (span_in t node))
  plain_most node rule.Continue ps a looping p same e = omega (arith, parts_less t node, stmts.continue_is (span_in t node))
  plain_most node rule.Future ps a looping p same e = omega (arith, parts_less t node, same, captured_own t.tokens.now node, future_by_most node ps p e)
  plain_most node _ ps a looping p same e = omega arith

  stmt_most : (node : Raw) (r : Rule) (ps : List Part) (a : Answer) (looping : Bool) → AreKnown ps → Of node ps → Makes made_stmt (7 * cost t node) (stmt_by t node r ps a looping)
  unfolding stmt_by
  stmt_most node rule.While ps a looping p same e = omega (arith, parts_less t node, same, while_most (span_in t node) a ps p e)
  stmt_most node rule.Do ps a looping p same e = omega (arith, parts_less t node, same, do_most (span_in t node) a ps p e)
  stmt_most node rule.For ps a looping p same e = omega (arith, parts_less t node, same, for_by_most (span_in t node) a ps p e)
  stmt_most node r ps a looping p same e = plain_most node r ps a looping p same (env.past_pragmas e)

  stated_most : (node : Raw) (r : Rule) (ps : List Part) (a : Answer) (looping : Bool) → AreKnown ps → Of node ps → Makes made_stmts (7 * cost t node) (stated_by t node r ps a looping)
  unfolding stated_by
  stated_most node rule.Pragma ps a looping p same e = omega arith
  stated_most node rule.Declaration ps a looping p same e = omega (arith, parts_less t node, declaration_most (out-Raw node).parts (env.past_pragmas e))
  stated_most node rule.ForDeclaration ps a looping p same e = omega (arith, parts_less t node, declaration_most (out-Raw node).parts e)
  stated_most node rule.Clause ps a looping p same e = omega (arith, parts_less t node, clause_by_most (span_in t node) (out-Raw node).parts e)
  stated_most node rule.Sub ps a looping p same e = omega (arith, parts_less t node, same, order_most a looping ps p e)
  stated_most node r ps a looping p same e = omega (arith, stmt_most node r ps a looping p same e, one_most (stmt_by t node r ps a looping e).part)

  -- nodes -------------------------------------------------------------------------------

  statement_is : (n : Raw) → statement t n ≡ part_of t n (map (statement t) (out-Raw n).parts)
  unfolding statement
  statement_is n = by_nodes_is (part_of t) n

  node_is : (n : Raw) → (statement t n).node ≡ n
  node_is n = ap (λ p. p.node) (statement_is n)

  tally_is : (ns : List Raw) → tally (map (statement t) ns) ≡ costs t ns
  tally_is [] = refl
  tally_is (n ∷ ns) = omega (arith, ap (cost t) (node_is n), tally_is ns)

  are_known : (ns : List Raw) → Each (λ n. PartMakes (statement t n)) ns → AreKnown (map (statement t) ns)
  are_known [] p = tt
  are_known (n ∷ ns) p = (p.0, are_known ns p.1)

  statement_known : (node : Raw) → PartMakes (statement t node)
  statement_known = nodes.by_parts (λ n. PartMakes (statement t n)) (λ n p. subst PartMakes (sym (statement_is n))
      (let ps = map (statement t) (out-Raw n).parts in
      let q = are_known (out-Raw n).parts p in
      let same = tally_is (out-Raw n).parts in
      record {
        stated = λ a looping. stated_most n (out-Raw n).rule ps a looping q same;
        body = λ a looping e. omega (arith, parts_less t n, same, enclosed_most (span_in t n) a looping ps q e);
      }))

  pub body_most : (node : Raw) (a : Answer) (looping : Bool) → Makes made_stmt (7 * cost t node) ((statement t node).body a looping)
  body_most node a looping e = omega (arith, ap (cost t) (node_is node), (statement_known node).body a looping e)
