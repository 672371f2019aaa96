-- No initialiser and no statement takes back a count that was passed.
use Rattle.std.proofs.Common.{◌≡◌, ℕ, ◌+◌, List, [], ◌∷◌, map, Bool, true, false, refl, sym, ◌∙◌, subst}
use Rattle.std.specs.Prelude.{Option, Some, None}
use Rattle.xc_text_place.specs.declared.Span.{Span}
use Rattle.xc_tree.specs.declared.ty.Ty.{Ty}
use Rattle.xc_tree.specs.declared.expr.Expr.{Expr}
use Rattle.xc_tree.specs.declared.stmt.Stmt.{Stmt}
use Rattle.xc_raw.specs.declared.rule.Rule.{Rule}
use Rattle.xc_raw.specs.declared.rule.Rule.TheVariants as rule
use Rattle.xc_raw.specs.declared.tree.Raw.{Raw, out-Raw}
use Rattle.xc_raw.specs.declared.word.Access.TheVariants as access
use Rattle.xc_type_rule.specs.declared.found.Found.{Found}
use Rattle.xc_type_initialiser_objects.specs.declared.target.Target.{Target}
use Rattle.xc_type_initialiser_objects.specs.declared.target.Part.{Part as Piece}
use Rattle.xc_type_initialiser_objects.specs.Parts.{part_of as piece_of}
use Rattle.xc_raw_parts.proofs.Nodes.{by_nodes_is}
use Rattle.xc_raw_parts.specs.declared.places.PlaceStep.{PlaceStep}
use Rattle.xc_raw_parts.specs.declared.places.PlaceStep.TheVariants as place
use Rattle.xc_raw_parts.specs.Places.{place_steps}
use Rattle.xc_raw_parts.specs.Names.{captured_names}
use Rattle.xc_type_scopes.specs.declared.env.Env.{Env}
use Rattle.xc_type_scopes.specs.Env as env
use Rattle.xc_type_scopes.specs.Judge.{Judge}
use Rattle.xc_type_expressions.specs.declared.text.Text.{Text}
use Rattle.xc_type_expressions.specs.declared.types.Declared.{Declared}
use Rattle.xc_type_expressions.specs.Roles.{value}
use Rattle.xc_type_expressions.specs.Places.{name_of, named}
use Rattle.xc_type_expressions.specs.Judged.{judged, span_in}
use Rattle.xc_type_initialisers.specs.Initialisers.{Initialiser, placed, fitted, valued, in_turn, braced, given_by, initialiser_of, initialiser, local_inits, global_inits}
use Rattle.xc_type_statement_parts.specs.declared.answer.Answer.{Answer}
use Rattle.xc_type_statement_parts.specs.declared.futures.Copied.{Copied}
use Rattle.xc_type_statement_parts.specs.Pragmas.{begun}
use Rattle.xc_type_statement_parts.specs.Declarations.{with_name, object_by, declared_object, initialised, declares_by, declares, declares_all, declaration}
use Rattle.xc_type_statement_parts.specs.Futures as futures
use Rattle.xc_type_statements.specs.Stated.{Part, in_order, enclosed, tested, evaluated, eval_by, return_by, clause_by, test_clause, step_clause, else_by, if_by, while_by, do_by, clauses, repeated, for_inner, for_by, future_by, plain_by, stmt_by, stated_by, part_of, statement}
use Rattle.xc_welltyped_claims.specs.Lists.{Each}
use Rattle.xc_welltyped_claims.specs.Judges.{Passing}
use Rattle.xc_welltyped_claims.proofs.Nodes.{by_parts}
use Rattle.xc_welltyped_expressions.proofs.Passing.{none_first, role_passing, passing_value, passing_named}
use Rattle.xc_welltyped_statements.specs.Inits.{InitialiserPassing}
use Rattle.xc_welltyped_statements.specs.Stmts.{PartPassing}

pub value_of : (t : Text) (node : Raw) → Passing (value (judged t node))
value_of t node = passing_value (judged t node) (role_passing t node).found

-- initialisers ----------------------------------------------------------------

passing_placed : (t : Text) (node : Raw) (outermost : Bool) (ty : Option Ty) (made : Option Expr) → Passing (placed t node outermost ty made)
unfolding placed
passing_placed t node false ty made = λ e h. h
passing_placed t node true ty made = λ e h. h

passing_fitted : (t : Text) (node : Raw) (ty : Option Ty) (v : Found) → Passing (fitted t node ty v)
unfolding fitted
passing_fitted t node ty v e h = h

passing_valued : (t : Text) (node : Raw) (outermost : Bool) (to : Target) → Passing (valued t node outermost to)
unfolding valued
passing_valued t node outermost to e h =
    let v = value (judged t node) e in
    let m = fitted t node to.ty v.part v.env in
    value_of t node e (passing_fitted t node to.ty v.part v.env (passing_placed t node outermost to.ty m.part m.env h))

pub passing_turn : (outermost : Bool) (to : Target) (k : ℕ) (is : List Initialiser) → Each InitialiserPassing is → Passing (in_turn outermost to k is)
unfolding in_turn
passing_turn outermost to k [] p = λ e h. h
passing_turn outermost to k (i ∷ is) p = λ e h. let q : Piece = piece_of e.structs to k in
    p.0 outermost q.target e (passing_turn outermost to (k + 1) is p.1 (i.given outermost q.target e).env h)

passing_braced : (span : Span) (is : List Initialiser) (outermost : Bool) (to : Target) → Each InitialiserPassing is → Passing (braced span is outermost to)
unfolding braced
passing_braced span is outermost to p e h = passing_turn outermost to 0 is p e h

passing_given : (t : Text) (node : Raw) (r : Rule) (is : List Initialiser) (outermost : Bool) (to : Target) → Each InitialiserPassing is → Passing (given_by t node r is outermost to)
unfolding given_by
passing_given t node rule.Initialisers is outermost to p = passing_braced (span_in t node) is outermost to p
passing_given t node r is outermost to p = passing_valued t node outermost to

pub initialiser_is : (t : Text) (node : Raw) → initialiser t node ≡ initialiser_of t node (map (initialiser t) (out-Raw node).parts)
unfolding initialiser
initialiser_is t node = by_nodes_is (initialiser_of t) node

pub each_map : {A B : Type 0} (P : B → Type 0) (f : A → B) (ns : List A) → Each (λ n. P (f n)) ns → Each P (map f ns)
each_map P f [] p = tt
each_map P f (n ∷ ns) p = (p.0, each_map P f ns p.1)

pub initialiser_passing : (t : Text) (node : Raw) → InitialiserPassing (initialiser t node)
initialiser_passing t = by_parts (λ n. InitialiserPassing (initialiser t n)) (λ n p. subst InitialiserPassing (sym (initialiser_is t n))
    (λ outermost to. passing_given t n (out-Raw n).rule (map (initialiser t) (out-Raw n).parts) outermost to (each_map InitialiserPassing (initialiser t) (out-Raw n).parts p)))

pub passing_local : (t : Text) (node : Raw) (ty : Option Ty) → Passing (local_inits t node ty)
unfolding local_inits
passing_local t node ty e h = initialiser_passing t node false _ e h

pub passing_global : (t : Text) (node : Raw) (ty : Option Ty) → Passing (global_inits t node ty)
unfolding global_inits
passing_global t node ty e h = initialiser_passing t node true _ e h

-- declarations --------------------------------------------------------------------

named_keeps : (name : ℕ) (at : Span) (ty : Option Ty) (e : Env) → (with_name name at ty e).over ≡ e.over
named_keeps name at None e = refl
named_keeps name at (Some ty) e = refl

pub passing_object_by : (at : Span) (ty : Option Ty) (o : Option ℕ) → Passing (object_by at ty o)
unfolding object_by
passing_object_by at ty None = λ e h. h
passing_object_by at ty (Some name) = λ e h. sym (named_keeps name at ty e) ∙ h

pub passing_object : (d : Declared) → Passing (declared_object d)
passing_object d = passing_object_by d.at d.ty d.name

pub passing_initialised : (t : Text) (ty : Option Ty) (is : List Raw) → Passing (initialised t ty is)
unfolding initialised
passing_initialised t ty [] = λ e h. h
passing_initialised t ty (i ∷ is) = passing_local t i ty

pub passing_declares : (t : Text) (span : Span) (base : Option Ty) (ps : List Raw) → Passing (declares_by t span base ps)
unfolding declares_by
passing_declares t span base [] = λ e h. h
passing_declares t span base (d ∷ is) = λ e h.
    let x = (judged t d).declared base e in
    let n = declared_object x.part x.env in
    (role_passing t d).declared base e (passing_object x.part x.env (passing_initialised t x.part.ty is n.env h))

pub passing_declares_all : (t : Text) (base : Option Ty) (ds : List Raw) → Passing (declares_all t base ds)
unfolding declares_all
passing_declares_all t base [] = λ e h. h
passing_declares_all t base (d ∷ ds) = λ e h. passing_declares t (span_in t d) base (out-Raw d).parts e (passing_declares_all t base ds (declares t base d e).env h)

pub passing_declaration : (t : Text) (ps : List Raw) → Passing (declaration t ps)
unfolding declaration
passing_declaration t [] = λ e h. h
passing_declaration t (s ∷ ds) = λ e h. (role_passing t s).specified false e (passing_declares_all t ((judged t s).specified false e).part ds ((judged t s).specified false e).env h)

-- future statements -----------------------------------------------------------------

pub passing_reached : (t : Text) (at : Span) (a : Found) (ss : List PlaceStep) (is : List Raw) → Passing (futures.reached t at a ss is)
unfolding futures.reached futures.element futures.member
passing_reached t at a [] is = λ e h. h
passing_reached t at a (place.Index ∷ ss) [] = λ e h. h
passing_reached t at a (place.Index ∷ ss) (i ∷ is) = λ e h.
    let span = futures.up_to at (futures.spot_of t (out-Raw i).end) in
    let b = futures.element t span at a i e in
    value_of t i e (passing_reached t span b.part ss is b.env h)
passing_reached t at a (place.Member access.Dot name ∷ ss) is = λ e h.
    let span = futures.up_to at (futures.spot_of t name) in
    let b = futures.member t span at a access.Dot name e in
    passing_reached t span b.part ss is b.env h
passing_reached t at a (place.Member access.Arrow name ∷ ss) is = λ e h.
    let span = futures.up_to at (futures.spot_of t name) in
    let b = futures.member t span at a access.Arrow name e in
    passing_reached t span b.part ss is b.env h

pub passing_awaited : (t : Text) (span : Span) (node : Raw) → Passing (futures.awaited t span node)
unfolding futures.awaited futures.placed
passing_awaited t span node e h =
    let at = futures.spot_of t (out-Raw node).first in
    let a = named at (name_of t (out-Raw node).first) e in
    passing_named at (name_of t (out-Raw node).first) e (passing_reached t at a.part (place_steps t.source.now t.tokens.now node) (out-Raw node).parts a.env h)

pub passing_copy : (t : Text) (token : ℕ) → Passing (futures.copy_of t token)
unfolding futures.copy_of
passing_copy t token e h = passing_named (futures.spot_of t token) (name_of t token) e h

pub passing_copies : (t : Text) (ns : List ℕ) → Passing (futures.copies t ns)
unfolding futures.copies
passing_copies t [] = λ e h. h
passing_copies t (n ∷ ns) = λ e h. passing_copy t n e (passing_copies t ns (futures.copy_of t n e).env h)

pub passing_copied : (cs : List Copied) → Passing (futures.copied cs)
unfolding futures.copied
passing_copied [] = λ e h. h
passing_copied (c ∷ cs) = λ e h. passing_object c.declared e (passing_copied cs (futures.capture c e).env h)

pub passing_begins : (t : Text) (node : Raw) (body : Judge (Option Stmt)) → Passing body → Passing (futures.begins t node body)
unfolding futures.begins futures.threaded
passing_begins t node body p e h =
    let cs = futures.captured t node e in
    passing_copies t (captured_names t.tokens.now node) e (passing_copied cs.part (env.in_future cs.env) (p (futures.copied cs.part (env.in_future cs.env)).env h))

-- statements --------------------------------------------------------------------------

pub passing_order : (a : Answer) (looping : Bool) (ps : List Part) → Each PartPassing ps → Passing (in_order a looping ps)
unfolding in_order
passing_order a looping [] p = λ e h. h
passing_order a looping (x ∷ ps) p = λ e h. p.0.stated a looping e (passing_order a looping ps p.1 (x.stated a looping e).env h)

pub passing_enclosed : (span : Span) (a : Answer) (looping : Bool) (ps : List Part) → Each PartPassing ps → Passing (enclosed span a looping ps)
unfolding enclosed
passing_enclosed span a looping ps p e h = passing_order a looping ps p e h

pub passing_tested : (t : Text) (span : Span) (node : Raw) → Passing (tested t span node)
unfolding tested
passing_tested t span node e h = value_of t node e h

pub passing_evaluated : (t : Text) (node : Raw) → Passing (evaluated t node)
unfolding evaluated
passing_evaluated t node e h = value_of t node e h

pub passing_eval : (t : Text) (span : Span) (es : List Raw) → Passing (eval_by t span es)
unfolding eval_by
passing_eval t span [] = λ e h. h
passing_eval t span (x ∷ es) = passing_evaluated t x

pub passing_return : (t : Text) (span : Span) (a : Answer) (es : List Raw) → Passing (return_by t span a es)
unfolding return_by
passing_return t span a [] = λ e h. h
passing_return t span a (x ∷ es) = λ e h. value_of t x e h

pub passing_clause : (t : Text) (span : Span) (es : List Raw) → Passing (clause_by t span es)
unfolding clause_by
passing_clause t span [] = λ e h. h
passing_clause t span (x ∷ es) = passing_evaluated t x

pub passing_test : (t : Text) (span : Span) (es : List Raw) → Passing (test_clause t span es)
unfolding test_clause
passing_test t span [] = λ e h. h
passing_test t span (x ∷ es) = passing_tested t span x

pub passing_step : (t : Text) (es : List Raw) → Passing (step_clause t es)
unfolding step_clause
passing_step t [] = λ e h. h
passing_step t (x ∷ es) = passing_evaluated t x

pub passing_else : (a : Answer) (looping : Bool) (ps : List Part) → Each PartPassing ps → Passing (else_by a looping ps)
unfolding else_by
passing_else a looping [] p = λ e h. h
passing_else a looping (x ∷ ps) p = p.0.stated a looping

passing_if : (t : Text) (span : Span) (a : Answer) (looping : Bool) (ps : List Part) → Each PartPassing ps → Passing (if_by t span a looping ps)
unfolding if_by
passing_if t span a looping [] p = λ e h. h
passing_if t span a looping (c ∷ []) p = λ e h. h
passing_if t span a looping (c ∷ x ∷ others) p = λ e h.
    let test = tested t span c.node e in
    passing_tested t span c.node e (p.1.0.stated a looping test.env (passing_else a looping others p.1.1 (x.stated a looping test.env).env h))

pub passing_begun : (t : Text) (at : ℕ) → Passing (begun t at)
unfolding begun
passing_begun t at e h = none_first e.over (env.over_with e.loops at) h

passing_while : (t : Text) (span : Span) (a : Answer) (ps : List Part) → Each PartPassing ps → Passing (while_by t span a ps)
unfolding while_by
passing_while t span a [] p = λ e h. h
passing_while t span a (c ∷ []) p = λ e h. h
passing_while t span a (c ∷ x ∷ ps) p = λ e h.
    let b = begun t span.start e in
    passing_begun t span.start e (passing_tested t span c.node b.env (p.1.0.stated a true (tested t span c.node b.env).env h))

passing_do : (t : Text) (span : Span) (a : Answer) (ps : List Part) → Each PartPassing ps → Passing (do_by t span a ps)
unfolding do_by
passing_do t span a [] p = λ e h. h
passing_do t span a (c ∷ []) p = λ e h. h
passing_do t span a (x ∷ c ∷ ps) p = λ e h.
    let b = begun t span.start e in
    passing_begun t span.start e (p.0.stated a true b.env (passing_tested t span c.node (x.stated a true b.env).env h))

pub passing_clauses : (t : Text) (span : Span) (a : Answer) (ps : List Part) → Each PartPassing ps → Passing (clauses t span a ps)
unfolding clauses
passing_clauses t span a [] p = λ e h. h
passing_clauses t span a (x ∷ []) p = λ e h. h
passing_clauses t span a (x ∷ y ∷ []) p = λ e h. h
passing_clauses t span a (first ∷ test ∷ step ∷ ps) p = λ e h.
    let i = first.stated a true e in
    let c = test_clause t span (out-Raw test.node).parts i.env in
    p.0.stated a true e (passing_test t span (out-Raw test.node).parts i.env (passing_step t (out-Raw step.node).parts c.env h))

pub passing_repeated : (a : Answer) (ps : List Part) → Each PartPassing ps → Passing (repeated a ps)
unfolding repeated
passing_repeated a [] p = λ e h. h
passing_repeated a (x ∷ []) p = λ e h. h
passing_repeated a (x ∷ y ∷ []) p = λ e h. h
passing_repeated a (x ∷ y ∷ z ∷ []) p = λ e h. h
passing_repeated a (x ∷ y ∷ z ∷ body ∷ ps) p = p.1.1.1.0.stated a true

passing_for : (t : Text) (span : Span) (a : Answer) (ps : List Part) → Each PartPassing ps → Passing (for_by t span a ps)
unfolding for_by for_inner
passing_for t span a ps p e h =
    let b = begun t span.start e in
    let c = clauses t span a ps (env.inside b.env) in
    passing_begun t span.start e (passing_clauses t span a ps p (env.inside b.env) (passing_repeated a ps p c.env h))

passing_future : (t : Text) (node : Raw) (ps : List Part) → Each PartPassing ps → Passing (future_by t node ps)
unfolding future_by
passing_future t node [] p = λ e h. h
passing_future t node (x ∷ []) p = λ e h. h
passing_future t node (x ∷ block ∷ ps) p = λ e h.
    let f = futures.awaited t (span_in t node) x.node e in
    passing_awaited t (span_in t node) x.node e (passing_begins t node (block.body f.part.1 false) (p.1.0.body f.part.1 false) f.env h)

pub passing_plain : (t : Text) (node : Raw) (r : Rule) (ps : List Part) (a : Answer) (looping : Bool) → Each PartPassing ps → Passing (plain_by t node r ps a looping)
unfolding plain_by
passing_plain t node rule.Block ps a looping p = λ e h. passing_enclosed (span_in t node) a looping ps p (env.inside e) h
passing_plain t node rule.Eval ps a looping p = passing_eval t (span_in t node) (out-Raw node).parts
passing_plain t node rule.If ps a looping p = passing_if t (span_in t node) a looping ps p
passing_plain t node rule.Return ps a looping p = passing_return t (span_in t node) a (out-Raw node).parts
passing_plain t node rule.Future ps a looping p = passing_future t node ps p
passing_plain t node _ ps a looping p = λ e h. h

pub passing_stmt : (t : Text) (node : Raw) (r : Rule) (ps : List Part) (a : Answer) (looping : Bool) → Each PartPassing ps → Passing (stmt_by t node r ps a looping)
unfolding stmt_by
passing_stmt t node rule.While ps a looping p = passing_while t (span_in t node) a ps p
passing_stmt t node rule.Do ps a looping p = passing_do t (span_in t node) a ps p
passing_stmt t node rule.For ps a looping p = passing_for t (span_in t node) a ps p
passing_stmt t node r ps a looping p = λ e h. passing_plain t node r ps a looping p (env.past_pragmas e) h

passing_stated : (t : Text) (node : Raw) (r : Rule) (ps : List Part) (a : Answer) (looping : Bool) → Each PartPassing ps → Passing (stated_by t node r ps a looping)
unfolding stated_by
passing_stated t node rule.Pragma ps a looping p = λ e h. h
passing_stated t node rule.Declaration ps a looping p = λ e h. passing_declaration t (out-Raw node).parts (env.past_pragmas e) h
passing_stated t node rule.ForDeclaration ps a looping p = passing_declaration t (out-Raw node).parts
passing_stated t node rule.Clause ps a looping p = passing_clause t (span_in t node) (out-Raw node).parts
passing_stated t node rule.Sub ps a looping p = passing_order a looping ps p
passing_stated t node r ps a looping p = λ e h. passing_stmt t node r ps a looping p e h

pub statement_is : (t : Text) (node : Raw) → statement t node ≡ part_of t node (map (statement t) (out-Raw node).parts)
unfolding statement
statement_is t node = by_nodes_is (part_of t) node

pub statement_passing : (t : Text) (node : Raw) → PartPassing (statement t node)
statement_passing t = by_parts (λ n. PartPassing (statement t n)) (λ n p. subst PartPassing (sym (statement_is t n))
    (let ps = map (statement t) (out-Raw n).parts in
    let q = each_map PartPassing (statement t) (out-Raw n).parts p in
    record {
      stated = λ a looping. passing_stated t n (out-Raw n).rule ps a looping q;
      body = λ a looping. passing_enclosed (span_in t n) a looping ps q;
    }))
