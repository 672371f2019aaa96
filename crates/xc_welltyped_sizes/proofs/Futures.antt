-- What a `future` statement awaits and copies.
use Rattle.std.proofs.Common.{◌≡◌, ℕ, ◌+◌, ◌*◌, ◌≤◌, List, [], ◌∷◌, ◌++◌, map, length, arith}
use Rattle.std.specs.Prelude.{Option, Some, None, option_to_list, slice_range}
use Rattle.xc_text_place.specs.declared.Span.{Span}
use Rattle.xc_lex.specs.declared.token.Token.{Token}
use Rattle.xc_tree.specs.declared.expr.Expr.{Expr}
use Rattle.xc_tree.specs.declared.stmt.Stmt.{Stmt}
use Rattle.xc_tree.specs.declared.stmt.Capture.{Capture}
use Rattle.xc_raw.specs.declared.tree.Raw.{Raw, out-Raw}
use Rattle.xc_raw.specs.declared.word.Word.{Word}
use Rattle.xc_raw.specs.declared.word.Word.TheVariants as word
use Rattle.xc_raw.specs.declared.word.Access.TheVariants as access
use Rattle.xc_raw_parts.specs.declared.places.PlaceStep.{PlaceStep}
use Rattle.xc_raw_parts.specs.declared.places.PlaceStep.TheVariants as place
use Rattle.xc_raw_parts.specs.Words.{word_in}
use Rattle.xc_raw_parts.specs.Places.{member_of, members_from, steps_around, place_steps}
use Rattle.xc_raw_parts.specs.Names.{captured_names}
use Rattle.xc_type_rule.specs.declared.found.Found.{Found}
use Rattle.xc_type_scopes.specs.Env as env
use Rattle.xc_type_scopes.specs.Judge.{Judge}
use Rattle.xc_type_expressions.specs.declared.text.Text.{Text}
use Rattle.xc_type_expressions.specs.Roles.{value}
use Rattle.xc_type_expressions.specs.Places.{name_of, named}
use Rattle.xc_type_expressions.specs.Judged.{judged}
use Rattle.xc_type_statement_parts.specs.declared.futures.Copied.{Copied}
use Rattle.xc_type_statement_parts.specs.Making.{one, followed}
use Rattle.xc_type_statement_parts.specs.Declarations.{declared_object}
use Rattle.xc_type_statement_parts.specs.Futures as futures
use Rattle.xc_tree_sizes.specs.Nodes.{total, expr_nodes, if_there, stmt_nodes}
use Rattle.xc_welltyped_counts.specs.Sizes.{own_from}
use Rattle.xc_welltyped_sizes.specs.Made.{found_nodes, captures_nodes, Makes}
use Rattle.xc_welltyped_sizes.proofs.Forms.{made_nodes}
use Rattle.xc_welltyped_sizes.proofs.Values.{rvalue_most}
use Rattle.xc_welltyped_sizes.proofs.Places.{index_most, named_most, dotted_most, arrowed_most}
use Rattle.xc_welltyped_counts.proofs.Roles.{cost, costs, parts_less}
use Rattle.xc_welltyped_sizes.proofs.Nodes.{value_most}

-- steps -------------------------------------------------------------------------

-- how many members a place goes into
abbrev moves : List PlaceStep → ℕ
moves [] = 0
moves (place.Index ∷ ss) = moves ss
moves (place.Member k name ∷ ss) = 1 + moves ss

moves_both : (xs ys : List PlaceStep) → moves (xs ++ ys) ≡ moves xs + moves ys
moves_both [] ys = omega arith
moves_both (place.Index ∷ xs) ys = moves_both xs ys
moves_both (place.Member k name ∷ xs) ys = omega (arith, moves_both xs ys)

member_few : (n : ℕ) (w : Word) → moves (option_to_list (member_of n w)) ≤ 1
member_few n (word.Access a) = omega arith
member_few n _ = omega arith

members_few : (source : List ℕ) (n : ℕ) (ts : List Token) → moves (members_from source n ts) ≤ length ts
members_few source n [] = omega arith
members_few source n (t ∷ ts) = omega (arith, moves_both (option_to_list (member_of n (word_in source t))) (members_from source (n + 1) ts), member_few n (word_in source t), members_few source (n + 1) ts)

steps_few : (source : List ℕ) (ts : List Token) (at end : ℕ) (ps : List Raw) → moves (steps_around source ts at end ps) ≤ own_from ts at end ps
unfolding steps_around
steps_few source ts at end [] = members_few source at (slice_range ts at end)
steps_few source ts at end (p ∷ ps) =
    let here = members_from source at (slice_range ts at (out-Raw p).first) in
    omega (arith, moves_both here (place.Index ∷ steps_around source ts (out-Raw p).end end ps), members_few source at (slice_range ts at (out-Raw p).first), steps_few source ts (out-Raw p).end end ps)

-- copies ------------------------------------------------------------------------

abbrev copied_nodes : List Copied → ℕ
copied_nodes cs = total (map (λ (c : Copied). made_nodes c.from) cs)

capture_most : (number : Option ℕ) (from : Option Expr) → if_there (λ (c : Capture). expr_nodes c.from) (futures.capture_made number from) ≤ made_nodes from
capture_most None from = omega arith
capture_most (Some n) None = omega arith
capture_most (Some n) (Some e) = omega arith

one_more : (x : Option Capture) (xs : Option (List Capture)) → if_there captures_nodes (followed (one x) xs) ≤ if_there (λ (c : Capture). expr_nodes c.from) x + if_there captures_nodes xs
unfolding one followed
one_more None xs = omega arith
one_more (Some x) None = omega arith
one_more (Some x) (Some xs) = omega arith

copied_most : (cs : List Copied) → Makes (if_there captures_nodes) (copied_nodes cs) (futures.copied cs)
unfolding futures.copied
copied_most [] e = omega arith
copied_most (c ∷ cs) e =
    let x = futures.capture c e in
    let number = (declared_object c.declared e).part in
    omega (arith, capture_most number c.from, copied_most cs x.env, one_more x.part (futures.copied cs x.env).part)

module _ (t : Text) where
  reached_most : (at : Span) (a : Found) (ss : List PlaceStep) (is : List Raw) → Makes found_nodes (found_nodes a + 3 * moves ss + 7 * costs t is) (futures.reached t at a ss is)
  unfolding futures.reached futures.element futures.member
  reached_most at a [] is e = omega arith
  reached_most at a (place.Index ∷ ss) [] e = omega arith
  reached_most at a (place.Index ∷ ss) (i ∷ is) e =
      let span = futures.up_to at (futures.spot_of t (out-Raw i).end) in
      let v = value (judged t i) e in
      let b = futures.element t span at a i e in
      omega (arith, value_most t i e, index_most span v.env.structs.sizes at a v.part, reached_most span b.part ss is b.env)
  reached_most at a (place.Member access.Dot name ∷ ss) is e =
      let span = futures.up_to at (futures.spot_of t name) in
      let b = futures.member t span at a access.Dot name e in
      omega (arith, dotted_most span (futures.spot_of t name) (name_of t name) a e, reached_most span b.part ss is b.env)
  reached_most at a (place.Member access.Arrow name ∷ ss) is e =
      let span = futures.up_to at (futures.spot_of t name) in
      let v = futures.as_value at a e in
      let b = futures.member t span at a access.Arrow name e in
      omega (arith, rvalue_most e.structs.sizes at a, arrowed_most span (futures.spot_of t name) (name_of t name) v.part v.env, reached_most span b.part ss is b.env)

  pub awaited_most : (span : Span) (node : Raw) → Makes (λ x. made_nodes x.0) (7 * cost t node) (futures.awaited t span node)
  unfolding futures.awaited futures.placed
  awaited_most span node e =
      let at = futures.spot_of t (out-Raw node).first in
      let a = named at (name_of t (out-Raw node).first) e in
      let ss = place_steps t.source.now t.tokens.now node in
      omega (arith, parts_less t node, named_most at (name_of t (out-Raw node).first) e, steps_few t.source.now t.tokens.now (out-Raw node).first (out-Raw node).end (out-Raw node).parts, reached_most at a.part ss (out-Raw node).parts a.env)

  copies_most : (names : List ℕ) → Makes copied_nodes (3 * length names) (futures.copies t names)
  unfolding futures.copies futures.copy_of
  copies_most [] e = omega arith
  copies_most (n ∷ ns) e =
      let at = futures.spot_of t n in
      let a = named at (name_of t n) e in
      let c = futures.copy_of t n e in
      omega (arith, named_most at (name_of t n) e, rvalue_most a.env.structs.sizes at a.part, copies_most ns c.env)

  pub begins_most : (node : Raw) (body : Judge (Option Stmt)) (n : ℕ) → Makes (if_there stmt_nodes) n body →
      Makes (λ x. if_there captures_nodes x.0 + if_there stmt_nodes x.1) (3 * length (captured_names t.tokens.now node) + n) (futures.begins t node body)
  unfolding futures.begins futures.threaded
  begins_most node body n p e =
      let names = captured_names t.tokens.now node in
      let cs = futures.copies t names e in
      let captures = futures.copied cs.part (env.in_future cs.env) in
      omega (arith, copies_most names e, copied_most cs.part (env.in_future cs.env), p captures.env)
