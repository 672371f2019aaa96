-- What calls make.
use Rattle.std.proofs.Common.{ℕ, ◌+◌, ◌≤◌, List, [], ◌∷◌, map, Bool, true, false, cond, arith}
use Rattle.std.specs.Prelude.{Option, Some, None, option_map}
use Rattle.xc_text_place.specs.declared.Span.{Span}
use Rattle.xc_word.specs.declared.memory.Kind.{Kind}
use Rattle.xc_word.specs.declared.memory.Kind.TheVariants as kind
use Rattle.xc_tree.specs.declared.ty.Ty.{Ty}
use Rattle.xc_tree.specs.declared.expr.Expr.{Expr}
use Rattle.xc_tree.specs.declared.expr.ExprKind.{roll-ExprKind}
use Rattle.xc_tree.specs.declared.expr.ExprKind.TheOpen.{ExprKind-F}
use Rattle.xc_type_rule.specs.declared.found.Found.{Found}
use Rattle.xc_type_rule.specs.declared.found.Thing.{Thing}
use Rattle.xc_type_rule.specs.declared.found.Thing.TheVariants as thing
use Rattle.xc_type_rule.specs.Making.{both}
use Rattle.xc_type_rule_calls.specs.declared.print.Text.{Text as Printed}
use Rattle.xc_type_rule_calls.specs.Arguments.{given_by, held_by, given_to, all_made}
use Rattle.xc_type_rule_calls.specs.Accesses.{scalar_of, access_of, update_of, access_part, updated_part, update_part}
use Rattle.xc_type_rule_calls.specs.Calls.{call_of, called_part, call_part}
use Rattle.xc_type_rule_calls.specs.Prints.{is_short, print_of, print_kind, print_part}
use Rattle.xc_type_names.specs.declared.numbers.Reserved.{Reserved}
use Rattle.xc_type_names.specs.declared.numbers.Reserved.TheVariants.{Printf, ReadFe, ReadFf, ReadXx, WriteEf, WriteFf, WriteXf, Purge, FetchAdd}
use Rattle.xc_type_scopes.specs.Env as env
use Rattle.xc_type_expressions.specs.Calls.{accessing, updating, printing, calling_reserved, calling}
use Rattle.xc_tree_sizes.specs.Nodes.{total, if_there, kind_nodes, expr_nodes}
use Rattle.xc_tree_sizes.proofs.Nodes.{form_is}
use Rattle.xc_welltyped_sizes.specs.Made.{found_nodes, Makes}
use Rattle.xc_welltyped_sizes.proofs.Forms.{made_nodes, forms_nodes, found_most, one_part, two_parts}
use Rattle.xc_welltyped_sizes.proofs.Values.{read_nodes, given_most}

abbrev pub all_nodes : List Found → ℕ
all_nodes fs = total (map found_nodes fs)

abbrev exprs_nodes : List Expr → ℕ
exprs_nodes es = total (map expr_nodes es)

-- forms ----------------------------------------------------------------------------

purge_nodes : (e : Expr) → kind_nodes (access_of kind.Purge e) ≤ expr_nodes e + 1
unfolding roll-ExprKind denote.Hole.Carrier.roll
purge_nodes e = omega (arith, form_is (ExprKind-F.Purge e))

access_nodes : (k : Kind) (e : Expr) → kind_nodes (access_of k e) ≤ expr_nodes e + 1
access_nodes kind.Purge e = purge_nodes e
access_nodes k e = read_nodes k e

fetch_nodes : (a b : Expr) → kind_nodes (update_of kind.Add a b) ≤ expr_nodes a + expr_nodes b + 1
unfolding roll-ExprKind denote.Hole.Carrier.roll
fetch_nodes a b = omega (arith, form_is (ExprKind-F.FetchAdd a b))

update_nodes : (k : Kind) (a b : Expr) → kind_nodes (update_of k a b) ≤ expr_nodes a + expr_nodes b + 1
unfolding roll-ExprKind denote.Hole.Carrier.roll
update_nodes kind.Add a b = fetch_nodes a b
update_nodes k a b = omega (arith, form_is (ExprKind-F.Write k a b))

call_nodes : (n : ℕ) (es : List Expr) → kind_nodes (call_of n es) ≤ exprs_nodes es + 1
unfolding roll-ExprKind denote.Hole.Carrier.roll
call_nodes n es = omega (arith, form_is (ExprKind-F.Call n es))

print_nodes : (n : ℕ) (es : List Expr) → kind_nodes (print_of n es) ≤ exprs_nodes es + 1
unfolding roll-ExprKind denote.Hole.Carrier.roll
print_nodes n es = omega (arith, form_is (ExprKind-F.Print n es))

-- arguments ------------------------------------------------------------------------

given_by_most : (ty : Option Ty) (f : Found) → found_nodes (given_by ty f) ≤ found_nodes f
given_by_most None f = omega arith
given_by_most (Some ty) f = given_most ty f

given_to_most : (ps : List (Option Ty)) (fs : List Found) → all_nodes (given_to ps fs) ≤ all_nodes fs
given_to_most [] fs = omega arith
given_to_most (p ∷ ps) [] = omega arith
given_to_most (p ∷ ps) (f ∷ fs) = omega (arith, given_by_most (held_by p) f, given_to_most ps fs)

made_most : (fs : List Found) → if_there exprs_nodes (all_made fs) ≤ all_nodes fs
unfolding all_made both
made_most [] = omega arith
made_most (f ∷ fs) = by f.made (all_made fs) (made_most fs)
  where
    by : (e : Option Expr) (es : Option (List Expr)) → if_there exprs_nodes es ≤ all_nodes fs → if_there exprs_nodes (both (λ e es. e ∷ es) e es) ≤ made_nodes e + all_nodes fs
    by None es h = omega arith
    by (Some e) None h = omega arith
    by (Some e) (Some es) h = omega (arith, h)

-- calls ----------------------------------------------------------------------------

module _ (span : Span) where
  access_most : (k : Kind) (p : Found) → found_nodes (access_part span k p) ≤ found_nodes p + 1
  unfolding access_part
  access_most k p = found_most span _ _ _ (one_part (access_of k) 1 (access_nodes k) p.made)

  update_most : (k : Kind) (p v : Found) → found_nodes (update_part span k p v) ≤ found_nodes p + found_nodes v + 1
  unfolding update_part updated_part
  update_most k p v =
      let w = given_by (scalar_of p.known) v in
      found_most span _ _ _ (omega (arith, two_parts (update_of k) (update_nodes k) p.made w.made, given_by_most (scalar_of p.known) v))

  called_most : (number : Option ℕ) (fs : List Found) → forms_nodes (both call_of number (all_made fs)) ≤ all_nodes fs + 1
  unfolding both
  called_most number fs = by number (all_made fs) (made_most fs)
    where
      by : (o : Option ℕ) (es : Option (List Expr)) → if_there exprs_nodes es ≤ all_nodes fs → forms_nodes (both call_of o es) ≤ all_nodes fs + 1
      by None es h = omega arith
      by (Some n) None h = omega arith
      by (Some n) (Some es) h = omega (arith, call_nodes n es, h)

  call_most : (o : Option Thing) (fs : List Found) → found_nodes (call_part span o fs) ≤ all_nodes fs + 1
  unfolding call_part called_part
  call_most (Some (thing.Func number params ret)) fs = found_most span _ _ _ (omega (arith, called_most number (given_to params fs), given_to_most params fs))
  call_most _ fs = omega arith

  print_kind_most : (text : Printed) (fs : List Found) → forms_nodes (print_kind text fs) ≤ all_nodes fs + 1
  unfolding print_kind
  print_kind_most text fs = by (is_short text.takes) (all_made fs) (made_most fs)
    where
      by : (b : Bool) (es : Option (List Expr)) → if_there exprs_nodes es ≤ all_nodes fs → forms_nodes (cond b (option_map (print_of text.number) es) None) ≤ all_nodes fs + 1
      by false es h = omega arith
      by true None h = omega arith
      by true (Some es) h = omega (arith, print_nodes text.number es, h)

  pub printing_most : (text : Printed) (spans : List Span) (fs : List Found) → Makes found_nodes (all_nodes fs + 1) (printing span text spans fs)
  unfolding print_part
  printing_most text spans fs e = found_most span _ _ _ (print_kind_most text fs)

  accessing_most : (k : Kind) (fs : List Found) → found_nodes (accessing span k fs).part ≤ all_nodes fs + 1
  accessing_most k [] = omega arith
  accessing_most k (p ∷ []) = omega (arith, access_most k p)
  accessing_most k (p ∷ v ∷ fs) = omega arith

  updating_most : (k : Kind) (fs : List Found) → found_nodes (updating span k fs).part ≤ all_nodes fs + 1
  updating_most k [] = omega arith
  updating_most k (p ∷ []) = omega arith
  updating_most k (p ∷ v ∷ []) = omega (arith, update_most k p v)
  updating_most k (p ∷ v ∷ f ∷ fs) = omega arith

  reserved_most : (r : Reserved) (fs : List Found) → found_nodes (calling_reserved span r fs).part ≤ all_nodes fs + 1
  unfolding calling_reserved
  reserved_most Printf fs = omega arith
  reserved_most ReadFe fs = accessing_most kind.ReadFe fs
  reserved_most ReadFf fs = accessing_most kind.ReadFf fs
  reserved_most ReadXx fs = accessing_most kind.ReadXx fs
  reserved_most Purge fs = accessing_most kind.Purge fs
  reserved_most WriteEf fs = updating_most kind.WriteEf fs
  reserved_most WriteFf fs = updating_most kind.WriteFf fs
  reserved_most WriteXf fs = updating_most kind.WriteXf fs
  reserved_most FetchAdd fs = updating_most kind.Add fs

  pub calling_most : (at : Span) (name : ℕ) (r : Option Reserved) (fs : List Found) → Makes found_nodes (all_nodes fs + 1) (calling span at name r fs)
  unfolding calling
  calling_most at name (Some r) fs e = reserved_most r fs
  calling_most at name None fs e = call_most (env.found name e) fs
