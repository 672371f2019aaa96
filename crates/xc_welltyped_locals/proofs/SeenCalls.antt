-- What calls make names no more locals than their arguments do.
use Rattle.std.proofs.Common.{rules, ◌≡◌, ℕ, List, [], ◌∷◌, map, Bool, true, false, refl, sym, subst, cond}
use Rattle.std.specs.Prelude.{Option, Some, None, option_map}
use Rattle.xc_text_place.specs.declared.Span.{Span}
use Rattle.xc_word.specs.declared.memory.Kind.{Kind}
use Rattle.xc_word.specs.declared.memory.Kind.TheVariants as kind
use Rattle.xc_tree.specs.declared.ty.Ty.{Ty}
use Rattle.xc_tree.specs.declared.expr.Expr.{Expr}
use Rattle.xc_tree.specs.declared.expr.ExprKind.{Call, Print}
use Rattle.xc_tree.specs.Lists.{joined}
use Rattle.xc_tree.specs.Walk.{locals_named}
use Rattle.xc_type_rule.specs.declared.found.Found.{Found}
use Rattle.xc_type_rule.specs.declared.found.Thing.{Thing}
use Rattle.xc_type_rule.specs.declared.found.Thing.TheVariants as thing
use Rattle.xc_type_rule.specs.Making.{typed, both}
use Rattle.xc_welltyped.proofs.Forms.{opened}
use Rattle.xc_type_rule_calls.specs.Arguments.{given_by, held_by, given_to, all_made}
use Rattle.xc_type_rule_calls.specs.Calls.{call_of, call_ruling, called_part, call_part}
use Rattle.xc_type_rule_calls.specs.Accesses.{scalar_of, access_ruling, access_of, update_ruling, update_of, access_part, updated_part, update_part}
use Rattle.xc_type_rule_calls.specs.declared.print.Text.{Text}
use Rattle.xc_type_rule_calls.specs.Prints.{print_ruling, print_of, is_short, print_kind, print_part}
use Rattle.xc_welltyped_locals.specs.Seen.{MadeSeen, IsSeen, AreSeen}
use Rattle.xc_welltyped_locals.proofs.SeenForms.{AllSeen, seen_append, OfOne, OfTwo, KindSeen, of_one, of_two, found_seen}
use Rattle.xc_welltyped_locals.proofs.SeenValues.{given_seen}

access_one : (k : Kind) → OfOne (access_of k)
access_one kind.ReadXx span ty e = search (rules, opened)
access_one kind.ReadFe span ty e = search (rules, opened)
access_one kind.ReadFf span ty e = search (rules, opened)
access_one kind.WriteXf span ty e = search (rules, opened)
access_one kind.WriteEf span ty e = search (rules, opened)
access_one kind.WriteFf span ty e = search (rules, opened)
access_one kind.Purge span ty e = search (rules, opened)
access_one kind.Add span ty e = search (rules, opened)

update_two : (k : Kind) → OfTwo (update_of k)
update_two kind.ReadXx span ty a b = search (rules, opened)
update_two kind.ReadFe span ty a b = search (rules, opened)
update_two kind.ReadFf span ty a b = search (rules, opened)
update_two kind.WriteXf span ty a b = search (rules, opened)
update_two kind.WriteEf span ty a b = search (rules, opened)
update_two kind.WriteFf span ty a b = search (rules, opened)
update_two kind.Purge span ty a b = search (rules, opened)
update_two kind.Add span ty a b = search (rules, opened)

call_names : (span : Span) (ty : Ty) (n : ℕ) (es : List Expr) → locals_named (typed span ty (Call n es)) ≡ joined (map locals_named es)
call_names span ty n es = search (rules, opened)

print_names : (span : Span) (ty : Ty) (n : ℕ) (es : List Expr) → locals_named (typed span ty (Print n es)) ≡ joined (map locals_named es)
print_names span ty n es = search (rules, opened)

module _ (seen : List ℕ) where
  given_at : (o : Option Ty) (f : Found) → IsSeen seen f → IsSeen seen (given_by o f)
  given_at None f h = h
  given_at (Some ty) f h = given_seen seen ty f h

  given_all : (ps : List (Option Ty)) (fs : List Found) → AreSeen seen fs → AreSeen seen (given_to ps fs)
  given_all [] fs h = h
  given_all (p ∷ ps) [] h = tt
  given_all (p ∷ ps) (f ∷ fs) h = (given_at (held_by p) f h.0, given_all ps fs h.1)

  abbrev ListSeen : Option (List Expr) → Type 0
  ListSeen None = Unit {0}
  ListSeen (Some es) = AllSeen seen (joined (map locals_named es))

  one_more : (m : Option Expr) (r : Option (List Expr)) → MadeSeen seen m → ListSeen r → ListSeen (both (λ e es. e ∷ es) m r)
  unfolding both
  one_more None r h k = tt
  one_more (Some e) None h k = tt
  one_more (Some e) (Some es) h k = seen_append seen (locals_named e) (joined (map locals_named es)) h k

  list_seen : (fs : List Found) → AreSeen seen fs → ListSeen (all_made fs)
  unfolding all_made
  list_seen [] h = refl
  list_seen (f ∷ fs) h = one_more f.made (all_made fs) h.0 (list_seen fs h.1)

module _ (seen : List ℕ) (span : Span) where
  call_kind : (number : Option ℕ) (es : Option (List Expr)) → ListSeen seen es → KindSeen seen (both call_of number es)
  unfolding both
  call_kind None es h = tt
  call_kind (Some n) None h = tt
  call_kind (Some n) (Some es) h = λ s ty. subst (AllSeen seen) (sym (call_names s ty n es)) h

  called_seen : (number : Option ℕ) (params : List (Option Ty)) (ret : Option Ty) (args : List Found) → AreSeen seen args → IsSeen seen (called_part span number params ret args)
  unfolding called_part
  called_seen number params ret args h = found_seen seen span (call_ruling params ret args) _ (call_kind number (all_made args) (list_seen seen args h))

  pub call_seen : (t : Option Thing) (args : List Found) → AreSeen seen args → IsSeen seen (call_part span t args)
  unfolding call_part
  call_seen None args h = refl
  call_seen (Some (thing.Global n ty)) args h = refl
  call_seen (Some (thing.Local n ty)) args h = refl
  call_seen (Some (thing.Func number params ret)) args h = called_seen number params ret (given_to params args) (given_all seen params args h)

  pub access_seen : (k : Kind) (p : Found) → IsSeen seen p → IsSeen seen (access_part span k p)
  unfolding access_part
  access_seen k p h = found_seen seen span (access_ruling k p.known) _ (of_one seen (access_of k) (access_one k) p.made h)

  updated_seen : (k : Kind) (p v : Found) → IsSeen seen p → IsSeen seen v → IsSeen seen (updated_part span k p v)
  unfolding updated_part
  updated_seen k p v h g = found_seen seen span (update_ruling k p.known v.known) _ (of_two seen (update_of k) (update_two k) p.made v.made h g)

  pub update_seen : (k : Kind) (p v : Found) → IsSeen seen p → IsSeen seen v → IsSeen seen (update_part span k p v)
  unfolding update_part
  update_seen k p v h g = updated_seen k p (given_by (scalar_of p.known) v) h (given_at seen (scalar_of p.known) v g)

  print_list : (n : ℕ) (es : Option (List Expr)) → ListSeen seen es → KindSeen seen (option_map (print_of n) es)
  print_list n None h = tt
  print_list n (Some es) h = λ s ty. subst (AllSeen seen) (sym (print_names s ty n es)) h

  print_seen_kind : (text : Text) (args : List Found) → AreSeen seen args → KindSeen seen (print_kind text args)
  unfolding print_kind
  print_seen_kind text args h = at (is_short text.takes)
    where
      at : (b : Bool) → KindSeen seen (cond b (option_map (print_of text.number) (all_made args)) None)
      at true = print_list text.number (all_made args) (list_seen seen args h)
      at false = tt

  pub print_seen : (text : Option Text) (args : List Found) → AreSeen seen args → IsSeen seen (print_part span text args)
  unfolding print_part
  print_seen None args h = refl
  print_seen (Some text) args h = found_seen seen span (print_ruling text.takes args) _ (print_seen_kind text args h)
