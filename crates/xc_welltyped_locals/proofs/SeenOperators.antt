-- What operators make names no more locals than their operands do.
use Rattle.std.proofs.Common.{rules, ◌≡◌, ℕ, List, ◌++◌, Bool, true, false, refl, sym, subst, cond}
use Rattle.std.specs.Prelude.{Option, Some, None}
use Rattle.xc_text_place.specs.declared.Span.{Span}
use Rattle.xc_tree.specs.declared.operator.BinOp.{BinOp}
use Rattle.xc_tree.specs.declared.operator.UnOp.{UnOp}
use Rattle.xc_tree.specs.declared.operator.UnOp.TheVariants as un
use Rattle.xc_tree.specs.declared.ty.Ty.{Ty, Int, Uint}
use Rattle.xc_tree.specs.declared.expr.Expr.{Expr}
use Rattle.xc_tree.specs.declared.expr.ExprKind.{Const, Update, Unary, Binary, Cond, Comma}
use Rattle.xc_tree.specs.Typed.{Sort, sum, difference, shift, comparison, number, sort_of}
use Rattle.xc_tree.specs.Walk.{locals_named}
use Rattle.xc_type_rule.specs.declared.found.Found.{Found}
use Rattle.xc_type_rule.specs.declared.found.Known.{Known}
use Rattle.xc_type_rule.specs.Making.{typed, unknown_value}
use Rattle.xc_type_rule.specs.Nulls.{is_null, is_number_value, against}
use Rattle.xc_welltyped.proofs.Forms.{opened}
use Rattle.xc_type_rule_operators.specs.declared.logic.Logic.{Logic}
use Rattle.xc_type_rule_operators.specs.declared.logic.Logic.TheVariants as logic
use Rattle.xc_type_rule_operators.specs.Rulings.{unary_ruling, cast_ruling, binary_ruling, logic_ruling, comma_ruling, conditional_ruling, target, assign_ruling, update_ruling}
use Rattle.xc_type_rule_operators.specs.Operators.{number_part, grouped, plus_part, unary_part, cast_part, beside, operated_part, binary_part, logic_kind, logical_part, comma_part, cond_kind, chosen_part, conditional_part, write_of, suited, written_part, assign_part, update_part, step_part}
use Rattle.xc_welltyped_locals.specs.Seen.{MadeSeen, IsSeen}
use Rattle.xc_welltyped_locals.proofs.SeenForms.{AllSeen, seen_append, OfOne, OfTwo, KindSeen, of_one, of_two, value_seen, found_seen}
use Rattle.xc_welltyped_locals.proofs.SeenValues.{none_named, spanned_seen, given_seen, against_seen}

unary_one : (o : UnOp) → OfOne (Unary o)
unary_one o span ty e = search (rules, opened)

binary_two : (o : BinOp) → OfTwo (Binary o)
binary_two o span ty a b = search (rules, opened)

logic_two : (o : Logic) → OfTwo (logic_kind o)
unfolding logic_kind
logic_two logic.And span ty a b = search (rules, opened)
logic_two logic.Or span ty a b = search (rules, opened)

comma_two : OfTwo Comma
comma_two span ty a b = search (rules, opened)

write_two : OfTwo write_of
unfolding write_of
write_two span ty a b = search (rules, opened)

update_two : (o : BinOp) (post : Bool) → OfTwo (Update o post)
update_two o post span ty a b = search (rules, opened)

module _ (seen : List ℕ) (span : Span) where
  pub number_seen : (n : ℕ) (unsigned : Bool) → IsSeen seen (number_part span n unsigned)
  unfolding number_part
  number_seen n unsigned = value_seen seen span (cond unsigned Uint Int) (Some (Const n)) (λ s ty. subst (AllSeen seen) (sym (none_named s ty n)) refl)

  pub grouped_seen : (a : Found) → IsSeen seen a → IsSeen seen (grouped span a)
  unfolding grouped
  grouped_seen a h = spanned_seen seen span a.made h

  pub plus_seen : (a : Found) → IsSeen seen a → IsSeen seen (plus_part a)
  unfolding plus_part
  plus_seen a h = at (is_number_value a.known)
    where
      at : (b : Bool) → IsSeen seen (cond b a unknown_value)
      at true = h
      at false = refl

  pub unary_seen : (o : UnOp) (a : Found) → IsSeen seen a → IsSeen seen (unary_part span o a)
  unfolding unary_part
  unary_seen o a h = found_seen seen span (unary_ruling o a.known) _ (of_one seen (Unary o) (unary_one o) a.made h)

  pub cast_seen : (to : Option Ty) (a : Found) → IsSeen seen a → IsSeen seen (cast_part span to a)
  unfolding cast_part
  cast_seen to a h = found_seen seen span (cast_ruling to a.known) _ (of_one seen (Unary un.Cast) (unary_one un.Cast) a.made h)

  beside_seen : (s : Sort) (k : Known) (f : Found) → IsSeen seen f → IsSeen seen (beside s k f)
  unfolding beside
  beside_seen comparison k f h = against_seen seen k f h
  beside_seen sum k f h = h
  beside_seen difference k f h = h
  beside_seen shift k f h = h
  beside_seen number k f h = h

  operated_seen : (o : BinOp) (a b : Found) → IsSeen seen a → IsSeen seen b → IsSeen seen (operated_part span o a b)
  unfolding operated_part
  operated_seen o a b h k = found_seen seen span (binary_ruling (sort_of o) a.known b.known) _ (of_two seen (Binary o) (binary_two o) a.made b.made h k)

  pub binary_seen : (o : BinOp) (a b : Found) → IsSeen seen a → IsSeen seen b → IsSeen seen (binary_part span o a b)
  unfolding binary_part
  binary_seen o a b h k =
      let l = beside (sort_of o) b.known a in
      operated_seen o l (beside (sort_of o) l.known b) (beside_seen (sort_of o) b.known a h) (beside_seen (sort_of o) l.known b k)

  pub logical_seen : (o : Logic) (a b : Found) → IsSeen seen a → IsSeen seen b → IsSeen seen (logical_part span o a b)
  unfolding logical_part
  logical_seen o a b h k = found_seen seen span (logic_ruling a.known b.known) _ (of_two seen (logic_kind o) (logic_two o) a.made b.made h k)

  pub comma_seen : (a b : Found) → IsSeen seen a → IsSeen seen b → IsSeen seen (comma_part span a b)
  unfolding comma_part
  comma_seen a b h k = found_seen seen span (comma_ruling a.known b.known) _ (of_two seen Comma comma_two a.made b.made h k)

  cond_seen : (test a b : Option Expr) → MadeSeen seen test → MadeSeen seen a → MadeSeen seen b → KindSeen seen (cond_kind test a b)
  unfolding cond_kind
  cond_seen None a b g h k = tt
  cond_seen (Some x) None b g h k = tt
  cond_seen (Some x) (Some y) None g h k = tt
  cond_seen (Some x) (Some y) (Some z) g h k = λ s ty.
      let same : locals_named (typed s ty (Cond x y z)) ≡ locals_named x ++ (locals_named y ++ locals_named z) = search (rules, opened) in
      subst (AllSeen seen) (sym same) (seen_append seen (locals_named x) (locals_named y ++ locals_named z) g (seen_append seen (locals_named y) (locals_named z) h k))

  chosen_seen : (test a b : Found) → IsSeen seen test → IsSeen seen a → IsSeen seen b → IsSeen seen (chosen_part span test a b)
  unfolding chosen_part
  chosen_seen test a b g h k = found_seen seen span (conditional_ruling test.known a.known b.known (is_null a, is_null b)) _ (cond_seen test.made a.made b.made g h k)

  pub conditional_seen : (test a b : Found) → IsSeen seen test → IsSeen seen a → IsSeen seen b → IsSeen seen (conditional_part span test a b)
  unfolding conditional_part
  conditional_seen test a b g h k =
      let l = against b.known a in
      chosen_seen test l (against l.known b) g (against_seen seen b.known a h) (against_seen seen l.known b k)

  suited_seen : (to : Option Ty) (v : Found) → IsSeen seen v → IsSeen seen (suited to v)
  unfolding suited
  suited_seen None v h = h
  suited_seen (Some ty) v h = given_seen seen ty v h

  written_seen : (to v : Found) → IsSeen seen to → IsSeen seen v → IsSeen seen (written_part span to v)
  unfolding written_part
  written_seen to v h k = found_seen seen span (assign_ruling to.known (target to.known) v.known) _ (of_two seen write_of write_two to.made v.made h k)

  pub assign_seen : (to v : Found) → IsSeen seen to → IsSeen seen v → IsSeen seen (assign_part span to v)
  unfolding assign_part
  assign_seen to v h k = written_seen to (suited (target to.known) v) h (suited_seen (target to.known) v k)

  pub update_seen : (o : BinOp) (post : Bool) (to v : Found) → IsSeen seen to → IsSeen seen v → IsSeen seen (update_part span o post to v)
  unfolding update_part
  update_seen o post to v h k = found_seen seen span (update_ruling (sort_of o) to.known v.known) _ (of_two seen (Update o post) (update_two o post) to.made v.made h k)

  pub step_seen : (o : BinOp) (post : Bool) (to : Found) → IsSeen seen to → IsSeen seen (step_part span o post to)
  step_seen o post to h = update_seen o post to (number_part span 1 false) h (number_seen 1 false)
