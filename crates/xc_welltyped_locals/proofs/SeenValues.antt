-- What a place holds, and a null pointer, name no more locals than the part.
use Rattle.std.proofs.Common.{rules, ◌≡◌, ℕ, List, [], ◌++◌, Bool, true, false, refl, sym, subst, cond}
use Rattle.std.specs.Prelude.{◌&&◌, Option, Some, None, option_map}
use Rattle.xc_text_place.specs.declared.Span.{Span}
use Rattle.xc_tree.specs.declared.ty.Ty.{Ty, out-Ty, Int, Ptr}
use Rattle.xc_tree.specs.declared.ty.Ty.TheOpen.{Ty-F}
use Rattle.xc_tree.specs.declared.expr.Expr.{Expr}
use Rattle.xc_tree.specs.declared.expr.ExprKind.{Const}
use Rattle.xc_tree.specs.Walk.{locals_named}
use Rattle.xc_tree.specs.Types.{is_pointer}
use Rattle.xc_type_rule.specs.declared.found.Found.{Found}
use Rattle.xc_type_rule.specs.declared.found.Known.{Known}
use Rattle.xc_type_rule.specs.declared.found.Known.TheVariants as known
use Rattle.xc_type_rule.specs.Cells.{cells}
use Rattle.xc_type_rule.specs.Making.{typed, spanned}
use Rattle.xc_type_rule.specs.Nulls.{is_null, null, given, against}
use Rattle.xc_type_rule.specs.Values.{read_of, first_element, held, rvalue_at, rvalue}
use Rattle.xc_welltyped.proofs.Forms.{opened}
use Rattle.xc_welltyped_locals.specs.Seen.{MadeSeen, IsSeen}
use Rattle.xc_welltyped_locals.proofs.SeenForms.{AllSeen, seen_append, OfOne, KindSeen, of_one, value_seen}

pub none_named : (span : Span) (ty : Ty) (n : ℕ) → locals_named (typed span ty (Const n)) ≡ []
none_named span ty n = search (rules, opened)

reads_one : OfOne read_of
reads_one span ty e = search (rules, opened)

module _ (seen : List ℕ) where
  pub spanned_seen : (span : Span) (made : Option Expr) → MadeSeen seen made → MadeSeen seen (spanned span made)
  unfolding spanned
  spanned_seen span None h = refl
  spanned_seen span (Some e) h =
      let same : locals_named (typed span e.ty e.kind) ≡ locals_named e = search (rules, opened) in
      subst (AllSeen seen) (sym same) h

  null_seen : (to : Ty) (made : Option Expr) → IsSeen seen (null to made)
  null_seen to None = refl
  null_seen to (Some e) = subst (AllSeen seen) (sym (none_named e.span to 0)) refl

  pub given_seen : (to : Ty) (f : Found) → IsSeen seen f → IsSeen seen (given to f)
  unfolding given
  given_seen to f h = at (is_pointer to && is_null f)
    where
      at : (b : Bool) → IsSeen seen (cond b (null to f.made) f)
      at true = null_seen to f.made
      at false = h

  pub against_seen : (k : Known) (f : Found) → IsSeen seen f → IsSeen seen (against k f)
  unfolding against
  against_seen (known.Unknown place) f h = h
  against_seen (known.Value ty) f h = given_seen ty f h
  against_seen (known.Place ty within) f h = h

  first_seen : (span : Span) (size bound : ℕ) (made : Option Expr) → MadeSeen seen made → KindSeen seen (option_map (first_element span size bound) made)
  first_seen span size bound None h = tt
  first_seen span size bound (Some e) h = λ s ty.
      let zero = typed span Int (Const 0) in
      let same : locals_named (typed s ty (first_element span size bound e)) ≡ locals_named e ++ locals_named zero = search (rules, opened) in
      subst (AllSeen seen) (sym same) (seen_append seen (locals_named e) (locals_named zero) h (subst (AllSeen seen) (sym (none_named span Int 0)) refl))

  module _ (sizes : List ℕ) (span : Span) where
    held_seen : (ty : Ty) (within : Bool) (made : Option Expr) (y : Ty-F Ty) → MadeSeen seen made → IsSeen seen (held sizes span ty within made y)
    held_seen ty true made (Ty-F.Array n of) h = refl
    held_seen ty false made (Ty-F.Array n of) h = value_seen seen span (Ptr of) _ (first_seen span (cells sizes of) n made h)
    held_seen ty within made (Ty-F.Sync of) h = value_seen seen span of _ (of_one seen read_of reads_one made h)
    held_seen ty within made (Ty-F.Future of) h = value_seen seen span of _ (of_one seen read_of reads_one made h)
    held_seen ty within made (Ty-F.Struct s) h = h
    held_seen ty within made Ty-F.Void h = h
    held_seen ty within made Ty-F.Int h = value_seen seen span ty _ (of_one seen read_of reads_one made h)
    held_seen ty within made Ty-F.Uint h = value_seen seen span ty _ (of_one seen read_of reads_one made h)
    held_seen ty within made (Ty-F.Ptr of) h = value_seen seen span ty _ (of_one seen read_of reads_one made h)

    valued_seen : (k : Known) (made : Option Expr) → MadeSeen seen made → IsSeen seen (rvalue_at sizes span k made)
    valued_seen (known.Unknown place) made h = refl
    valued_seen (known.Value ty) made h = h
    valued_seen (known.Place ty within) made h = held_seen ty within made (out-Ty ty) h

    pub rvalue_seen : (f : Found) → IsSeen seen f → IsSeen seen (rvalue sizes span f)
    unfolding rvalue
    rvalue_seen f h = valued_seen f.known f.made h
