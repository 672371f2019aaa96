-- What a place holds, and a null pointer, use locals as they may.
use Rattle.std.proofs.Common.{◌≡◌, ℕ, List, Bool, true, false, refl, sym, ap, ◌∙◌, subst, cond, ◌⊎◌, inl, inr}
use Rattle.std.specs.Prelude.{◌&&◌, Option, Some, None, option_map}
use Rattle.xc_text_place.specs.declared.Span.{Span}
use Rattle.xc_word.specs.declared.memory.Kind.{Kind}
use Rattle.xc_word.specs.declared.memory.Kind.TheVariants as kind
use Rattle.xc_tree.specs.declared.ty.Ty.{Ty, out-Ty, Int, Ptr}
use Rattle.xc_tree.specs.declared.ty.Ty.TheOpen.{Ty-F}
use Rattle.xc_tree.specs.declared.expr.Expr.{Expr}
use Rattle.xc_tree.specs.declared.expr.ExprKind.{Const, Read}
use Rattle.xc_tree.specs.Types.{is_pointer}
use Rattle.xc_tree.specs.Kinds.{read_kind, read_through, read_demanded}
use Rattle.xc_type_rule.specs.declared.found.Found.{Found}
use Rattle.xc_type_rule.specs.declared.found.Known.{Known}
use Rattle.xc_type_rule.specs.declared.found.Known.TheVariants as known
use Rattle.xc_type_rule.specs.Cells.{cells}
use Rattle.xc_type_rule.specs.Making.{typed, spanned}
use Rattle.xc_type_rule.specs.Nulls.{is_null, null, given, against}
use Rattle.xc_type_rule.specs.Values.{read_of, first_element, held, rvalue_at, rvalue}
use Rattle.xc_welltyped.proofs.Types.{pointee_of}
use Rattle.xc_type_scopes.specs.Env.{has_address, has_address_at}
use Rattle.xc_type_lowering.specs.Accessed.{Use, settled, use_of}
use Rattle.xc_welltyped_locals.specs.Used.{IsUsedPlace, UsedAs, IsUsed}
use Rattle.xc_welltyped_locals.proofs.UsedForms.{const_use, read_use, readfe_use, readff_use, index_use, same_use, Only, KindOnly, only_by, one_settled, two_settled, value_used, lying_settled}

module _ (flags : List Bool) (count : ℕ) where
  abbrev Place : Ty → Expr → Type 0
  Place = IsUsedPlace flags count

  pub const_only : (span : Span) (ty : Ty) (n : ℕ) → Only flags (typed span ty (Const n))
  const_only span ty n = only_by flags (typed span ty (Const n)) true (const_use flags span ty n) refl

  -- with more tokens around it
  pub spanned_used : (k : Known) (span : Span) (made : Option Expr) → UsedAs flags count k made → UsedAs flags count k (spanned span made)
  unfolding spanned
  spanned_used k span None h = tt
  spanned_used (known.Unknown place) span (Some e) h = ap settled (same_use flags span e) ∙ h
  spanned_used (known.Value ty) span (Some e) h = ap settled (same_use flags span e) ∙ h
  spanned_used (known.Place ty within) span (Some e) h = record {
    own = h.own;
    ok = ap (λ (u : Use). u.ok) (same_use flags span e) ∙ h.ok;
    unread = ap (λ (u : Use). u.read) (same_use flags span e) ∙ h.unread;
    lies = λ a. ap (λ (u : Use). u.place) (same_use flags span e) ∙ h.lies a;
    declared = h.declared;
  }

  null_used : (to : Ty) (made : Option Expr) → IsUsed flags count (null to made)
  null_used to None = tt
  null_used to (Some e) = const_only e.span to 0

  pub given_used : (to : Ty) (f : Found) → IsUsed flags count f → IsUsed flags count (given to f)
  unfolding given
  given_used to f h = at (is_pointer to && is_null f)
    where
      at : (b : Bool) → IsUsed flags count (cond b (null to f.made) f)
      at true = null_used to f.made
      at false = h

  pub against_used : (k : Known) (f : Found) → IsUsed flags count f → IsUsed flags count (against k f)
  unfolding against
  against_used (known.Unknown place) f h = h
  against_used (known.Value ty) f h = given_used ty f h
  against_used (known.Place ty within) f h = h

  -- reads -------------------------------------------------------------------------------

  read_pointed : (ty : Ty) (e : Expr) → e.ty ≡ Ptr ty → read_kind e.ty ≡ read_demanded (out-Ty ty)
  read_pointed ty e own = ap read_kind own ∙ ap read_through (pointee_of ty)

  -- a read of a place: of one that lies in memory, or of a local
  read_as : (k : Kind) (ty : Ty) (e : Expr) → Place ty e → ((has_address ty ≡ true) × (k ≡ kind.ReadFe)) ⊎ (((has_address ty ≡ true) × (k ≡ kind.ReadFf)) ⊎ (k ≡ kind.ReadXx)) → (span : Span) (of : Ty) → Only flags (typed span of (Read k e))
  read_as k ty e h (inl d) span of =
      subst (λ k. Only flags (typed span of (Read k e))) (sym d.1) (only_by flags (typed span of (Read kind.ReadFe e)) _ (readfe_use flags span of e) (one_settled flags (use_of flags e) (lying_settled flags count ty e h d.0)))
  read_as k ty e h (inr (inl d)) span of =
      subst (λ k. Only flags (typed span of (Read k e))) (sym d.1) (only_by flags (typed span of (Read kind.ReadFf e)) _ (readff_use flags span of e) (one_settled flags (use_of flags e) (lying_settled flags count ty e h d.0)))
  read_as k ty e h (inr (inr xx)) span of =
      subst (λ k. Only flags (typed span of (Read k e))) (sym xx) (ap settled (read_use flags span of e) ∙ h.ok)

  demanded : (ty : Ty) (y : Ty-F Ty) → out-Ty ty ≡ y → ((has_address ty ≡ true) × (read_demanded y ≡ kind.ReadFe)) ⊎ (((has_address ty ≡ true) × (read_demanded y ≡ kind.ReadFf)) ⊎ (read_demanded y ≡ kind.ReadXx))
  demanded ty (Ty-F.Sync of) e = inl (ap has_address_at e, refl)
  demanded ty (Ty-F.Future of) e = inr (inl (ap has_address_at e, refl))
  demanded ty Ty-F.Void e = inr (inr refl)
  demanded ty Ty-F.Int e = inr (inr refl)
  demanded ty Ty-F.Uint e = inr (inr refl)
  demanded ty (Ty-F.Ptr to) e = inr (inr refl)
  demanded ty (Ty-F.Array n of) e = inr (inr refl)
  demanded ty (Ty-F.Struct s) e = inr (inr refl)

  read_only : (ty : Ty) (within : Bool) (made : Option Expr) → UsedAs flags count (known.Place ty within) made → KindOnly flags (option_map read_of made)
  read_only ty within None h = tt
  read_only ty within (Some e) h = λ span of.
      subst (λ k. Only flags (typed span of (Read k e))) (sym (read_pointed ty e h.own)) (read_as (read_demanded (out-Ty ty)) ty e h (demanded ty (out-Ty ty) refl) span of)

  first_only : (span : Span) (size bound : ℕ) (ty : Ty) (within : Bool) (made : Option Expr) → has_address ty ≡ true → UsedAs flags count (known.Place ty within) made → KindOnly flags (option_map (first_element span size bound) made)
  first_only span size bound ty within None a h = tt
  first_only span size bound ty within (Some e) a h = λ s of.
      only_by flags (typed s of (first_element span size bound e)) _ (index_use flags s of size (Some bound) e (typed span Int (Const 0)))
      (two_settled flags (use_of flags e) (use_of flags (typed span Int (Const 0))) (lying_settled flags count ty e h a) (const_only span Int 0))

  module _ (sizes : List ℕ) (span : Span) where
    held_used : (ty : Ty) (within : Bool) (made : Option Expr) (y : Ty-F Ty) → out-Ty ty ≡ y → UsedAs flags count (known.Place ty within) made → IsUsed flags count (held sizes span ty within made y)
    held_used ty true made (Ty-F.Array n of) e h = tt
    held_used ty false made (Ty-F.Array n of) e h = value_used flags count span (Ptr of) _ (first_only span (cells sizes of) n ty false made (ap has_address_at e) h)
    held_used ty within made (Ty-F.Sync of) e h = value_used flags count span of _ (read_only ty within made h)
    held_used ty within made (Ty-F.Future of) e h = value_used flags count span of _ (read_only ty within made h)
    held_used ty within made (Ty-F.Struct s) e h = h
    held_used ty within made Ty-F.Void e h = h
    held_used ty within made Ty-F.Int e h = value_used flags count span ty _ (read_only ty within made h)
    held_used ty within made Ty-F.Uint e h = value_used flags count span ty _ (read_only ty within made h)
    held_used ty within made (Ty-F.Ptr of) e h = value_used flags count span ty _ (read_only ty within made h)

    valued_used : (k : Known) (made : Option Expr) → UsedAs flags count k made → IsUsed flags count (rvalue_at sizes span k made)
    valued_used (known.Unknown place) made h = tt
    valued_used (known.Value ty) made h = h
    valued_used (known.Place ty within) made h = held_used ty within made (out-Ty ty) refl h

    pub rvalue_used : (f : Found) → IsUsed flags count f → IsUsed flags count (rvalue sizes span f)
    unfolding rvalue
    rvalue_used f h = valued_used f.known f.made h
