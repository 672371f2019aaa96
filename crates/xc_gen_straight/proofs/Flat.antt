-- Types that are no pointers, and places of numbers.
use Rattle.std.proofs.Common.{rules, ◌≡◌, ℕ, Option, Some, None, Bool, true, false, cond, refl, sym, ap, ◌∙◌, subst}
use Rattle.std.specs.Prelude.{IsTrue, List, option_and_then}
use Rattle.xc_word.specs.declared.memory.Kind.TheVariants as kind
use Rattle.xc_tree.specs.declared.ty.Ty.{Ty, Int, Uint, out-Ty}
use Rattle.xc_tree.specs.declared.ty.Ty.TheOpen.{Ty-F}
use Rattle.xc_tree.specs.declared.ty.Ty.TheFolds.{fold_out-Ty, map-Ty}
use Rattle.xc_tree.specs.declared.tree.Object.{Object}
use Rattle.xc_tree.specs.declared.operator.BinOp.{BinOp}
use Rattle.xc_tree.specs.declared.operator.BinOp.TheVariants as op
use Rattle.xc_tree.specs.Lists.{passes}
use Rattle.xc_tree.specs.Types.{Shape, same_at, same_ty, void_at, is_void, number_at, is_number, pointee_at, pointee, is_pointer, common_type, content, base, base_at}
use Rattle.xc_tree.specs.Kinds.{read_kind, write_kind, read_demanded, write_demanded, read_through, write_through}
use Rattle.xc_tree.specs.Typed.{leads_to, global_type}
use Rattle.xc_tree_words.specs.Words.{works_on_uint}
use Rattle.xc_meaning_terms.specs.declared.operation.Operation.{Operation}
use Rattle.xc_meaning_terms.specs.declared.operation.Operation.TheVariants.{OnWords}
use Rattle.xc_meaning_trees.specs.Trees.{by_pointers, operation_of}
use Rattle.xc_tree.specs.declared.ty.Ty.TheFolds as ty_folds
use Rattle.xc_tree.specs.declared.ty.Ty.TheViews as ty_views

-- ---- heads of types

abbrev pub Flat : Ty → Type 0
Flat ty = is_pointer ty ≡ false

pub number_flat : (ty : Ty) → is_number ty ≡ true → Flat ty
number_flat ty h = at (out-Ty ty) h
  where
    at : (l : Ty-F Ty) → number_at l ≡ true → passes (λ to. true) (pointee_at l) ≡ false
    at Ty-F.Int h = refl
    at Ty-F.Uint h = refl
    at Ty-F.Void h = refl
    at (Ty-F.Ptr x) h = absurd cc
    at (Ty-F.Array k x) h = refl
    at (Ty-F.Struct k) h = refl
    at (Ty-F.Sync x) h = refl
    at (Ty-F.Future x) h = refl

pub void_flat : (ty : Ty) → is_void ty ≡ true → Flat ty
void_flat ty h = at (out-Ty ty) h
  where
    at : (l : Ty-F Ty) → void_at l ≡ true → passes (λ to. true) (pointee_at l) ≡ false
    at Ty-F.Int h = refl
    at Ty-F.Uint h = refl
    at Ty-F.Void h = refl
    at (Ty-F.Ptr x) h = absurd cc
    at (Ty-F.Array k x) h = refl
    at (Ty-F.Struct k) h = refl
    at (Ty-F.Sync x) h = refl
    at (Ty-F.Future x) h = refl

opened : (a b : Ty) → same_ty a b ≡ same_at (map-Ty Ty (Ty → Bool) same_ty (out-Ty a)) (out-Ty b)
opened a b = ap (λ (f : Ty → Bool). f b) (fold_out-Ty (Ty → Bool) (λ l t. same_at l (out-Ty t)) a)

pub same_flat : (a b : Ty) → IsTrue (same_ty a b) → Flat b → Flat a
same_flat a b s h = at (out-Ty a) (out-Ty b) (subst IsTrue (opened a b) s) h
  where
    pointers : (f : Ty → Bool) (y : Ty-F Ty) → IsTrue (same_at (Ty-F.Ptr f) y) → passes (λ to. true) (pointee_at y) ≡ false → ⊥
    pointers f (Ty-F.Ptr u) s h = cc
    pointers f Ty-F.Int s h = cc
    pointers f Ty-F.Uint s h = cc
    pointers f Ty-F.Void s h = cc
    pointers f (Ty-F.Array k x) s h = cc
    pointers f (Ty-F.Struct k) s h = cc
    pointers f (Ty-F.Sync x) s h = cc
    pointers f (Ty-F.Future x) s h = cc

    at : (x y : Ty-F Ty) → IsTrue (same_at (map-Ty Ty (Ty → Bool) same_ty x) y) → passes (λ to. true) (pointee_at y) ≡ false → passes (λ to. true) (pointee_at x) ≡ false
    at (Ty-F.Ptr t) y s h = absurd (pointers (same_ty t) y s h)
    at Ty-F.Int y s h = refl
    at Ty-F.Uint y s h = refl
    at Ty-F.Void y s h = refl
    at (Ty-F.Array k x) y s h = refl
    at (Ty-F.Struct k) y s h = refl
    at (Ty-F.Sync x) y s h = refl
    at (Ty-F.Future x) y s h = refl

pub same_number : (a b : Ty) → IsTrue (same_ty a b) → is_number a ≡ true → is_number b ≡ true
same_number a b s h = at (out-Ty a) (out-Ty b) (subst IsTrue (opened a b) s) h
  where
    ints : (y : Ty-F Ty) → IsTrue (same_at Ty-F.Int y) → number_at y ≡ true
    ints Ty-F.Int s = refl
    ints Ty-F.Uint s = refl
    ints Ty-F.Void s = absurd cc
    ints (Ty-F.Ptr u) s = absurd cc
    ints (Ty-F.Array k x) s = absurd cc
    ints (Ty-F.Struct k) s = absurd cc
    ints (Ty-F.Sync x) s = absurd cc
    ints (Ty-F.Future x) s = absurd cc

    uints : (y : Ty-F Ty) → IsTrue (same_at Ty-F.Uint y) → number_at y ≡ true
    uints Ty-F.Int s = refl
    uints Ty-F.Uint s = refl
    uints Ty-F.Void s = absurd cc
    uints (Ty-F.Ptr u) s = absurd cc
    uints (Ty-F.Array k x) s = absurd cc
    uints (Ty-F.Struct k) s = absurd cc
    uints (Ty-F.Sync x) s = absurd cc
    uints (Ty-F.Future x) s = absurd cc

    at : (x y : Ty-F Ty) → IsTrue (same_at (map-Ty Ty (Ty → Bool) same_ty x) y) → number_at x ≡ true → number_at y ≡ true
    at Ty-F.Int y s h = ints y s
    at Ty-F.Uint y s h = uints y s
    at Ty-F.Void y s h = absurd cc
    at (Ty-F.Ptr t) y s h = absurd cc
    at (Ty-F.Array k x) y s h = absurd cc
    at (Ty-F.Struct k) y s h = absurd cc
    at (Ty-F.Sync x) y s h = absurd cc
    at (Ty-F.Future x) y s h = absurd cc

-- the heads of the two integer types
flat_int : Flat Int
flat_int = search (rules, ty_folds.the_lemmas, ty_views.the_lemmas)

flat_uint : Flat Uint
flat_uint = search (rules, ty_folds.the_lemmas, ty_views.the_lemmas)

pub int_flat : (ty : Ty) → IsTrue (same_ty ty Int) → Flat ty
int_flat ty s = same_flat ty Int s flat_int

pub common_flat : (a b : Ty) → Flat a → Flat (common_type a b)
common_flat a b h = at (same_ty a b)
  where
    at : (s : Bool) → Flat (cond s a Uint)
    at true = h
    at false = flat_uint

-- ---- operators on words

on_words : (shapes : List Shape) (o : BinOp) (a b : Ty) → by_pointers shapes o a b false false ≡ OnWords o (works_on_uint o a b)
on_words shapes op.Add a b = refl
on_words shapes op.Sub a b = refl
on_words shapes op.Shl a b = refl
on_words shapes op.Shr a b = refl
on_words shapes op.Lt a b = refl
on_words shapes op.Gt a b = refl
on_words shapes op.Le a b = refl
on_words shapes op.Ge a b = refl
on_words shapes op.Eq a b = refl
on_words shapes op.Ne a b = refl
on_words shapes op.Mul a b = refl
on_words shapes op.Div a b = refl
on_words shapes op.Rem a b = refl
on_words shapes op.BitAnd a b = refl
on_words shapes op.BitXor a b = refl
on_words shapes op.BitOr a b = refl

pub words_alone : (shapes : List Shape) (o : BinOp) (a b : Ty) → Flat a → Flat b → operation_of shapes o a b ≡ OnWords o (works_on_uint o a b)
words_alone shapes o a b x y = ap (λ s. by_pointers shapes o a b s (is_pointer b)) x ∙ ap (λ s. by_pointers shapes o a b false s) y ∙ on_words shapes o a b

-- ---- places of numbers

-- it leads to a number
pub record Leads (ty : Ty) : Type 0 where
  pub to : Ty
  pub there : pointee ty ≡ Some to
  pub number : is_number to ≡ true

pub reads_plainly : (ty : Ty) → Leads ty → read_kind ty ≡ kind.ReadXx
reads_plainly ty l = ap read_through l.there ∙ at (out-Ty l.to) l.number
  where
    at : (x : Ty-F Ty) → number_at x ≡ true → read_demanded x ≡ kind.ReadXx
    at Ty-F.Int h = refl
    at Ty-F.Uint h = refl
    at Ty-F.Void h = refl
    at (Ty-F.Ptr t) h = refl
    at (Ty-F.Array k x) h = refl
    at (Ty-F.Struct k) h = refl
    at (Ty-F.Sync x) h = absurd cc
    at (Ty-F.Future x) h = absurd cc

pub writes_plainly : (ty : Ty) → Leads ty → write_kind ty ≡ kind.WriteXf
writes_plainly ty l = ap write_through l.there ∙ at (out-Ty l.to) l.number
  where
    at : (x : Ty-F Ty) → number_at x ≡ true → write_demanded x ≡ kind.WriteXf
    at Ty-F.Int h = refl
    at Ty-F.Uint h = refl
    at Ty-F.Void h = refl
    at (Ty-F.Ptr t) h = refl
    at (Ty-F.Array k x) h = refl
    at (Ty-F.Struct k) h = refl
    at (Ty-F.Sync x) h = absurd cc
    at (Ty-F.Future x) h = absurd cc

pub content_of : (ty : Ty) → (l : Leads ty) → content ty ≡ Some l.to
content_of ty l = ap (λ (o : Option Ty). option_and_then base o) l.there ∙ at (out-Ty l.to) l.number
  where
    at : (x : Ty-F Ty) → number_at x ≡ true → base_at l.to x ≡ Some l.to
    at Ty-F.Int h = refl
    at Ty-F.Uint h = refl
    at Ty-F.Void h = absurd cc
    at (Ty-F.Ptr t) h = refl
    at (Ty-F.Array k x) h = absurd cc
    at (Ty-F.Struct k) h = absurd cc
    at (Ty-F.Sync x) h = absurd cc
    at (Ty-F.Future x) h = absurd cc

-- what holds of the object that a place leads to
pub at_place : (P : Ty → Bool) (ty : Ty) → (l : Leads ty) → IsTrue (passes P (content ty)) → IsTrue (P l.to)
at_place P ty l h = subst (λ o. IsTrue (passes P o)) (content_of ty l) h

-- a place of a global that is a number
pub leads : (o : Option Object) (ty : Ty) → ((g : Object) → o ≡ Some g → is_number g.ty ≡ true) → IsTrue (leads_to (global_type o) ty) → Leads ty
leads None ty numbers h = absurd cc
leads (Some g) ty numbers h = at (pointee ty) refl h
  where
    at : (p : Option Ty) → pointee ty ≡ p → IsTrue (passes (same_ty g.ty) p) → Leads ty
    at None e h = absurd cc
    at (Some t) e h = record { to = t; there = e; number = same_number g.ty t h (numbers g refl) }
