-- Accesses, `?:` and first elements are well typed where their parts are and their rules are kept.
use Rattle.std.proofs.Common.{rules, ◌≡◌, Bool, true, false, refl, sym, ap, ◌∙◌, subst}
use Rattle.std.specs.Prelude.{IsTrue, ◌&&◌, ◌||◌, Some}
use Rattle.xc_text_place.specs.declared.Span.{Span}
use Rattle.xc_word.specs.declared.memory.Kind.{Kind}
use Rattle.xc_tree.specs.declared.operator.BinOp.{BinOp}
use Rattle.xc_tree.specs.declared.ty.Ty.{Ty, out-Ty, Ptr}
use Rattle.xc_tree.specs.declared.ty.Ty.TheOpen.{Ty-F}
use Rattle.xc_tree.specs.declared.expr.Expr.{Expr}
use Rattle.xc_tree.specs.declared.expr.ExprKind.{Read, Write, Update, Cond}
use Rattle.xc_tree.specs.declared.expr.ExprKind.TheOpen.{ExprKind-F}
use Rattle.xc_tree.specs.Lists.{passes}
use Rattle.xc_tree.proofs.Lists.{and_both}
use Rattle.xc_tree.specs.Kinds.{is_read, is_write, same_write, read_demanded, write_demanded, read_kind, write_kind}
use Rattle.xc_tree.specs.Types.{is_void, is_number, is_plain, both_numbers, same_ty, common_type, base, content, fits}
use Rattle.xc_tree.specs.Typed.{Context, Part, part_of, rule, are_values, update_ok, sort_of}
use Rattle.xc_type_rule.specs.Making.{typed}
use Rattle.xc_welltyped.specs.Sound.{IsMade}
use Rattle.xc_welltyped.proofs.Types.{ty_opened, or_right, same_ty_refl}
use Rattle.xc_welltyped.proofs.Forms.{opened, Layer, made_at}

abbrev part_with : Ty → Bool → Bool → Bool → Part
part_with ty variable inside ok = record { ty = ty; variable = variable; within = inside; ok = ok }

-- what is known of a well typed part
abbrev pub part : Ty → Bool → Part
part ty inside = part_with ty false inside true

pub part_is : (cx : Context) (ty : Ty) (inside : Bool) (e : Expr) → IsMade cx ty inside e → part_of cx e ≡ part ty inside
part_is cx ty inside e m =
    let p = part_of cx e in
    ap (λ t. part_with t p.variable p.within p.ok) m.typed
    ∙ (ap (λ v. part_with ty v p.within p.ok) m.variable
    ∙ (ap (λ w. part_with ty false w p.ok) m.within
    ∙ ap (λ o. part_with ty false inside o) m.ok))

-- the place of a scalar -------------------------------------------------------

content_of : (t : Ty) → content (Ptr t) ≡ base t
content_of t = search (rules, ty_opened)

writes : (y : Ty-F Ty) → IsTrue (is_write (write_demanded y))
writes Ty-F.Void = refl
writes Ty-F.Int = refl
writes Ty-F.Uint = refl
writes (Ty-F.Ptr t) = refl
writes (Ty-F.Array n t) = refl
writes (Ty-F.Struct n) = refl
writes (Ty-F.Sync t) = refl
writes (Ty-F.Future t) = refl

same_write_refl : (y : Ty-F Ty) → IsTrue (same_write (write_demanded y) (write_demanded y))
same_write_refl Ty-F.Void = refl
same_write_refl Ty-F.Int = refl
same_write_refl Ty-F.Uint = refl
same_write_refl (Ty-F.Ptr t) = refl
same_write_refl (Ty-F.Array n t) = refl
same_write_refl (Ty-F.Struct n) = refl
same_write_refl (Ty-F.Sync t) = refl
same_write_refl (Ty-F.Future t) = refl

reads : (y : Ty-F Ty) → IsTrue (is_read (read_demanded y))
reads Ty-F.Void = refl
reads Ty-F.Int = refl
reads Ty-F.Uint = refl
reads (Ty-F.Ptr t) = refl
reads (Ty-F.Array n t) = refl
reads (Ty-F.Struct n) = refl
reads (Ty-F.Sync t) = refl
reads (Ty-F.Future t) = refl

write_kind_of : (t : Ty) → write_kind (Ptr t) ≡ write_demanded (out-Ty t)
write_kind_of t = search (rules, ty_opened)

read_kind_of : (t : Ty) → read_kind (Ptr t) ≡ read_demanded (out-Ty t)
read_kind_of t = search (rules, ty_opened)

is_writing : (t : Ty) → IsTrue (is_write (write_kind (Ptr t)))
is_writing t = subst (λ k. IsTrue (is_write k)) (sym (write_kind_of t)) (writes (out-Ty t))

is_same_write : (t : Ty) → IsTrue (same_write (write_kind (Ptr t)) (write_kind (Ptr t)))
is_same_write t = subst (λ k. IsTrue (same_write k k)) (sym (write_kind_of t)) (same_write_refl (out-Ty t))

is_reading : (t : Ty) → IsTrue (is_read (read_kind (Ptr t)))
is_reading t = subst (λ k. IsTrue (is_read k)) (sym (read_kind_of t)) (reads (out-Ty t))

-- a test of what the place holds
pub holds : (p : Ty → Bool) (t b : Ty) → base t ≡ Some b → IsTrue (p b) → IsTrue (passes p (content (Ptr t)))
holds p t b is h = subst (λ o. IsTrue (passes p o)) (sym (content_of t ∙ is)) h

module _ (cx : Context) (span : Span) where
  read_row : (k : Kind) (t b : Ty) (w : Bool) → IsTrue (is_read k) → base t ≡ Some b → Layer cx b (ExprKind-F.Read k (part (Ptr t) w))
  unfolding rule are_values
  read_row k t b w r is = and_both (is_read k) _ r (holds (λ s. same_ty s b) t b is (same_ty_refl b))

  -- a read of any kind
  pub read_as : (k : Kind) (t b : Ty) (w : Bool) (x : Expr) → IsTrue (is_read k) → IsMade cx (Ptr t) w x → base t ≡ Some b → IsMade cx b false (typed span b (Read k x))
  read_as k t b w x r mx is = made_at cx span b false (Read k x) (ExprKind-F.Read k (part_of cx x)) (search (rules, opened))
      (subst (λ (p : Part). Layer cx b (ExprKind-F.Read k p)) (sym (part_is cx (Ptr t) w x mx)) (read_row k t b w r is))

  pub read_made : (t b : Ty) (w : Bool) (x : Expr) → IsMade cx (Ptr t) w x → base t ≡ Some b → IsMade cx b false (typed span b (Read (read_kind x.ty) x))
  read_made t b w x mx is = read_as (read_kind x.ty) t b w x (subst (λ (s : Ty). IsTrue (is_read (read_kind s))) (sym mx.own) (is_reading t)) mx is

  write_row : (t b v : Ty) (w : Bool) → base t ≡ Some b → IsTrue (fits b v) → Layer cx b (ExprKind-F.Write (write_kind (Ptr t)) (part (Ptr t) w) (part v false))
  unfolding rule are_values
  write_row t b v w is r = and_both (is_write (write_kind (Ptr t))) _ (is_writing t)
      (holds (λ s. fits s v && (is_void b || (same_ty s b && same_write (write_kind (Ptr t)) (write_kind (Ptr t))))) t b is
      (and_both (fits b v) _ r (or_right (is_void b) _ (and_both (same_ty b b) _ (same_ty_refl b) (is_same_write t)))))

  pub write_made : (t b v : Ty) (w : Bool) (x y : Expr) → IsMade cx (Ptr t) w x → IsMade cx v false y → base t ≡ Some b → IsTrue (fits b v) → IsMade cx b false (typed span b (Write (write_kind x.ty) x y))
  write_made t b v w x y mx my is r = made_at cx span b false (Write (write_kind x.ty) x y) (ExprKind-F.Write (write_kind x.ty) (part_of cx x) (part_of cx y)) (search (rules, opened))
      (subst (λ (s : Ty). Layer cx b (ExprKind-F.Write (write_kind s) (part_of cx x) (part_of cx y))) (sym mx.own)
      (subst (λ (p : Part). Layer cx b (ExprKind-F.Write (write_kind (Ptr t)) p (part_of cx y))) (sym (part_is cx (Ptr t) w x mx))
      (subst (λ (p : Part). Layer cx b (ExprKind-F.Write (write_kind (Ptr t)) (part (Ptr t) w) p)) (sym (part_is cx v false y my)) (write_row t b v w is r))))

  update_row : (o : BinOp) (post : Bool) (t b v : Ty) (w : Bool) → base t ≡ Some b → IsTrue (update_ok (sort_of o) b) → IsTrue (is_number v) → Layer cx b (ExprKind-F.Update o post (part (Ptr t) w) (part v false))
  unfolding rule are_values
  update_row o post t b v w is r n = and_both (is_number v) _ n (and_both (update_ok (sort_of o) b) _ r (holds (λ s. same_ty s b) t b is (same_ty_refl b)))

  pub update_made : (o : BinOp) (post : Bool) (t b v : Ty) (w : Bool) (x y : Expr) → IsMade cx (Ptr t) w x → IsMade cx v false y → base t ≡ Some b → IsTrue (update_ok (sort_of o) b) → IsTrue (is_number v) → IsMade cx b false (typed span b (Update o post x y))
  update_made o post t b v w x y mx my is r n = made_at cx span b false (Update o post x y) (ExprKind-F.Update o post (part_of cx x) (part_of cx y)) (search (rules, opened))
      (subst (λ (p : Part). Layer cx b (ExprKind-F.Update o post p (part_of cx y))) (sym (part_is cx (Ptr t) w x mx))
      (subst (λ (p : Part). Layer cx b (ExprKind-F.Update o post (part (Ptr t) w) p)) (sym (part_is cx v false y my)) (update_row o post t b v w is r n)))

  -- `?:` ------------------------------------------------------------------------

  cond_row : (s t u : Ty) → IsTrue (is_plain s) → IsTrue (same_ty t u || both_numbers t u) → Layer cx (common_type t u) (ExprKind-F.Cond (part s false) (part t false) (part u false))
  unfolding rule are_values
  cond_row s t u p r = and_both (is_plain s) _ p (and_both (same_ty t u || both_numbers t u) _ r (same_ty_refl (common_type t u)))

  pub cond_made : (s t u : Ty) (x y z : Expr) → IsMade cx s false x → IsMade cx t false y → IsMade cx u false z → IsTrue (is_plain s) → IsTrue (same_ty t u || both_numbers t u) → IsMade cx (common_type t u) false (typed span (common_type t u) (Cond x y z))
  cond_made s t u x y z mx my mz p r =
      let ty = common_type t u in
      made_at cx span ty false (Cond x y z) (ExprKind-F.Cond (part_of cx x) (part_of cx y) (part_of cx z)) (search (rules, opened))
      (subst (λ (p : Part). Layer cx ty (ExprKind-F.Cond p (part_of cx y) (part_of cx z))) (sym (part_is cx s false x mx))
      (subst (λ (p : Part). Layer cx ty (ExprKind-F.Cond (part s false) p (part_of cx z))) (sym (part_is cx t false y my))
      (subst (λ (p : Part). Layer cx ty (ExprKind-F.Cond (part s false) (part t false) p)) (sym (part_is cx u false z mz)) (cond_row s t u p r))))

  -- other bytes -----------------------------------------------------------------

  pub spanned_made : (ty : Ty) (w : Bool) (x : Expr) → IsMade cx ty w x → IsMade cx ty w (typed span x.ty x.kind)
  spanned_made ty w x m =
      let same : part_of cx (typed span x.ty x.kind) ≡ part_of cx x = search (rules, opened) in
      record {
        own = m.own;
        typed = ap (λ (p : Part). p.ty) same ∙ m.typed;
        ok = ap (λ (p : Part). p.ok) same ∙ m.ok;
        within = ap (λ (p : Part). p.within) same ∙ m.within;
        variable = ap (λ (p : Part). p.variable) same ∙ m.variable;
      }
