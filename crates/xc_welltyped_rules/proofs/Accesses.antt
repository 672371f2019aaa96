-- What the generic functions make is well typed where their arguments are.
use Rattle.std.proofs.Common.{rules, ◌≡◌, false, refl, sym, subst}
use Rattle.std.specs.Prelude.{IsTrue, ◌&&◌, ◌||◌, Option, Some, None, option_map, option_and_then}
use Rattle.xc_text_place.specs.declared.Span.{Span}
use Rattle.xc_word.specs.declared.memory.Kind.{Kind}
use Rattle.xc_word.specs.declared.memory.Kind.TheVariants as kind
use Rattle.xc_tree.specs.declared.ty.Ty.{Ty, out-Ty, Ptr, Void}
use Rattle.xc_tree.specs.declared.expr.Expr.{Expr}
use Rattle.xc_tree.specs.declared.expr.ExprKind.{Write, FetchAdd, Purge}
use Rattle.xc_tree.specs.declared.expr.ExprKind.TheOpen.{ExprKind-F}
use Rattle.xc_tree.proofs.Lists.{and_right, and_both}
use Rattle.xc_tree.specs.Kinds.{is_read, is_write, same_write, write_kind}
use Rattle.xc_tree.specs.Types.{is_void, is_object, is_number, both_numbers, fits, same_ty, base, content, pointee}
use Rattle.xc_tree.specs.Typed.{Context, Part, part_of, rule, are_values}
use Rattle.xc_type_rule.specs.declared.found.Found.{Found}
use Rattle.xc_type_rule.specs.declared.found.Known.{Known}
use Rattle.xc_type_rule.specs.declared.found.Known.TheVariants as known
use Rattle.xc_type_rule.specs.Making.{typed, both}
use Rattle.xc_type_rule.specs.Tests.{may_be}
use Rattle.xc_welltyped.specs.Sound.{Point, IsMade, Stands, known_ok, IsSound}
use Rattle.xc_welltyped.proofs.Types.{ty_opened, or_left, is_pointer_to, same_ty_refl}
use Rattle.xc_welltyped.proofs.Objects.{base_ok, pointee_ok}
use Rattle.xc_welltyped.proofs.Forms.{opened, Layer, made_at}
use Rattle.xc_welltyped.proofs.Accesses.{part, part_is, holds, read_as}
use Rattle.xc_welltyped.proofs.Nulls.{given_sound}
use Rattle.xc_welltyped.proofs.Founds.{KindMade, Keeps, found_sound}
use Rattle.xc_type_rule_calls.specs.Arguments.{given_by}
use Rattle.xc_type_rule_calls.specs.Accesses.{scalar_of, read_ruling, purge_ruling, access_ruling, access_of, written, write_ruling, added, add_ruling, update_ruling, update_of, access_part, updated_part, update_part}
use Rattle.xc_welltyped_rules.proofs.Calls.{ruled_keeps, unruled_keeps, void_ok}

-- forms ---------------------------------------------------------------------------

module _ (cx : Context) (span : Span) (t b : Ty) (is : base t ≡ Some b) where
  purge_row : Layer cx Void (ExprKind-F.Purge (part (Ptr t) false))
  unfolding rule are_values
  purge_row = holds (λ s. is_void Void) t b is (search (rules, ty_opened))

  purge_made : (x : Expr) → IsMade cx (Ptr t) false x → IsMade cx Void false (typed span Void (Purge x))
  purge_made x mx = made_at cx span Void false (Purge x) (ExprKind-F.Purge (part_of cx x)) (search (rules, opened))
      (subst (λ (p : Part). Layer cx Void (ExprKind-F.Purge p)) (sym (part_is cx (Ptr t) false x mx)) purge_row)

  -- a call of a write is void, of any kind
  void_row : (k : Kind) (v : Ty) → IsTrue (is_write k) → IsTrue (fits b v) → Layer cx Void (ExprKind-F.Write k (part (Ptr t) false) (part v false))
  unfolding rule are_values
  void_row k v w r = and_both (is_write k) _ w
      (holds (λ s. fits s v && (is_void Void || (same_ty s Void && same_write k (write_kind (Ptr t))))) t b is
      (and_both (fits b v) _ r (or_left (is_void Void) _ (search (rules, ty_opened)))))

  void_made : (k : Kind) (v : Ty) (x y : Expr) → IsTrue (is_write k) → IsMade cx (Ptr t) false x → IsMade cx v false y → IsTrue (fits b v) → IsMade cx Void false (typed span Void (Write k x y))
  void_made k v x y w mx my r = made_at cx span Void false (Write k x y) (ExprKind-F.Write k (part_of cx x) (part_of cx y)) (search (rules, opened))
      (subst (λ (p : Part). Layer cx Void (ExprKind-F.Write k p (part_of cx y))) (sym (part_is cx (Ptr t) false x mx))
      (subst (λ (p : Part). Layer cx Void (ExprKind-F.Write k (part (Ptr t) false) p)) (sym (part_is cx v false y my)) (void_row k v w r)))

  add_row : (v : Ty) → IsTrue (both_numbers b v) → Layer cx b (ExprKind-F.FetchAdd (part (Ptr t) false) (part v false))
  unfolding rule are_values
  add_row v r = holds (λ s. both_numbers s v && same_ty s b) t b is (and_both (both_numbers b v) _ r (same_ty_refl b))

  add_made : (v : Ty) (x y : Expr) → IsMade cx (Ptr t) false x → IsMade cx v false y → IsTrue (both_numbers b v) → IsMade cx b false (typed span b (FetchAdd x y))
  add_made v x y mx my r = made_at cx span b false (FetchAdd x y) (ExprKind-F.FetchAdd (part_of cx x) (part_of cx y)) (search (rules, opened))
      (subst (λ (p : Part). Layer cx b (ExprKind-F.FetchAdd p (part_of cx y))) (sym (part_is cx (Ptr t) false x mx))
      (subst (λ (p : Part). Layer cx b (ExprKind-F.FetchAdd (part (Ptr t) false) p)) (sym (part_is cx v false y my)) (add_row v r)))

-- what a pointer to a scalar leads to ---------------------------------------------

record LeadsTo (so : Point) (ty b : Ty) : Type 0 where
  pub to : Ty
  pub is : ty ≡ Ptr to
  pub base : base to ≡ Some b
  pub object : IsTrue (is_object so.shapes to)

leads_to : (so : Point) (ty b : Ty) → content ty ≡ Some b → IsTrue (known_ok so (known.Value ty)) → LeadsTo so ty b
leads_to so ty b e h = by (pointee ty) refl e
  where
    by : (o : Option Ty) → pointee ty ≡ o → option_and_then base o ≡ Some b → LeadsTo so ty b
    by None p e = absurd cc
    by (Some t) p e =
        let is = is_pointer_to ty t (out-Ty ty) refl p in
        record { to = t; is = is; base = e; object = pointee_ok so t (subst (λ u. IsTrue (known_ok so (known.Value u))) is h) }

module _ (so : Point) (span : Span) where
  scalar_ok : (ty b : Ty) → content ty ≡ Some b → IsTrue (known_ok so (known.Value ty)) → IsTrue (known_ok so (known.Value b))
  scalar_ok ty b e h = let l = leads_to so ty b e h in base_ok so l.to b l.base l.object

  -- one argument ------------------------------------------------------------------

  read_kind_made : (k : Kind) (t b : Ty) (m : Option Expr) → IsTrue (is_read k) → base t ≡ Some b → Stands so.cx (known.Value (Ptr t)) m → KindMade so span b (option_map (λ e. access_of k e) m)
  read_kind_made k t b None r is s = tt
  read_kind_made k t b (Some x) r is s = by k r
    where
      by : (k : Kind) → IsTrue (is_read k) → KindMade so span b (Some (access_of k x))
      by kind.ReadXx r = read_as so.cx span kind.ReadXx t b false x r s is
      by kind.ReadFe r = read_as so.cx span kind.ReadFe t b false x r s is
      by kind.ReadFf r = read_as so.cx span kind.ReadFf t b false x r s is
      by kind.WriteXf r = absurd cc
      by kind.WriteEf r = absurd cc
      by kind.WriteFf r = absurd cc
      by kind.Add r = absurd cc
      by kind.Purge r = absurd cc

  read_keeps : (k : Kind) (p : Known) (m : Option Expr) → IsTrue (is_read k) → IsTrue (known_ok so p) → Stands so.cx p m → Keeps so span (read_ruling p) (option_map (access_of k) m)
  unfolding read_ruling
  read_keeps k (known.Unknown place) m r h s = tt
  read_keeps k (known.Place ty w) m r h s = tt
  read_keeps k (known.Value ty) m r h s = by (content ty) refl
    where
      by : (o : Option Ty) → content ty ≡ o → Keeps so span (option_map known.Value o) (option_map (access_of k) m)
      by None e = tt
      by (Some b) e =
          let l = leads_to so ty b e h in
          (scalar_ok ty b e h, read_kind_made k l.to b m r l.base (subst (λ u. Stands so.cx (known.Value u) m) l.is s))

  purge_kind : (t b : Ty) (m : Option Expr) → base t ≡ Some b → Stands so.cx (known.Value (Ptr t)) m → KindMade so span Void (option_map (access_of kind.Purge) m)
  purge_kind t b None is s = tt
  purge_kind t b (Some x) is s = purge_made so.cx span t b is x s

  purge_keeps : (p : Known) (m : Option Expr) → IsTrue (known_ok so p) → Stands so.cx p m → Keeps so span (purge_ruling p) (option_map (access_of kind.Purge) m)
  unfolding purge_ruling
  purge_keeps (known.Unknown place) None h s = (void_ok so span, tt)
  purge_keeps (known.Unknown place) (Some x) h s = absurd s
  purge_keeps (known.Place ty w) m h s = tt
  purge_keeps (known.Value ty) m h s = by (content ty) refl
    where
      by : (o : Option Ty) → content ty ≡ o → Keeps so span (option_map (λ ty. known.Value Void) o) (option_map (access_of kind.Purge) m)
      by None e = tt
      by (Some b) e =
          let l = leads_to so ty b e h in
          (void_ok so span, purge_kind l.to b m l.base (subst (λ u. Stands so.cx (known.Value u) m) l.is s))

  access_keeps : (k : Kind) (p : Known) (m : Option Expr) → IsTrue (known_ok so p) → Stands so.cx p m → Keeps so span (access_ruling k p) (option_map (access_of k) m)
  unfolding access_ruling
  access_keeps kind.ReadXx p m h s = read_keeps kind.ReadXx p m refl h s
  access_keeps kind.ReadFe p m h s = read_keeps kind.ReadFe p m refl h s
  access_keeps kind.ReadFf p m h s = read_keeps kind.ReadFf p m refl h s
  access_keeps kind.Purge p m h s = purge_keeps p m h s
  access_keeps kind.WriteXf p m h s = tt
  access_keeps kind.WriteEf p m h s = tt
  access_keeps kind.WriteFf p m h s = tt
  access_keeps kind.Add p m h s = tt

  -- `readfe(p)` and the like
  pub access_sound : (k : Kind) (p : Found) → IsSound so p → IsSound so (access_part span k p)
  unfolding access_part
  access_sound k p h = found_sound so span (access_ruling k p.known) (option_map (access_of k) p.made) (access_keeps k p.known p.made h.known h.made)

  -- a pointer and a value ---------------------------------------------------------

  write_of_kind : (k : Kind) (x y : Expr) → IsTrue (is_write k) → update_of k x y ≡ Write k x y
  write_of_kind kind.WriteXf x y w = refl
  write_of_kind kind.WriteEf x y w = refl
  write_of_kind kind.WriteFf x y w = refl
  write_of_kind kind.ReadXx x y w = absurd cc
  write_of_kind kind.ReadFe x y w = absurd cc
  write_of_kind kind.ReadFf x y w = absurd cc
  write_of_kind kind.Add x y w = absurd cc
  write_of_kind kind.Purge x y w = absurd cc

  write_kind_made : (k : Kind) (t b : Ty) (v : Known) (m n : Option Expr) → IsTrue (is_write k) → base t ≡ Some b → Stands so.cx (known.Value (Ptr t)) m → Stands so.cx v n → IsTrue (may_be (fits b) v) →
      KindMade so span Void (both (update_of k) m n)
  unfolding both may_be
  write_kind_made k t b v None n w is s r f = tt
  write_kind_made k t b v (Some x) None w is s r f = tt
  write_kind_made k t b (known.Unknown place) (Some x) (Some y) w is s r f = absurd r
  write_kind_made k t b (known.Place u z) (Some x) (Some y) w is s r f = absurd cc
  write_kind_made k t b (known.Value v) (Some x) (Some y) w is s r f =
      subst (λ e. IsMade so.cx Void false (typed span Void e)) (sym (write_of_kind k x y w)) (void_made so.cx span t b is k v x y w s r f)

  write_keeps : (k : Kind) (p v : Known) (m n : Option Expr) → IsTrue (is_write k) → IsTrue (known_ok so p) → Stands so.cx p m → Stands so.cx v n →
      Keeps so span (write_ruling p v) (both (update_of k) m n)
  unfolding write_ruling both
  write_keeps k (known.Unknown place) v None n w h s r = ruled_keeps so span _ Void None (λ f. (void_ok so span, tt))
  write_keeps k (known.Unknown place) v (Some x) n w h s r = absurd s
  write_keeps k (known.Place ty z) v m n w h s r = tt
  write_keeps k (known.Value ty) v m n w h s r = by (content ty) refl
    where
      by : (o : Option Ty) → content ty ≡ o → Keeps so span (written o v) (both (update_of k) m n)
      by None e = tt
      by (Some b) e =
          let l = leads_to so ty b e h in
          ruled_keeps so span (may_be (fits b) v) Void _ (λ f. (void_ok so span, write_kind_made k l.to b v m n w l.base (subst (λ u. Stands so.cx (known.Value u) m) l.is s) r f))

  add_kind : (t b : Ty) (v : Known) (m n : Option Expr) → base t ≡ Some b → Stands so.cx (known.Value (Ptr t)) m → Stands so.cx v n → IsTrue (is_number b && may_be is_number v) →
      KindMade so span b (both (update_of kind.Add) m n)
  unfolding both may_be
  add_kind t b v None n is s r f = tt
  add_kind t b v (Some x) None is s r f = tt
  add_kind t b (known.Unknown place) (Some x) (Some y) is s r f = absurd r
  add_kind t b (known.Place u z) (Some x) (Some y) is s r f = absurd (let no : IsTrue false = and_right (is_number b) _ f in cc)
  add_kind t b (known.Value v) (Some x) (Some y) is s r f = add_made so.cx span t b is v x y s r f

  add_keeps : (p v : Known) (m n : Option Expr) → IsTrue (known_ok so p) → Stands so.cx p m → Stands so.cx v n → Keeps so span (add_ruling p v) (both (update_of kind.Add) m n)
  unfolding add_ruling
  add_keeps (known.Unknown place) v m n h s r = unruled_keeps so span _ false _
  add_keeps (known.Place ty z) v m n h s r = tt
  add_keeps (known.Value ty) v m n h s r = by (content ty) refl
    where
      by : (o : Option Ty) → content ty ≡ o → Keeps so span (added o v) (both (update_of kind.Add) m n)
      by None e = tt
      by (Some b) e =
          let l = leads_to so ty b e h in
          ruled_keeps so span (is_number b && may_be is_number v) b _ (λ f. (scalar_ok ty b e h, add_kind l.to b v m n l.base (subst (λ u. Stands so.cx (known.Value u) m) l.is s) r f))

  update_keeps : (k : Kind) (p v : Known) (m n : Option Expr) → IsTrue (known_ok so p) → Stands so.cx p m → Stands so.cx v n → Keeps so span (update_ruling k p v) (both (update_of k) m n)
  unfolding update_ruling
  update_keeps kind.WriteXf p v m n h s r = write_keeps kind.WriteXf p v m n refl h s r
  update_keeps kind.WriteEf p v m n h s r = write_keeps kind.WriteEf p v m n refl h s r
  update_keeps kind.WriteFf p v m n h s r = write_keeps kind.WriteFf p v m n refl h s r
  update_keeps kind.Add p v m n h s r = add_keeps p v m n h s r
  update_keeps kind.ReadXx p v m n h s r = tt
  update_keeps kind.ReadFe p v m n h s r = tt
  update_keeps kind.ReadFf p v m n h s r = tt
  update_keeps kind.Purge p v m n h s r = tt

  updated_sound : (k : Kind) (p v : Found) → IsSound so p → IsSound so v → IsSound so (updated_part span k p v)
  unfolding updated_part
  updated_sound k p v hp hv = found_sound so span (update_ruling k p.known v.known) (both (update_of k) p.made v.made) (update_keeps k p.known v.known p.made v.made hp.known hp.made hv.made)

  given_scalar : (p : Known) (v : Found) → IsTrue (known_ok so p) → IsSound so v → IsSound so (given_by (scalar_of p) v)
  given_scalar (known.Unknown place) v h s = s
  given_scalar (known.Place ty w) v h s = s
  given_scalar (known.Value ty) v h s = by (content ty) refl
    where
      by : (o : Option Ty) → content ty ≡ o → IsSound so (given_by o v)
      by None e = s
      by (Some b) e = given_sound so b v (scalar_ok ty b e h) s

  -- `writexf(p, v)` and the like, and `int_fetch_add(p, v)`
  pub update_sound : (k : Kind) (p v : Found) → IsSound so p → IsSound so v → IsSound so (update_part span k p v)
  unfolding update_part
  update_sound k p v hp hv = updated_sound k p (given_by (scalar_of p.known) v) hp (given_scalar p.known v hp.known hv)
