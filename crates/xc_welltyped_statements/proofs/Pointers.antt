-- Pointers that initialisers at file scope stand for.
use Rattle.std.proofs.Common.{◌≡◌, ℕ, ◌+◌, ◌-◌, ◌*◌, ◌%◌, ◌/◌, ◌^◌, ◌<◌, List, [], ◌∷◌, length, map, Bool, true, false, refl, sym, ap, ◌∙◌, subst, arith, add-zero, cond}
use Rattle.std.specs.Prelude.{IsTrue, nat_lt, ◌&&◌, ◌||◌, ◌==◌, Option, Some, None, slice_get, option_map, option_and_then}
use Rattle.std.proofs.lemmas.Nat.{div-mul-add, mod-mul-add}
use Rattle.std.proofs.lemmas.Option.{slice_get_within}
use Rattle.xc_tree.specs.declared.ty.Ty.{Ty}
use Rattle.xc_tree.specs.declared.expr.Expr.{Expr}
use Rattle.xc_tree.specs.declared.expr.ExprKind.{ExprKind, out-ExprKind}
use Rattle.xc_tree.specs.declared.expr.ExprKind.TheOpen.{ExprKind-F, Expr-F}
use Rattle.xc_tree.specs.declared.expr.ExprKind.TheFolds.{fold-ExprKind, fold_out-Expr, fold_out-ExprKind, map-ExprKind}
use Rattle.xc_tree.specs.declared.tree.Object.{Object}
use Rattle.xc_tree.specs.Lists.{every, passes}
use Rattle.xc_tree.specs.Types.{same_ty, is_number, is_pointer, is_object, size_of, pointee, array_of, array_under}
use Rattle.xc_tree.specs.Typed.{Context, Row, Part, kind_step, part_of, part_ok, rule, are_values, leads_to, global_type, is_value, value_ok}
use Rattle.xc_tree.specs.Valid.{may_point, word_ok}
use Rattle.xc_tree.proofs.Lists.{and_left, and_right, and_both}
use Rattle.xc_type_initialiser_objects.specs.Words.{pointer_to, global_at, global_of, is_first, word_at, word_of}
use Rattle.xc_welltyped.proofs.Types.{or_left, or_right, same_ty_refl}
use Rattle.xc_type_lowering.proofs.Types.{pointee_is}

-- the word of a global ------------------------------------------------------------

small : (n : ℕ) → n < 2 ^ 64 → n % 2 ^ 64 ≡ n
small n lt = let same : n ≡ 0 + n = omega arith in ap (λ m. m % 2 ^ 64) same ∙ mod-mul-add 0 (2 ^ 64) n lt

module _ (g : ℕ) (lt : g + 1 < 2 ^ 32) where
  word_is : pointer_to g ≡ (g + 1) * 2 ^ 32 + 0
  word_is = small ((g + 1) * 2 ^ 32) (omega (arith, lt)) ∙ sym (add-zero ((g + 1) * 2 ^ 32))

  no_rest : pointer_to g % 2 ^ 32 ≡ 0
  no_rest = ap (λ n. n % 2 ^ 32) word_is ∙ mod-mul-add (g + 1) (2 ^ 32) 0 (omega arith)

  number_is : pointer_to g / 2 ^ 32 - 1 ≡ g
  number_is = let quotient = ap (λ n. n / 2 ^ 32) word_is ∙ div-mul-add (g + 1) (2 ^ 32) 0 (omega arith) in omega (arith, quotient)

module _ (globals : List Object) (few : length globals < 2 ^ 32) where
  abbrev Leads : Ty → Object → Type 0
  Leads b o = IsTrue (passes (λ to. may_point to o.ty) (pointee b))

  pointer_ok : (g : ℕ) (o : Object) → slice_get globals g ≡ Some o → (b : Ty) → Leads b o → IsTrue (word_ok globals (pointer_to g) b)
  pointer_ok g o is b h =
      let within = slice_get_within globals g o is in
      let lt : g + 1 < 2 ^ 32 = omega (arith, within, few) in
      let p = pointer_to g in
      or_right (is_number b) _ (or_right (p == 0) _ (and_both (p % 2 ^ 32 == 0) _ (subst (λ n. IsTrue (n == 0)) (sym (no_rest g lt)) refl)
      (subst (λ k. IsTrue (passes (λ (o : Object). passes (λ to. may_point to o.ty) (pointee b)) (slice_get globals k))) (sym (number_is g lt))
      (subst (λ q. IsTrue (passes (λ (o : Object). passes (λ to. may_point to o.ty) (pointee b)) q)) (sym is) h))))

-- what an expression is -----------------------------------------------------------

module _ (cx : Context) where
  abbrev part_with : Expr-F Row Part → Part
  part_with e = record { ty = e.ty; variable = e.kind.variable; within = e.kind.within; ok = e.kind.ok e.ty }

  -- a part has the type of its expression
  part_ty : (e : Expr) → (part_of cx e).ty ≡ e.ty
  part_ty e = ap (λ (p : Part). p.ty) (fold_out-Expr Row Part (kind_step cx) part_with e)

  abbrev row_of : ExprKind → Row
  row_of = fold-ExprKind Row Part (kind_step cx) part_with

  abbrev layer : ExprKind-F ExprKind Expr → ExprKind-F Row Part
  layer l = map-ExprKind ExprKind Expr Row Part row_of (part_of cx) l

  row_ok : (x : Expr) → (part_of cx x).ok ≡ (kind_step cx (layer (out-ExprKind x.kind))).ok x.ty
  row_ok x = ap (λ (p : Part). p.ok) (fold_out-Expr Row Part (kind_step cx) part_with x)
      ∙ ap (λ (r : Row). r.ok x.ty) (fold_out-ExprKind Row Part (kind_step cx) part_with x.kind)

  -- the object of a global
  record Names (g : ℕ) (ty : Ty) : Type 0 where
    object : Object
    found : slice_get cx.globals g ≡ Some object
    leads : pointee ty ≡ Some object.ty

  global_named : (g : ℕ) (ty : Ty) → IsTrue ((kind_step cx (ExprKind-F.Global g)).ok ty) → Names g ty
  unfolding rule are_values
  global_named g ty h = by (slice_get cx.globals g) refl (and_right (nat_lt g (length cx.globals)) _ h)
    where
      by : (o : Option Object) → slice_get cx.globals g ≡ o → IsTrue (leads_to (global_type o) ty) → Names g ty
      by None is k = absurd cc
      by (Some o) is k = record { object = o; found = is; leads = pointee_is o.ty ty k }

  named_at : (x : Expr) (g : ℕ) (l : ExprKind-F ExprKind Expr) → out-ExprKind x.kind ≡ l → global_at l ≡ Some g → IsTrue (part_of cx x).ok → Names g x.ty
  named_at x g (ExprKind-F.Global n) is e h = let same : n ≡ g = cc in
      subst (λ k. Names k x.ty) same (global_named n x.ty (subst (λ l. IsTrue ((kind_step cx (layer l)).ok x.ty)) is (sym (row_ok x) ∙ h)))
  named_at x g _ is e h = absurd cc

  -- words ----------------------------------------------------------------------------

  module _ (few : length cx.globals < 2 ^ 32) (b : Ty) (pointer : is_number b ≡ false) where
    global_word : (g : ℕ) → IsTrue ((kind_step cx (ExprKind-F.Global g)).ok b) → IsTrue (word_ok cx.globals (pointer_to g) b)
    global_word g h =
        let n = global_named g b h in
        pointer_ok cx.globals few g n.object n.found b (subst (λ o. IsTrue (passes (λ to. may_point to n.object.ty) o)) (sym n.leads)
        (or_left (same_ty n.object.ty n.object.ty) _ (same_ty_refl n.object.ty)))

    zero_by : (p : Bool) (o : Bool) (n : ℕ) → IsTrue (is_number b || (p && (o && n == 0))) → IsTrue (n == 0)
    zero_by p o n h = and_right o _ (and_right p _ (subst (λ q. IsTrue (q || (p && (o && n == 0)))) pointer h))

    const_word : (n : ℕ) → IsTrue ((kind_step cx (ExprKind-F.Const n)).ok b) → IsTrue (word_ok cx.globals n b)
    unfolding rule are_values
    const_word n h = or_right (is_number b) _ (or_left (n == 0) _ (zero_by (is_pointer b) (is_object cx.shapes b) n h))

    -- the name of an array
    array_leads : (o : Object) (P : ℕ × Ty → Bool) (a : Option (ℕ × Ty)) → a ≡ array_of o.ty → IsTrue (passes (λ a. passes (same_ty a.1) (pointee b) && P a) a) → Leads cx.globals few b o
    array_leads o P None e h = absurd cc
    array_leads o P (Some a) e h =
        let to : pointee b ≡ Some a.1 = pointee_is a.1 b (and_left (passes (same_ty a.1) (pointee b)) _ h) in
        subst (λ q. IsTrue (passes (λ to. may_point to o.ty) q)) (sym to)
        (or_right (same_ty a.1 o.ty) _ (subst (λ q. IsTrue (passes (λ c. same_ty a.1 c.1) q)) e (same_ty_refl a.1)))

    named_word : (array index : Expr) (size bound g : ℕ) → global_of array ≡ Some g → IsTrue ((kind_step cx (layer (ExprKind-F.Index array index size (Some bound)))).ok b) → IsTrue (word_ok cx.globals (pointer_to g) b)
    unfolding rule are_values
    named_word array index size bound g is h =
        let parts = part_of cx array ∷ part_of cx index ∷ [] in
        let oks = and_left (every (map part_ok parts)) _ h in
        let rest = and_right (every (map part_ok parts)) _ h in
        let ruling = and_right (every (map is_value (part_of cx index ∷ []))) _ rest in
        let element = and_right (is_number (part_of cx index).ty) _ ruling in
        let n = named_at array g (out-ExprKind array.kind) refl is (and_left (part_of cx array).ok _ oks) in
        pointer_ok cx.globals few g n.object n.found b
        (array_leads n.object (λ a. (bound == a.0 || (is_value (part_of cx array) && bound == a.0 + 1)) && size == size_of cx.shapes a.1) (array_under (part_of cx array).ty)
        (ap array_under (part_ty array) ∙ ap (option_and_then array_of) n.leads) element)

    indexed_word : (w : ℕ) (array index : Expr) (size bound : ℕ) (c : Bool) (o : Option ℕ) → global_of array ≡ o → option_map pointer_to (cond c o None) ≡ Some w →
        IsTrue ((kind_step cx (layer (ExprKind-F.Index array index size (Some bound)))).ok b) → IsTrue (word_ok cx.globals w b)
    indexed_word w array index size bound false o is e h = absurd cc
    indexed_word w array index size bound true None is e h = absurd cc
    indexed_word w array index size bound true (Some g) is e h = let same : pointer_to g ≡ w = cc in subst (λ k. IsTrue (word_ok cx.globals k b)) same (named_word array index size bound g is h)

    form_word : (w : ℕ) (l : ExprKind-F ExprKind Expr) → word_at l ≡ Some w → IsTrue ((kind_step cx (layer l)).ok b) → IsTrue (word_ok cx.globals w b)
    form_word w (ExprKind-F.Const n) e h = let same : n ≡ w = cc in subst (λ k. IsTrue (word_ok cx.globals k b)) same (const_word n h)
    form_word w (ExprKind-F.Global g) e h = let same : pointer_to g ≡ w = cc in subst (λ k. IsTrue (word_ok cx.globals k b)) same (global_word g h)
    form_word w (ExprKind-F.Index array index size (Some bound)) e h = indexed_word w array index size bound (is_first array index bound) (global_of array) refl e h
    form_word w (ExprKind-F.Index array index size None) e h = absurd cc
    form_word w _ e h = absurd cc

    -- a value of a pointer's type
    pub pointer_word : (x : Expr) → IsTrue (value_ok cx x) → x.ty ≡ b → (w : ℕ) → word_of x ≡ Some w → IsTrue (word_ok cx.globals w b)
    unfolding word_of
    pointer_word x h own w e = form_word w (out-ExprKind x.kind) e
        (subst (λ u. IsTrue ((kind_step cx (layer (out-ExprKind x.kind))).ok u)) own (sym (row_ok x) ∙ and_left (part_of cx x).ok _ h))
