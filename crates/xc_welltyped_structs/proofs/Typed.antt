-- What declarators without faults give, behind a base to which a pointer may lead.
use Rattle.std.proofs.Common.{◌≡◌, ℕ, zero, suc, ◌*◌, ◌^◌, ◌≤◌, List, [], ◌∷◌, Bool, true, false, refl, sym, ap, ◌∙◌, subst, arith}
use Rattle.std.specs.Prelude.{IsTrue, ◌&&◌, ◌||◌, nat_le, is_some, if◌then◌else◌, Option, Some, None, option_map}
use Rattle.std.proofs.lemmas.Bool.{le-leb}
use Rattle.xc_text_place.specs.declared.Span.{Span}
use Rattle.xc_tree.specs.declared.ty.Ty.{Ty, Ptr, Array}
use Rattle.xc_tree.specs.Lists.{allows}
use Rattle.xc_tree.proofs.Lists.{and_left, and_right, and_both}
use Rattle.xc_tree.specs.Types.{is_void, is_plain, is_size}
use Rattle.xc_tree.specs.Types as types
use Rattle.xc_raw.specs.declared.word.Word.{Word}
use Rattle.xc_type_rule.specs.Least.{fault_unless}
use Rattle.xc_type_rule.specs.Cells.{cells}
use Rattle.xc_type_declarators.specs.declared.declarators.Typing.{Typing}
use Rattle.xc_type_declarators.specs.declared.declarators.Bound.{Bound}
use Rattle.xc_type_declarators.specs.Declarators.{pointer_typing, number_of, is_bound, bound_faults, bounds_faults, array_ty, arrayed, or_one, fewest, is_complete, object_typing, may_be_result, result_typing, may_be_parameter, scalar_typing, array_parameter_typing}
use Rattle.xc_welltyped_claims.specs.Lists.{Each}
use Rattle.xc_welltyped_claims.specs.Types.{promised, will_be_object, may_be_pointed_to}
use Rattle.xc_welltyped_claims.specs.Shaped.{begins_with_star}
use Rattle.xc_welltyped_structs.proofs.Scalars.{size_most, size_least, Led, kept_pointed, promised_cells, complete_kept, scalar_kept, result_kept, pointer_kept, array_kept}
use Rattle.xc_welltyped_structs.proofs.Declared.{pointer_typed}
use Rattle.xc_welltyped_claims.proofs.Judges.{none_left, none_right}

-- bounds ------------------------------------------------------------------------------

-- a bound with a number
abbrev Numbered : Bound → Type 0
Numbered b = (n : ℕ) × (number_of b ≡ Some n) × (1 ≤ n)

no_fault : (b : Bool) (span : Span) → fault_unless b span ≡ [] → IsTrue b
no_fault true span e = refl
no_fault false span e = absurd cc

numbered_by : (v : Option ℕ) → IsTrue (is_some v) → IsTrue (allows is_bound v) → (n : ℕ) × ((if allows is_bound v then v else None) ≡ Some n) × (1 ≤ n)
numbered_by None h w = absurd cc
numbered_by (Some n) h w = (n, ap (λ c. if c then Some n else None) w, size_least n w)

all_numbered : (bs : List Bound) → Each (λ b. IsTrue (is_some b.value)) bs → bounds_faults bs ≡ [] → Each Numbered bs
unfolding bounds_faults
all_numbered [] h e = tt
all_numbered (b ∷ bs) h e = (
  numbered_by b.value h.0 (no_fault (allows is_bound b.value) b.span (none_left (bound_faults b) (bounds_faults bs) e)),
  all_numbered bs h.1 (none_right (bound_faults b) (bounds_faults bs) e),
)

-- cells -------------------------------------------------------------------------------

fewest_times : (bs : List Bound) (c k : ℕ) → fewest (c * k) bs ≡ k * fewest c bs
unfolding fewest
fewest_times [] c k = grind arith
fewest_times (b ∷ bs) c k = let m = or_one (number_of b) in
    ap (λ n. fewest n bs) (let turned : c * k * m ≡ c * m * k = grind arith in turned) ∙ fewest_times bs (c * m) k

-- a factor of a size is one
none_times : (n : ℕ) → n * 0 ≡ 0
none_times n = grind arith

factor : (n f : ℕ) → 1 ≤ n → IsTrue (is_size (n * f)) → IsTrue (is_size f)
factor n zero some h = absurd (let least : 1 ≤ n * 0 = size_least (n * 0) h in omega (arith, least, none_times n))
factor zero (suc f) some h = absurd (omega (arith, some))
factor (suc n) (suc f) some h =
    let most : suc n * suc f ≤ 2 ^ 22 = size_most (suc n * suc f) h in
    let less : suc f ≤ suc n * suc f = grind arith in
    and_both (nat_le 1 (suc f)) _ (le-leb 1 (suc f) (omega arith)) (le-leb (suc f) (2 ^ 22) (omega (arith, most, less)))

module _ (ns : List ℕ) where
  -- an array of what it has as many cells as there are
  abbrev Arrayed : List Bound → Ty → Type 0
  Arrayed bs u = (v : Ty) × (arrayed bs (Some u) ≡ Some v) × IsTrue (will_be_object ns v) × ((promised ns v).size ≡ fewest (cells ns u) bs)

  array_by : (b : Bound) (bs : List Bound) (u : Ty) → Numbered b → IsTrue (is_size (fewest (cells ns u) (b ∷ bs))) → (IsTrue (is_size (fewest (cells ns u) bs)) → Arrayed bs u) → Arrayed (b ∷ bs) u
  unfolding fewest arrayed
  array_by b bs u n h f =
      let times : fewest (cells ns u) (b ∷ bs) ≡ n.0 * fewest (cells ns u) bs = ap (λ o. fewest (cells ns u * or_one o) bs) n.1 ∙ fewest_times bs (cells ns u) n.0 in
      let whole : IsTrue (is_size (n.0 * fewest (cells ns u) bs)) = subst (λ k. IsTrue (is_size k)) times h in
      let is = f (factor n.0 (fewest (cells ns u) bs) n.2 whole) in
      let made = array_kept ns n.0 is.0 is.2 (subst (λ k. IsTrue (is_size (n.0 * k))) (sym is.3) whole) in
      (Array n.0 is.0, (λ i. array_ty (n.1 i) (is.1 i)), made.0, made.1 ∙ ap (λ k. n.0 * k) is.3 ∙ sym times)

  array_none : (u : Ty) → (IsTrue (is_size (cells ns u)) → IsTrue (will_be_object ns u)) → IsTrue (is_size (fewest (cells ns u) [])) → Arrayed [] u
  unfolding fewest arrayed
  array_none u f h = (u, refl, f h, sym (promised_cells ns u (f h)))

  array_typed : (bs : List Bound) (u : Ty) → (IsTrue (is_size (cells ns u)) → IsTrue (will_be_object ns u)) → Each Numbered bs → IsTrue (is_size (fewest (cells ns u) bs)) → Arrayed bs u
  array_typed [] u f h w = array_none u f w
  array_typed (b ∷ bs) u f h w = array_by b bs u h.0 w (array_typed bs u f h.1)

  -- declarators -------------------------------------------------------------------------

  -- what stars give has this type, if it is sound
  abbrev Stars : Typing → Type 0
  Stars t = t.sound ≡ true → (u : Ty) × (t.ty ≡ Some u) × Led ns u

  counted : (t : Typing) (u : Ty) (bs : List Bound) → t.ty ≡ Some u → IsTrue (is_complete ns t.ty bs) → IsTrue (is_size (fewest (cells ns u) bs))
  counted t u bs e h = subst (λ o. IsTrue (is_complete ns o bs)) e h

  completed : (t : Typing) (bs : List Bound) → Stars t → Each Numbered bs → IsTrue (t.sound && is_complete ns t.ty bs) → (v : Ty) × (arrayed bs t.ty ≡ Some v) × IsTrue (will_be_object ns v)
  completed t bs s h w =
      let is = s (and_left t.sound _ w) in
      let of = array_typed bs is.0 (complete_kept ns is.0 is.2) h (counted t is.0 bs is.1 (and_right t.sound _ w)) in
      (of.0, ap (arrayed bs) is.1 ∙ of.1, of.2)

  object_by : (t : Typing) (bs : List Bound) → Stars t → Each Numbered bs → (object_typing ns t bs).sound ≡ true → (v : Ty) × ((object_typing ns t bs).ty ≡ Some v) × IsTrue (will_be_object ns v)
  unfolding object_typing
  object_by t bs s h w = let is = completed t bs s h w in (is.0, ap (λ c. if c then arrayed bs t.ty else None) w ∙ is.1, is.2)

  parameter_by : (t : Typing) (bs : List Bound) → Stars t → Each Numbered bs → (array_parameter_typing ns t bs).sound ≡ true →
      (v : Ty) × ((array_parameter_typing ns t bs).ty ≡ Some (Ptr v)) × IsTrue (will_be_object ns (Ptr v))
  unfolding array_parameter_typing
  parameter_by t bs s h w = let is = completed t bs s h w in
      (is.0, ap (λ c. if c then option_map Ptr (arrayed bs t.ty) else None) w ∙ ap (option_map Ptr) is.1, pointer_kept ns is.0 (kept_pointed ns is.0 is.2))

  scalar_by : (t : Typing) → Stars t → (scalar_typing t).sound ≡ true → (v : Ty) × ((scalar_typing t).ty ≡ Some v) × IsTrue (will_be_object ns v) × IsTrue (is_some (types.base v))
  unfolding scalar_typing
  scalar_by t s w =
      let is = s (and_left t.sound _ w) in
      let scalar : IsTrue (is_some (types.base is.0)) = subst (λ o. IsTrue (may_be_parameter o)) is.1 (and_right t.sound _ w) in
      (is.0, ap (λ c. if c then t.ty else None) w ∙ is.1, scalar_kept ns is.0 is.2 scalar, scalar)

  result_by : (t : Typing) → Stars t → (result_typing t).sound ≡ true → (v : Ty) × ((result_typing t).ty ≡ Some v) × IsTrue (is_void v || (is_plain v && will_be_object ns v))
  unfolding result_typing
  result_by t s w =
      let is = s (and_left t.sound _ w) in
      let result : IsTrue (is_void is.0 || is_plain is.0) = subst (λ o. IsTrue (may_be_result o)) is.1 (and_right t.sound _ w) in
      (is.0, ap (λ c. if c then t.ty else None) w ∙ is.1, result_kept ns is.0 is.2 result)

  module _ (base : Ty) (h : IsTrue (is_void base || may_be_pointed_to ns base)) (ws : List Word) (stars : IsTrue (begins_with_star ws)) where
    pub object_typed : (bs : List Bound) → Each (λ b. IsTrue (is_some b.value)) bs → bounds_faults bs ≡ [] → (object_typing ns (pointer_typing (Some base) ws) bs).sound ≡ true →
        (ty : Ty) × ((object_typing ns (pointer_typing (Some base) ws) bs).ty ≡ Some ty) × IsTrue (will_be_object ns ty)
    object_typed bs each none w = object_by (pointer_typing (Some base) ws) bs (pointer_typed ns base h ws stars) (all_numbered bs each none) w

    pub scalar_typed : (scalar_typing (pointer_typing (Some base) ws)).sound ≡ true →
        (ty : Ty) × ((scalar_typing (pointer_typing (Some base) ws)).ty ≡ Some ty) × IsTrue (will_be_object ns ty) × IsTrue (is_some (types.base ty))
    scalar_typed w = scalar_by (pointer_typing (Some base) ws) (pointer_typed ns base h ws stars) w

    pub array_parameter_typed : (bs : List Bound) → Each (λ b. IsTrue (is_some b.value)) bs → bounds_faults bs ≡ [] → (array_parameter_typing ns (pointer_typing (Some base) ws) bs).sound ≡ true →
        (to : Ty) × ((array_parameter_typing ns (pointer_typing (Some base) ws) bs).ty ≡ Some (Ptr to)) × IsTrue (will_be_object ns (Ptr to))
    array_parameter_typed bs each none w = parameter_by (pointer_typing (Some base) ws) bs (pointer_typed ns base h ws stars) (all_numbered bs each none) w

    pub result_typed : (result_typing (pointer_typing (Some base) ws)).sound ≡ true →
        (ty : Ty) × ((result_typing (pointer_typing (Some base) ws)).ty ≡ Some ty) × IsTrue (is_void ty || (is_plain ty && will_be_object ns ty))
    result_typed w = result_by (pointer_typing (Some base) ws) (pointer_typed ns base h ws stars) w
