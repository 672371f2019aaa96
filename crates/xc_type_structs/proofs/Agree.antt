-- A type has the kinds of cells that the table tells.
use Rattle.std.proofs.Common.{◌≡◌, ℕ, List, [], ◌∷◌, map, false, refl, sym, ap, ◌∙◌, subst}
use Rattle.std.specs.Prelude.{Option, Some, None, slice_get}
use Rattle.std.specs.Option.{option_map}
use Rattle.std.proofs.lemmas.Option.{slice_get-map}
use Rattle.xc_tree.specs.declared.ty.Ty.{Ty, roll-Ty, out-roll-Ty, Int, Uint, Ptr, Sync, Future}
use Rattle.xc_tree.specs.declared.ty.Ty.TheOpen.{Ty-F}
use Rattle.xc_tree.specs.declared.ty.Ty.TheFolds.{ind-Ty, map-Ty, fold-Ty, fold-roll-Ty}
use Rattle.xc_tree.specs.Types.{Shape, Formed, formed, form_step, struct_formed, shape_of, holds_pointer}
use Rattle.xc_type_structs.specs.declared.kinds.Kinds.{Kinds}
use Rattle.xc_type_structs.specs.Kinds.{summary, kinds_at, kinds_of, one_kind, listed, or_no_kinds, element, element_at}
use Rattle.xc_type_structs.proofs.Mixed.{or_false}

module _ (shapes : List Shape) (table : List Kinds) (agree : table ≡ map (λ h. summary h.kinds) shapes) where
  abbrev step : Ty-F (Ty → Kinds) → Ty → Kinds
  step l u = kinds_at table (λ of. of (element u)) u l

  abbrev told : Ty → Ty → Kinds
  told = fold-Ty (Ty → Kinds) step

  pub record Told (t : Ty) : Type 0 where
    pub same : (formed shapes t).ty ≡ t
    pub kinds : told t t ≡ summary (formed shapes t).shape.kinds

  abbrev Child : Type 0
  Child = (t : Ty) × Told t

  abbrev layer : Ty-F Child → Ty-F Ty
  layer y = map-Ty Child Ty (λ c. c.0) y

  one : (t : Ty) → one_kind t ≡ summary (t ∷ [])
  unfolding summary
  one t = (λ i. record { head = Some t; pointer = sym (or_false (holds_pointer t)) i; varied = false })

  none_known : (s : ℕ) (o : Option Shape) → or_no_kinds (option_map (λ h. summary h.kinds) o) ≡ summary (struct_formed s o).shape.kinds
  unfolding summary
  none_known s None = refl
  none_known s (Some h) = refl

  pub struct_known : (s : ℕ) → listed table s ≡ summary (struct_formed s (slice_get shapes s)).shape.kinds
  struct_known s = ap (λ l. listed l s) agree ∙ ap or_no_kinds (slice_get-map (λ h. summary h.kinds) shapes s) ∙ none_known s (slice_get shapes s)

  struct_ty : (s : ℕ) (o : Option Shape) → (struct_formed s o).ty ≡ roll-Ty (Ty-F.Struct s)
  unfolding roll-Ty denote.Hole.Carrier.roll
  struct_ty s None = refl
  struct_ty s (Some h) = refl

  abbrev Level : Ty-F Child → Type 0
  Level y = let f = form_step shapes (map-Ty Ty Formed (formed shapes) (layer y)) in
      (f.ty ≡ roll-Ty (layer y)) × (kinds_at table (λ of. of (element_at (roll-Ty (layer y)) (layer y))) (roll-Ty (layer y)) (map-Ty Ty (Ty → Kinds) told (layer y)) ≡ summary f.shape.kinds)

  void_known : Level Ty-F.Void
  unfolding summary roll-Ty denote.Hole.Carrier.roll
  void_known = (refl, refl)

  level : (y : Ty-F Child) → Level y
  unfolding roll-Ty denote.Hole.Carrier.roll
  level Ty-F.Void = void_known
  level Ty-F.Int = (refl, one Int)
  level Ty-F.Uint = (refl, one Uint)
  level (Ty-F.Ptr c) = (ap Ptr c.1.same, one (Ptr c.0) ∙ ap (λ t. summary (Ptr t ∷ [])) (sym c.1.same))
  level (Ty-F.Array n c) = (ap (λ t. roll-Ty (Ty-F.Array n t)) c.1.same, c.1.kinds)
  level (Ty-F.Struct s) = (struct_ty s (slice_get shapes s), struct_known s)
  level (Ty-F.Sync c) = (ap Sync c.1.same, one (Sync c.0) ∙ ap (λ t. summary (Sync t ∷ [])) (sym c.1.same))
  level (Ty-F.Future c) = (ap Future c.1.same, one (Future c.0) ∙ ap (λ t. summary (Future t ∷ [])) (sym c.1.same))

  pub told_is : (t : Ty) → Told t
  told_is = ind-Ty Told (λ x y is. subst (λ z. Told (roll-Ty z)) is
      (let z = layer y in
      let f = fold-roll-Ty Formed (form_step shapes) z in
      let k = ap (λ g. g (roll-Ty z)) (fold-roll-Ty (Ty → Kinds) step z)
      ∙ ap (λ e. kinds_at table (λ of. of (element_at (roll-Ty z) e)) (roll-Ty z) (map-Ty Ty (Ty → Kinds) told z)) (out-roll-Ty z) in
      let l = level y in
      record { same = ap (λ g. g.ty) f ∙ l.0; kinds = k ∙ l.1 ∙ ap (λ g. summary g.shape.kinds) (sym f) }))

  pub kinds_agree : (t : Ty) → kinds_of table t ≡ summary (shape_of shapes t).kinds
  kinds_agree t = (told_is t).kinds
