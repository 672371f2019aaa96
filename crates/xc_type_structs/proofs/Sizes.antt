-- A type has the size that the table tells, up to 2^32 - 1.
use Rattle.std.proofs.Common.{◌≡◌, ℕ, zero, suc, ◌*◌, ◌-◌, ◌^◌, ◌<◌, ◌≤◌, min, List, refl, sym, ap, ◌∙◌, subst, arith, Bool, true, false}
use Rattle.std.specs.Prelude.{Option, Some, None, slice_get, unwrap_or}
use Rattle.std.specs.Option.{option_map}
use Rattle.std.proofs.Math.Dec.{leb}
use Rattle.std.proofs.lemmas.Bool.{leb-true, leb-false}
use Rattle.std.proofs.lemmas.Option.{slice_get-map}
use Rattle.xc_tree.specs.declared.ty.Ty.{Ty, roll-Ty}
use Rattle.xc_tree.specs.declared.ty.Ty.TheOpen.{Ty-F}
use Rattle.xc_tree.specs.declared.ty.Ty.TheFolds.{ind-Ty, map-Ty, fold-roll-Ty}
use Rattle.xc_tree.specs.Types.{Shape, Formed, formed, form_step, struct_formed, size_of, sizes}
use Rattle.xc_type_rule.specs.Cells.{cells, cells_step, listed}

abbrev most : ℕ
most = 2 ^ 32 - 1

-- a product is cut off once or twice
pub cut_times : (n x m : ℕ) → min (n * min x m) m ≡ min (n * x) m
cut_times zero x m = grind arith
cut_times (suc n) x m = by (leb m x) refl
  where
    by : (b : Bool) → leb m x ≡ b → min (suc n * min x m) m ≡ min (suc n * x) m
    by true e =
        let over : m ≤ x = leb-true m x e in
        let left : min x m ≡ m = omega (arith, over) in
        let more : m ≤ suc n * m = grind arith in
        let most : m ≤ suc n * x = grind (arith, over) in
        rw left (omega (arith, more, most))
    by false e =
        let under : min x m ≡ x = omega (arith, leb-false m x e) in
        ap (λ k. min (suc n * k) m) under

module _ (shapes : List Shape) (table : List ℕ) (agree : table ≡ sizes shapes) (counted : (s : ℕ) (h : Shape) → slice_get shapes s ≡ Some h → h.size < 2 ^ 32) where
  abbrev Told : Ty → Type 0
  Told t = cells table t ≡ min (size_of shapes t) most

  abbrev Child : Type 0
  Child = (t : Ty) × Told t

  abbrev layer : Ty-F Child → Ty-F Ty
  layer y = map-Ty Child Ty (λ c. c.0) y

  known : (s : ℕ) (o : Option Shape) → slice_get shapes s ≡ o → unwrap_or (option_map (λ h. h.size) o) 0 ≡ min (struct_formed s o).shape.size most
  known s None e = refl
  known s (Some h) e = omega (arith, counted s h e)

  struct_known : (s : ℕ) → listed table s ≡ min (struct_formed s (slice_get shapes s)).shape.size most
  struct_known s = ap (λ l. listed l s) agree ∙ ap (λ o. unwrap_or o 0) (slice_get-map (λ h. h.size) shapes s) ∙ known s (slice_get shapes s) refl

  level : (y : Ty-F Child) → cells_step table (map-Ty Ty ℕ (cells table) (layer y)) ≡ min (form_step shapes (map-Ty Ty Formed (formed shapes) (layer y))).shape.size most
  level Ty-F.Void = refl
  level Ty-F.Int = refl
  level Ty-F.Uint = refl
  level (Ty-F.Ptr c) = refl
  level (Ty-F.Array n c) = ap (λ k. min (n * k) most) c.1 ∙ cut_times n (size_of shapes c.0) most
  level (Ty-F.Struct s) = struct_known s
  level (Ty-F.Sync c) = refl
  level (Ty-F.Future c) = refl

  pub cells_agree : (t : Ty) → cells table t ≡ min (size_of shapes t) most
  cells_agree = ind-Ty Told (λ x y is. subst (λ z. Told (roll-Ty z)) is
      (fold-roll-Ty ℕ (cells_step table) (layer y) ∙ level y
      ∙ ap (λ f. min f.shape.size most) (sym (fold-roll-Ty Formed (form_step shapes) (layer y)))))
