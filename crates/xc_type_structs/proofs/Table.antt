-- The table goes on agreeing with the cells of the structs.
use Rattle.std.proofs.Common.{◌≡◌, ℕ, ◌-◌, ◌^◌, ◌<◌, ◌≤◌, min, List, [], ◌∷◌, ◌++◌, map, length, get_or, refl, sym, ap, ◌∙◌, subst, arith, append_assoc, ◌⊎◌, inl, inr}
use Rattle.std.specs.Prelude.{false, Option, Some, None, option_map, slice_get, slice_set, sum_by, unwrap_or}
use Rattle.std.specs.List.{All}
use Rattle.std.proofs.lemmas.List.{map-append, map-set}
use Rattle.std.proofs.lemmas.List.Elements.{All-nil, All-push, All-set, All-get_or}
use Rattle.std.proofs.lemmas.List.Sums.{sum_by-append}
use Rattle.std.proofs.lemmas.Option.{slice_get_cases, slice_get-map}
use Rattle.xc_tree.specs.declared.ty.Ty.{Ty}
use Rattle.xc_tree.specs.Lists.{joined as all_of}
use Rattle.xc_tree.specs.Types.{Shape, struct_formed, no_cells, size_of, is_mixed}
use Rattle.xc_type_rule.specs.Cells.{cells}
use Rattle.xc_type_rule.specs.Members.{mixes}
use Rattle.xc_type_structs.specs.declared.structs.Structs.{Structs}
use Rattle.xc_type_structs.specs.declared.structs.Layout.{Layout}
use Rattle.xc_type_structs.specs.Kinds.{summary, joined, kinds_of_part, is_mixture, no_kinds}
use Rattle.xc_type_structs.specs.Table as table
use Rattle.xc_type_structs.specs.Agree.{Agrees, Lays, Counted, struct_shape, part_shape, members_shape}
use Rattle.xc_type_structs.proofs.Mixed.{summary_append, mixture_is}
use Rattle.xc_type_structs.proofs.Agree.{kinds_agree}
use Rattle.xc_type_structs.proofs.Sizes.{cells_agree}

-- no structs
pub agrees_none : Agrees table.no_structs []
agrees_none = record { size = refl; kind = refl; mixed = refl; counted = All-nil Counted }

pub lays_nothing : (shapes : List Shape) → Lays table.nothing (members_shape shapes [])
unfolding summary
lays_nothing shapes = record { size = refl; kind = refl }

-- one more, which is not complete
none_empty : no_kinds ≡ summary []
unfolding summary
none_empty = refl

none_mixed : is_mixed [] ≡ false
unfolding is_mixed
none_mixed = refl

pub agrees_opened : (s : Structs) (shapes : List Shape) → Agrees s shapes → Agrees (table.opened s) (shapes ++ no_cells ∷ [])
agrees_opened s shapes a = record {
  size = ap (λ l. l ++ 0 ∷ []) a.size ∙ sym (map-append (λ h. h.size) shapes (no_cells ∷ []));
  kind = (λ i. a.kind i ++ none_empty i ∷ []) ∙ sym (map-append (λ h. summary h.kinds) shapes (no_cells ∷ []));
  mixed = (λ i. a.mixed i ++ sym none_mixed i ∷ []) ∙ sym (map-append (λ h. is_mixed h.kinds) shapes (no_cells ∷ []));
  counted = All-push Counted shapes no_cells a.counted (omega arith);
}

-- one more member
at : (s : ℕ) (shapes : List Shape) (h : Shape) → All Counted shapes → slice_get shapes s ≡ Some h → Counted h
at s shapes h all e = by (slice_get_cases shapes s).1
  where
    by : ((x : Shape) × (s < length shapes) × (slice_get shapes s ≡ Some x) × (get_or shapes s x ≡ x)) ⊎ ((length shapes ≤ s) × (slice_get shapes s ≡ None)) → Counted h
    by (inl f) = let same : f.0 ≡ h = (let two : Some f.0 ≡ Some h = sym f.2 ∙ e in cc) in
        subst Counted (f.3 ∙ same) (All-get_or Counted shapes s f.0 f.1 all)
    by (inr f) = absurd (let two : None ≡ Some h = sym f.1 ∙ e in cc)

append_none : {A : Type 0} (xs : List A) → xs ++ [] ≡ xs
append_none [] = refl
append_none (x ∷ xs) = ap (λ l. x ∷ l) (append_none xs)

all_push : {A : Type 0} (xss : List (List A)) (ys : List A) → all_of (xss ++ ys ∷ []) ≡ all_of xss ++ ys
all_push [] ys = append_none ys
all_push (xs ∷ xss) ys = ap (λ l. xs ++ l) (all_push xss ys) ∙ sym (append_assoc xs (all_of xss) ys)

module _ (s : Structs) (shapes : List Shape) (a : Agrees s shapes) where
  pub cells_told : (ty : Ty) → cells s.sizes ty ≡ min (size_of shapes ty) (2 ^ 32 - 1)
  cells_told = cells_agree shapes s.sizes a.size (λ n h e. at n shapes h a.counted e)

  part_told : (ty : Option Ty) → table.part_cells s.sizes ty ≡ min (part_shape shapes ty).size (2 ^ 32 - 1)
  part_told None = refl
  part_told (Some t) = cells_told t

  part_kinds : (ty : Option Ty) → kinds_of_part s.kinds ty ≡ summary (part_shape shapes ty).kinds
  part_kinds None = none_empty
  part_kinds (Some t) = kinds_agree shapes s.kinds a.kind t

  pub lays_with : (l : Layout) (members : List (Option Ty)) (name : ℕ) (ty : Option Ty) → Lays l (members_shape shapes members) →
      Lays (table.with_member s name ty l) (members_shape shapes (members ++ ty ∷ []))
  lays_with l members name ty b =
      let shape = part_shape shapes in
      let mapped = map-append shape members (ty ∷ []) in
      let sum = ap (sum_by (λ h. h.size)) mapped ∙ sum_by-append (λ h. h.size) (map shape members) (shape ty ∷ []) in
      let kinds = ap (λ l. all_of (map (λ h. h.kinds) l)) mapped ∙ ap all_of (map-append (λ h. h.kinds) (map shape members) (shape ty ∷ []))
      ∙ all_push (map (λ h. h.kinds) (map shape members)) (shape ty).kinds in
      record {
        size = omega (arith, b.size, part_told ty, sum);
        kind = (λ i. joined (b.kind i) (part_kinds ty i)) ∙ sym (summary_append (members_shape shapes members).kinds (shape ty).kinds) ∙ ap summary (sym kinds);
      }

  -- a struct is complete
  pub agrees_closed : (l : Layout) (number : ℕ) (shape : Shape) → Lays l shape → Counted shape → Agrees (table.closed s number l) (slice_set shapes number shape)
  agrees_closed l number shape b few =
      let size : l.size ≡ shape.size = omega (arith, b.size, few) in
      let mixed : is_mixture l.kinds ≡ is_mixed shape.kinds = ap is_mixture b.kind ∙ mixture_is shape.kinds in
      record {
        size = (λ i. slice_set (a.size i) number (size i)) ∙ sym (map-set (λ h. h.size) shapes number shape);
        kind = (λ i. slice_set (a.kind i) number (b.kind i)) ∙ sym (map-set (λ h. summary h.kinds) shapes number shape);
        mixed = (λ i. slice_set (a.mixed i) number (mixed i)) ∙ sym (map-set (λ h. is_mixed h.kinds) shapes number shape);
        counted = All-set Counted shapes number shape few a.counted;
      }

  pub mixed_told : (number : ℕ) → mixes s.mixed number ≡ is_mixed (struct_shape shapes number).kinds
  mixed_told number = ap (λ l. mixes l number) a.mixed ∙ ap (λ o. unwrap_or o false) (slice_get-map (λ h. is_mixed h.kinds) shapes number) ∙ by (slice_get shapes number)
    where
      by : (o : Option Shape) → unwrap_or (option_map (λ h. is_mixed h.kinds) o) false ≡ is_mixed (struct_formed number o).shape.kinds
      by None = sym none_mixed
      by (Some h) = refl
