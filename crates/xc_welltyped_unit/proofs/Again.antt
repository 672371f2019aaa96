-- A function that is declared again is the same function (C99 6.7 paragraph 4).
use Rattle.std.proofs.Common.{◌≡◌, ℕ, List, [], ◌∷◌, length, map, Bool, true, false, refl, sym, ap, ◌∙◌, subst, arith, ◌⊎◌, inl, inr}
use Rattle.std.specs.Prelude.{IsTrue, ◌||◌, ◌==◌, nat_eq, is_some, Option, Some, None, zip}
use Rattle.std.proofs.lemmas.Bool.{eqb-true}
use Rattle.xc_tree.specs.declared.ty.Ty.{Ty}
use Rattle.xc_tree.specs.Lists.{every, passes}
use Rattle.xc_tree.specs.Types.{is_void}
use Rattle.xc_tree.proofs.Lists.{and_left, and_right}
use Rattle.xc_type_lowering.proofs.Types.{same_is}
use Rattle.xc_type_rule.specs.declared.found.Thing.{Thing}
use Rattle.xc_type_rule.specs.declared.found.Thing.TheVariants as thing
use Rattle.xc_type_names.specs.Scoped.{found_in, declared_in}
use Rattle.xc_type_unit.specs.declared.heads.Head.{Head}
use Rattle.xc_type_unit.specs.Functions.{Bodies, may_be_same, pair_may_be_same, all_may_be_same, may_stand_beside}
use Rattle.xc_welltyped_claims.specs.Lists.{Each}
use Rattle.xc_welltyped_claims.specs.Types.{is_object_by}
use Rattle.xc_welltyped_claims.specs.Things.{InScopes, FileThing}
use Rattle.xc_welltyped_claims.proofs.Things.{in_found}
use Rattle.xc_welltyped_unit.specs.Functions.{is_for}
use Rattle.xc_welltyped_unit.proofs.Names.{found_same, found_other, found_either}

-- a type without a fault
abbrev pub IsKnown : Option Ty → Type 0
IsKnown o = IsTrue (is_some o)

passes_known : (p : Ty → Bool) (o : Option Ty) → IsTrue (passes p o) → IsKnown o
passes_known p None h = absurd cc
passes_known p (Some ty) h = refl

all_known : (p : Ty → Bool) (os : List (Option Ty)) → IsTrue (every (map (passes p) os)) → Each IsKnown os
all_known p [] h = tt
all_known p (o ∷ os) h = (passes_known p o (and_left (passes p o) _ h), all_known p os (and_right (passes p o) _ h))

-- types that are known and may be the same are the same
same_known : (a b : Option Ty) → IsKnown a → IsKnown b → IsTrue (may_be_same a b) → a ≡ b
same_known (Some a) (Some b) h k m = ap Some (same_is a b m)
same_known (Some a) None h k m = absurd cc
same_known None b h k m = absurd cc

same_each : (xs ys : List (Option Ty)) → length xs ≡ length ys → Each IsKnown xs → Each IsKnown ys → IsTrue (every (map pair_may_be_same (zip xs ys))) → xs ≡ ys
same_each [] [] e h k m = refl
same_each [] (y ∷ ys) e h k m = absurd (omega (arith, e))
same_each (x ∷ xs) [] e h k m = absurd (omega (arith, e))
same_each (x ∷ xs) (y ∷ ys) e h k m =
    let one = same_known x y h.0 k.0 (and_left (may_be_same x y) _ m) in
    let more = same_each xs ys (omega (arith, e)) h.1 k.1 (and_right (may_be_same x y) _ m) in
    λ i. one i ∷ more i

same_all : (xs ys : List (Option Ty)) → Each IsKnown xs → Each IsKnown ys → IsTrue (all_may_be_same xs ys) → xs ≡ ys
same_all xs ys h k m = same_each xs ys (eqb-true (length xs) (length ys) (and_left (length xs == length ys) _ m)) h k (and_right (length xs == length ys) _ m)

-- `file` stands before the name, each function with the number of its definition
module _ (sizes : List ℕ) (file : List (List (ℕ × Thing))) (one : length file ≡ 1) (fine : InScopes (FileThing sizes) file) (b : Bodies)
    (numbers : (name : ℕ) (number : Option ℕ) (params : List (Option Ty)) (ret : Option Ty) → found_in name file ≡ Some (thing.Func number params ret) → number ≡ found_in name b)
    (h : Head) (name : ℕ) (params : Each IsKnown h.params) (ret : IsKnown h.ret) (beside : IsTrue (may_stand_beside h (found_in name file))) where
  abbrev it : Thing
  it = is_for b h name

  abbrev behind : List (List (ℕ × Thing))
  behind = declared_in name it file

  func_again : (n : Option ℕ) (ps : List (Option Ty)) (r : Option Ty) → found_in name file ≡ Some (thing.Func n ps r) → IsTrue (may_stand_beside h (Some (thing.Func n ps r))) → thing.Func n ps r ≡ it
  func_again n ps r e m =
      let ok : FileThing sizes (thing.Func n ps r) = in_found (FileThing sizes) name file (thing.Func n ps r) e fine in
      let p = same_all ps h.params (all_known (is_object_by sizes) ps (and_left (every (map (passes (is_object_by sizes)) ps)) _ ok)) params (and_left (all_may_be_same ps h.params) _ m) in
      let q = same_known r h.ret (passes_known (λ t. is_void t || is_object_by sizes t) r (and_right (every (map (passes (is_object_by sizes)) ps)) _ ok)) ret (and_right (all_may_be_same ps h.params) _ m) in
      λ i. thing.Func (numbers name n ps r e i) (p i) (q i)

  it_again : (x : Thing) → found_in name file ≡ Some x → IsTrue (may_stand_beside h (Some x)) → x ≡ it
  it_again (thing.Func n ps r) e m = func_again n ps r e m
  it_again (thing.Global n ty) e m = absurd cc
  it_again (thing.Local n ty) e m = absurd cc

  stands_for : found_in name behind ≡ Some it
  stands_for = found_same name it file one

  -- what the name stood for, it stands for
  pub stays_for : (y : ℕ) (x : Thing) → found_in y file ≡ Some x → found_in y behind ≡ Some x
  stays_for y x e = by (nat_eq y name) refl
    where
      by : (c : Bool) → nat_eq y name ≡ c → found_in y behind ≡ Some x
      by true p =
          let same : y ≡ name = eqb-true y name p in
          let here : found_in name file ≡ Some x = subst (λ n. found_in n file ≡ Some x) same e in
          let again : x ≡ it = it_again x here (subst (λ o. IsTrue (may_stand_beside h o)) here beside) in
          subst (λ n. found_in n behind ≡ Some x) (sym same) (stands_for ∙ ap Some (sym again))
      by false p = found_other name it y p file one ∙ e

  pub others_for : (y : ℕ) (x : Thing) → found_in y behind ≡ Some x → ((y ≡ name) × (x ≡ it)) ⊎ (found_in y file ≡ Some x)
  others_for y x e = by (found_either name it y x file one e)
    where
      by : ((y ≡ name) × (it ≡ x)) ⊎ ((nat_eq y name ≡ false) × (found_in y file ≡ Some x)) → ((y ≡ name) × (x ≡ it)) ⊎ (found_in y file ≡ Some x)
      by (inl p) = inl (p.0, sym p.1)
      by (inr p) = inr p.1
