-- An integer type that specifiers give is known without the structs.
use Rattle.std.proofs.Common.{rules, ◌≡◌, ℕ, List, Bool, true, false, refl, sym, ◌∙◌, subst}
use Rattle.std.specs.Prelude.{IsTrue, Option, Some, None, option_map}
use Rattle.xc_tree.specs.declared.ty.Ty.{Ty, Struct}
use Rattle.xc_tree.specs.Types.{is_number}
use Rattle.xc_raw.specs.declared.word.Word.{Word}
use Rattle.xc_type_declarators.specs.Specifiers.{is_sync, lacks, is_void_alone, is_struct_alone, is_integer, is_unsigned, basic_of, mark_of, base_ty}
use Rattle.xc_raw.specs.Kinds.{is_future}
use Rattle.xc_welltyped.proofs.Types.{ty_opened}

module _ (ws : List Word) where
  void_base : (o : Option ℕ) (a b : Bool) → is_void_alone ws ≡ true → lacks is_sync ws ≡ a → lacks is_future ws ≡ b → base_ty ws o ≡ base_ty ws None
  unfolding base_ty basic_of mark_of
  void_base o true true v s f = simp (v, s, f) refl
  void_base o true false v s f = simp (v, s, f) refl
  void_base o false true v s f = simp (v, s, f) refl
  void_base o false false v s f = simp (v, s, f) refl

  wrong_base : (o : Option ℕ) → is_void_alone ws ≡ false → is_struct_alone ws ≡ false → is_integer ws ≡ false → base_ty ws o ≡ base_ty ws None
  unfolding base_ty basic_of
  wrong_base o v r i = simp (v, r, i) refl

  number_base : (o : Option ℕ) (i u a b : Bool) → is_void_alone ws ≡ false → is_struct_alone ws ≡ false → is_integer ws ≡ i → lacks is_unsigned ws ≡ u → lacks is_sync ws ≡ a → lacks is_future ws ≡ b →
      base_ty ws o ≡ base_ty ws None
  unfolding base_ty basic_of mark_of
  number_base o true true true true v r i u s f = simp (v, r, i) (simp (u, s, f) refl)
  number_base o true true true false v r i u s f = simp (v, r, i) (simp (u, s, f) refl)
  number_base o true true false true v r i u s f = simp (v, r, i) (simp (u, s, f) refl)
  number_base o true true false false v r i u s f = simp (v, r, i) (simp (u, s, f) refl)
  number_base o true false true true v r i u s f = simp (v, r, i) (simp (u, s, f) refl)
  number_base o true false true false v r i u s f = simp (v, r, i) (simp (u, s, f) refl)
  number_base o true false false true v r i u s f = simp (v, r, i) (simp (u, s, f) refl)
  number_base o true false false false v r i u s f = simp (v, r, i) (simp (u, s, f) refl)
  number_base o false u a b v r i y s f = wrong_base o v r i

  struct_base : (o : Option ℕ) (a b : Bool) → is_void_alone ws ≡ false → is_struct_alone ws ≡ true → lacks is_sync ws ≡ a → lacks is_future ws ≡ b → (to : Ty) → base_ty ws o ≡ Some to → option_map Struct o ≡ Some to
  unfolding base_ty basic_of mark_of
  struct_base None true true v r s f to is = simp (v, r, s, f) at is
  struct_base (Some n) true true v r s f to is = simp (v, r, s, f) at is
  struct_base o true false v r s f to is = absurd (let no : None ≡ Some to = simp (v, r, s, f) at is in cc)
  struct_base o false true v r s f to is = absurd (let no : None ≡ Some to = simp (v, r, s, f) at is in cc)
  struct_base o false false v r s f to is = absurd (let no : None ≡ Some to = simp (v, r, s, f) at is in cc)

no_number : (n : ℕ) → is_number (Struct n) ≡ false
no_number n = search (rules, ty_opened)

no_struct : (o : Option ℕ) (to : Ty) → option_map Struct o ≡ Some to → IsTrue (is_number to) → ⊥
no_struct None to is h = cc
no_struct (Some n) to is h = let same : Struct n ≡ to = cc in let no = no_number n in let one : is_number (Struct n) ≡ true = subst (λ z. is_number z ≡ true) (sym same) h in cc

pub integer_base : (ws : List Word) (o : Option ℕ) (to : Ty) → base_ty ws o ≡ Some to → IsTrue (is_number to) → base_ty ws None ≡ Some to
integer_base ws o to is h = void (is_void_alone ws) (is_struct_alone ws) refl refl
  where
    void : (v r : Bool) → is_void_alone ws ≡ v → is_struct_alone ws ≡ r → base_ty ws None ≡ Some to
    void true r v s = sym (void_base ws o (lacks is_sync ws) (lacks is_future ws) v refl refl) ∙ is
    void false true v s = absurd (no_struct o to (struct_base ws o (lacks is_sync ws) (lacks is_future ws) v s refl refl to is) h)
    void false false v s = sym (number_base ws o (is_integer ws) (lacks is_unsigned ws) (lacks is_sync ws) (lacks is_future ws) v s refl refl refl refl) ∙ is
