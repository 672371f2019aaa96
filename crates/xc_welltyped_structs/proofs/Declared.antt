-- What specifiers and declarators without faults give.
use Rattle.std.proofs.Common.{◌≡◌, ℕ, List, [], ◌∷◌, ◌++◌, length, Bool, true, false, refl, sym, ap, ◌∙◌, subst, arith, append_assoc}
use Rattle.std.specs.Prelude.{IsTrue, ◌||◌, ◌==◌, not, nat_lt, is_some, if◌then◌else◌, fold, Option, Some, None, option_map, slice_get}
use Rattle.std.proofs.lemmas.Bool.{eqb-true}
use Rattle.std.proofs.lemmas.List.{append-nil}
use Rattle.xc_tree.specs.declared.ty.Ty.{Ty, Void, Int, Uint, Ptr, Struct, Sync, Future}
use Rattle.xc_tree.proofs.Lists.{and_left}
use Rattle.xc_tree.specs.Types.{is_void, is_plain}
use Rattle.xc_raw.specs.declared.word.Word.{Word}
use Rattle.xc_raw.specs.declared.word.Word.TheVariants as word
use Rattle.xc_raw.specs.declared.word.Qualifier.TheVariants as qualifier
use Rattle.xc_raw.specs.declared.word.Specifier.TheVariants as specifier
use Rattle.xc_raw.specs.Kinds as kinds
use Rattle.xc_type_declarators.specs.Specifiers as words
use Rattle.xc_type_declarators.specs.Specifiers.{often, marked, both, basic_of, mark_of, specified, specified_ty, basic_ty, base_ty, are_sound}
use Rattle.xc_type_declarators.specs.Declarators.{closed, pointed_step, start, pointer_typing}
use Rattle.xc_welltyped.proofs.Types.{or_left, or_right}
use Rattle.xc_welltyped_claims.specs.Lists.{Each}
use Rattle.xc_welltyped_claims.specs.Types.{will_be_object, may_be_pointed_to}
use Rattle.xc_welltyped_claims.specs.Shaped.{begins_with_star}
use Rattle.xc_welltyped_structs.proofs.Scalars.{Led, kept_pointed, pointer_kept, struct_pointed, int_kept, uint_kept, sync_kept, future_kept, void_is, int_plain, uint_plain, pointer_plain}

-- specifiers --------------------------------------------------------------------------

first_of : (P : ℕ → Type 0) (numbers : List ℕ) → 1 ≡ length numbers → Each P numbers → (n : ℕ) × (slice_get numbers 0 ≡ Some n) × P n
first_of P [] e h = absurd (omega (arith, e))
first_of P (n ∷ ns) e h = (n, refl, h.0)

-- the choices of words
basic_by : {A : Type 0} (Q : Option A → Type 0) (a b c d : Bool) (v s i u : A) → Q (Some v) → (IsTrue b → Q (Some s)) → Q (Some i) → Q (Some u) → Q None →
    Q (if a then Some v else (if b then Some s else (if c then Some (if d then i else u) else None)))
basic_by Q true b c d v s i u qv qs qi qu none = qv
basic_by Q false true c d v s i u qv qs qi qu none = qs refl
basic_by Q false false true true v s i u qv qs qi qu none = qi
basic_by Q false false true false v s i u qv qs qi qu none = qu
basic_by Q false false false d v s i u qv qs qi qu none = none

mark_by : {A : Type 0} (Q : Option A → Type 0) (a b : Bool) (p f s : A) → Q (Some p) → Q (Some f) → Q (Some s) → Q None →
    Q (if a then Some (if b then p else f) else (if b then Some s else None))
mark_by Q true true p f s qp qf qs none = qp
mark_by Q true false p f s qp qf qs none = qf
mark_by Q false true p f s qp qf qs none = qs
mark_by Q false false p f s qp qf qs none = none

module _ (ns : List ℕ) where
  -- void, or a type to which a pointer may lead
  abbrev Base : Option Ty → Type 0
  Base o = (ty : Ty) × (o ≡ Some ty) × Led ns ty

  kept_base : (ty : Ty) → IsTrue (will_be_object ns ty) → Base (Some ty)
  kept_base ty h = (ty, refl, or_right (is_void ty) _ (kept_pointed ns ty h))

  void_base : Base (Some Void)
  void_base = (Void, refl, or_left (is_void Void) _ void_is)

  struct_base : (number : Option ℕ) → (s : ℕ) × (number ≡ Some s) × IsTrue (nat_lt s (length ns)) → Base (option_map Struct number)
  struct_base number h = (Struct h.0, ap (option_map Struct) h.1, or_right (is_void (Struct h.0)) _ (struct_pointed ns h.0 h.2))

  plain_base : (number : Option ℕ) → Base (option_map Struct number) → Base (option_map (λ t. t) (option_map Struct number))
  plain_base number b = (b.0, ap (option_map (λ t. t)) b.1, b.2)

  given : (ws : List Word) (number : Option ℕ) → (often kinds.is_struct ws ≡ 1 → (s : ℕ) × (number ≡ Some s) × IsTrue (nat_lt s (length ns))) →
      IsTrue (is_some (both (basic_of ws) (mark_of ws))) → Base (specified_ty (both (basic_of ws) (mark_of ws)) number)
  unfolding basic_of mark_of
  given ws number f = basic_by (λ o. IsTrue (is_some (both o (mark_of ws))) → Base (specified_ty (both o (mark_of ws)) number))
      (words.is_void_alone ws) (words.is_struct_alone ws) (words.is_integer ws) (words.lacks words.is_unsigned ws) _ _ _ _
      (mark_by (λ m. IsTrue (is_some (both (basic_of (word.Void ∷ [])) m)) → Base (specified_ty (both (basic_of (word.Void ∷ [])) m) number))
      (words.lacks words.is_sync ws) (words.lacks kinds.is_future ws) _ _ _ (λ h. void_base) (λ h. absurd cc) (λ h. absurd cc) (λ h. absurd cc))
      (λ one. mark_by (λ m. IsTrue (is_some (both (basic_of (word.Struct ∷ [])) m)) → Base (specified_ty (both (basic_of (word.Struct ∷ [])) m) number))
      (words.lacks words.is_sync ws) (words.lacks kinds.is_future ws) _ _ _
      (λ h. plain_base number (struct_base number (f (eqb-true (often kinds.is_struct ws) 1 (and_left (often kinds.is_struct ws == 1) _ one)))))
      (λ h. absurd cc) (λ h. absurd cc) (λ h. absurd cc))
      (mark_by (λ m. IsTrue (is_some (both (basic_of (word.Specifier specifier.Int ∷ [])) m)) → Base (specified_ty (both (basic_of (word.Specifier specifier.Int ∷ [])) m) number))
      (words.lacks words.is_sync ws) (words.lacks kinds.is_future ws) _ _ _
      (λ h. kept_base Int (int_kept ns)) (λ h. kept_base (Future Int) (future_kept ns Int (int_kept ns) int_plain)) (λ h. kept_base (Sync Int) (sync_kept ns Int (int_kept ns) int_plain)) (λ h. absurd cc))
      (mark_by (λ m. IsTrue (is_some (both (basic_of (word.Specifier specifier.Unsigned ∷ [])) m)) → Base (specified_ty (both (basic_of (word.Specifier specifier.Unsigned ∷ [])) m) number))
      (words.lacks words.is_sync ws) (words.lacks kinds.is_future ws) _ _ _
      (λ h. kept_base Uint (uint_kept ns)) (λ h. kept_base (Future Uint) (future_kept ns Uint (uint_kept ns) uint_plain)) (λ h. kept_base (Sync Uint) (sync_kept ns Uint (uint_kept ns) uint_plain)) (λ h. absurd cc))
      (λ h. absurd cc)

  pub specified_base : (ws : List Word) (numbers : List ℕ) (outermost : Bool) → IsTrue (are_sound outermost ws) → often kinds.is_struct ws ≡ length numbers → Each (λ n. IsTrue (nat_lt n (length ns))) numbers →
      (ty : Ty) × (base_ty ws (slice_get numbers 0) ≡ Some ty) × IsTrue (is_void ty || may_be_pointed_to ns ty)
  unfolding are_sound base_ty
  specified_base ws numbers outermost h many each = given ws (slice_get numbers 0)
      (λ one. first_of (λ n. IsTrue (nat_lt n (length ns))) numbers (sym one ∙ many) each) (and_left (is_some (both (basic_of ws) (mark_of ws))) _ h)

-- stars -------------------------------------------------------------------------------

-- one more step
fold_last : {A B : Type 0} (f : B → A → B) (b : B) (xs : List A) (x : A) → fold f b (xs ++ x ∷ []) ≡ f (fold f b xs) x
fold_last f b [] x = refl
fold_last f b (y ∷ xs) x = fold_last f (f b y) xs x

module _ (ns : List ℕ) (base : Ty) where
  -- what stands behind a star, with and without the last qualifier
  abbrev Stars : Bool → Option Ty → Option Ty → Type 0
  Stars sound ty close = sound ≡ true → (t : Ty) × (u : Ty) × (ty ≡ Some t) × (close ≡ Some u) × IsTrue (will_be_object ns t) × IsTrue (is_plain t) × IsTrue (will_be_object ns u)

  abbrev Behind : List Word → Type 0
  Behind us = let p = fold pointed_step (start (Some base)) us in Stars p.sound p.ty (closed p)

  abbrev Next : List Word → Word → Type 0
  Next us w = let p = pointed_step (fold pointed_step (start (Some base)) us) w in Stars p.sound p.ty (closed p)

  next_behind : (us : List Word) (w : Word) → Behind us → Next us w
  next_behind us word.Star b h =
      let was = b (and_left (fold pointed_step (start (Some base)) us).sound _ h) in
      let kept = pointer_kept ns was.1 (kept_pointed ns was.1 was.6) in
      let made = ap (option_map Ptr) was.3 in
      (Ptr was.1, Ptr was.1, made, ap (option_map (λ t. t)) made, kept, pointer_plain was.1, kept)
  next_behind us (word.Qualifier qualifier.Sync) b h =
      let was = b (and_left (fold pointed_step (start (Some base)) us).sound _ h) in
      (was.0, Sync was.0, was.2, ap (option_map Sync) was.2, was.4, was.5, sync_kept ns was.0 was.4 was.5)
  next_behind us word.Future b h =
      let was = b (and_left (fold pointed_step (start (Some base)) us).sound _ h) in
      (was.0, Future was.0, was.2, ap (option_map Future) was.2, was.4, was.5, future_kept ns was.0 was.4 was.5)
  next_behind us _ b h = b h

  fold_behind : (ws us : List Word) → Behind us → Behind (us ++ ws)
  fold_behind [] us b = subst Behind (sym (append-nil us)) b
  fold_behind (w ∷ ws) us b = subst Behind (append_assoc us (w ∷ []) ws) (fold_behind ws (us ++ w ∷ [])
      (subst (λ p. Stars p.sound p.ty (closed p)) (sym (fold_last pointed_step (start (Some base)) us w)) (next_behind us w b)))

  led_pointed : (b : Bool) → is_void base ≡ b → IsTrue (b || may_be_pointed_to ns base) → IsTrue (not b) → IsTrue (may_be_pointed_to ns base)
  led_pointed true e h w = absurd cc
  led_pointed false e h w = h

  first_behind : Led ns base → Behind (word.Star ∷ [])
  first_behind l h = let kept = pointer_kept ns base (led_pointed (is_void base) refl l h) in (Ptr base, Ptr base, refl, refl, kept, pointer_plain base, kept)

  pub pointer_typed : Led ns base → (ws : List Word) → IsTrue (begins_with_star ws) → (pointer_typing (Some base) ws).sound ≡ true →
      (t : Ty) × ((pointer_typing (Some base) ws).ty ≡ Some t) × Led ns t
  unfolding pointer_typing
  pointer_typed l [] stars h = (base, refl, l)
  pointer_typed l (word.Star ∷ ws) stars h =
      let p = fold pointed_step (start (Some base)) (word.Star ∷ ws) in
      let is = fold_behind ws (word.Star ∷ []) (first_behind l) h in
      (is.1, ap (λ b. if b then closed p else None) h ∙ is.3, or_right (is_void is.1) _ (kept_pointed ns is.1 is.6))
  pointer_typed l (w ∷ ws) stars h = absurd cc
