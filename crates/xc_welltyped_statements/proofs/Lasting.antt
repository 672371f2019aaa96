-- What an expression gives a global object, and the word that it stands for.
use Rattle.std.proofs.Common.{rules, ◌≡◌, ℕ, List, [], Bool, true, false, refl, sym, ap, ◌∙◌, subst, cond}
use Rattle.std.specs.Prelude.{IsTrue, not, is_some, ◌&&◌, ◌||◌, Option, Some, None}
use Rattle.xc_tree.specs.declared.ty.Ty.{Ty, out-Ty}
use Rattle.xc_tree.specs.declared.ty.Ty.TheOpen.{Ty-F}
use Rattle.xc_tree.specs.declared.expr.Expr.{Expr}
use Rattle.xc_tree.specs.declared.expr.ExprKind.{Const}
use Rattle.xc_tree.specs.Lists.{passes}
use Rattle.xc_tree.specs.Types.{same_ty, number_at, is_number, pointee_at, is_pointer, fits}
use Rattle.xc_tree.specs.Typed.{Context, part_of, value_ok}
use Rattle.xc_tree.proofs.Lists.{and_right, and_both}
use Rattle.xc_raw.specs.declared.tree.Raw.{Raw}
use Rattle.xc_type_constants.specs.Pieces.{Piece, constant_value, constant_faults}
use Rattle.xc_type_rule.specs.Making.{typed, both}
use Rattle.xc_type_rule.specs.Least.{fault_unless}
use Rattle.xc_type_initialiser_objects.specs.Inits.{one_init}
use Rattle.xc_type_initialiser_objects.specs.Words.{number_made, word_of}
use Rattle.xc_type_scopes.specs.declared.env.Env.{Env}
use Rattle.xc_type_expressions.specs.declared.text.Text.{Text}
use Rattle.xc_type_expressions.specs.Judged.{judged, span_in}
use Rattle.xc_type_initialisers.specs.Forms.{form_in}
use Rattle.xc_type_initialisers.specs.Lasting.{held, may_point, lasting_made, lasting_faults}
use Rattle.xc_welltyped.specs.Sound.{IsMade}
use Rattle.xc_welltyped.proofs.Forms.{opened, const_made}
use Rattle.xc_welltyped.proofs.Types.{or_left}
use Rattle.xc_welltyped.proofs.Whole.{kept}
use Rattle.xc_welltyped_locals.proofs.SeenForms.{AllSeen}
use Rattle.xc_welltyped_locals.proofs.SeenValues.{none_named}
use Rattle.xc_type_lowering.specs.Accessed.{only_accessed}
use Rattle.xc_type_lowering.proofs.Types.{same_is}
use Rattle.xc_welltyped_claims.specs.Types.{is_object_by}
use Rattle.xc_welltyped_claims.specs.Env.{Good, Into}
use Rattle.xc_welltyped_claims.specs.Judges.{Clean}
use Rattle.xc_welltyped_claims.specs.Shaped.{rule_in, is_expr, Shaped}
use Rattle.xc_welltyped_claims.specs.Roles.{RoleFine}
use Rattle.xc_welltyped_statements.specs.Inits.{GivesAll}
use Rattle.xc_welltyped_statements.proofs.Values.{some_of, IsValue}
use Rattle.xc_welltyped_statements.proofs.Fitted.{IsFitted}
use Rattle.xc_welltyped_statements.proofs.One.{word_held, one_given}
use Rattle.xc_welltyped_statements.proofs.Pointers.{pointer_word}
use Rattle.xc_welltyped_statements.proofs.Initialisers.{LastingFine}

-- types that fit ---------------------------------------------------------------------

number_level : (l : Ty-F Ty) (p q : Bool) → IsTrue (number_at l) → IsTrue ((number_at l && p) || (passes (λ to. true) (pointee_at l) && q)) → IsTrue p
number_level Ty-F.Int true q h k = refl
number_level Ty-F.Int false q h k = k
number_level Ty-F.Uint true q h k = refl
number_level Ty-F.Uint false q h k = k
number_level Ty-F.Void p q h k = absurd (let no : false ≡ true = h in cc)
number_level (Ty-F.Ptr to) p q h k = absurd (let no : false ≡ true = h in cc)
number_level (Ty-F.Array n of) p q h k = absurd (let no : false ≡ true = h in cc)
number_level (Ty-F.Struct s) p q h k = absurd (let no : false ≡ true = h in cc)
number_level (Ty-F.Sync of) p q h k = absurd (let no : false ≡ true = h in cc)
number_level (Ty-F.Future of) p q h k = absurd (let no : false ≡ true = h in cc)

-- what fits a number is one
number_fits : (b own : Ty) → IsTrue (is_number b) → IsTrue (fits b own) → IsTrue (is_number own)
number_fits b own h k = number_level (out-Ty b) (is_number own) (same_ty b own) h k

no_number : (n m p q : Bool) → n ≡ false → IsTrue ((n && m) || (p && q)) → IsTrue q
no_number true m p q e h = absurd cc
no_number false m p q e h = and_right p _ h

-- what fits a pointer is of its type
pointer_fits : (b own : Ty) → is_number b ≡ false → IsTrue (fits b own) → own ≡ b
pointer_fits b own e h = sym (same_is b own (no_number (is_number b) (is_number own) (is_pointer b) (same_ty b own) e h))

-- constants -----------------------------------------------------------------------------

module _ (t : Text) (e : Env) (x : Expr) (own : Ty) (v : IsValue t e own x) (number : IsTrue (is_number own)) (n : ℕ) where
  abbrev constant : Expr
  constant = typed x.span x.ty (Const n)

  constant_ok : (cx : Context) → Into t cx e → IsTrue (value_ok cx constant)
  constant_ok cx i =
      let m : IsMade cx x.ty false constant = const_made cx x.span x.ty n (subst (λ u. IsTrue (is_number u)) (sym (v.own cx i)) number) in
      and_both (part_of cx constant).ok _ m.ok (ap not m.within)

  constant_used : (flags : List Bool) → IsTrue (only_accessed flags constant)
  constant_used flags = search (rules, opened)

  constant_value_is : IsValue t e own constant
  constant_value_is = record {
    typed = constant_ok;
    own = λ cx i. v.own cx i;
    seen = λ seen c. subst (AllSeen seen) (sym (none_named x.span x.ty n)) refl;
    used = λ flags m. constant_used flags;
  }

  constant_word : word_of constant ≡ Some n
  unfolding word_of
  constant_word = search (rules, opened)

number_is : (o : Option ℕ) (x : Expr) (n : ℕ) → o ≡ Some n → number_made o (Some x) ≡ Some (typed x.span x.ty (Const n))
unfolding number_made both
number_is o x n e = ap (λ o. both (λ n e. typed e.span e.ty (Const n)) o (Some x)) e

-- expressions ------------------------------------------------------------------------

module _ (t : Text) (role_fine : (node : Raw) → Shaped t node → RoleFine t node (judged t node)) where
  module _ (node : Raw) (shaped : Shaped t node) (expr : IsTrue (is_expr (rule_in node))) (e0 : Env) (good : Good e0) (clean : Clean (judged t node).found e0)
      (e : Env) (ty : Ty) (object : IsTrue (is_object_by e.structs.sizes ty)) (o : Option Expr) (fit : IsFitted t e ty o) (off : ℕ) where
    abbrev piece : Piece
    piece = (judged t node).constant

    abbrev Gives : Option Expr → Type 0
    Gives m = GivesAll t e ty off true (one_init off m)

    number_given : IsTrue (is_number fit.plain) → constant_faults piece ≡ [] → Gives (number_made (constant_value piece) o)
    number_given h none =
        let c = (role_fine node shaped).constant expr e0 good clean true none in
        let n = some_of piece.part.value (c.value refl) in
        let value : constant_value piece ≡ Some n.0 = ap (λ b. cond b piece.part.value None) c.pure ∙ n.1 in
        let own = number_fits fit.plain fit.own h fit.fits in
        let x = typed fit.made.span fit.made.ty (Const n.0) in
        subst Gives (sym (ap (λ m. number_made (constant_value piece) m) fit.known ∙ number_is (constant_value piece) fit.made n.0 value))
        (one_given t e ty fit.plain fit.own object fit.base fit.fits x (constant_value_is t e fit.made fit.own fit.value own n.0) off true
        (λ yes. subst (λ o. IsTrue (is_some o)) (sym (constant_word t e fit.made fit.own fit.value own n.0)) refl)
        (λ yes cx i. (word_held cx ty fit.plain fit.base off x n.0 (constant_word t e fit.made fit.own fit.value own n.0) (or_left (is_number fit.plain) _ h), tt)))

    pointer_given : is_number fit.plain ≡ false → fault_unless (may_point (form_in t node) piece (Some fit.made)) (span_in t node) ≡ [] → Gives o
    pointer_given h none =
        let w = some_of (word_of fit.made) (kept (span_in t node) (is_some (word_of fit.made)) none) in
        let own = pointer_fits fit.plain fit.own h fit.fits in
        subst Gives (sym fit.known)
        (one_given t e ty fit.plain fit.own object fit.base fit.fits fit.made fit.value off true
        (λ yes. subst (λ o. IsTrue (is_some o)) (sym w.1) refl)
        (λ yes cx i. (word_held cx ty fit.plain fit.base off fit.made w.0 w.1 (pointer_word cx i.few fit.plain h fit.made (fit.value.typed cx i) (fit.value.own cx i ∙ own) w.0 w.1), tt)))

    given_by : (b : Bool) → is_number fit.plain ≡ b → cond b (constant_faults piece) (fault_unless (may_point (form_in t node) piece o) (span_in t node)) ≡ [] → Gives (cond b (number_made (constant_value piece) o) o)
    given_by true is none = number_given is none
    given_by false is none = pointer_given is (subst (λ m. fault_unless (may_point (form_in t node) piece m) (span_in t node) ≡ []) fit.known none)

    held_given : (h : Option Ty) → h ≡ Some fit.plain → lasting_faults h (span_in t node) (form_in t node) piece o ≡ [] → Gives (lasting_made h piece o)
    held_given h is none = subst (λ h. Gives (lasting_made h piece o)) (sym is)
        (given_by (is_number fit.plain) refl (subst (λ h. lasting_faults h (span_in t node) (form_in t node) piece o ≡ []) is none))

  pub lasting_fine : LastingFine t
  lasting_fine node shaped expr e0 good clean e ty object o fit off none = held_given node shaped expr e0 good clean e ty object o fit off (held (Some ty)) fit.base none
