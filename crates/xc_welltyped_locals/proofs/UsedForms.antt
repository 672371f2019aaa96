-- How a form uses the places of locals, by its parts.
use Rattle.std.proofs.Common.{rules, ◌≡◌, ℕ, List, [], ◌∷◌, map, Bool, true, false, refl, ap, ◌∙◌}
use Rattle.std.specs.Prelude.{IsTrue, not, ◌&&◌, is_some, Option, Some, None, option_map}
use Rattle.xc_text_place.specs.declared.Span.{Span}
use Rattle.xc_word.specs.declared.memory.Kind.TheVariants as kind
use Rattle.xc_tree.specs.declared.operator.BinOp.{BinOp}
use Rattle.xc_tree.specs.declared.operator.UnOp.{UnOp}
use Rattle.xc_tree.specs.declared.ty.Ty.{Ty, Ptr}
use Rattle.xc_tree.specs.declared.expr.Expr.{Expr}
use Rattle.xc_tree.specs.declared.expr.ExprKind.{ExprKind, Const, Global, Auto, Index, Member, Read, Write, FetchAdd, Purge, Update, Unary, Binary, And, Or, Cond, Comma, Call, Print, out-ExprKind}
use Rattle.xc_tree.specs.declared.expr.ExprKind.TheOpen.{ExprKind-F}
use Rattle.xc_tree.specs.Types.{is_void}
use Rattle.xc_tree.proofs.Lists.{and_both}
use Rattle.xc_type_rule.specs.declared.found.Known.{Known}
use Rattle.xc_type_rule.specs.declared.found.Known.TheVariants as known
use Rattle.xc_type_rule.specs.Making.{Ruling, typed, value_from, place_from, declared_place, found_by, place_by, both}
use Rattle.xc_welltyped.proofs.Forms.{opened}
use Rattle.xc_type_scopes.specs.Env.{has_address}
use Rattle.xc_type_lowering.specs.Lowered.{value_of}
use Rattle.xc_type_lowering.specs.Accessed.{Use, settled, all_settled, use_of, only_accessed}
use Rattle.xc_welltyped_locals.specs.Used.{IsUsedPlace, UsedAs, IsUsed}

-- a place is known
abbrev pub is_place : Known → Bool
is_place (known.Place ty within) = true
is_place _ = false

-- forms ---------------------------------------------------------------------------

-- no place of a local, and no read of one
abbrev pub plain : Bool → Use
plain ok = record { place = false; read = false; ok = ok }

module _ (flags : List Bool) where
  abbrev told : Expr → Use
  told e = use_of flags e

  pub const_use : (span : Span) (ty : Ty) (n : ℕ) → told (typed span ty (Const n)) ≡ plain true
  const_use span ty n = search (rules, opened)

  pub global_use : (span : Span) (ty : Ty) (n : ℕ) → told (typed span ty (Global n)) ≡ plain true
  global_use span ty n = search (rules, opened)

  pub local_use : (span : Span) (ty : Ty) (n : ℕ) → told (typed span ty (Auto n)) ≡ record { place = is_some (value_of flags n); read = false; ok = true }
  local_use span ty n = search (rules, opened)

  pub index_use : (span : Span) (ty : Ty) (size : ℕ) (bound : Option ℕ) (a b : Expr) → told (typed span ty (Index a b size bound)) ≡ plain (all_settled (told a ∷ told b ∷ []))
  index_use span ty size bound a b = search (rules, opened)

  pub member_use : (span : Span) (ty : Ty) (off : ℕ) (e : Expr) → told (typed span ty (Member e off)) ≡ plain (all_settled (told e ∷ []))
  member_use span ty off e = search (rules, opened)

  pub read_use : (span : Span) (ty : Ty) (e : Expr) → told (typed span ty (Read kind.ReadXx e)) ≡ record { place = false; read = (told e).place; ok = (told e).ok }
  read_use span ty e = search (rules, opened)

  pub readfe_use : (span : Span) (ty : Ty) (e : Expr) → told (typed span ty (Read kind.ReadFe e)) ≡ plain (all_settled (told e ∷ []))
  readfe_use span ty e = search (rules, opened)

  pub readff_use : (span : Span) (ty : Ty) (e : Expr) → told (typed span ty (Read kind.ReadFf e)) ≡ plain (all_settled (told e ∷ []))
  readff_use span ty e = search (rules, opened)

  pub purge_use : (span : Span) (ty : Ty) (e : Expr) → told (typed span ty (Purge e)) ≡ plain (all_settled (told e ∷ []))
  purge_use span ty e = search (rules, opened)

  pub writexf_use : (span : Span) (ty : Ty) (e v : Expr) → told (typed span ty (Write kind.WriteXf e v)) ≡ plain ((told e).ok && (settled (told v) && not ((told e).place && is_void ty)))
  writexf_use span ty e v = search (rules, opened)

  pub writeef_use : (span : Span) (ty : Ty) (e v : Expr) → told (typed span ty (Write kind.WriteEf e v)) ≡ plain (all_settled (told e ∷ told v ∷ []))
  writeef_use span ty e v = search (rules, opened)

  pub writeff_use : (span : Span) (ty : Ty) (e v : Expr) → told (typed span ty (Write kind.WriteFf e v)) ≡ plain (all_settled (told e ∷ told v ∷ []))
  writeff_use span ty e v = search (rules, opened)

  pub add_use : (span : Span) (ty : Ty) (e v : Expr) → told (typed span ty (FetchAdd e v)) ≡ plain (all_settled (told e ∷ told v ∷ []))
  add_use span ty e v = search (rules, opened)

  pub update_use : (span : Span) (ty : Ty) (o : BinOp) (post : Bool) (e v : Expr) → told (typed span ty (Update o post e v)) ≡ plain ((told e).ok && (settled (told v) && not (told e).read))
  update_use span ty o post e v = search (rules, opened)

  pub unary_use : (span : Span) (ty : Ty) (o : UnOp) (e : Expr) → told (typed span ty (Unary o e)) ≡ plain (all_settled (told e ∷ []))
  unary_use span ty o e = search (rules, opened)

  pub binary_use : (span : Span) (ty : Ty) (o : BinOp) (a b : Expr) → told (typed span ty (Binary o a b)) ≡ plain (all_settled (told a ∷ told b ∷ []))
  binary_use span ty o a b = search (rules, opened)

  pub and_use : (span : Span) (ty : Ty) (a b : Expr) → told (typed span ty (And a b)) ≡ plain (all_settled (told a ∷ told b ∷ []))
  and_use span ty a b = search (rules, opened)

  pub or_use : (span : Span) (ty : Ty) (a b : Expr) → told (typed span ty (Or a b)) ≡ plain (all_settled (told a ∷ told b ∷ []))
  or_use span ty a b = search (rules, opened)

  pub cond_use : (span : Span) (ty : Ty) (a b c : Expr) → told (typed span ty (Cond a b c)) ≡ plain (all_settled (told a ∷ told b ∷ told c ∷ []))
  cond_use span ty a b c = search (rules, opened)

  pub comma_use : (span : Span) (ty : Ty) (a b : Expr) → told (typed span ty (Comma a b)) ≡ plain (all_settled (told a ∷ told b ∷ []))
  comma_use span ty a b = search (rules, opened)

  pub call_use : (span : Span) (ty : Ty) (n : ℕ) (es : List Expr) → told (typed span ty (Call n es)) ≡ plain (all_settled (map told es))
  call_use span ty n es = search (rules, opened)

  pub print_use : (span : Span) (ty : Ty) (n : ℕ) (es : List Expr) → told (typed span ty (Print n es)) ≡ plain (all_settled (map told es))
  print_use span ty n es = search (rules, opened)

  -- where it stands makes no difference
  pub same_use : (span : Span) (e : Expr) → told (typed span e.ty e.kind) ≡ told e
  same_use span e = search (rules, opened)

  -- values -------------------------------------------------------------------------

  abbrev pub Only : Expr → Type 0
  Only e = IsTrue (only_accessed flags e)

  abbrev pub MadeOnly : Option Expr → Type 0
  MadeOnly None = Unit {0}
  MadeOnly (Some e) = Only e

  pub only_by : (e : Expr) (ok : Bool) → told e ≡ plain ok → IsTrue ok → Only e
  only_by e ok u h = ap settled u ∙ h

  pub one_settled : (u : Use) → IsTrue (settled u) → IsTrue (all_settled (u ∷ []))
  one_settled u h = and_both (settled u) true h refl

  pub two_settled : (u v : Use) → IsTrue (settled u) → IsTrue (settled v) → IsTrue (all_settled (u ∷ v ∷ []))
  two_settled u v h k = and_both (settled u) _ h (one_settled v k)

  -- what is made of parts that are values
  abbrev pub KindOnly : Option ExprKind → Type 0
  KindOnly None = Unit {0}
  KindOnly (Some k) = (span : Span) (ty : Ty) → Only (typed span ty k)

  abbrev pub OfOne : (Expr → ExprKind) → Type 0
  OfOne f = (span : Span) (ty : Ty) (e : Expr) → told (typed span ty (f e)) ≡ plain (all_settled (told e ∷ []))

  abbrev pub OfTwo : (Expr → Expr → ExprKind) → Type 0
  OfTwo f = (span : Span) (ty : Ty) (a b : Expr) → told (typed span ty (f a b)) ≡ plain (all_settled (told a ∷ told b ∷ []))

  pub of_one : (f : Expr → ExprKind) → OfOne f → (made : Option Expr) → MadeOnly made → KindOnly (option_map f made)
  of_one f is None h = tt
  of_one f is (Some e) h = λ span ty. only_by (typed span ty (f e)) _ (is span ty e) (one_settled (told e) h)

  pub of_two : (f : Expr → Expr → ExprKind) → OfTwo f → (a b : Option Expr) → MadeOnly a → MadeOnly b → KindOnly (both f a b)
  unfolding both
  of_two f is None b h k = tt
  of_two f is (Some x) None h k = tt
  of_two f is (Some x) (Some y) h k = λ span ty. only_by (typed span ty (f x y)) _ (is span ty x y) (two_settled (told x) (told y) h k)

  -- places --------------------------------------------------------------------------

  -- a form that is no local's place
  abbrev pub KindPlain : Option ExprKind → Type 0
  KindPlain None = Unit {0}
  KindPlain (Some k) = ((span : Span) (ty : Ty) → told (typed span ty k) ≡ plain true) × ((n : ℕ) → out-ExprKind k ≡ ExprKind-F.Auto n → ⊥)

  module _ (count : ℕ) where
    pub value_used : (span : Span) (ty : Ty) (k : Option ExprKind) → KindOnly k → IsUsed flags count (value_from span ty k)
    unfolding value_from
    value_used span ty None h = tt
    value_used span ty (Some k) h = h span ty

    -- of a rule that gives values
    pub found_used : (span : Span) (r : Ruling) (k : Option ExprKind) → ((ty : Ty) → r ≡ Some (known.Value ty) → KindOnly k) → IsUsed flags count (found_by span r k)
    unfolding found_by
    found_used span None k h = tt
    found_used span (Some (known.Unknown place)) k h = tt
    found_used span (Some (known.Place ty within)) k h = tt
    found_used span (Some (known.Value ty)) k h = value_used span ty k (h ty refl)

    plain_place : (span : Span) (ty : Ty) (k : ExprKind) → KindPlain (Some k) → IsUsedPlace flags count ty (typed span (Ptr ty) k)
    plain_place span ty k h = record {
      own = refl;
      ok = ap (λ (u : Use). u.ok) (h.0 span (Ptr ty));
      unread = ap (λ (u : Use). u.read) (h.0 span (Ptr ty));
      lies = λ a. ap (λ (u : Use). u.place) (h.0 span (Ptr ty));
      declared = λ n e. absurd (h.1 n e);
    }

    pub place_used : (span : Span) (ty : Ty) (within : Bool) (k : Option ExprKind) → KindPlain k → IsUsed flags count (place_from span ty within k)
    unfolding place_from
    place_used span ty within None h = tt
    place_used span ty within (Some k) h = plain_place span ty k h

    -- of a rule that gives places
    pub place_by_used : (span : Span) (r : Ruling) (k : Option ExprKind) → ((ty : Ty) (within : Bool) → r ≡ Some (known.Place ty within) → KindPlain k) → IsUsed flags count (place_by span r k)
    unfolding place_by
    place_by_used span None k h = tt
    place_by_used span (Some (known.Unknown place)) k h = tt
    place_by_used span (Some (known.Value ty)) k h = tt
    place_by_used span (Some (known.Place ty within)) k h = place_used span ty within k (h ty within refl)

    pub declared_used : (span : Span) (ty : Option Ty) (within : Bool) (k : Option ExprKind) → KindPlain k → IsUsed flags count (declared_place span ty within k)
    unfolding declared_place
    declared_used span None within k h = tt
    declared_used span (Some ty) within k h = place_used span ty within k h

    -- operands ------------------------------------------------------------------------

    -- what is no place is a value
    pub value_only : (k : Known) (made : Option Expr) → is_place k ≡ false → UsedAs flags count k made → MadeOnly made
    value_only k None e h = tt
    value_only (known.Unknown place) (Some x) e h = h
    value_only (known.Value ty) (Some x) e h = h
    value_only (known.Place ty within) (Some x) e h = absurd cc

    -- a place that lies in memory is no local's that is a value
    pub lying_settled : (ty : Ty) (e : Expr) → IsUsedPlace flags count ty e → has_address ty ≡ true → IsTrue (settled (told e))
    lying_settled ty e h a = ap (λ b. not b && (told e).ok) (h.lies a) ∙ h.ok
