-- The lowered expression has the same type and names the same locals.
use Rattle.std.proofs.Common.{◌≡◌, ℕ, List, [], ◌∷◌, ◌++◌, map, Bool, true, false, refl, sym, ap, ◌∙◌, subst}
use Rattle.std.specs.Prelude.{◌&&◌, Option, Some, None, slice_get}
use Rattle.std.proofs.lemmas.Grind.{common_steps}
use Rattle.xc_word.specs.declared.memory.Kind.{Kind}
use Rattle.xc_word.specs.declared.memory.Kind.TheVariants as kind
use Rattle.xc_tree.specs.declared.ty.Ty.{Ty}
use Rattle.xc_tree.specs.declared.expr.Expr.{Expr, roll-Expr}
use Rattle.xc_tree.specs.declared.expr.ExprKind.{ExprKind, roll-ExprKind}
use Rattle.xc_tree.specs.declared.expr.ExprKind.TheOpen.{ExprKind-F, Expr-F}
use Rattle.xc_tree.specs.declared.expr.ExprKind.TheFolds.{fold-ExprKind, fold-Expr, fold-roll-ExprKind, fold-roll-Expr, fold_out-Expr, ind-Expr, map-ExprKind}
use Rattle.xc_tree.specs.declared.operator.BinOp.{BinOp}
use Rattle.xc_tree.specs.Lists.{every, joined}
use Rattle.xc_tree.specs.Walk.{named_step, locals_named}
use Rattle.xc_type_lowering.specs.Lowered.{Lowered, LoweredKind, value_if, made, with_kind, lower_step, lowering, lowered, read_of, written_of, updated_of}
use Rattle.xc_type_lowering.specs.InnerLowered.{lowering_kind}

pub type_kept : (flags : List Bool) (e : Expr) → (lowered flags e).ty ≡ e.ty
type_kept flags e = ap (λ (l : Lowered). l.expr.ty) (fold_out-Expr LoweredKind Lowered (lower_step flags) with_kind e)

pub all_made : (flags : List Bool) (es : List Expr) → map (λ (l : Lowered). l.expr) (map (lowering flags) es) ≡ map (lowered flags) es
all_made flags [] = refl
all_made flags (e ∷ es) = ap (λ made. lowered flags e ∷ made) (all_made flags es)

-- for a list that is made
pub ruleset list_rules = (common_steps, all_made)

and_assoc : (a b c : Bool) → (a && (b && c)) ≡ ((a && b) && c)
and_assoc true b c = refl
and_assoc false b c = refl

and_comm : (a b : Bool) → (a && b) ≡ (b && a)
and_comm true true = refl
and_comm true false = refl
and_comm false true = refl
and_comm false false = refl

module _ (p : ℕ → Bool) (flags : List Bool) where
  -- each name passes
  abbrev tested : List ℕ → Bool
  tested xs = every (map p xs)

  abbrev names_in : ExprKind → List ℕ
  names_in = fold-ExprKind (List ℕ) (List ℕ) named_step (λ e. e.kind)

  pub record NamedForm (l : LoweredKind) (names : List ℕ) : Type 0 where
    pub place : (x : ℕ) → l.value ≡ Some x → names ≡ x ∷ []
    pub same : tested (names_in l.kind) ≡ tested names

  pub record NamedPart (l : Lowered) (names : List ℕ) : Type 0 where
    pub place : (x : ℕ) → l.value ≡ Some x → names ≡ x ∷ []
    pub same : tested (locals_named l.expr) ≡ tested names

  abbrev KeptKind : ExprKind → Type 0
  KeptKind k = NamedForm (lowering_kind flags k) (names_in k)

  abbrev Kept : Expr → Type 0
  Kept e = NamedPart (lowering flags e) (locals_named e)

  abbrev Child : Type 0
  Child = (e : Expr) × Kept e

  abbrev KindChild : Type 0
  KindChild = (k : ExprKind) × KeptKind k

  abbrev layer : ExprKind-F KindChild Child → ExprKind-F ExprKind Expr
  layer y = map-ExprKind KindChild Child ExprKind Expr (λ k. k.0) (λ e. e.0) y

  abbrev names_layer : ExprKind-F ExprKind Expr → ExprKind-F (List ℕ) (List ℕ)
  names_layer l = map-ExprKind ExprKind Expr (List ℕ) (List ℕ) names_in locals_named l

  abbrev lowered_layer : ExprKind-F KindChild Child → ExprKind-F LoweredKind Lowered
  lowered_layer y = map-ExprKind ExprKind Expr LoweredKind Lowered (lowering_kind flags) (lowering flags) (layer y)

  abbrev low : Child → Expr
  low c = (lowering flags c.0).expr

  ordinary : (l : ExprKind-F ExprKind Expr) (names : List ℕ) → tested (named_step (names_layer l)) ≡ tested names → NamedForm (made (roll-ExprKind l)) names
  ordinary l names e = record {
    place = λ x is. absurd cc;
    same = ap tested (fold-roll-ExprKind (List ℕ) (List ℕ) named_step (λ e. e.kind) l) ∙ e;
  }

  append_tested : (xs ys : List ℕ) → tested (xs ++ ys) ≡ (tested xs && tested ys)
  append_tested [] ys = refl
  append_tested (x ∷ xs) ys = ap (λ b. p x && b) (append_tested xs ys) ∙ and_assoc (p x) (tested xs) (tested ys)

  append_same : (vs xs bs ys : List ℕ) → tested vs ≡ tested xs → tested bs ≡ tested ys → tested (vs ++ bs) ≡ tested (xs ++ ys)
  append_same vs xs bs ys e f = append_tested vs bs ∙ (ap (λ b. b && tested bs) e ∙ (ap (λ b. tested xs && b) f ∙ sym (append_tested xs ys)))

  append_swapped : (xs ys : List ℕ) → tested (xs ++ ys) ≡ tested (ys ++ xs)
  append_swapped xs ys = append_tested xs ys ∙ (and_comm (tested xs) (tested ys) ∙ sym (append_tested ys xs))

  two : (a b : Child) → tested (locals_named (low a) ++ locals_named (low b)) ≡ tested (locals_named a.0 ++ locals_named b.0)
  two a b = append_same (locals_named (low a)) (locals_named a.0) (locals_named (low b)) (locals_named b.0) a.1.same b.1.same

  args_same : (es : List Child) → tested (joined (map locals_named (map (λ e. e.expr) (map (lowering flags) (map (λ e. e.0) es))))) ≡ tested (joined (map locals_named (map (λ e. e.0) es)))
  args_same [] = refl
  args_same (e ∷ es) = append_same (locals_named (low e)) (locals_named e.0) _ _ e.1.same (args_same es)

  read_same : (place : Child) (o : Option ℕ) → (lowering flags place.0).value ≡ o → NamedForm (made (read_of kind.ReadXx o (low place))) (locals_named place.0)
  unfolding roll-ExprKind denote.Hole.Carrier.roll
  read_same place None e = ordinary (ExprKind-F.Read kind.ReadXx (low place)) _ place.1.same
  read_same place (Some x) e = ordinary (ExprKind-F.Local x) _ (ap tested (sym (place.1.place x e)))

  write_same : (place value : Child) (o : Option ℕ) → (lowering flags place.0).value ≡ o → NamedForm (made (written_of kind.WriteXf o (low place) (low value))) (locals_named place.0 ++ locals_named value.0)
  unfolding roll-ExprKind denote.Hole.Carrier.roll
  write_same place value None e = ordinary (ExprKind-F.Write kind.WriteXf (low place) (low value)) _ (two place value)
  write_same place value (Some x) e = ordinary (ExprKind-F.Set x (low value)) _
      (append_same (locals_named (low value)) (locals_named value.0) (x ∷ []) (x ∷ []) value.1.same refl
      ∙ (append_swapped (locals_named value.0) (x ∷ []) ∙ ap (λ xs. tested (xs ++ locals_named value.0)) (sym (place.1.place x e))))

  place_same : (place : Child) (o : Option ℕ) → (lowering flags place.0).value ≡ o → tested (locals_named (updated_of o (low place))) ≡ tested (locals_named place.0)
  unfolding roll-ExprKind denote.Hole.Carrier.roll
  place_same place None e = place.1.same
  place_same place (Some x) e = ap tested (fold-roll-Expr (List ℕ) (List ℕ) named_step (λ e. e.kind) (at (roll-ExprKind (ExprKind-F.Local x)))
      ∙ (fold-roll-ExprKind (List ℕ) (List ℕ) named_step (λ e. e.kind) (ExprKind-F.Local x) ∙ sym (place.1.place x e)))
    where
      at : ExprKind → Expr-F ExprKind Expr
      at k = record { ty = (updated_of (Some x) (low place)).ty; span = (low place).span; kind = k }

  auto_same : (x : ℕ) → NamedForm (lower_step flags (ExprKind-F.Auto x)) (x ∷ [])
  unfolding roll-ExprKind denote.Hole.Carrier.roll
  auto_same x = record { place = λ y e. one x y (slice_get flags x) e; same = ap tested (fold-roll-ExprKind (List ℕ) (List ℕ) named_step (λ e. e.kind) (ExprKind-F.Auto x)) }
    where
      one : (x y : ℕ) (o : Option Bool) → value_if x o ≡ Some y → x ∷ [] ≡ y ∷ []
      one x y (Some false) e = cc
      one x y (Some true) e = absurd cc
      one x y None e = absurd cc

  update_same : (o : BinOp) (post : Bool) (place value : Child) → NamedForm (lower_step flags (lowered_layer (ExprKind-F.Update o post place value))) (locals_named place.0 ++ locals_named value.0)
  unfolding roll-ExprKind denote.Hole.Carrier.roll
  update_same o post place value = ordinary (ExprKind-F.Update o post (updated_of (lowering flags place.0).value (low place)) (low value)) _
      (append_same (locals_named (updated_of (lowering flags place.0).value (low place))) (locals_named place.0) (locals_named (low value)) (locals_named value.0) (place_same place (lowering flags place.0).value refl) value.1.same)

  reads_same : (k : Kind) (place : Child) → NamedForm (lower_step flags (lowered_layer (ExprKind-F.Read k place))) (locals_named place.0)
  unfolding roll-ExprKind denote.Hole.Carrier.roll
  reads_same kind.ReadXx place = read_same place (lowering flags place.0).value refl
  reads_same k place = ordinary (ExprKind-F.Read k (low place)) _ place.1.same

  writes_same : (k : Kind) (place value : Child) → NamedForm (lower_step flags (lowered_layer (ExprKind-F.Write k place value))) (locals_named place.0 ++ locals_named value.0)
  unfolding roll-ExprKind denote.Hole.Carrier.roll
  writes_same kind.WriteXf place value = write_same place value (lowering flags place.0).value refl
  writes_same k place value = ordinary (ExprKind-F.Write k (low place) (low value)) _ (two place value)

  level : (y : ExprKind-F KindChild Child) → NamedForm (lower_step flags (lowered_layer y)) (named_step (names_layer (layer y)))
  level (ExprKind-F.Const v) = ordinary (ExprKind-F.Const v) _ refl
  level (ExprKind-F.Local x) = ordinary (ExprKind-F.Local x) _ refl
  level (ExprKind-F.Set x v) = ordinary (ExprKind-F.Set x (low v)) _ (append_same (locals_named (low v)) (locals_named v.0) (x ∷ []) (x ∷ []) v.1.same refl)
  level (ExprKind-F.Global g) = ordinary (ExprKind-F.Global g) _ refl
  level (ExprKind-F.Auto x) = auto_same x
  level (ExprKind-F.Index base index size bound) = ordinary (ExprKind-F.Index (low base) (low index) size bound) _ (two base index)
  level (ExprKind-F.Member base off) = ordinary (ExprKind-F.Member (low base) off) _ base.1.same
  level (ExprKind-F.Read k place) = reads_same k place
  level (ExprKind-F.Write k place value) = writes_same k place value
  level (ExprKind-F.FetchAdd place value) = ordinary (ExprKind-F.FetchAdd (low place) (low value)) _ (two place value)
  level (ExprKind-F.Purge place) = ordinary (ExprKind-F.Purge (low place)) _ place.1.same
  level (ExprKind-F.Update o post place value) = update_same o post place value
  level (ExprKind-F.Unary o of) = ordinary (ExprKind-F.Unary o (low of)) _ of.1.same
  level (ExprKind-F.Binary o a b) = ordinary (ExprKind-F.Binary o (low a) (low b)) _ (two a b)
  level (ExprKind-F.And a b) = ordinary (ExprKind-F.And (low a) (low b)) _ (two a b)
  level (ExprKind-F.Or a b) = ordinary (ExprKind-F.Or (low a) (low b)) _ (two a b)
  level (ExprKind-F.Cond test a b) = ordinary (ExprKind-F.Cond (low test) (low a) (low b)) _
      (append_same (locals_named (low test)) (locals_named test.0) (locals_named (low a) ++ locals_named (low b)) (locals_named a.0 ++ locals_named b.0) test.1.same (two a b))
  level (ExprKind-F.Comma a b) = ordinary (ExprKind-F.Comma (low a) (low b)) _ (two a b)
  level (ExprKind-F.Call f args) = ordinary (ExprKind-F.Call f (map (λ e. e.expr) (map (lowering flags) (map (λ e. e.0) args)))) _ (args_same args)
  level (ExprKind-F.Print f args) = ordinary (ExprKind-F.Print f (map (λ e. e.expr) (map (lowering flags) (map (λ e. e.0) args)))) _ (args_same args)

  names_kept : (e : Expr) → Kept e
  names_kept = ind-Expr KeptKind Kept
      (λ x y is. subst (λ z. KeptKind (roll-ExprKind z)) is
      (subst (λ l. NamedForm l (names_in (roll-ExprKind (layer y)))) (sym (fold-roll-ExprKind LoweredKind Lowered (lower_step flags) with_kind (layer y)))
      (subst (λ ns. NamedForm (lower_step flags (lowered_layer y)) ns) (sym (fold-roll-ExprKind (List ℕ) (List ℕ) named_step (λ e. e.kind) (layer y)))
      (level y))))
      (λ x y is. subst (λ z. Kept (roll-Expr z)) is
      (let z : Expr-F ExprKind Expr = record { ty = y.ty; span = y.span; kind = y.kind.0 } in
      subst (λ l. NamedPart l (locals_named (roll-Expr z))) (sym (fold-roll-Expr LoweredKind Lowered (lower_step flags) with_kind z))
      (subst (λ ns. NamedPart (with_kind (record { ty = y.ty; span = y.span; kind = lowering_kind flags y.kind.0 })) ns) (sym (fold-roll-Expr (List ℕ) (List ℕ) named_step (λ e. e.kind) z))
      (record {
        place = y.kind.1.place;
        same = ap tested (fold-roll-Expr (List ℕ) (List ℕ) named_step (λ e. e.kind) (record { ty = y.ty; span = y.span; kind = (lowering_kind flags y.kind.0).kind })) ∙ y.kind.1.same;
      }))))

pub same_names : (p : ℕ → Bool) (flags : List Bool) (e : Expr) → every (map p (locals_named (lowered flags e))) ≡ every (map p (locals_named e))
same_names p flags e = (names_kept p flags e).same
