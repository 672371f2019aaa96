-- An expression that is well typed with all locals as objects stays so where those whose address is never taken are values.
use Rattle.std.proofs.Common.{◌≡◌, ℕ, zero, suc, ◌<◌, List, [], ◌∷◌, length, map, Bool, true, false, cond, refl, sym, ap, ◌∙◌, subst, get_or}
use Rattle.std.specs.Prelude.{IsTrue, ◌&&◌, ◌||◌, ◌==◌, not, nat_lt, nat_le, Option, Some, None, slice_get, is_some, unwrap_or, option_map}
use Rattle.std.proofs.lemmas.Option.{slice_get-map, slice_get_within}
use Rattle.std.proofs.lemmas.Bool.{lt-ltb}
use Rattle.std.proofs.lemmas.List.{length-map}
use Rattle.xc_word.specs.declared.memory.Kind.{Kind}
use Rattle.xc_word.specs.declared.memory.Kind.TheVariants as kind
use Rattle.xc_tree.specs.declared.ty.Ty.{Ty}
use Rattle.xc_tree.specs.declared.expr.Expr.{Expr, roll-Expr}
use Rattle.xc_tree.specs.declared.expr.ExprKind.{ExprKind, roll-ExprKind}
use Rattle.xc_tree.specs.declared.expr.ExprKind.TheOpen.{ExprKind-F, Expr-F}
use Rattle.xc_tree.specs.declared.expr.ExprKind.TheFolds.{fold-ExprKind, fold-Expr, fold-roll-ExprKind, fold-roll-Expr, ind-Expr, map-ExprKind}
use Rattle.xc_tree.specs.declared.tree.Local.{Local}
use Rattle.xc_tree.specs.declared.tree.Func.{Func}
use Rattle.xc_tree.specs.Lists.{every, passes}
use Rattle.xc_text_place.specs.declared.Span.{Span}
use Rattle.xc_tree.specs.declared.operator.BinOp.{BinOp}
use Rattle.xc_tree.specs.Types.{same_ty, is_void, is_plain, is_number, fits, may_hold, pointee, content}
use Rattle.xc_tree.specs.Kinds.{same_write, write_kind}
use Rattle.xc_tree.specs.Formats.{integers_taken}
use Rattle.xc_tree.specs.Typed.{Context, Part, Row, kind_step, part_of, expr_ok, value_ok, part_ok, parts, named, operands, are_values, is_value, rule, is_variable_of, leads_to, addressed_type, mixed_under, args_fit, call_ok, print_ok, is_place, update_ok, sort_of}
use Rattle.xc_tree.proofs.Lists.{and_left, and_right, and_both, pick}
use Rattle.xc_type_lowering.specs.Lowered.{Lowered, LoweredKind, value_if, value_of, made, with_kind, lower_step, lowering, read_of, written_of, updated_of}
use Rattle.xc_type_lowering.specs.InnerLowered.{lowering_kind}
use Rattle.xc_type_lowering.specs.Accessed.{Use, UseKind, only_accessed, settled, all_settled, children, uses_only, use_step, with_use, use_of}
use Rattle.xc_type_lowering.specs.Kept.{with_address, with_addresses, addressed_in, values_plain, ExprKept}
use Rattle.xc_type_lowering.proofs.Types.{same_is, pointee_is, content_is}

not_false : (b : Bool) → IsTrue (not b) → b ≡ false
not_false true h = absurd cc
not_false false h = refl

abbrev typed_with : Expr-F Row Part → Part
typed_with e = record { ty = e.ty; variable = e.kind.variable; within = e.kind.within; ok = e.kind.ok e.ty }

abbrev row_of : Context → ExprKind → Row
row_of cx = fold-ExprKind Row Part (kind_step cx) typed_with

module _ (cx : Context) (plain : IsTrue (values_plain cx)) where
  abbrev flags : List Bool
  flags = addressed_in cx

  abbrev all : Context
  all = with_addresses cx

  -- the type is that of the place of this local, which is a value
  pub record Named (x : ℕ) (ty : Ty) : Type 0 where
    pub local : Local
    pub found : slice_get cx.locals x ≡ Some local
    pub value : local.addressed ≡ false
    pub leads : IsTrue (leads_to (Some local.ty) ty)

  abbrev expr_at : {K X : Type 0} → Ty → Span → K → Expr-F K X
  expr_at ty span k = record { ty = ty; span = span; kind = k }

  abbrev part_with : Ty → Bool → Bool → Bool → Part
  part_with ty v w k = record { ty = ty; variable = v; within = w; ok = k }

  pub record KeptRow (row : Row) (read mixed : Bool) (ty : Ty) : Type 0 where
    pub variable : row.variable ≡ read
    pub within : row.within ≡ mixed
    pub ok : IsTrue (row.ok ty)

  pub record KeptForm (l : LoweredKind) (u : UseKind) (row : Row) : Type 0 where
    pub same : u.place ≡ is_some l.value
    pub none : (ty : Ty) → IsTrue (row.ok ty) → row.variable ≡ false
    pub auto : (ty : Ty) (x : ℕ) → IsTrue (row.ok ty) → l.value ≡ Some x → Named x ty
    pub kept : (ty : Ty) → IsTrue (row.ok ty) → IsTrue (u.ok ty) → u.place ≡ false → KeptRow (row_of cx l.kind) u.read row.within ty

  pub record KeptPart (l : Lowered) (u : Use) (part : Part) : Type 0 where
    pub same : u.place ≡ is_some l.value
    pub ty : l.expr.ty ≡ part.ty
    pub none : IsTrue part.ok → part.variable ≡ false
    pub auto : (x : ℕ) → IsTrue part.ok → l.value ≡ Some x → Named x part.ty
    pub kept : IsTrue part.ok → IsTrue u.ok → u.place ≡ false → part_of cx l.expr ≡ record part { variable = u.read }

  abbrev use_kind : ExprKind → UseKind
  use_kind = fold-ExprKind UseKind Use (use_step flags) with_use

  abbrev KeptKind : ExprKind → Type 0
  KeptKind k = KeptForm (lowering_kind flags k) (use_kind k) (row_of all k)

  abbrev Kept : Expr → Type 0
  Kept e = KeptPart (lowering flags e) (use_of flags e) (part_of all e)

  abbrev Child : Type 0
  Child = (e : Expr) × Kept e

  abbrev KindChild : Type 0
  KindChild = (k : ExprKind) × KeptKind k

  abbrev layer : ExprKind-F KindChild Child → ExprKind-F ExprKind Expr
  layer y = map-ExprKind KindChild Child ExprKind Expr (λ k. k.0) (λ e. e.0) y

  abbrev typed_layer : ExprKind-F KindChild Child → ExprKind-F Row Part
  typed_layer y = map-ExprKind ExprKind Expr Row Part (row_of all) (part_of all) (layer y)

  abbrev use_layer : ExprKind-F KindChild Child → ExprKind-F UseKind Use
  use_layer y = map-ExprKind ExprKind Expr UseKind Use use_kind (use_of flags) (layer y)

  abbrev lowered_layer : ExprKind-F KindChild Child → ExprKind-F LoweredKind Lowered
  lowered_layer y = map-ExprKind ExprKind Expr LoweredKind Lowered (lowering_kind flags) (lowering flags) (layer y)

  abbrev low : Child → Expr
  low c = (lowering flags c.0).expr

  abbrev used : Child → Use
  used c = use_of flags c.0

  abbrev old : Child → Part
  old c = part_of all c.0

  abbrev new : Child → Part
  new c = part_of cx (low c)

  -- the part that is told of a child that stays
  abbrev as_kept : Child → Part
  as_kept c = record (old c) { variable = (used c).read }

  kept_part : (c : Child) → IsTrue (old c).ok → IsTrue (settled (used c)) → new c ≡ as_kept c
  kept_part c h u = c.1.kept h (and_right (not (used c).place) _ u) (not_false (used c).place (and_left _ _ u))

  -- the form in its new context
  abbrev new_row : ExprKind-F ExprKind Expr → Row
  new_row l = kind_step cx (map-ExprKind ExprKind Expr Row Part (row_of cx) (part_of cx) l)

  rolled : (l : ExprKind-F ExprKind Expr) (read within : Bool) (ty : Ty) → KeptRow (new_row l) read within ty → KeptRow (row_of cx (roll-ExprKind l)) read within ty
  rolled l read within ty k = subst (λ r. KeptRow r read within ty) (sym (fold-roll-ExprKind Row Part (kind_step cx) typed_with l)) k

  ordinary : (l : ExprKind-F ExprKind Expr) (ok : Ty → Bool) (row : Row) → row.variable ≡ false
      → ((ty : Ty) → IsTrue (row.ok ty) → IsTrue (ok ty) → KeptRow (new_row l) false row.within ty) → KeptForm (made (roll-ExprKind l)) (uses_only ok) row
  ordinary l ok row none f = record {
    same = refl;
    none = λ ty h. none;
    auto = λ ty x h e. absurd cc;
    kept = λ ty h u e. rolled l false row.within ty (f ty h u);
  }

  -- forms with one part, with two and with three
  one : (make : Part → ExprKind-F Row Part) (a : Child) (ty : Ty) → new a ≡ as_kept a → IsTrue ((kind_step cx (make (as_kept a))).ok ty) → IsTrue ((kind_step cx (make (new a))).ok ty)
  one make a ty ea h = subst (λ p. IsTrue ((kind_step cx (make p)).ok ty)) (sym ea) h

  two : (make : Part → Part → ExprKind-F Row Part) (a b : Child) (ty : Ty) → new a ≡ as_kept a → new b ≡ as_kept b
      → IsTrue ((kind_step cx (make (as_kept a) (as_kept b))).ok ty) → IsTrue ((kind_step cx (make (new a) (new b))).ok ty)
  two make a b ty ea eb h = one (λ p. make p (new b)) a ty ea (one (make (as_kept a)) b ty eb h)

  three : (make : Part → Part → Part → ExprKind-F Row Part) (a b c : Child) (ty : Ty) → new a ≡ as_kept a → new b ≡ as_kept b → new c ≡ as_kept c
      → IsTrue ((kind_step cx (make (as_kept a) (as_kept b) (as_kept c))).ok ty) → IsTrue ((kind_step cx (make (new a) (new b) (new c))).ok ty)
  three make a b c ty ea eb ec h = one (λ p. make p (new b) (new c)) a ty ea (two (make (as_kept a)) b c ty eb ec h)

  -- ---- arguments

  abbrev olds : List Child → List Part
  olds es = map (part_of all) (map (λ e. e.0) es)

  abbrev news : List Child → List Part
  news es = map (part_of cx) (map (λ e. e.expr) (map (lowering flags) (map (λ e. e.0) es)))

  abbrev uses : List Child → List Use
  uses es = map (use_of flags) (map (λ e. e.0) es)

  kept_args : (es : List Child) → IsTrue (every (map part_ok (olds es))) → IsTrue (all_settled (uses es)) → news es ≡ map as_kept es
  kept_args [] h u = refl
  kept_args (e ∷ es) h u =
      ap (λ p. p ∷ news es) (kept_part e (and_left _ _ h) (and_left _ _ u))
      ∙ ap (λ ps. as_kept e ∷ ps) (kept_args es (and_right (old e).ok _ h) (and_right (settled (used e)) _ u))

  same_oks : (es : List Child) → map part_ok (map as_kept es) ≡ map part_ok (olds es)
  same_oks [] = refl
  same_oks (e ∷ es) = ap (λ bs. (old e).ok ∷ bs) (same_oks es)

  same_values : (es : List Child) → map is_value (map as_kept es) ≡ map is_value (olds es)
  same_values [] = refl
  same_values (e ∷ es) = ap (λ bs. is_value (old e) ∷ bs) (same_values es)

  same_numbers : (es : List Child) → map (λ a. is_number a.ty) (map as_kept es) ≡ map (λ a. is_number a.ty) (olds es)
  same_numbers [] = refl
  same_numbers (e ∷ es) = ap (λ bs. is_number (old e).ty ∷ bs) (same_numbers es)

  same_count : (es : List Child) → length (map as_kept es) ≡ length (olds es)
  same_count [] = refl
  same_count (e ∷ es) = ap suc (same_count es)

  same_fit : (ps : List Local) (es : List Child) → args_fit ps (map as_kept es) ≡ args_fit ps (olds es)
  same_fit [] [] = refl
  same_fit [] (e ∷ es) = refl
  same_fit (p ∷ ps) [] = refl
  same_fit (p ∷ ps) (e ∷ es) = ap (λ b. may_hold p.ty (old e).ty && b) (same_fit ps es)

  same_call : (f : Option Func) (es : List Child) (ty : Ty) → call_ok f (map as_kept es) ty ≡ call_ok f (olds es) ty
  same_call None es ty = refl
  same_call (Some f) es ty = ap (λ b. same_ty ty f.ret && b) (same_fit _ es)

  same_print : (format : Option (List ℕ)) (es : List Child) → print_ok format (map as_kept es) ≡ print_ok format (olds es)
  same_print format es =
      ap (λ bs. every bs && (nat_le (length (map as_kept es)) 8 && passes (λ bytes. passes (λ n. n == length (map as_kept es)) (integers_taken bytes)) format)) (same_numbers es)
      ∙ ap (λ k. every (map (λ a. is_number a.ty) (olds es)) && (nat_le k 8 && passes (λ bytes. passes (λ n. n == k) (integers_taken bytes)) format)) (same_count es)

  call_kept : (f : ℕ) (es : List Child) (ty : Ty) → IsTrue ((kind_step all (ExprKind-F.Call f (olds es))).ok ty) → IsTrue (all_settled (uses es)) → IsTrue ((kind_step cx (ExprKind-F.Call f (news es))).ok ty)
  unfolding rule are_values
  call_kept f es ty h u =
      let rest = and_right (every (map part_ok (olds es))) _ h in
      let ruling = and_right (nat_lt f (length cx.funcs)) _ rest in
      subst (λ ps. IsTrue ((kind_step cx (ExprKind-F.Call f ps)).ok ty)) (sym (kept_args es (and_left _ _ h) u))
      (and_both (every (map part_ok (map as_kept es))) _ (subst (λ bs. IsTrue (every bs)) (sym (same_oks es)) (and_left _ _ h))
      (and_both (nat_lt f (length cx.funcs)) _ (and_left _ _ rest)
      (and_both (every (map is_value (map as_kept es))) _ (subst (λ bs. IsTrue (every bs)) (sym (same_values es)) (and_left _ _ ruling))
      (subst IsTrue (sym (same_call (slice_get cx.funcs f) es ty)) (and_right (every (map is_value (olds es))) _ ruling)))))

  print_kept : (f : ℕ) (es : List Child) (ty : Ty) → IsTrue ((kind_step all (ExprKind-F.Print f (olds es))).ok ty) → IsTrue (all_settled (uses es)) → IsTrue ((kind_step cx (ExprKind-F.Print f (news es))).ok ty)
  unfolding rule are_values
  print_kept f es ty h u =
      let rest = and_right (every (map part_ok (olds es))) _ h in
      let ruling = and_right (nat_lt f (length cx.formats)) _ rest in
      let printing = and_right (every (map is_value (olds es))) _ ruling in
      subst (λ ps. IsTrue ((kind_step cx (ExprKind-F.Print f ps)).ok ty)) (sym (kept_args es (and_left _ _ h) u))
      (and_both (every (map part_ok (map as_kept es))) _ (subst (λ bs. IsTrue (every bs)) (sym (same_oks es)) (and_left _ _ h))
      (and_both (nat_lt f (length cx.formats)) _ (and_left _ _ rest)
      (and_both (every (map is_value (map as_kept es))) _ (subst (λ bs. IsTrue (every bs)) (sym (same_values es)) (and_left _ _ ruling))
      (and_both (print_ok (slice_get cx.formats f) (map as_kept es)) _ (subst IsTrue (sym (same_print (slice_get cx.formats f) es)) (and_left _ _ printing))
      (and_right (print_ok (slice_get cx.formats f) (olds es)) _ printing)))))

  -- ---- locals

  -- where each has an address, none is a variable
  no_variable : (o : Option Local) (ty : Ty) → IsTrue (is_variable_of ty (option_map with_address o)) → ⊥
  no_variable None ty h = cc
  no_variable (Some l) ty h = cc

  not_variable : (x : ℕ) (ty : Ty) → IsTrue (is_variable_of ty (slice_get all.locals x)) → ⊥
  not_variable x ty h = no_variable (slice_get cx.locals x) ty (subst (λ o. IsTrue (is_variable_of ty o)) (slice_get-map with_address cx.locals x) h)

  -- the place of a local that keeps its address
  stays_place : (x : ℕ) (ty : Ty) (o : Option Local) → is_some (value_if x (option_map (λ l. l.addressed) o)) ≡ false
      → IsTrue (leads_to (addressed_type (option_map with_address o)) ty) → IsTrue (leads_to (addressed_type o) ty)
  stays_place x ty None e h = h
  stays_place x ty (Some l) e h = at l.addressed refl
    where
      at : (b : Bool) → l.addressed ≡ b → IsTrue (leads_to (addressed_type (Some l)) ty)
      at true is = subst (λ b. IsTrue (leads_to (cond b (Some l.ty) None) ty)) (sym is) h
      at false is = let no : true ≡ false = sym (ap (λ b. is_some (value_if x (Some b))) is) ∙ e in absurd cc

  -- the place of a local that is a value
  named_place : (x y : ℕ) (ty : Ty) (o : Option Local) → slice_get cx.locals x ≡ o → value_if x (option_map (λ l. l.addressed) o) ≡ Some y
      → IsTrue (leads_to (addressed_type (option_map with_address o)) ty) → Named y ty
  named_place x y ty None at e h = absurd cc
  named_place x y ty (Some l) at e h = by l.addressed refl
    where
      by : (b : Bool) → l.addressed ≡ b → Named y ty
      by true is = let no : None ≡ Some y = sym (ap (value_if x) (ap Some is)) ∙ e in absurd cc
      by false is =
          let same : Some x ≡ Some y = sym (ap (value_if x) (ap Some is)) ∙ e in
          let one : x ≡ y = cc in
          record { local = l; found = subst (λ k. slice_get cx.locals k ≡ Some l) one at; value = is; leads = h }

  every_get : (ls : List Local) (i : ℕ) (l : Local) → IsTrue (every (map (λ l. l.addressed || is_plain l.ty) ls)) → slice_get ls i ≡ Some l → IsTrue (l.addressed || is_plain l.ty)
  every_get [] i l h e = absurd cc
  every_get (k ∷ ls) zero l h e = let same : k ≡ l = cc in subst (λ z. IsTrue (z.addressed || is_plain z.ty)) same (and_left _ _ h)
  every_get (k ∷ ls) (suc i) l h e = every_get ls i l (and_right (k.addressed || is_plain k.ty) _ h) e

  -- a value is a plain scalar
  plain_local : (x : ℕ) (ty : Ty) (n : Named x ty) → IsTrue (is_plain n.local.ty)
  plain_local x ty n = subst (λ b. IsTrue (b || is_plain n.local.ty)) n.value (every_get cx.locals x n.local plain n.found)

  content_named : (x : ℕ) (ty : Ty) (n : Named x ty) → content ty ≡ Some n.local.ty
  content_named x ty n = content_is n.local.ty ty (plain_local x ty n) n.leads

  below : (ls : List Local) (x : ℕ) (l : Local) → slice_get ls x ≡ Some l → IsTrue (nat_lt x (length ls))
  below ls x l e = lt-ltb x (length ls) (slice_get_within ls x l e)

  variable_named : (x : ℕ) (ty of : Ty) (n : Named x ty) → IsTrue (same_ty n.local.ty of) → IsTrue (is_variable_of of (slice_get cx.locals x))
  variable_named x ty of n h =
      subst (λ o. IsTrue (is_variable_of of o)) (sym n.found) (subst (λ b. IsTrue (not b && same_ty n.local.ty of)) (sym n.value) h)

  -- the variable, as an expression
  local_kept : (x : ℕ) (ty of : Ty) (read within : Bool) (n : Named x ty) → IsTrue (same_ty n.local.ty of) → true ≡ read → false ≡ within → KeptRow (new_row (ExprKind-F.Local x)) read within of
  unfolding rule are_values
  local_kept x ty of read within n h er ew = record {
    variable = er;
    within = ew;
    ok = and_both (nat_lt x (length cx.locals)) _ (below cx.locals x n.local n.found) (variable_named x ty of n h);
  }

  -- ---- a read

  read_place : (place : Child) (ty : Ty) (o : Option ℕ) → (lowering flags place.0).value ≡ o → IsTrue ((kind_step all (ExprKind-F.Read kind.ReadXx (old place))).ok ty) → IsTrue (used place).ok
      → KeptRow (row_of cx (read_of kind.ReadXx o (low place))) (used place).place false ty
  unfolding rule are_values roll-ExprKind denote.Hole.Carrier.roll
  read_place place ty None e h u =
      let settled_place : (used place).place ≡ false = place.1.same ∙ ap is_some e in
      let ok : IsTrue (old place).ok = and_left _ _ (and_left _ _ h) in
      rolled (ExprKind-F.Read kind.ReadXx (low place)) (used place).place false ty (record {
        variable = sym settled_place;
        within = refl;
        ok = one (λ p. ExprKind-F.Read kind.ReadXx p) place ty (place.1.kept ok u settled_place) h;
      })
  read_place place ty (Some x) e h u =
      let ok : IsTrue (old place).ok = and_left _ _ (and_left _ _ h) in
      let n = place.1.auto x ok e in
      let reads : IsTrue (passes (λ t. same_ty t ty) (content (old place).ty)) = and_right (every (map part_ok (old place ∷ []))) _ h in
      rolled (ExprKind-F.Local x) (used place).place false ty
      (local_kept x (old place).ty ty (used place).place false n (subst (λ o. IsTrue (passes (λ t. same_ty t ty) o)) (content_named x (old place).ty n) reads) (sym (place.1.same ∙ ap is_some e)) refl)

  -- ---- an assignment

  not_void : (place void : Bool) → place ≡ true → IsTrue (not (place && void)) → void ≡ false
  not_void true void e h = not_false void h
  not_void false void e h = absurd cc

  with_value : (void a : Bool) → void ≡ false → IsTrue (void || a) → IsTrue a
  with_value true a e h = absurd cc
  with_value false a e h = h

  abbrev is_written : Ty → Ty → Ty → Option Ty → Bool
  is_written value ty place o = passes (λ t. fits t value && (is_void ty || (same_ty t ty && same_write kind.WriteXf (write_kind place)))) o

  write_place : (place value : Child) (ty : Ty) (o : Option ℕ) → (lowering flags place.0).value ≡ o → IsTrue ((kind_step all (ExprKind-F.Write kind.WriteXf (old place) (old value))).ok ty)
      → IsTrue ((used place).ok && (settled (used value) && not ((used place).place && is_void ty))) → KeptRow (row_of cx (written_of kind.WriteXf o (low place) (low value))) false false ty
  unfolding rule are_values roll-ExprKind denote.Hole.Carrier.roll
  write_place place value ty None e h u =
      let oks : IsTrue (every (map part_ok (old place ∷ old value ∷ []))) = and_left _ _ h in
      let ep = place.1.kept (and_left _ _ oks) (and_left _ _ u) (place.1.same ∙ ap is_some e) in
      let ev = kept_part value (pick ((old place).ok ∷ (old value).ok ∷ []) 1 oks) (and_left _ _ (and_right (used place).ok _ u)) in
      rolled (ExprKind-F.Write kind.WriteXf (low place) (low value)) false false ty (record {
        variable = refl;
        within = refl;
        ok = two (λ p q. ExprKind-F.Write kind.WriteXf p q) place value ty ep ev h;
      })
  write_place place value ty (Some x) e h u =
      let oks : IsTrue (every (map part_ok (old place ∷ old value ∷ []))) = and_left _ _ h in
      let value_is : IsTrue (old value).ok = pick ((old place).ok ∷ (old value).ok ∷ []) 1 oks in
      let us = and_right (used place).ok _ u in
      let ev = kept_part value value_is (and_left _ _ us) in
      let n = place.1.auto x (and_left _ _ oks) e in
      let rest = and_right (every (map part_ok (old place ∷ old value ∷ []))) _ h in
      let inner : IsTrue (are_values (old value ∷ [])) = and_left _ _ rest in
      let writes = subst (λ o. IsTrue (is_written (old value).ty ty (old place).ty o)) (content_named x (old place).ty n) (and_right (are_values (old value ∷ [])) _ rest) in
      let void : is_void ty ≡ false = not_void (used place).place (is_void ty) (place.1.same ∙ ap is_some e) (and_right (settled (used value)) _ us) in
      let typed = and_left _ _ (with_value (is_void ty) _ void (and_right (fits n.local.ty (old value).ty) _ writes)) in
      let fit : IsTrue (fits ty (old value).ty) = subst (λ t. IsTrue (fits t (old value).ty)) (same_is n.local.ty ty typed) (and_left _ _ writes) in
      rolled (ExprKind-F.Set x (low value)) false false ty (record {
        variable = refl;
        within = refl;
        ok = one (λ p. ExprKind-F.Set x p) value ty ev
            (and_both (every (map part_ok (as_kept value ∷ []))) _ (and_both (old value).ok true value_is refl)
            (and_both (nat_lt x (length cx.locals)) _ (below cx.locals x n.local n.found)
            (and_both (are_values (as_kept value ∷ [])) _ inner
            (and_both (is_variable_of ty (slice_get cx.locals x)) _ (variable_named x (old place).ty ty n typed) fit))));
      })

  -- ---- a compound assignment

  variable_part : (x : ℕ) (t : Ty) (span : Span) → part_of cx (roll-Expr (expr_at t span (roll-ExprKind (ExprKind-F.Local x)))) ≡ part_with t true false ((new_row (ExprKind-F.Local x)).ok t)
  variable_part x t span = fold-roll-Expr Row Part (kind_step cx) typed_with (expr_at t span (roll-ExprKind (ExprKind-F.Local x)))
      ∙ ap (λ r. typed_with (expr_at t span r)) (fold-roll-ExprKind Row Part (kind_step cx) typed_with (ExprKind-F.Local x))

  update_place : (o : BinOp) (post : Bool) (place value : Child) (ty : Ty) (at : Option ℕ) → (lowering flags place.0).value ≡ at → IsTrue ((kind_step all (ExprKind-F.Update o post (old place) (old value))).ok ty)
      → IsTrue ((used place).ok && (settled (used value) && not (used place).read)) → KeptRow (new_row (ExprKind-F.Update o post (updated_of at (low place)) (low value))) false false ty
  unfolding rule are_values roll-ExprKind denote.Hole.Carrier.roll
  update_place o post place value ty None e h u =
      let oks : IsTrue (every (map part_ok (old place ∷ old value ∷ []))) = and_left _ _ h in
      let us = and_right (used place).ok _ u in
      let ok = and_left _ _ oks in
      let ep = place.1.kept ok (and_left _ _ u) (place.1.same ∙ ap is_some e) in
      let same : new place ≡ old place = ep ∙ ap (λ b. record (old place) { variable = b }) (not_false (used place).read (and_right (settled (used value)) _ us) ∙ sym (place.1.none ok)) in
      let ev = kept_part value (pick ((old place).ok ∷ (old value).ok ∷ []) 1 oks) (and_left _ _ us) in
      record {
        variable = refl;
        within = refl;
        ok = subst (λ p. IsTrue ((kind_step cx (ExprKind-F.Update o post p (new value))).ok ty)) (sym same) (one (λ q. ExprKind-F.Update o post (old place) q) value ty ev h);
      }
  update_place o post place value ty (Some x) e h u =
      let oks : IsTrue (every (map part_ok (old place ∷ old value ∷ []))) = and_left _ _ h in
      let us = and_right (used place).ok _ u in
      let ok = and_left _ _ oks in
      let value_is : IsTrue (old value).ok = pick ((old place).ok ∷ (old value).ok ∷ []) 1 oks in
      let ev = kept_part value value_is (and_left _ _ us) in
      let n = place.1.auto x ok e in
      let rest = and_right (every (map part_ok (old place ∷ old value ∷ []))) _ h in
      let inner : IsTrue (are_values (old value ∷ [])) = and_left _ _ rest in
      let ruling = and_right (are_values (old value ∷ [])) _ rest in
      let number = and_left _ _ ruling in
      let updates = and_right (is_number (old value).ty) _ ruling in
      let may = and_left _ _ updates in
      let places = subst (λ b. IsTrue (cond b (same_ty (old place).ty ty) (is_place (old place) (λ t. same_ty t ty)))) (place.1.none ok) (and_right (update_ok (sort_of o) ty) _ updates) in
      let typed : IsTrue (same_ty n.local.ty ty) = subst (λ o. IsTrue (passes (λ t. same_ty t ty) o)) (content_named x (old place).ty n) places in
      let itself : IsTrue (same_ty n.local.ty n.local.ty) = subst (λ t. IsTrue (same_ty n.local.ty t)) (sym (same_is n.local.ty ty typed)) typed in
      let object : unwrap_or (pointee (low place).ty) (low place).ty ≡ n.local.ty = ap (λ t. unwrap_or (pointee t) t) place.1.ty ∙ ap (λ o. unwrap_or o (old place).ty) (pointee_is n.local.ty (old place).ty n.leads) in
      let variable : Ty → Part = λ (t : Ty). part_with t true false ((new_row (ExprKind-F.Local x)).ok t) in
      let whole = one (λ q. ExprKind-F.Update o post (variable n.local.ty) q) value ty ev
      (and_both (every (map part_ok (variable n.local.ty ∷ as_kept value ∷ []))) _
      (and_both (variable n.local.ty).ok _ (local_kept x (old place).ty n.local.ty true false n itself refl refl).ok (and_both (old value).ok true value_is refl))
      (and_both (are_values (as_kept value ∷ [])) _ inner (and_both (is_number (old value).ty) _ number (and_both (update_ok (sort_of o) ty) _ may typed)))) in
      record {
        variable = refl;
        within = refl;
        ok = subst (λ p. IsTrue ((kind_step cx (ExprKind-F.Update o post p (new value))).ok ty)) (sym (variable_part x (unwrap_or (pointee (low place).ty) (low place).ty) (low place).span))
            (subst (λ t. IsTrue ((kind_step cx (ExprKind-F.Update o post (variable t) (new value))).ok ty)) (sym object) whole);
      }

  -- ---- the forms

  abbrev KeptLayer : ExprKind-F KindChild Child → Type 0
  KeptLayer y = KeptForm (lower_step flags (lowered_layer y)) (use_step flags (use_layer y)) (kind_step all (typed_layer y))

  two_parts : (make : Part → Part → ExprKind-F Row Part) (a b : Child) (ty : Ty) → IsTrue (every (map part_ok (old a ∷ old b ∷ []))) → IsTrue (all_settled (used a ∷ used b ∷ []))
      → IsTrue ((kind_step cx (make (as_kept a) (as_kept b))).ok ty) → IsTrue ((kind_step cx (make (new a) (new b))).ok ty)
  two_parts make a b ty oks u h = two make a b ty
      (kept_part a (and_left _ _ oks) (and_left _ _ u))
      (kept_part b (pick ((old a).ok ∷ (old b).ok ∷ []) 1 oks) (pick (settled (used a) ∷ settled (used b) ∷ []) 1 u)) h

  auto_kept : (x : ℕ) → KeptLayer (ExprKind-F.Auto x)
  unfolding rule are_values roll-ExprKind denote.Hole.Carrier.roll
  auto_kept x =
      let is : slice_get flags x ≡ option_map (λ l. l.addressed) (slice_get cx.locals x) = slice_get-map (λ l. l.addressed) cx.locals x in
      let was : slice_get all.locals x ≡ option_map with_address (slice_get cx.locals x) = slice_get-map with_address cx.locals x in
      let place = λ (ty : Ty) (h : IsTrue ((kind_step all (ExprKind-F.Auto x)).ok ty)). subst (λ o. IsTrue (leads_to (addressed_type o) ty)) was (and_right (nat_lt x (length all.locals)) _ h) in
      record {
        same = refl;
        none = λ ty h. refl;
        auto = λ ty y h e. named_place x y ty (slice_get cx.locals x) refl (sym (ap (value_if x) is) ∙ e) (place ty h);
        kept = λ ty h u e. rolled (ExprKind-F.Auto x) false false ty (record {
          variable = refl;
          within = refl;
          ok = and_both (nat_lt x (length cx.locals)) _ (subst (λ k. IsTrue (nat_lt x k)) (length-map cx.locals with_address) (and_left _ _ h))
              (stays_place x ty (slice_get cx.locals x) (sym (ap (λ o. is_some (value_if x o)) is) ∙ e) (place ty h));
        });
      }

  update_kept : (o : BinOp) (post : Bool) (place value : Child) → KeptLayer (ExprKind-F.Update o post place value)
  unfolding rule are_values roll-ExprKind denote.Hole.Carrier.roll
  update_kept o post place value = ordinary (ExprKind-F.Update o post (updated_of (lowering flags place.0).value (low place)) (low value)) _ _ refl (λ ty h u.
      update_place o post place value ty (lowering flags place.0).value refl h u)

  read_kept : (k : Kind) (place : Child) → KeptLayer (ExprKind-F.Read k place)
  unfolding rule are_values roll-ExprKind denote.Hole.Carrier.roll
  read_kept kind.ReadXx place = record {
    same = refl;
    none = λ ty h. refl;
    auto = λ ty x h e. absurd cc;
    kept = λ ty h u e. read_place place ty (lowering flags place.0).value refl h u;
  }
  read_kept k place = ordinary (ExprKind-F.Read k (low place)) _ _ refl (λ ty h u.
      record { variable = refl; within = refl; ok = one (λ p. ExprKind-F.Read k p) place ty (kept_part place (and_left _ _ (and_left _ _ h)) (and_left _ _ u)) h })

  write_kept : (k : Kind) (place value : Child) → KeptLayer (ExprKind-F.Write k place value)
  unfolding rule are_values roll-ExprKind denote.Hole.Carrier.roll
  write_kept kind.WriteXf place value = record {
    same = refl;
    none = λ ty h. refl;
    auto = λ ty x h e. absurd cc;
    kept = λ ty h u e. write_place place value ty (lowering flags place.0).value refl h u;
  }
  write_kept k place value = ordinary (ExprKind-F.Write k (low place) (low value)) _ _ refl (λ ty h u.
      record { variable = refl; within = refl; ok = two_parts (λ p q. ExprKind-F.Write k p q) place value ty (and_left _ _ h) u h })

  level : (y : ExprKind-F KindChild Child) → KeptLayer y
  unfolding rule are_values
  level (ExprKind-F.Const v) = ordinary (ExprKind-F.Const v) _ _ refl (λ ty h u. record { variable = refl; within = refl; ok = h })
  level (ExprKind-F.Local x) = record {
    same = refl;
    none = λ ty h. absurd (not_variable x ty (and_right (nat_lt x (length all.locals)) _ h));
    auto = λ ty x h e. absurd cc;
    kept = λ ty h u e. absurd (not_variable x ty (and_right (nat_lt x (length all.locals)) _ h));
  }
  level (ExprKind-F.Set x v) = ordinary (ExprKind-F.Set x (low v)) _ _ refl (λ ty h u.
      absurd (not_variable x ty (and_left _ _ (and_right (are_values (old v ∷ [])) _ (and_right (nat_lt x (length all.locals)) _ (and_right (every (map part_ok (old v ∷ []))) _ h))))))
  level (ExprKind-F.Global g) = ordinary (ExprKind-F.Global g) _ _ refl (λ ty h u. record { variable = refl; within = refl; ok = h })
  level (ExprKind-F.Auto x) = auto_kept x
  level (ExprKind-F.Index base index size None) = ordinary (ExprKind-F.Index (low base) (low index) size None) _ _ refl (λ ty h u.
      record { variable = refl; within = refl; ok = two_parts (λ p q. ExprKind-F.Index p q size None) base index ty (and_left _ _ h) u h })
  level (ExprKind-F.Index base index size (Some b)) = ordinary (ExprKind-F.Index (low base) (low index) size (Some b)) _ _ refl (λ ty h u.
      record { variable = refl; within = ap (λ p. p.within) (kept_part base (and_left _ _ (and_left _ _ h)) (and_left _ _ u)); ok = two_parts (λ p q. ExprKind-F.Index p q size (Some b)) base index ty (and_left _ _ h) u h })
  level (ExprKind-F.Member base off) = ordinary (ExprKind-F.Member (low base) off) _ _ refl (λ ty h u.
      let e = kept_part base (and_left _ _ (and_left _ _ h)) (and_left _ _ u) in
      record { variable = refl; within = ap (λ p. p.within || mixed_under cx.shapes p.ty) e; ok = one (λ p. ExprKind-F.Member p off) base ty e h })
  level (ExprKind-F.Read k place) = read_kept k place
  level (ExprKind-F.Write k place value) = write_kept k place value
  level (ExprKind-F.FetchAdd place value) = ordinary (ExprKind-F.FetchAdd (low place) (low value)) _ _ refl (λ ty h u.
      record { variable = refl; within = refl; ok = two_parts (λ p q. ExprKind-F.FetchAdd p q) place value ty (and_left _ _ h) u h })
  level (ExprKind-F.Purge place) = ordinary (ExprKind-F.Purge (low place)) _ _ refl (λ ty h u.
      record { variable = refl; within = refl; ok = one (λ p. ExprKind-F.Purge p) place ty (kept_part place (and_left _ _ (and_left _ _ h)) (and_left _ _ u)) h })
  level (ExprKind-F.Update o post place value) = update_kept o post place value
  level (ExprKind-F.Unary o of) = ordinary (ExprKind-F.Unary o (low of)) _ _ refl (λ ty h u.
      record { variable = refl; within = refl; ok = one (λ p. ExprKind-F.Unary o p) of ty (kept_part of (and_left _ _ (and_left _ _ h)) (and_left _ _ u)) h })
  level (ExprKind-F.Binary o a b) = ordinary (ExprKind-F.Binary o (low a) (low b)) _ _ refl (λ ty h u.
      record { variable = refl; within = refl; ok = two_parts (λ p q. ExprKind-F.Binary o p q) a b ty (and_left _ _ h) u h })
  level (ExprKind-F.And a b) = ordinary (ExprKind-F.And (low a) (low b)) _ _ refl (λ ty h u.
      record { variable = refl; within = refl; ok = two_parts (λ p q. ExprKind-F.And p q) a b ty (and_left _ _ h) u h })
  level (ExprKind-F.Or a b) = ordinary (ExprKind-F.Or (low a) (low b)) _ _ refl (λ ty h u.
      record { variable = refl; within = refl; ok = two_parts (λ p q. ExprKind-F.Or p q) a b ty (and_left _ _ h) u h })
  level (ExprKind-F.Cond test a b) = ordinary (ExprKind-F.Cond (low test) (low a) (low b)) _ _ refl (λ ty h u.
      let oks : IsTrue (every (map part_ok (old test ∷ old a ∷ old b ∷ []))) = and_left _ _ h in
      let us : IsTrue (every (map settled (used test ∷ used a ∷ used b ∷ []))) = u in
      record {
        variable = refl;
        within = refl;
        ok = three (λ p q r. ExprKind-F.Cond p q r) test a b ty
            (kept_part test (and_left _ _ oks) (and_left _ _ us))
            (kept_part a (pick ((old test).ok ∷ (old a).ok ∷ (old b).ok ∷ []) 1 oks) (pick (settled (used test) ∷ settled (used a) ∷ settled (used b) ∷ []) 1 us))
            (kept_part b (pick ((old test).ok ∷ (old a).ok ∷ (old b).ok ∷ []) 2 oks) (pick (settled (used test) ∷ settled (used a) ∷ settled (used b) ∷ []) 2 us)) h;
      })
  level (ExprKind-F.Comma a b) = ordinary (ExprKind-F.Comma (low a) (low b)) _ _ refl (λ ty h u.
      record { variable = refl; within = refl; ok = two_parts (λ p q. ExprKind-F.Comma p q) a b ty (and_left _ _ h) u h })
  level (ExprKind-F.Call f args) = ordinary (ExprKind-F.Call f (map (λ e. e.expr) (map (lowering flags) (map (λ e. e.0) args)))) _ _ refl (λ ty h u.
      record { variable = refl; within = refl; ok = call_kept f args ty h u })
  level (ExprKind-F.Print f args) = ordinary (ExprKind-F.Print f (map (λ e. e.expr) (map (lowering flags) (map (λ e. e.0) args)))) _ _ refl (λ ty h u.
      record { variable = refl; within = refl; ok = print_kept f args ty h u })

  same_part : (ty : Ty) (new old : Row) (read : Bool) → KeptRow new read old.within ty → IsTrue (old.ok ty)
      → part_with ty new.variable new.within (new.ok ty) ≡ part_with ty read old.within (old.ok ty)
  same_part ty new old read r h =
      let part = part_with ty in
      ap (λ b. part b new.within (new.ok ty)) r.variable ∙ (ap (λ b. part read b (new.ok ty)) r.within ∙ ap (part read old.within) (r.ok ∙ sym h))

  of_kind : (ty : Ty) (span : Span) (k : ExprKind) → KeptKind k → KeptPart (with_kind (expr_at ty span (lowering_kind flags k))) (with_use (expr_at ty span (use_kind k))) (typed_with (expr_at ty span (row_of all k)))
  of_kind ty span k kept = record {
    same = kept.same;
    ty = refl;
    none = λ h. kept.none ty h;
    auto = λ x h e. kept.auto ty x h e;
    kept = λ h u e. fold-roll-Expr Row Part (kind_step cx) typed_with (expr_at ty span (lowering_kind flags k).kind)
        ∙ same_part ty (row_of cx (lowering_kind flags k).kind) (row_of all k) (use_kind k).read (kept.kept ty h u e) h;
  }

  pub expr_kept : (e : Expr) → Kept e
  expr_kept = ind-Expr KeptKind Kept
      (λ x y is. subst (λ z. KeptKind (roll-ExprKind z)) is
      (subst (λ l. KeptForm l (use_kind (roll-ExprKind (layer y))) (row_of all (roll-ExprKind (layer y)))) (sym (fold-roll-ExprKind LoweredKind Lowered (lower_step flags) with_kind (layer y)))
      (subst (λ u. KeptForm (lower_step flags (lowered_layer y)) u (row_of all (roll-ExprKind (layer y)))) (sym (fold-roll-ExprKind UseKind Use (use_step flags) with_use (layer y)))
      (subst (λ r. KeptForm (lower_step flags (lowered_layer y)) (use_step flags (use_layer y)) r) (sym (fold-roll-ExprKind Row Part (kind_step all) typed_with (layer y)))
      (level y)))))
      (λ x y is. subst (λ z. Kept (roll-Expr z)) is
      (let z : Expr-F ExprKind Expr = expr_at y.ty y.span y.kind.0 in
      subst (λ l. KeptPart l (use_of flags (roll-Expr z)) (part_of all (roll-Expr z))) (sym (fold-roll-Expr LoweredKind Lowered (lower_step flags) with_kind z))
      (subst (λ u. KeptPart (with_kind (expr_at y.ty y.span (lowering_kind flags y.kind.0))) u (part_of all (roll-Expr z))) (sym (fold-roll-Expr UseKind Use (use_step flags) with_use z))
      (subst (λ p. KeptPart (with_kind (expr_at y.ty y.span (lowering_kind flags y.kind.0))) (with_use (expr_at y.ty y.span (use_kind y.kind.0))) p) (sym (fold-roll-Expr Row Part (kind_step all) typed_with z))
      (of_kind y.ty y.span y.kind.0 y.kind.1)))))

  pub value_kept : (e : Expr) → IsTrue (only_accessed flags e) → IsTrue (value_ok all e) → IsTrue (value_ok cx (lowering flags e).expr)
  value_kept e u h = subst (λ p. IsTrue (p.ok && is_value p)) (sym (kept_part (e, expr_kept e) (and_left _ _ h) u)) h

  pub place_kept : (e : Expr) → IsTrue (only_accessed flags e) → IsTrue (expr_ok all e) → IsTrue (expr_ok cx (lowering flags e).expr)
  place_kept e u h = subst (λ (p : Part). IsTrue p.ok) (sym (kept_part (e, expr_kept e) h u)) h

pub expr_typed : (addressed : List Bool) (e : Expr) → ExprKept addressed e (lowering addressed e).expr
expr_typed addressed e cx is plain u h =
    subst (λ f. IsTrue (value_ok cx (lowering f e).expr)) (sym is) (value_kept cx plain e (subst (λ f. IsTrue (only_accessed f e)) is u) h)
