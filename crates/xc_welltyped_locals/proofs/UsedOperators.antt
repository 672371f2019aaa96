-- What operators make uses locals as it may.
use Rattle.std.proofs.Common.{◌≡◌, ℕ, List, Bool, true, false, refl, sym, ap, ◌∙◌, subst, cond, ◌⊎◌, inl, inr}
use Rattle.std.specs.Prelude.{IsTrue, ◌&&◌, not, Option, Some, None}
use Rattle.xc_text_place.specs.declared.Span.{Span}
use Rattle.xc_word.specs.declared.memory.Kind.{Kind}
use Rattle.xc_word.specs.declared.memory.Kind.TheVariants as kind
use Rattle.xc_tree.specs.declared.operator.BinOp.{BinOp}
use Rattle.xc_tree.specs.declared.operator.UnOp.{UnOp}
use Rattle.xc_tree.specs.declared.operator.UnOp.TheVariants as un
use Rattle.xc_tree.specs.declared.ty.Ty.{Ty, out-Ty, Int, Uint, Ptr}
use Rattle.xc_tree.specs.declared.ty.Ty.TheOpen.{Ty-F}
use Rattle.xc_tree.specs.declared.expr.Expr.{Expr}
use Rattle.xc_tree.specs.declared.expr.ExprKind.{ExprKind, Const, Write, Update, Unary, Binary, Cond, Comma}
use Rattle.xc_tree.specs.Types.{void_at, is_void, is_number, is_plain, fits, base, base_at}
use Rattle.xc_tree.specs.Kinds.{write_kind, write_through, write_demanded}
use Rattle.xc_tree.specs.Typed.{Sort, sum, difference, shift, comparison, number, sort_of, update_ok}
use Rattle.xc_tree.proofs.Lists.{and_left, and_right, and_both}
use Rattle.xc_type_rule.specs.declared.found.Found.{Found}
use Rattle.xc_type_rule.specs.declared.found.Known.{Known}
use Rattle.xc_type_rule.specs.declared.found.Known.TheVariants as known
use Rattle.xc_type_rule.specs.Making.{Ruling, typed, unknown_value, value_from, found_by, both}
use Rattle.xc_type_rule.specs.Nulls.{is_null, is_number_value, against}
use Rattle.xc_type_rule.specs.Tests.{may_be, may_be_place}
use Rattle.xc_type_rule_operators.specs.declared.logic.Logic.{Logic}
use Rattle.xc_type_rule_operators.specs.declared.logic.Logic.TheVariants as logic
use Rattle.xc_type_rule_operators.specs.Rulings.{ruled, unruled, unary_ruling, cast_ruling, binary_ruling, logic_ruling, comma_ruling, branches_ruling, conditional_ruling, target, given_ruling, assign_ruling, updated_ruling, update_ruling}
use Rattle.xc_type_rule_operators.specs.Operators.{number_part, grouped, plus_part, unary_part, cast_part, beside, operated_part, binary_part, logic_kind, logical_part, comma_part, cond_kind, chosen_part, conditional_part, write_of, suited, written_part, assign_part, update_part, step_part}
use Rattle.xc_welltyped.proofs.Types.{pointee_of}
use Rattle.xc_type_scopes.specs.Env.{has_address, has_address_at}
use Rattle.xc_type_lowering.specs.Accessed.{settled, use_of}
use Rattle.xc_welltyped_locals.specs.Used.{IsUsedPlace, UsedAs, IsUsed}
use Rattle.xc_welltyped_locals.proofs.UsedForms.{unary_use, binary_use, and_use, or_use, cond_use, comma_use, writexf_use, writeef_use, writeff_use, update_use, Only, MadeOnly, KindOnly, OfTwo, only_by, two_settled, of_one, of_two, value_used, found_used, is_place, value_only, lying_settled}
use Rattle.xc_welltyped_locals.proofs.UsedValues.{const_only, spanned_used, given_used, against_used}

-- rules that take no place -------------------------------------------------------------

ruled_true : (b : Bool) (ty : Ty) (k : Ty) → ruled b ty ≡ Some (known.Value k) → (b ≡ true) × (ty ≡ k)
unfolding ruled
ruled_true true ty k e = (refl, cc)
ruled_true false ty k e = absurd cc

unruled_none : (b : Bool) (ty : Ty) → unruled b ≡ Some (known.Value ty) → ⊥
unfolding unruled
unruled_none true ty e = cc
unruled_none false ty e = cc

pub may_be_value : (p : Ty → Bool) (k : Known) → may_be p k ≡ true → is_place k ≡ false
unfolding may_be
may_be_value p (known.Unknown place) e = refl
may_be_value p (known.Value ty) e = refl
may_be_value p (known.Place ty within) e = absurd cc

unary_value : (o : UnOp) (k : Known) (ty : Ty) → unary_ruling o k ≡ Some (known.Value ty) → is_place k ≡ false
unfolding unary_ruling
unary_value o (known.Unknown place) ty e = refl
unary_value o (known.Value s) ty e = refl
unary_value o (known.Place s within) ty e = absurd cc

cast_value : (to : Option Ty) (k : Known) (ty : Ty) → cast_ruling to k ≡ Some (known.Value ty) → is_place k ≡ false
unfolding cast_ruling
cast_value None k ty e = absurd (unruled_none (may_be is_number k) ty e)
cast_value (Some to) k ty e = may_be_value is_number k (and_right (is_number to) _ (ruled_true (is_number to && may_be is_number k) to ty e).0)

binary_values : (s : Sort) (a b : Known) (ty : Ty) → binary_ruling s a b ≡ Some (known.Value ty) → (is_place a ≡ false) × (is_place b ≡ false)
unfolding binary_ruling
binary_values s (known.Unknown p) (known.Unknown q) ty e = (refl, refl)
binary_values s (known.Unknown p) (known.Value v) ty e = (refl, refl)
binary_values s (known.Unknown p) (known.Place v w) ty e = absurd cc
binary_values s (known.Value u) (known.Unknown q) ty e = (refl, refl)
binary_values s (known.Value u) (known.Value v) ty e = (refl, refl)
binary_values s (known.Value u) (known.Place v w) ty e = absurd cc
binary_values s (known.Place u w) (known.Unknown q) ty e = absurd cc
binary_values s (known.Place u w) (known.Value v) ty e = absurd cc
binary_values s (known.Place u w) (known.Place v x) ty e = absurd cc

logic_values : (a b : Known) (ty : Ty) → logic_ruling a b ≡ Some (known.Value ty) → (is_place a ≡ false) × (is_place b ≡ false)
unfolding logic_ruling
logic_values a b ty e =
    let both = (ruled_true (may_be is_plain a && may_be is_plain b) Int ty e).0 in
    (may_be_value is_plain a (and_left (may_be is_plain a) _ both), may_be_value is_plain b (and_right (may_be is_plain a) _ both))

comma_values : (a b : Known) (ty : Ty) → comma_ruling a b ≡ Some (known.Value ty) → (is_place a ≡ false) × (is_place b ≡ false)
unfolding comma_ruling
comma_values a (known.Unknown place) ty e = absurd (unruled_none (may_be (λ t. true) a) ty e)
comma_values a (known.Value b) ty e = (may_be_value (λ t. true) a (ruled_true (may_be (λ t. true) a) b ty e).0, refl)
comma_values a (known.Place b within) ty e = absurd cc

branches_values : (a b : Known) (nulls : Bool × Bool) (ty : Ty) → branches_ruling a b nulls ≡ Some (known.Value ty) → (is_place a ≡ false) × (is_place b ≡ false)
unfolding branches_ruling
branches_values (known.Unknown p) (known.Unknown q) nulls ty e = (refl, refl)
branches_values (known.Unknown p) (known.Value v) nulls ty e = (refl, refl)
branches_values (known.Unknown p) (known.Place v w) nulls ty e = absurd cc
branches_values (known.Value u) (known.Unknown q) nulls ty e = (refl, refl)
branches_values (known.Value u) (known.Value v) nulls ty e = (refl, refl)
branches_values (known.Value u) (known.Place v w) nulls ty e = absurd cc
branches_values (known.Place u w) (known.Unknown q) nulls ty e = absurd cc
branches_values (known.Place u w) (known.Value v) nulls ty e = absurd cc
branches_values (known.Place u w) (known.Place v x) nulls ty e = absurd cc

pub cond_some : {A : Type 0} (b : Bool) (o : Option A) (x : A) → cond b o None ≡ Some x → (b ≡ true) × (o ≡ Some x)
cond_some true o x e = (refl, e)
cond_some false o x e = absurd cc

conditional_values : (test a b : Known) (nulls : Bool × Bool) (ty : Ty) → conditional_ruling test a b nulls ≡ Some (known.Value ty) → (is_place test ≡ false) × (is_place a ≡ false) × (is_place b ≡ false)
unfolding conditional_ruling
conditional_values test a b nulls ty e =
    let c = cond_some (may_be is_plain test) (branches_ruling a b nulls) (known.Value ty) e in
    let two = branches_values a b nulls ty c.1 in
    (may_be_value is_plain test c.0, two.0, two.1)

-- what is assigned to is a place that holds this type, and what is given to it is a value
record IsAssigned (to : Known) (v : Known) (ty : Ty) : Type 0 where
  object : Ty
  within : Bool
  is : to ≡ known.Place object within
  holds : base object ≡ Some ty
  value : is_place v ≡ false

given_values : (t : Option Ty) (v : Known) (ty : Ty) → given_ruling t v ≡ Some (known.Value ty) → (t ≡ Some ty) × (is_place v ≡ false)
unfolding given_ruling
given_values None v ty e = absurd cc
given_values (Some t) v ty e = let r = ruled_true (may_be (fits t) v) t ty e in (ap Some r.1, may_be_value (fits t) v r.0)

updated_values : (s : Sort) (t : Option Ty) (v : Known) (ty : Ty) → updated_ruling s t v ≡ Some (known.Value ty) → (t ≡ Some ty) × (is_place v ≡ false)
unfolding updated_ruling
updated_values s None v ty e = absurd cc
updated_values s (Some t) v ty e =
    let r = ruled_true (update_ok s t && may_be is_number v) t ty e in (ap Some r.1, may_be_value is_number v (and_right (update_ok s t) _ r.0))

unruled_or : (b c : Bool) (o : Ruling) (ty : Ty) → cond b (unruled c) o ≡ Some (known.Value ty) → o ≡ Some (known.Value ty)
unruled_or true c o ty e = absurd (unruled_none c ty e)
unruled_or false c o ty e = e

targeted : (to v : Known) (ty : Ty) → (target to ≡ Some ty) × (is_place v ≡ false) → IsAssigned to v ty
unfolding target
targeted (known.Unknown place) v ty h = absurd (let e : None ≡ Some ty = h.0 in cc)
targeted (known.Value s) v ty h = absurd (let e : None ≡ Some ty = h.0 in cc)
targeted (known.Place s within) v ty h = record { object = s; within = within; is = refl; holds = h.0; value = h.1 }

assign_values : (to v : Known) (ty : Ty) → assign_ruling to (target to) v ≡ Some (known.Value ty) → IsAssigned to v ty
unfolding assign_ruling
assign_values to v ty e = targeted to v ty (given_values (target to) v ty (unruled_or (may_be_place to) (may_be is_plain v) (given_ruling (target to) v) ty e))

update_values : (s : Sort) (to v : Known) (ty : Ty) → update_ruling s to v ≡ Some (known.Value ty) → IsAssigned to v ty
unfolding update_ruling
update_values s to v ty e = targeted to v ty (updated_values s (target to) v ty (unruled_or (may_be_place to) (may_be is_number v) (updated_ruling s (target to) v) ty e))

-- operators ------------------------------------------------------------------------------

module _ (flags : List Bool) (count : ℕ) (span : Span) where
  abbrev Used : Found → Type 0
  Used f = IsUsed flags count f

  only : (f : Found) → is_place f.known ≡ false → Used f → MadeOnly flags f.made
  only f e h = value_only flags count f.known f.made e h

  pub number_used : (n : ℕ) (unsigned : Bool) → Used (number_part span n unsigned)
  unfolding number_part
  number_used n unsigned = value_used flags count span (cond unsigned Uint Int) (Some (Const n)) (λ s ty. const_only flags count s ty n)

  pub grouped_used : (a : Found) → Used a → Used (grouped span a)
  unfolding grouped
  grouped_used a h = spanned_used flags count a.known span a.made h

  pub plus_used : (a : Found) → Used a → Used (plus_part a)
  unfolding plus_part
  plus_used a h = at (is_number_value a.known)
    where
      at : (b : Bool) → Used (cond b a unknown_value)
      at true = h
      at false = tt

  pub unary_used : (o : UnOp) (a : Found) → Used a → Used (unary_part span o a)
  unfolding unary_part
  unary_used o a h = found_used flags count span (unary_ruling o a.known) _
      (λ ty e. of_one flags (Unary o) (λ s t x. unary_use flags s t o x) a.made (only a (unary_value o a.known ty e) h))

  pub cast_used : (to : Option Ty) (a : Found) → Used a → Used (cast_part span to a)
  unfolding cast_part
  cast_used to a h = found_used flags count span (cast_ruling to a.known) _
      (λ ty e. of_one flags (Unary un.Cast) (λ s t x. unary_use flags s t un.Cast x) a.made (only a (cast_value to a.known ty e) h))

  beside_used : (s : Sort) (k : Known) (f : Found) → Used f → Used (beside s k f)
  unfolding beside
  beside_used comparison k f h = against_used flags count k f h
  beside_used sum k f h = h
  beside_used difference k f h = h
  beside_used shift k f h = h
  beside_used number k f h = h

  operated_used : (o : BinOp) (a b : Found) → Used a → Used b → Used (operated_part span o a b)
  unfolding operated_part
  operated_used o a b h k = found_used flags count span (binary_ruling (sort_of o) a.known b.known) _
      (λ ty e. let v = binary_values (sort_of o) a.known b.known ty e in
      of_two flags (Binary o) (λ s t x y. binary_use flags s t o x y) a.made b.made (only a v.0 h) (only b v.1 k))

  pub binary_used : (o : BinOp) (a b : Found) → Used a → Used b → Used (binary_part span o a b)
  unfolding binary_part
  binary_used o a b h k =
      let l = beside (sort_of o) b.known a in
      operated_used o l (beside (sort_of o) l.known b) (beside_used (sort_of o) b.known a h) (beside_used (sort_of o) l.known b k)

  logic_two : (o : Logic) → OfTwo flags (logic_kind o)
  unfolding logic_kind
  logic_two logic.And s t a b = and_use flags s t a b
  logic_two logic.Or s t a b = or_use flags s t a b

  pub logical_used : (o : Logic) (a b : Found) → Used a → Used b → Used (logical_part span o a b)
  unfolding logical_part
  logical_used o a b h k = found_used flags count span (logic_ruling a.known b.known) _
      (λ ty e. let v = logic_values a.known b.known ty e in of_two flags (logic_kind o) (logic_two o) a.made b.made (only a v.0 h) (only b v.1 k))

  pub comma_used : (a b : Found) → Used a → Used b → Used (comma_part span a b)
  unfolding comma_part
  comma_used a b h k = found_used flags count span (comma_ruling a.known b.known) _
      (λ ty e. let v = comma_values a.known b.known ty e in of_two flags Comma (comma_use flags) a.made b.made (only a v.0 h) (only b v.1 k))

  cond_only : (test a b : Option Expr) → MadeOnly flags test → MadeOnly flags a → MadeOnly flags b → KindOnly flags (cond_kind test a b)
  unfolding cond_kind
  cond_only None a b g h k = tt
  cond_only (Some x) None b g h k = tt
  cond_only (Some x) (Some y) None g h k = tt
  cond_only (Some x) (Some y) (Some z) g h k = λ s ty. only_by flags (typed s ty (Cond x y z)) _ (cond_use flags s ty x y z)
      (and_both (settled (use_of flags x)) _ g (two_settled flags (use_of flags y) (use_of flags z) h k))

  chosen_used : (test a b : Found) → Used test → Used a → Used b → Used (chosen_part span test a b)
  unfolding chosen_part
  chosen_used test a b g h k = found_used flags count span (conditional_ruling test.known a.known b.known (is_null a, is_null b)) _
      (λ ty e. let v = conditional_values test.known a.known b.known (is_null a, is_null b) ty e in
      cond_only test.made a.made b.made (only test v.0 g) (only a v.1 h) (only b v.2 k))

  pub conditional_used : (test a b : Found) → Used test → Used a → Used b → Used (conditional_part span test a b)
  unfolding conditional_part
  conditional_used test a b g h k =
      let l = against b.known a in
      chosen_used test l (against l.known b) g (against_used flags count b.known a h) (against_used flags count l.known b k)

  -- assignments ------------------------------------------------------------------------------

  scalar : (object ty : Ty) (y : Ty-F Ty) → out-Ty object ≡ y → Some object ≡ Some ty → void_at y ≡ false → is_void ty ≡ false
  scalar object ty y e h v = let same : ty ≡ object = cc in ap is_void same ∙ ap void_at e ∙ v

  -- the write that an object demands: one that lies in memory, or of a plain scalar
  demanded : (object : Ty) (ty : Ty) → base object ≡ Some ty → (y : Ty-F Ty) → out-Ty object ≡ y →
      ((has_address object ≡ true) × (write_demanded y ≡ kind.WriteEf)) ⊎ (((has_address object ≡ true) × (write_demanded y ≡ kind.WriteFf)) ⊎ ((write_demanded y ≡ kind.WriteXf) × (is_void ty ≡ false)))
  demanded object ty h (Ty-F.Sync of) e = inl (ap has_address_at e, refl)
  demanded object ty h (Ty-F.Future of) e = inr (inl (ap has_address_at e, refl))
  demanded object ty h Ty-F.Void e = absurd (let none : None ≡ Some ty = sym (ap (base_at object) e) ∙ h in cc)
  demanded object ty h Ty-F.Int e = inr (inr (refl, scalar object ty Ty-F.Int e (sym (ap (base_at object) e) ∙ h) refl))
  demanded object ty h Ty-F.Uint e = inr (inr (refl, scalar object ty Ty-F.Uint e (sym (ap (base_at object) e) ∙ h) refl))
  demanded object ty h (Ty-F.Ptr to) e = inr (inr (refl, scalar object ty (Ty-F.Ptr to) e (sym (ap (base_at object) e) ∙ h) refl))
  demanded object ty h (Ty-F.Array n of) e = absurd (let none : None ≡ Some ty = sym (ap (base_at object) e) ∙ h in cc)
  demanded object ty h (Ty-F.Struct s) e = absurd (let none : None ≡ Some ty = sym (ap (base_at object) e) ∙ h in cc)

  write_by : (k : Kind) (object ty : Ty) (e v : Expr) → IsUsedPlace flags count object e → IsTrue (settled (use_of flags v)) →
      ((has_address object ≡ true) × (k ≡ kind.WriteEf)) ⊎ (((has_address object ≡ true) × (k ≡ kind.WriteFf)) ⊎ ((k ≡ kind.WriteXf) × (is_void ty ≡ false))) → (s : Span) → Only flags (typed s ty (Write k e v))
  write_by k object ty e v h g (inl d) s = subst (λ k. Only flags (typed s ty (Write k e v))) (sym d.1)
      (only_by flags (typed s ty (Write kind.WriteEf e v)) _ (writeef_use flags s ty e v) (two_settled flags (use_of flags e) (use_of flags v) (lying_settled flags count object e h d.0) g))
  write_by k object ty e v h g (inr (inl d)) s = subst (λ k. Only flags (typed s ty (Write k e v))) (sym d.1)
      (only_by flags (typed s ty (Write kind.WriteFf e v)) _ (writeff_use flags s ty e v) (two_settled flags (use_of flags e) (use_of flags v) (lying_settled flags count object e h d.0) g))
  write_by k object ty e v h g (inr (inr d)) s = subst (λ k. Only flags (typed s ty (Write k e v))) (sym d.0)
      (only_by flags (typed s ty (Write kind.WriteXf e v)) _ (writexf_use flags s ty e v)
      (and_both (use_of flags e).ok _ h.ok (and_both (settled (use_of flags v)) _ g (not_and (use_of flags e).place (is_void ty) d.1))))
    where
      not_and : (b c : Bool) → c ≡ false → IsTrue (not (b && c))
      not_and true c m = ap not m
      not_and false c m = refl

  write_pointed : (object : Ty) (e : Expr) → e.ty ≡ Ptr object → write_kind e.ty ≡ write_demanded (out-Ty object)
  write_pointed object e own = ap write_kind own ∙ ap write_through (pointee_of object)

  -- what is made of this type
  abbrev pub KindAt : Ty → Option ExprKind → Type 0
  KindAt ty None = Unit {0}
  KindAt ty (Some k) = (s : Span) → Only flags (typed s ty k)

  valued_at : (ty : Ty) (k : Option ExprKind) → KindAt ty k → Used (value_from span ty k)
  unfolding value_from
  valued_at ty None h = tt
  valued_at ty (Some k) h = h span

  pub found_at : (r : Ruling) (k : Option ExprKind) → ((ty : Ty) → r ≡ Some (known.Value ty) → KindAt ty k) → Used (found_by span r k)
  unfolding found_by
  found_at None k h = tt
  found_at (Some (known.Unknown place)) k h = tt
  found_at (Some (known.Place ty within)) k h = tt
  found_at (Some (known.Value ty)) k h = valued_at ty k (h ty refl)

  write_at : (object ty : Ty) (within : Bool) (to v : Option Expr) → base object ≡ Some ty → UsedAs flags count (known.Place object within) to → MadeOnly flags v → KindAt ty (both write_of to v)
  unfolding both write_of
  write_at object ty within None v b h g = tt
  write_at object ty within (Some e) None b h g = tt
  write_at object ty within (Some e) (Some x) b h g = λ s. subst (λ k. Only flags (typed s ty (Write k e x))) (sym (write_pointed object e h.own))
      (write_by (write_demanded (out-Ty object)) object ty e x h g (demanded object ty b (out-Ty object) refl) s)

  update_at : (o : BinOp) (post : Bool) (object ty : Ty) (within : Bool) (to v : Option Expr) → UsedAs flags count (known.Place object within) to → MadeOnly flags v → KindAt ty (both (Update o post) to v)
  unfolding both
  update_at o post object ty within None v h g = tt
  update_at o post object ty within (Some e) None h g = tt
  update_at o post object ty within (Some e) (Some x) h g = λ s. only_by flags (typed s ty (Update o post e x)) _ (update_use flags s ty o post e x)
      (and_both (use_of flags e).ok _ h.ok (and_both (settled (use_of flags x)) _ g (ap not h.unread)))

  suited_used : (to : Option Ty) (v : Found) → Used v → Used (suited to v)
  unfolding suited
  suited_used None v h = h
  suited_used (Some ty) v h = given_used flags count ty v h

  written_used : (to v : Found) → Used to → Used v → Used (written_part span to v)
  unfolding written_part
  written_used to v h g = found_at (assign_ruling to.known (target to.known) v.known) _
      (λ ty e. let a = assign_values to.known v.known ty e in
      write_at a.object ty a.within to.made v.made a.holds (subst (λ k. UsedAs flags count k to.made) a.is h) (only v a.value g))

  pub assign_used : (to v : Found) → Used to → Used v → Used (assign_part span to v)
  unfolding assign_part
  assign_used to v h g = written_used to (suited (target to.known) v) h (suited_used (target to.known) v g)

  pub update_used : (o : BinOp) (post : Bool) (to v : Found) → Used to → Used v → Used (update_part span o post to v)
  unfolding update_part
  update_used o post to v h g = found_at (update_ruling (sort_of o) to.known v.known) _
      (λ ty e. let a = update_values (sort_of o) to.known v.known ty e in
      update_at o post a.object ty a.within to.made v.made (subst (λ k. UsedAs flags count k to.made) a.is h) (only v a.value g))

  pub step_used : (o : BinOp) (post : Bool) (to : Found) → Used to → Used (step_part span o post to)
  step_used o post to h = update_used o post to (number_part span 1 false) h (number_used 1 false)
