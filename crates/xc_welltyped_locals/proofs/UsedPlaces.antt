-- What names and places make uses locals as it may.
use Rattle.std.proofs.Common.{rules, ◌≡◌, ℕ, List, Bool, true, false, refl, sym, ap, ◌∙◌, subst, cond}
use Rattle.std.specs.Prelude.{◌&&◌, ◌||◌, not, is_some, ◌<◌, Option, Some, None, option_map, slice_get}
use Rattle.xc_text_place.specs.declared.Span.{Span}
use Rattle.xc_tree.specs.declared.ty.Ty.{Ty, out-Ty, Int, Ptr}
use Rattle.xc_tree.specs.declared.ty.Ty.TheOpen.{Ty-F}
use Rattle.xc_tree.specs.declared.expr.Expr.{Expr}
use Rattle.xc_tree.specs.declared.expr.ExprKind.{ExprKind, out-ExprKind, roll-ExprKind, roll-out-ExprKind, Global, Auto, Index, Member as MemberAt}
use Rattle.xc_tree.specs.declared.expr.ExprKind.TheOpen.{ExprKind-F}
use Rattle.xc_tree.specs.declared.expr.ExprKind.TheFolds.{fold-ExprKind, fold-roll-ExprKind, map-ExprKind}
use Rattle.xc_word.specs.declared.memory.Kind.TheVariants as kind
use Rattle.xc_tree.specs.Types.{is_number, struct_at}
use Rattle.xc_type_rule.specs.declared.found.Found.{Found}
use Rattle.xc_type_rule.specs.declared.found.Known.{Known}
use Rattle.xc_type_rule.specs.declared.found.Known.TheVariants as known
use Rattle.xc_type_rule.specs.declared.found.Thing.{Thing}
use Rattle.xc_type_rule.specs.declared.found.Thing.TheVariants as thing
use Rattle.xc_type_rule.specs.declared.found.Member.{Member}
use Rattle.xc_type_rule.specs.Making.{Ruling, typed, place_from, declared_place, both}
use Rattle.xc_type_rule.specs.Tests.{may_be}
use Rattle.xc_type_rule.specs.Values.{rvalue}
use Rattle.xc_welltyped.proofs.Forms.{opened}
use Rattle.xc_type_rule_places.specs.Rulings.{pointed, pointer_base, array_base, array_of, array_at, is_array, index_ruling, address_ruling, raised_at, raised, dot_owner, arrow_owner, lies_within}
use Rattle.xc_type_rule_places.specs.Places.{name_part, element_of, element_part, index_part, zero, star_part, address_part, member_of, member_part, dot_part, arrow_part}
use Rattle.xc_type_scopes.specs.Env.{has_address, has_address_at}
use Rattle.xc_type_lowering.specs.Lowered.{value_of, value_if}
use Rattle.xc_type_lowering.specs.Accessed.{Use, UseKind, settled, use_step, with_use, use_of}
use Rattle.xc_welltyped_locals.specs.Used.{IsUsedPlace, UsedAs, IsUsed, ThingMarked, TakenMarked}
use Rattle.xc_welltyped_locals.proofs.UsedForms.{plain, global_use, local_use, index_use, member_use, same_use, Only, MadeOnly, KindPlain, one_settled, two_settled, place_by_used, declared_used, is_place, value_only, lying_settled}
use Rattle.xc_welltyped_locals.proofs.UsedValues.{const_only, rvalue_used}
use Rattle.xc_welltyped_locals.proofs.UsedOperators.{may_be_value, cond_some, KindAt, found_at}

-- a form that is no local's place
abbrev is_local : ExprKind-F ExprKind Expr → Bool
is_local (ExprKind-F.Auto n) = true
is_local _ = false

index_form : (b i : Expr) (size : ℕ) (bound : Option ℕ) (n : ℕ) → out-ExprKind (Index b i size bound) ≡ ExprKind-F.Auto n → ⊥
index_form b i size bound n e =
    let is : is_local (out-ExprKind (Index b i size bound)) ≡ false = search (rules, opened) in
    let both : false ≡ true = sym is ∙ ap is_local e in cc both

member_form : (b : Expr) (off : ℕ) (n : ℕ) → out-ExprKind (MemberAt b off) ≡ ExprKind-F.Auto n → ⊥
member_form b off n e =
    let is : is_local (out-ExprKind (MemberAt b off)) ≡ false = search (rules, opened) in
    let both : false ≡ true = sym is ∙ ap is_local e in cc both

global_form : (g : ℕ) (n : ℕ) → out-ExprKind (Global g) ≡ ExprKind-F.Auto n → ⊥
global_form g n e =
    let is : is_local (out-ExprKind (Global g)) ≡ false = search (rules, opened) in
    let both : false ≡ true = sym is ∙ ap is_local e in cc both

-- the number of a local's place
abbrev local_in : ExprKind-F ExprKind Expr → ℕ
local_in (ExprKind-F.Auto n) = n
local_in _ = 0

local_form : (x n : ℕ) → out-ExprKind (Auto x) ≡ ExprKind-F.Auto n → x ≡ n
local_form x n e =
    let is : local_in (out-ExprKind (Auto x)) ≡ x = search (rules, opened) in
    sym is ∙ ap local_in e

module _ (flags : List Bool) (count : ℕ) (span : Span) where
  abbrev Used : Found → Type 0
  Used f = IsUsed flags count f

  -- names ------------------------------------------------------------------------------------

  marked : (n : ℕ) → slice_get flags n ≡ Some true → is_some (value_of flags n) ≡ false
  marked n e = ap (λ o. is_some (value_if n o)) e

  local_used : (n : ℕ) (ty : Option Ty) → ThingMarked flags count (Some (thing.Local n ty)) → Used (declared_place span ty false (Some (Auto n)))
  unfolding declared_place place_from
  local_used n None h = tt
  local_used n (Some ty) h = record {
    own = refl;
    ok = ap (λ (u : Use). u.ok) (local_use flags span (Ptr ty) n);
    unread = ap (λ (u : Use). u.read) (local_use flags span (Ptr ty) n);
    lies = λ a. ap (λ (u : Use). u.place) (local_use flags span (Ptr ty) n) ∙ marked n (h.1 a);
    declared = λ m e. subst (λ k. k < count) (local_form n m e) h.0;
  }

  pub name_used : (t : Option Thing) → ThingMarked flags count t → Used (name_part span t)
  unfolding name_part
  name_used None h = tt
  name_used (Some (thing.Global n ty)) h = declared_used flags count span ty false (Some (Global n)) (λ s t. global_use flags s t n, global_form n)
  name_used (Some (thing.Local n ty)) h = local_used n ty h
  name_used (Some (thing.Func number params ret)) h = tt

  -- elements -----------------------------------------------------------------------------------

  index_plain : (size : ℕ) (bound : Option ℕ) (b i : Option Expr) → MadeOnly flags b → MadeOnly flags i → KindPlain flags (both (element_of size bound) b i)
  unfolding both
  index_plain size bound None i h g = tt
  index_plain size bound (Some b) None h g = tt
  index_plain size bound (Some b) (Some i) h g =
      (λ s t. index_use flags s t size bound b i ∙ ap plain (two_settled flags (use_of flags b) (use_of flags i) h g), index_form b i size bound)

  -- of a base of which an element is known only where it is a value
  element_used : (r : Ruling) (size : ℕ) (bound : Option ℕ) (made : Option Expr) (i : Found) → ((k : Known) → r ≡ Some k → MadeOnly flags made) → Used i →
      Used (element_part span (record { element = r; size = size; bound = bound; made = made }) i)
  unfolding element_part
  element_used r size bound made i h k = place_by_used flags count span (index_ruling r i.known) _
      (λ ty within e.
      let two = cond_some (may_be is_number i.known) r (known.Place ty within) e in
      index_plain size bound made i.made (h (known.Place ty within) two.1) (value_only flags count i.known i.made (may_be_value is_number i.known two.0) k))

  pointed_value : (k r : Known) → pointed k ≡ Some r → is_place k ≡ false
  pointed_value (known.Unknown place) r e = refl
  pointed_value (known.Value ty) r e = refl
  pointed_value (known.Place ty within) r e = absurd cc

  module _ (sizes : List ℕ) where
    pointer_only : (v : Found) → Used v → (k : Known) → (pointer_base sizes v).element ≡ Some k → MadeOnly flags (pointer_base sizes v).made
    unfolding pointer_base
    pointer_only v h k e = value_only flags count v.known v.made (pointed_value v.known k e) h

    pub star_used : (p : Found) → Used p → Used (star_part sizes span p)
    unfolding star_part
    star_used p h =
        let b = pointer_base sizes p in
        element_used b.element b.size b.bound b.made (zero span) (pointer_only p h) (const_only flags count span Int 0)

    level_only : (w : Bool) (ty : Ty) (y : Ty-F Ty) → out-Ty ty ≡ y → (made : Option Expr) → UsedAs flags count (known.Place ty w) made → (k : Known) → (array_at sizes w y made).element ≡ Some k → MadeOnly flags (array_at sizes w y made).made
    level_only w ty (Ty-F.Array n t) e None h k r = tt
    level_only w ty (Ty-F.Array n t) e (Some x) h k r = lying_settled flags count ty x h (ap has_address_at e)
    level_only w ty Ty-F.Void e made h k r = tt
    level_only w ty Ty-F.Int e made h k r = tt
    level_only w ty Ty-F.Uint e made h k r = tt
    level_only w ty (Ty-F.Ptr t) e made h k r = tt
    level_only w ty (Ty-F.Struct s) e made h k r = tt
    level_only w ty (Ty-F.Sync t) e made h k r = tt
    level_only w ty (Ty-F.Future t) e made h k r = tt

    known_only : (a : Known) (made : Option Expr) → UsedAs flags count a made → (k : Known) → (array_of sizes a made).element ≡ Some k → MadeOnly flags (array_of sizes a made).made
    known_only (known.Unknown place) made h k r = tt
    known_only (known.Value ty) made h k r = tt
    known_only (known.Place ty w) made h k r = level_only w ty (out-Ty ty) refl made h k r

    array_only : (a : Found) → Used a → (k : Known) → (array_base sizes a).element ≡ Some k → MadeOnly flags (array_base sizes a).made
    unfolding array_base
    array_only a h k r = known_only a.known a.made h k r

    pub index_used : (at : Span) (a i : Found) → Used a → Used i → Used (index_part sizes span at a i)
    unfolding index_part
    index_used at a i h k = by (is_array a.known)
      where
        by : (d : Bool) → Used (element_part span (cond d (array_base sizes a) (pointer_base sizes (rvalue sizes at a))) i)
        by true =
            let b = array_base sizes a in
            element_used b.element b.size b.bound b.made i (array_only a h) k
        by false =
            let b = pointer_base sizes (rvalue sizes at a) in
            element_used b.element b.size b.bound b.made i (pointer_only (rvalue sizes at a) (rvalue_used flags count sizes at a h)) k

  -- members ---------------------------------------------------------------------------------------

  member_plain : (off : ℕ) (made : Option Expr) → MadeOnly flags made → KindPlain flags (option_map (member_of off) made)
  member_plain off None h = tt
  member_plain off (Some e) h = (λ s t. member_use flags s t off e ∙ ap plain (one_settled flags (use_of flags e) h), member_form e off)

  member_used : (within : Bool) (o : Option ℕ) (m : Option Member) (made : Option Expr) → ((s : ℕ) → o ≡ Some s → MadeOnly flags made) → Used (member_part span within o m made)
  unfolding member_part
  member_used within None m made h = tt
  member_used within (Some s) None made h = tt
  member_used within (Some s) (Some m) made h = declared_used flags count span m.ty within _ (member_plain m.off made (h s refl))

  struct_lies : (ty : Ty) (y : Ty-F Ty) (s : ℕ) → out-Ty ty ≡ y → struct_at y ≡ Some s → has_address ty ≡ true
  struct_lies ty (Ty-F.Struct n) s e h = ap has_address_at e
  struct_lies ty Ty-F.Void s e h = absurd cc
  struct_lies ty Ty-F.Int s e h = absurd cc
  struct_lies ty Ty-F.Uint s e h = absurd cc
  struct_lies ty (Ty-F.Ptr t) s e h = absurd cc
  struct_lies ty (Ty-F.Array n t) s e h = absurd cc
  struct_lies ty (Ty-F.Sync t) s e h = absurd cc
  struct_lies ty (Ty-F.Future t) s e h = absurd cc

  dot_only : (k : Known) (made : Option Expr) → UsedAs flags count k made → (s : ℕ) → dot_owner k ≡ Some s → MadeOnly flags made
  dot_only k None h s e = tt
  dot_only (known.Unknown place) (Some x) h s e = absurd cc
  dot_only (known.Value ty) (Some x) h s e = absurd cc
  dot_only (known.Place ty within) (Some x) h s e = lying_settled flags count ty x h (struct_lies ty (out-Ty ty) s refl e)

  arrow_only : (k : Known) (made : Option Expr) → UsedAs flags count k made → (s : ℕ) → arrow_owner k ≡ Some s → MadeOnly flags made
  arrow_only k None h s e = tt
  arrow_only (known.Unknown place) (Some x) h s e = absurd cc
  arrow_only (known.Value ty) (Some x) h s e = h
  arrow_only (known.Place ty within) (Some x) h s e = absurd cc

  pub dot_used : (m : Option Member) (mixes : Bool) (a : Found) → Used a → Used (dot_part span m mixes a)
  dot_used m mixes a h = member_used (lies_within a.known || mixes) (dot_owner a.known) m a.made (dot_only a.known a.made h)

  pub arrow_used : (m : Option Member) (mixes : Bool) (p : Found) → Used p → Used (arrow_part span m mixes p)
  arrow_used m mixes p h = member_used mixes (arrow_owner p.known) m p.made (arrow_only p.known p.made h)

  -- addresses -------------------------------------------------------------------------------------

  abbrev use_kind : ExprKind → UseKind
  use_kind = fold-ExprKind UseKind Use (use_step flags) with_use

  abbrev layer : ExprKind-F ExprKind Expr → ExprKind-F UseKind Use
  layer l = map-ExprKind ExprKind Expr UseKind Use use_kind (use_of flags) l

  -- no form but a local's name is the place of one
  layer_place : (l : ExprKind-F ExprKind Expr) → ((n : ℕ) → l ≡ ExprKind-F.Auto n → slice_get flags n ≡ Some true) → (use_step flags (layer l)).place ≡ false
  layer_place (ExprKind-F.Auto n) h = marked n (h n refl)
  layer_place (ExprKind-F.Read kind.ReadXx place) h = refl
  layer_place (ExprKind-F.Write kind.WriteXf place value) h = refl
  layer_place _ h = refl

  taken_place : (k : ExprKind) → ((n : ℕ) → out-ExprKind k ≡ ExprKind-F.Auto n → slice_get flags n ≡ Some true) → (use_kind k).place ≡ false
  taken_place k h = ap (λ x. (use_kind x).place) (sym (roll-out-ExprKind k)) ∙ ap (λ (u : UseKind). u.place) (fold-roll-ExprKind UseKind Use (use_step flags) with_use (out-ExprKind k)) ∙ layer_place (out-ExprKind k) h

  kind_place : (s : Span) (ty : Ty) (k : ExprKind) → (use_of flags (typed s ty k)).place ≡ (use_kind k).place
  kind_place s ty k = search (rules, opened)

  -- another bound of an index is no other use
  raised_use : (s : Span) (ty : Ty) (k : ExprKind) (y : ExprKind-F ExprKind Expr) → out-ExprKind k ≡ y → use_of flags (typed s ty (raised_at k y)) ≡ use_of flags (typed s ty k)
  unfolding roll-ExprKind denote.Hole.Carrier.roll
  raised_use s ty k (ExprKind-F.Index b i size (Some n)) e =
      let is : Index b i size (Some n) ≡ k = sym (ap roll-ExprKind e) ∙ roll-out-ExprKind k in
      index_use flags s ty size _ b i ∙ (sym (index_use flags s ty size (Some n) b i) ∙ ap (λ x. use_of flags (typed s ty x)) is)
  raised_use s ty k y e = refl

  raised_only : (ty : Ty) (e : Expr) → IsUsedPlace flags count ty e → TakenMarked flags (Some e) → (s : Span) → Only flags (typed s (Ptr ty) (raised e.kind))
  raised_only ty e h k s =
      let place : (use_of flags e).place ≡ false = ap (λ (u : Use). u.place) (sym (same_use flags s e)) ∙ kind_place s e.ty e.kind ∙ taken_place e.kind k in
      ap settled (raised_use s (Ptr ty) e.kind (out-ExprKind e.kind) refl) ∙ ap (λ u. settled (use_of flags (typed s u e.kind))) (sym h.own)
      ∙ ap settled (same_use flags s e) ∙ ap (λ b. not b && (use_of flags e).ok) place ∙ h.ok

  address_only : (k : Known) (made : Option Expr) → UsedAs flags count k made → TakenMarked flags made → (t : Ty) → address_ruling k ≡ Some (known.Value t) → KindAt flags count span t (option_map (λ e. raised e.kind) made)
  address_only k None h m t e = tt
  address_only (known.Unknown true) (Some x) h m t e = absurd cc
  address_only (known.Unknown false) (Some x) h m t e = absurd cc
  address_only (known.Value ty) (Some x) h m t e = absurd cc
  address_only (known.Place ty true) (Some x) h m t e = absurd cc
  address_only (known.Place ty false) (Some x) h m t e = let same : Ptr ty ≡ t = cc in
      λ s. subst (λ u. Only flags (typed s u (raised x.kind))) same (raised_only ty x h m s)

  pub address_used : (a : Found) → Used a → TakenMarked flags a.made → Used (address_part span a)
  unfolding address_part
  address_used a h m = found_at flags count span (address_ruling a.known) _ (λ t e. address_only a.known a.made h m t e)
