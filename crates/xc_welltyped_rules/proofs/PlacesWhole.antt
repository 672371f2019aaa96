-- What is made of names and places is whole where its parts are and its rule is kept.
use Rattle.std.proofs.Common.{◌≡◌, ℕ, List, [], Bool, true, false, refl, cond}
use Rattle.std.specs.Prelude.{IsTrue, ◌||◌, Option, Some, None, option_map}
use Rattle.xc_text_place.specs.declared.Span.{Span}
use Rattle.xc_tree.specs.declared.ty.Ty.{Ty, out-Ty}
use Rattle.xc_tree.specs.declared.ty.Ty.TheOpen.{Ty-F}
use Rattle.xc_tree.specs.declared.expr.Expr.{Expr}
use Rattle.xc_tree.specs.declared.expr.ExprKind.{ExprKind, Global, Auto}
use Rattle.xc_tree.specs.Types.{is_number, pointee}
use Rattle.xc_type_rule.specs.declared.found.Found.{Found}
use Rattle.xc_type_rule.specs.declared.found.Known.{Known}
use Rattle.xc_type_rule.specs.declared.found.Known.TheVariants as known
use Rattle.xc_type_rule.specs.declared.found.Thing.{Thing}
use Rattle.xc_type_rule.specs.declared.found.Thing.TheVariants as thing
use Rattle.xc_type_rule.specs.declared.found.Member.{Member}
use Rattle.xc_type_rule.specs.Making.{Ruling, declared_place}
use Rattle.xc_type_rule.specs.Tests.{is_unknown, may_be, may_be_place}
use Rattle.xc_type_rule.specs.Values.{rvalue, is_array_at}
use Rattle.xc_welltyped.specs.Sound.{IsWhole}
use Rattle.xc_welltyped.proofs.Whole.{IsMadeOf, IsKnown, mapped, both_made, gives_value, gives_place, place_whole, found_whole, place_by_whole, kept, rvalue_whole}
use Rattle.xc_type_rule_places.specs.Rulings.{pointer_base, pointed, object_at, array_base, array_of, array_at, is_array, index_ruling, address_ruling, raised, dot_owner, arrow_owner, lies_within}
use Rattle.xc_type_rule_places.specs.Places.{name_part, name_faults, element_of, element_part, element_faults, index_part, index_faults, zero, star_part, star_faults, address_part, address_faults, member_of, member_part, member_faults, dot_part, dot_faults, arrow_part, arrow_faults}
use Rattle.xc_type_rule_places.proofs.Kept.{nothing_lost}
use Rattle.xc_welltyped_rules.specs.Agrees.{is_typed, is_typed_thing, is_typed_member}

module _ (span : Span) where
  declared_whole : (ty : Option Ty) (within : Bool) (k : Option ExprKind) → IsTrue (is_typed ty) → IsMadeOf k → IsWhole (declared_place span ty within k)
  unfolding declared_place
  declared_whole None within k h m = absurd cc
  declared_whole (Some ty) within k h m = place_whole span ty within k m

  pub name_whole : (t : Option Thing) → IsTrue (is_typed_thing t) → name_faults span t ≡ [] → IsWhole (name_part span t)
  unfolding name_part name_faults
  name_whole None h none = absurd cc
  name_whole (Some (thing.Global n ty)) h none = declared_whole ty false (Some (Global n)) h refl
  name_whole (Some (thing.Local n ty)) h none = declared_whole ty false (Some (Auto n)) h refl
  name_whole (Some (thing.Func number params ret)) h none = absurd cc

  -- members ---------------------------------------------------------------------

  unexcused : (b : Bool) → b ≡ false → IsTrue b → ⊥
  unexcused b e h = cc

  member_whole : (at : Span) (within excused : Bool) (o : Option ℕ) (m : Option Member) (made : Option Expr) → excused ≡ false → IsTrue (is_typed_member m) → IsMadeOf made →
      member_faults span at excused o m ≡ [] → IsWhole (member_part span within o m made)
  unfolding member_part member_faults
  member_whole at within excused None m made e h mm none = absurd (unexcused excused e (kept span excused none))
  member_whole at within excused (Some s) None made e h mm none = absurd cc
  member_whole at within excused (Some s) (Some m) made e h mm none = declared_whole m.ty within (option_map (member_of m.off) made) h (mapped (member_of m.off) made mm)

  no_place : (k : Known) → IsKnown k → may_be_place k ≡ false
  no_place (known.Unknown place) h = absurd cc
  no_place (known.Value ty) h = refl
  no_place (known.Place ty within) h = refl

  is_known : (k : Known) → IsKnown k → is_unknown k ≡ false
  is_known (known.Unknown place) h = absurd cc
  is_known (known.Value ty) h = refl
  is_known (known.Place ty within) h = refl

  pub dot_whole : (at : Span) (m : Option Member) (mixes : Bool) (a : Found) → IsWhole a → IsTrue (is_typed_member m) → dot_faults span at m a ≡ [] → IsWhole (dot_part span m mixes a)
  dot_whole at m mixes a h t none = member_whole at (lies_within a.known || mixes) (may_be_place a.known) (dot_owner a.known) m a.made (no_place a.known h.known) t h.made none

  pub arrow_whole : (at : Span) (m : Option Member) (mixes : Bool) (p : Found) → IsWhole p → IsTrue (is_typed_member m) → arrow_faults span at m p ≡ [] → IsWhole (arrow_part span m mixes p)
  arrow_whole at m mixes p h t none = member_whole at mixes (is_unknown p.known) (arrow_owner p.known) m p.made (is_known p.known h.known) t h.made none

  -- addresses -------------------------------------------------------------------

  address_gives : (k : Known) → IsKnown k → IsTrue (gives_value (address_ruling k))
  address_gives (known.Unknown place) h = absurd cc
  address_gives (known.Value ty) h = refl
  address_gives (known.Place ty true) h = refl
  address_gives (known.Place ty false) h = refl

  pub address_whole : (a : Found) → IsWhole a → address_faults span a ≡ [] → IsWhole (address_part span a)
  unfolding address_part address_faults
  address_whole a h none = found_whole span (address_ruling a.known) _ (address_gives a.known h.known) none (mapped (λ e. raised e.kind) a.made h.made)

  -- elements --------------------------------------------------------------------

  index_gives : (r : Ruling) (fits : Bool) → IsTrue (gives_place r) → IsTrue (gives_place (cond fits r None))
  index_gives r true h = h
  index_gives r false h = refl

  element_whole : (r : Ruling) (size : ℕ) (bound : Option ℕ) (made : Option Expr) (i : Found) → IsTrue (gives_place r) → IsMadeOf made → IsWhole i →
      element_faults span (record { element = r; size = size; bound = bound; made = made }) i ≡ [] → IsWhole (element_part span (record { element = r; size = size; bound = bound; made = made }) i)
  unfolding element_part element_faults
  element_whole r size bound made i g m hi none = place_by_whole span (index_ruling r i.known) _ (index_gives r (may_be is_number i.known) g) none
      (both_made (element_of size bound) made i.made m hi.made)

  module _ (sizes : List ℕ) where
    object_gives : (o : Option Ty) → IsTrue (gives_place (option_map object_at o))
    object_gives None = refl
    object_gives (Some ty) = refl

    pointed_gives : (k : Known) → IsKnown k → IsTrue (gives_place (pointed k))
    pointed_gives (known.Unknown place) h = absurd cc
    pointed_gives (known.Value ty) h = object_gives (pointee ty)
    pointed_gives (known.Place ty within) h = refl

    pointer_gives : (v : Found) → IsWhole v → IsTrue (gives_place (pointer_base sizes v).element)
    unfolding pointer_base
    pointer_gives v h = pointed_gives v.known h.known

    pointer_made : (v : Found) → IsWhole v → IsMadeOf (pointer_base sizes v).made
    unfolding pointer_base
    pointer_made v h = h.made

    pub star_whole : (p : Found) → IsWhole p → star_faults sizes span p ≡ [] → IsWhole (star_part sizes span p)
    unfolding star_part star_faults
    star_whole p h none =
        let b = pointer_base sizes p in
        element_whole b.element b.size b.bound b.made (zero span) (pointer_gives p h) (pointer_made p h) (record { known = refl; made = refl }) none

    level_gives : (w : Bool) (y : Ty-F Ty) (made : Option Expr) → IsTrue (gives_place (array_at sizes w y made).element)
    level_gives w Ty-F.Void made = refl
    level_gives w Ty-F.Int made = refl
    level_gives w Ty-F.Uint made = refl
    level_gives w (Ty-F.Ptr t) made = refl
    level_gives w (Ty-F.Array n t) made = refl
    level_gives w (Ty-F.Struct s) made = refl
    level_gives w (Ty-F.Sync t) made = refl
    level_gives w (Ty-F.Future t) made = refl

    level_made : (w : Bool) (y : Ty-F Ty) (made : Option Expr) → is_array_at y ≡ true → IsMadeOf made → IsMadeOf (array_at sizes w y made).made
    level_made w Ty-F.Void made e m = absurd cc
    level_made w Ty-F.Int made e m = absurd cc
    level_made w Ty-F.Uint made e m = absurd cc
    level_made w (Ty-F.Ptr t) made e m = absurd cc
    level_made w (Ty-F.Array n t) made e m = m
    level_made w (Ty-F.Struct s) made e m = absurd cc
    level_made w (Ty-F.Sync t) made e m = absurd cc
    level_made w (Ty-F.Future t) made e m = absurd cc

    known_gives : (k : Known) (made : Option Expr) → IsTrue (gives_place (array_of sizes k made).element)
    known_gives (known.Unknown place) made = refl
    known_gives (known.Value ty) made = refl
    known_gives (known.Place ty w) made = level_gives w (out-Ty ty) made

    known_made : (k : Known) (made : Option Expr) → is_array k ≡ true → IsMadeOf made → IsMadeOf (array_of sizes k made).made
    known_made (known.Unknown place) made e m = absurd cc
    known_made (known.Value ty) made e m = absurd cc
    known_made (known.Place ty w) made e m = level_made w (out-Ty ty) made e m

    array_gives : (a : Found) → IsTrue (gives_place (array_base sizes a).element)
    unfolding array_base
    array_gives a = known_gives a.known a.made

    array_made : (a : Found) → is_array a.known ≡ true → IsWhole a → IsMadeOf (array_base sizes a).made
    unfolding array_base
    array_made a e h = known_made a.known a.made e h.made

    pub index_whole : (at : Span) (a i : Found) → IsWhole a → IsWhole i → index_faults sizes span at a i ≡ [] → IsWhole (index_part sizes span at a i)
    unfolding index_part index_faults
    index_whole at a i ha hi none = by (is_array a.known) refl none
      where
        by : (d : Bool) → is_array a.known ≡ d → element_faults span (cond d (array_base sizes a) (pointer_base sizes (rvalue sizes at a))) i ≡ [] →
            IsWhole (element_part span (cond d (array_base sizes a) (pointer_base sizes (rvalue sizes at a))) i)
        by true e none =
            let b = array_base sizes a in
            element_whole b.element b.size b.bound b.made i (array_gives a) (array_made a e ha) hi none
        by false e none =
            let v = rvalue sizes at a in
            let hv : IsWhole v = rvalue_whole sizes at at a ha (nothing_lost at a.known e) in
            let b = pointer_base sizes v in
            element_whole b.element b.size b.bound b.made i (pointer_gives v hv) (pointer_made v hv) hi none
