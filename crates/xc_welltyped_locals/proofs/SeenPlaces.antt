-- What names and places make names no more locals than what is seen and the parts.
use Rattle.std.proofs.Common.{rules, ◌≡◌, ℕ, List, [], ◌∷◌, Bool, true, false, refl, sym, ap, ◌∙◌, subst, cond}
use Rattle.std.specs.Prelude.{IsTrue, ◌||◌, Option, Some, None}
use Rattle.xc_text_place.specs.declared.Span.{Span}
use Rattle.xc_tree.specs.declared.ty.Ty.{Ty, out-Ty, Int}
use Rattle.xc_tree.specs.declared.ty.Ty.TheOpen.{Ty-F}
use Rattle.xc_tree.specs.declared.expr.Expr.{Expr}
use Rattle.xc_tree.specs.declared.expr.ExprKind.{ExprKind, out-ExprKind, roll-ExprKind, roll-out-ExprKind, Global, Auto, Index}
use Rattle.xc_tree.specs.declared.expr.ExprKind.TheOpen.{ExprKind-F}
use Rattle.xc_tree.specs.Lists.{has}
use Rattle.xc_tree.specs.Walk.{locals_named}
use Rattle.xc_tree.proofs.Lists.{and_both}
use Rattle.xc_type_rule.specs.declared.found.Found.{Found}
use Rattle.xc_type_rule.specs.declared.found.Known.{Known}
use Rattle.xc_type_rule.specs.declared.found.Known.TheVariants as known
use Rattle.xc_type_rule.specs.declared.found.Thing.{Thing}
use Rattle.xc_type_rule.specs.declared.found.Thing.TheVariants as thing
use Rattle.xc_type_rule.specs.declared.found.Member.{Member}
use Rattle.xc_type_rule.specs.Making.{Ruling, typed, declared_place}
use Rattle.xc_type_rule.specs.Values.{rvalue}
use Rattle.xc_welltyped.proofs.Forms.{opened}
use Rattle.xc_type_rule_places.specs.Rulings.{pointer_base, array_base, array_of, array_at, is_array, index_ruling, address_ruling, raised_at, raised, dot_owner, arrow_owner, lies_within}
use Rattle.xc_type_rule_places.specs.Places.{name_part, element_of, element_part, index_part, zero, star_part, address_part, member_of, member_part, dot_part, arrow_part}
use Rattle.xc_welltyped_locals.specs.Seen.{MadeSeen, IsSeen, thing_seen}
use Rattle.xc_welltyped_locals.proofs.SeenForms.{AllSeen, OfOne, OfTwo, of_one, of_two, found_seen, place_seen, place_by_seen, declared_seen}
use Rattle.xc_welltyped_locals.proofs.SeenValues.{none_named, rvalue_seen}

global_none : (span : Span) (ty : Ty) (n : ℕ) → locals_named (typed span ty (Global n)) ≡ []
global_none span ty n = search (rules, opened)

local_one : (span : Span) (ty : Ty) (n : ℕ) → locals_named (typed span ty (Auto n)) ≡ n ∷ []
local_one span ty n = search (rules, opened)

element_two : (size : ℕ) (bound : Option ℕ) → OfTwo (element_of size bound)
element_two size bound span ty a b = search (rules, opened)

member_one : (off : ℕ) → OfOne (member_of off)
member_one off span ty e = search (rules, opened)

-- another bound of an index is no other local
raised_names : (span : Span) (ty : Ty) (k : ExprKind) (y : ExprKind-F ExprKind Expr) → out-ExprKind k ≡ y → locals_named (typed span ty (raised_at k y)) ≡ locals_named (typed span ty k)
unfolding roll-ExprKind denote.Hole.Carrier.roll
raised_names span ty k (ExprKind-F.Index b i size (Some n)) e =
    let is : Index b i size (Some n) ≡ k = sym (ap roll-ExprKind e) ∙ roll-out-ExprKind k in
    element_two size _ span ty b i ∙ (sym (element_two size (Some n) span ty b i) ∙ ap (λ x. locals_named (typed span ty x)) is)
raised_names span ty k y e = refl

address_one : OfOne (λ e. raised e.kind)
address_one span ty e =
    let same : locals_named (typed span ty e.kind) ≡ locals_named e = search (rules, opened) in
    raised_names span ty e.kind (out-ExprKind e.kind) refl ∙ same

module _ (seen : List ℕ) (span : Span) where
  local_seen : (n : ℕ) (ty : Option Ty) → IsTrue (thing_seen seen (Some (thing.Local n ty))) → IsSeen seen (declared_place span ty false (Some (Auto n)))
  unfolding declared_place
  local_seen n None h = refl
  local_seen n (Some ty) h = place_seen seen span ty false (Some (Auto n)) (λ s t. subst (AllSeen seen) (sym (local_one s t n)) (and_both (has n seen) true h refl))

  pub name_seen : (t : Option Thing) → IsTrue (thing_seen seen t) → IsSeen seen (name_part span t)
  unfolding name_part
  name_seen None h = refl
  name_seen (Some (thing.Global n ty)) h = declared_seen seen span ty false (Some (Global n)) (λ s t. subst (AllSeen seen) (sym (global_none s t n)) refl)
  name_seen (Some (thing.Local n ty)) h = local_seen n ty h
  name_seen (Some (thing.Func number params ret)) h = refl

  -- elements --------------------------------------------------------------------

  element_seen : (r : Ruling) (size : ℕ) (bound : Option ℕ) (made : Option Expr) (i : Found) → MadeSeen seen made → IsSeen seen i →
      IsSeen seen (element_part span (record { element = r; size = size; bound = bound; made = made }) i)
  unfolding element_part
  element_seen r size bound made i h k = place_by_seen seen span (index_ruling r i.known) _ (of_two seen (element_of size bound) (element_two size bound) made i.made h k)

  module _ (sizes : List ℕ) where
    pointer_seen : (v : Found) → IsSeen seen v → MadeSeen seen (pointer_base sizes v).made
    unfolding pointer_base
    pointer_seen v h = h

    pub star_seen : (p : Found) → IsSeen seen p → IsSeen seen (star_part sizes span p)
    unfolding star_part
    star_seen p h =
        let b = pointer_base sizes p in
        element_seen b.element b.size b.bound b.made (zero span) (pointer_seen p h) (subst (AllSeen seen) (sym (none_named span Int 0)) refl)

    level_seen : (w : Bool) (y : Ty-F Ty) (made : Option Expr) → MadeSeen seen made → MadeSeen seen (array_at sizes w y made).made
    level_seen w (Ty-F.Array n t) made h = h
    level_seen w Ty-F.Void made h = refl
    level_seen w Ty-F.Int made h = refl
    level_seen w Ty-F.Uint made h = refl
    level_seen w (Ty-F.Ptr t) made h = refl
    level_seen w (Ty-F.Struct s) made h = refl
    level_seen w (Ty-F.Sync t) made h = refl
    level_seen w (Ty-F.Future t) made h = refl

    known_seen : (k : Known) (made : Option Expr) → MadeSeen seen made → MadeSeen seen (array_of sizes k made).made
    known_seen (known.Unknown place) made h = refl
    known_seen (known.Value ty) made h = refl
    known_seen (known.Place ty w) made h = level_seen w (out-Ty ty) made h

    array_seen : (a : Found) → IsSeen seen a → MadeSeen seen (array_base sizes a).made
    unfolding array_base
    array_seen a h = known_seen a.known a.made h

    pub index_seen : (at : Span) (a i : Found) → IsSeen seen a → IsSeen seen i → IsSeen seen (index_part sizes span at a i)
    unfolding index_part
    index_seen at a i h k = by (is_array a.known)
      where
        by : (d : Bool) → IsSeen seen (element_part span (cond d (array_base sizes a) (pointer_base sizes (rvalue sizes at a))) i)
        by true =
            let b = array_base sizes a in
            element_seen b.element b.size b.bound b.made i (array_seen a h) k
        by false =
            let b = pointer_base sizes (rvalue sizes at a) in
            element_seen b.element b.size b.bound b.made i (pointer_seen (rvalue sizes at a) (rvalue_seen seen sizes at a h)) k

  -- addresses and members -------------------------------------------------------

  pub address_seen : (a : Found) → IsSeen seen a → IsSeen seen (address_part span a)
  unfolding address_part
  address_seen a h = found_seen seen span (address_ruling a.known) _ (of_one seen (λ e. raised e.kind) address_one a.made h)

  member_seen : (within : Bool) (o : Option ℕ) (m : Option Member) (made : Option Expr) → MadeSeen seen made → IsSeen seen (member_part span within o m made)
  unfolding member_part
  member_seen within None m made h = refl
  member_seen within (Some s) None made h = refl
  member_seen within (Some s) (Some m) made h = declared_seen seen span m.ty within _ (of_one seen (member_of m.off) (member_one m.off) made h)

  pub dot_seen : (m : Option Member) (mixes : Bool) (a : Found) → IsSeen seen a → IsSeen seen (dot_part span m mixes a)
  dot_seen m mixes a h = member_seen (lies_within a.known || mixes) (dot_owner a.known) m a.made h

  pub arrow_seen : (m : Option Member) (mixes : Bool) (p : Found) → IsSeen seen p → IsSeen seen (arrow_part span m mixes p)
  arrow_seen m mixes p h = member_seen mixes (arrow_owner p.known) m p.made h
