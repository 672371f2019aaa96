-- What is made of `.` and `->` is well typed, as it is known.
use Rattle.std.proofs.Common.{rules, ◌≡◌, ℕ, Bool, true, false, refl, sym, ap, ◌∙◌, subst}
use Rattle.std.specs.Prelude.{IsTrue, ◌||◌, Option, Some, None, slice_get, option_map, option_and_then}
use Rattle.xc_text_place.specs.declared.Span.{Span}
use Rattle.xc_tree.specs.declared.ty.Ty.{Ty, out-Ty, roll-Ty, roll-out-Ty, Ptr, Struct}
use Rattle.xc_tree.specs.declared.ty.Ty.TheOpen.{Ty-F}
use Rattle.xc_tree.specs.declared.expr.Expr.{Expr}
use Rattle.xc_tree.specs.declared.expr.ExprKind.{Member as MemberAt}
use Rattle.xc_tree.specs.declared.expr.ExprKind.TheOpen.{ExprKind-F}
use Rattle.xc_tree.proofs.Lists.{and_left, and_right}
use Rattle.xc_tree.specs.Types.{is_object, struct_of, struct_at, pointee}
use Rattle.xc_tree.specs.Typed.{Context, Part, part_of, rule, are_values, member_ok, members_under, mixed_under}
use Rattle.xc_type_rule.specs.declared.found.Found.{Found}
use Rattle.xc_type_rule.specs.declared.found.Known.{Known}
use Rattle.xc_type_rule.specs.declared.found.Known.TheVariants as known
use Rattle.xc_type_rule.specs.declared.found.Member.{Member}
use Rattle.xc_type_rule.specs.Making.{typed}
use Rattle.xc_welltyped.specs.Sound.{Point, IsMade, IsPlace, IsSound, Stands}
use Rattle.xc_welltyped.proofs.Forms.{opened, Layer, made_within}
use Rattle.xc_welltyped.proofs.Types.{ty_opened, is_pointer_to}
use Rattle.xc_welltyped.proofs.Founds.{Declared, declared_sound}
use Rattle.xc_type_rule_places.specs.Rulings.{dot_owner, arrow_owner, lies_within}
use Rattle.xc_type_rule_places.specs.Places.{member_of, member_part, dot_part, arrow_part}
use Rattle.xc_welltyped_rules.specs.Agrees.{declared_ok, IsMemberOf}
use Rattle.xc_welltyped_rules.proofs.Names.{unknown_sound}

struct_is : (ty : Ty) (s : ℕ) (y : Ty-F Ty) → out-Ty ty ≡ y → struct_at y ≡ Some s → ty ≡ Struct s
unfolding roll-Ty denote.Hole.Carrier.roll
struct_is ty s (Ty-F.Struct n) o e = let same : n ≡ s = cc in sym (roll-out-Ty ty) ∙ ap roll-Ty o ∙ ap Struct same
struct_is ty s Ty-F.Void o e = absurd cc
struct_is ty s Ty-F.Int o e = absurd cc
struct_is ty s Ty-F.Uint o e = absurd cc
struct_is ty s (Ty-F.Ptr u) o e = absurd cc
struct_is ty s (Ty-F.Array n u) o e = absurd cc
struct_is ty s (Ty-F.Sync u) o e = absurd cc
struct_is ty s (Ty-F.Future u) o e = absurd cc

module _ (cx : Context) (span : Span) where
  member_row : (ty : Ty) (off : ℕ) (pb : Part) → pb.ok ≡ true → IsTrue (member_ok cx.shapes (members_under cx.structs pb.ty) off (Ptr ty)) →
      Layer cx (Ptr ty) (ExprKind-F.Member pb off)
  unfolding rule are_values
  member_row ty off pb ok_b r = simp (ok_b, r) refl

  member_made : (ty : Ty) (off s : ℕ) (b : Expr) (inside : Bool) → IsMade cx (Ptr (Struct s)) inside b →
      IsTrue (member_ok cx.shapes (slice_get cx.structs s) off (Ptr ty)) →
      IsPlace cx ty (inside || mixed_under cx.shapes (Ptr (Struct s))) (typed span (Ptr ty) (MemberAt b off))
  member_made ty off s b inside mb r =
      let under : members_under cx.structs (Ptr (Struct s)) ≡ slice_get cx.structs s = search (rules, ty_opened) in
      let kept = subst (λ o. IsTrue (member_ok cx.shapes o off (Ptr ty))) (sym under) r in
      record {
        made = made_within cx span (Ptr ty) ((part_of cx b).within || mixed_under cx.shapes (part_of cx b).ty) (inside || mixed_under cx.shapes (Ptr (Struct s)))
            (MemberAt b off) (ExprKind-F.Member (part_of cx b) off) (search (rules, opened))
            (ap (λ w. w || mixed_under cx.shapes (part_of cx b).ty) mb.within ∙ ap (λ t. inside || mixed_under cx.shapes t) mb.typed)
            (member_row ty off (part_of cx b) mb.ok (subst (λ t. IsTrue (member_ok cx.shapes (members_under cx.structs t) off (Ptr ty))) (sym mb.typed) kept));
        unraised = search (rules, opened);
      }

module _ (so : Point) (span : Span) where
  -- the struct's place, or the pointer to it
  abbrev Leads : ℕ → Bool → Option Expr → Type 0
  Leads s within None = Unit {0}
  Leads s within (Some e) = IsMade so.cx (Ptr (Struct s)) within e

  member_declared : (s : ℕ) (w v : Bool) (off : ℕ) (ty : Option Ty) (made : Option Expr) → v ≡ mixed_under so.cx.shapes (Ptr (Struct s)) →
      IsTrue (declared_ok so (λ t. member_ok so.cx.shapes (slice_get so.cx.structs s) off (Ptr t)) ty) → Leads s w made →
      Declared so span ty (w || v) (option_map (member_of off) made)
  member_declared s w v off None made e h l = tt
  member_declared s w v off (Some t) None e h l = (and_left (is_object so.shapes t) _ h, tt)
  member_declared s w v off (Some t) (Some b) e h l = (
    and_left (is_object so.shapes t) _ h,
    subst (λ u. IsPlace so.cx t (w || u) (typed span (Ptr t) (MemberAt b off))) (sym e)
        (member_made so.cx span t off s b w l (and_right (is_object so.shapes t) _ h)),
  )

  -- the place that a struct's member is looked for in
  abbrev Owns : Option ℕ → Bool → Option Expr → Type 0
  Owns None within made = Unit {0}
  Owns (Some s) within made = Leads s within made

  member_sound : (w mixes : Bool) (o : Option ℕ) (m : Option Member) (made : Option Expr) → IsMemberOf so o m mixes → Owns o w made →
      IsSound so (member_part span (w || mixes) o m made)
  unfolding member_part
  member_sound w mixes None m made h l = unknown_sound so true
  member_sound w mixes (Some s) None made h l = unknown_sound so true
  member_sound w mixes (Some s) (Some m) made h l =
      declared_sound so span m.ty (w || mixes) (option_map (member_of m.off) made) (member_declared s w mixes m.off m.ty made h.1 h.0 l)

  place_leads : (s : ℕ) (w : Bool) (m : Option Expr) → Stands so.cx (known.Place (Struct s) w) m → Leads s w m
  place_leads s w None h = tt
  place_leads s w (Some e) h = h.made

  value_leads : (s : ℕ) (m : Option Expr) → Stands so.cx (known.Value (Ptr (Struct s))) m → Leads s false m
  value_leads s None h = tt
  value_leads s (Some e) h = h

  struct_owns : (ty : Ty) (w : Bool) (m : Option Expr) (o : Option ℕ) → struct_of ty ≡ o → Stands so.cx (known.Place ty w) m → Owns o w m
  struct_owns ty w m None e h = tt
  struct_owns ty w m (Some s) e h = place_leads s w m (subst (λ u. Stands so.cx (known.Place u w) m) (struct_is ty s (out-Ty ty) refl e) h)

  dot_owns : (k : Known) (m : Option Expr) → Stands so.cx k m → Owns (dot_owner k) (lies_within k) m
  dot_owns (known.Place ty w) m h = struct_owns ty w m (struct_of ty) refl h
  dot_owns (known.Unknown place) m h = tt
  dot_owns (known.Value ty) m h = tt

  -- `.`
  pub dot_sound : (m : Option Member) (mixes : Bool) (a : Found) → IsSound so a → IsMemberOf so (dot_owner a.known) m mixes → IsSound so (dot_part span m mixes a)
  dot_sound m mixes a ha h = member_sound (lies_within a.known) mixes (dot_owner a.known) m a.made h (dot_owns a.known a.made ha.made)

  inner_owns : (t : Ty) (m : Option Expr) (o : Option ℕ) → struct_of t ≡ o → Stands so.cx (known.Value (Ptr t)) m → Owns o false m
  inner_owns t m None e h = tt
  inner_owns t m (Some s) e h = value_leads s m (subst (λ u. Stands so.cx (known.Value (Ptr u)) m) (struct_is t s (out-Ty t) refl e) h)

  pointer_owns : (ty : Ty) (m : Option Expr) (o : Option Ty) → pointee ty ≡ o → Stands so.cx (known.Value ty) m → Owns (option_and_then struct_of o) false m
  pointer_owns ty m None e h = tt
  pointer_owns ty m (Some t) e h = inner_owns t m (struct_of t) refl (subst (λ u. Stands so.cx (known.Value u) m) (is_pointer_to ty t (out-Ty ty) refl e) h)

  arrow_owns : (k : Known) (m : Option Expr) → Stands so.cx k m → Owns (arrow_owner k) false m
  arrow_owns (known.Value ty) m h = pointer_owns ty m (pointee ty) refl h
  arrow_owns (known.Unknown place) m h = tt
  arrow_owns (known.Place ty w) m h = tt

  -- `->`
  pub arrow_sound : (m : Option Member) (mixes : Bool) (p : Found) → IsSound so p → IsMemberOf so (arrow_owner p.known) m mixes → IsSound so (arrow_part span m mixes p)
  arrow_sound m mixes p hp h = member_sound false mixes (arrow_owner p.known) m p.made h (arrow_owns p.known p.made hp.made)
