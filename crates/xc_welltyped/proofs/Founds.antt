-- What is found by a ruling is well typed where the ruling says so of what is made.
use Rattle.std.proofs.Common.{refl}
use Rattle.std.specs.Prelude.{IsTrue, Bool, false, Option, Some, None}
use Rattle.xc_text_place.specs.declared.Span.{Span}
use Rattle.xc_tree.specs.declared.ty.Ty.{Ty, Ptr}
use Rattle.xc_tree.specs.declared.expr.ExprKind.{ExprKind}
use Rattle.xc_type_rule.specs.declared.found.Known.TheVariants as known
use Rattle.xc_type_rule.specs.Making.{Ruling, typed, value_from, place_from, declared_place, found_by, place_by}
use Rattle.xc_welltyped.specs.Sound.{Point, IsMade, IsPlace, known_ok, IsSound}

module _ (so : Point) (span : Span) where
  -- values ------------------------------------------------------------------------

  abbrev pub KindMade : Ty → Option ExprKind → Type 0
  KindMade ty None = Unit {0}
  KindMade ty (Some k) = IsMade so.cx ty false (typed span ty k)

  abbrev pub Typed : Ty → Option ExprKind → Type 0
  Typed ty k = IsTrue (known_ok so (known.Value ty)) × KindMade ty k

  -- the value that a ruling gives is what is made
  abbrev pub Keeps : Ruling → Option ExprKind → Type 0
  Keeps (Some (known.Value ty)) k = Typed ty k
  Keeps _ k = Unit {0}

  pub value_sound : (ty : Ty) (k : Option ExprKind) → Typed ty k → IsSound so (value_from span ty k)
  unfolding value_from
  value_sound ty None h = record { known = h.0; made = tt }
  value_sound ty (Some k) h = record { known = h.0; made = h.1 }

  pub found_sound : (r : Ruling) (k : Option ExprKind) → Keeps r k → IsSound so (found_by span r k)
  unfolding found_by
  found_sound None k h = record { known = refl; made = tt }
  found_sound (Some (known.Unknown place)) k h = record { known = refl; made = tt }
  found_sound (Some (known.Place ty within)) k h = record { known = refl; made = tt }
  found_sound (Some (known.Value ty)) k h = value_sound ty k h

  -- places ------------------------------------------------------------------------

  abbrev pub PlaceMade : Ty → Bool → Option ExprKind → Type 0
  PlaceMade ty within None = Unit {0}
  PlaceMade ty within (Some k) = IsPlace so.cx ty within (typed span (Ptr ty) k)

  abbrev pub Placed : Ty → Bool → Option ExprKind → Type 0
  Placed ty within k = IsTrue (known_ok so (known.Place ty within)) × PlaceMade ty within k

  -- the place that a ruling gives is what is made
  abbrev pub KeepsPlace : Ruling → Option ExprKind → Type 0
  KeepsPlace (Some (known.Place ty within)) k = Placed ty within k
  KeepsPlace _ k = Unit {0}

  pub place_sound : (ty : Ty) (within : Bool) (k : Option ExprKind) → Placed ty within k → IsSound so (place_from span ty within k)
  unfolding place_from
  place_sound ty within None h = record { known = h.0; made = tt }
  place_sound ty within (Some k) h = record { known = h.0; made = h.1 }

  pub place_by_sound : (r : Ruling) (k : Option ExprKind) → KeepsPlace r k → IsSound so (place_by span r k)
  unfolding place_by
  place_by_sound None k h = record { known = refl; made = tt }
  place_by_sound (Some (known.Unknown place)) k h = record { known = refl; made = tt }
  place_by_sound (Some (known.Value ty)) k h = record { known = refl; made = tt }
  place_by_sound (Some (known.Place ty within)) k h = place_sound ty within k h

  -- the type is one that a declaration gives, if it has no fault
  abbrev pub Declared : Option Ty → Bool → Option ExprKind → Type 0
  Declared None within k = Unit {0}
  Declared (Some ty) within k = Placed ty within k

  pub declared_sound : (o : Option Ty) (within : Bool) (k : Option ExprKind) → Declared o within k → IsSound so (declared_place span o within k)
  unfolding declared_place
  declared_sound None within k h = record { known = refl; made = tt }
  declared_sound (Some ty) within k h = place_sound ty within k h
