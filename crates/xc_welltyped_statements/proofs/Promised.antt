-- A type of objects stays one, whatever structs are completed.
use Rattle.std.proofs.Common.{◌≡◌, ℕ, ◌*◌, List, map, length, refl, sym, ap, subst}
use Rattle.std.specs.Prelude.{IsTrue, ◌&&◌, nat_lt, Option, Some, None, slice_get, option_map, unwrap_or}
use Rattle.std.proofs.lemmas.Bool.{lt-ltb}
use Rattle.std.proofs.lemmas.Option.{slice_get-map, slice_get_within}
use Rattle.xc_tree.specs.declared.ty.Ty.{Ty, roll-Ty, Ptr, Array, Struct, Sync, Future}
use Rattle.xc_tree.specs.declared.ty.Ty.TheOpen.{Ty-F}
use Rattle.xc_tree.specs.declared.ty.Ty.TheFolds.{ind-Ty, map-Ty, fold-roll-Ty}
use Rattle.xc_tree.specs.Types.{Shape, Formed, formed, form_step, struct_formed, is_plain, is_size}
use Rattle.xc_tree.proofs.Lists.{and_left, and_right, and_both}
use Rattle.xc_welltyped_claims.specs.Types.{counted, is_object_by, Promise, promise_step, promised, will_be_object}

-- an object may have the type, and a pointer may lead there
record Told (f : Formed) (p : Promise) : Type 0 where
  ty : f.ty ≡ p.ty
  size : f.shape.size ≡ p.size
  kept : IsTrue f.ok → IsTrue p.kept
  pointed : IsTrue f.ok → IsTrue p.pointed

module _ (ns : List ℕ) where
  abbrev all : List Shape
  all = map counted ns

  abbrev Child : Type 0
  Child = (t : Ty) × Told (formed all t) (promised ns t)

  abbrev layer : Ty-F Child → Ty-F Ty
  layer y = map-Ty Child Ty (λ c. c.0) y

  abbrev made : Ty-F Child → Formed
  made y = form_step all (map-Ty Ty Formed (formed all) (layer y))

  abbrev will : Ty-F Child → Promise
  will y = promise_step ns (map-Ty Ty Promise (promised ns) (layer y))

  array_told : (n : ℕ) (c : Child) → IsTrue (made (Ty-F.Array n c)).ok → IsTrue (will (Ty-F.Array n c)).kept
  array_told n c h = and_both (promised ns c.0).kept _ (c.1.kept (and_left (formed all c.0).ok _ h))
      (subst (λ k. IsTrue (is_size (n * k))) c.1.size (and_right (formed all c.0).ok _ h))

  marked_told : (c : Child) → IsTrue ((formed all c.0).ok && is_plain (formed all c.0).ty) → IsTrue ((promised ns c.0).kept && is_plain (promised ns c.0).ty)
  marked_told c h = and_both (promised ns c.0).kept _ (c.1.kept (and_left (formed all c.0).ok _ h))
      (subst (λ t. IsTrue (is_plain t)) c.1.ty (and_right (formed all c.0).ok _ h))

  struct_by : (s : ℕ) (o : Option ℕ) → slice_get ns s ≡ o → Told (struct_formed s (option_map counted o)) (record { ty = Struct s; size = unwrap_or o 0; kept = is_size (unwrap_or o 0); pointed = nat_lt s (length ns) })
  struct_by s None e = record { ty = refl; size = refl; kept = λ h. absurd cc; pointed = λ h. absurd cc }
  struct_by s (Some n) e = record { ty = refl; size = refl; kept = λ h. h; pointed = λ h. lt-ltb s (length ns) (slice_get_within ns s n e) }

  struct_told : (s : ℕ) → Told (struct_formed s (slice_get all s)) (promise_step ns (Ty-F.Struct s))
  struct_told s = subst (λ o. Told (struct_formed s o) (promise_step ns (Ty-F.Struct s))) (sym (slice_get-map counted ns s)) (struct_by s (slice_get ns s) refl)

  level : (y : Ty-F Child) → Told (made y) (will y)
  level Ty-F.Void = record { ty = refl; size = refl; kept = λ h. h; pointed = λ h. h }
  level Ty-F.Int = record { ty = refl; size = refl; kept = λ h. h; pointed = λ h. h }
  level Ty-F.Uint = record { ty = refl; size = refl; kept = λ h. h; pointed = λ h. h }
  level (Ty-F.Ptr c) = record { ty = ap Ptr c.1.ty; size = refl; kept = c.1.pointed; pointed = c.1.pointed }
  level (Ty-F.Array n c) = record { ty = ap (Array n) c.1.ty; size = ap (λ k. n * k) c.1.size; kept = array_told n c; pointed = array_told n c }
  level (Ty-F.Struct s) = struct_told s
  level (Ty-F.Sync c) = record { ty = ap Sync c.1.ty; size = refl; kept = marked_told c; pointed = marked_told c }
  level (Ty-F.Future c) = record { ty = ap Future c.1.ty; size = refl; kept = marked_told c; pointed = marked_told c }

  told : (t : Ty) → Told (formed all t) (promised ns t)
  told = ind-Ty (λ t. Told (formed all t) (promised ns t)) (λ x y is. subst (λ z. Told (formed all (roll-Ty z)) (promised ns (roll-Ty z))) is
      (subst (λ f. Told f (promised ns (roll-Ty (layer y)))) (sym (fold-roll-Ty Formed (form_step all) (layer y)))
      (subst (λ p. Told (made y) p) (sym (fold-roll-Ty Promise (promise_step ns) (layer y))) (level y))))

  pub object_kept : (ty : Ty) → IsTrue (is_object_by ns ty) → IsTrue (will_be_object ns ty)
  object_kept ty h = (told ty).kept h
