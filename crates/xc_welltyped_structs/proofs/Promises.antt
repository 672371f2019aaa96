-- Types of objects once all structs are complete, as structs are added and completed.
use Rattle.std.proofs.Common.{◌≡◌, ℕ, zero, suc, ◌*◌, ◌<◌, ◌≤◌, List, [], ◌∷◌, ◌++◌, map, length, refl, sym, ap, subst, arith}
use Rattle.std.specs.Prelude.{IsTrue, ◌&&◌, nat_lt, Option, Some, None, slice_get, option_map, unwrap_or}
use Rattle.std.proofs.lemmas.Option.{slice_get-map}
use Rattle.std.proofs.lemmas.Bool.{lt-ltb, ltb-true}
use Rattle.xc_tree.specs.declared.ty.Ty.{Ty, roll-Ty, Ptr, Array, Struct, Sync, Future}
use Rattle.xc_tree.specs.declared.ty.Ty.TheOpen.{Ty-F}
use Rattle.xc_tree.specs.declared.ty.Ty.TheFolds.{ind-Ty, map-Ty, fold-roll-Ty}
use Rattle.xc_tree.proofs.Lists.{and_left, and_right, and_both}
use Rattle.xc_tree.specs.Types.{Shape, Formed, formed, form_step, struct_formed, is_plain, is_size}
use Rattle.xc_type_rule.specs.Cells.{listed}
use Rattle.xc_welltyped_claims.specs.Types.{counted, is_object_by, Promise, promise_step, promised, will_be_object, may_be_pointed_to}
use Rattle.xc_welltyped_claims.specs.Env.{AreComplete}
use Rattle.xc_welltyped_claims.proofs.Lists.{get_left, length_left}

-- a struct that has a size stands in the table
sized_by : (o : Option ℕ) → IsTrue (is_size (unwrap_or o 0)) → o ≡ Some (unwrap_or o 0)
sized_by None h = absurd cc
sized_by (Some n) h = refl

pub sized_stands : (ns : List ℕ) (s : ℕ) → IsTrue (is_size (listed ns s)) → slice_get ns s ≡ Some (listed ns s)
sized_stands ns s h = sized_by (slice_get ns s) h

-- more structs --------------------------------------------------------------------

pub listed_left : (few added : List ℕ) (s : ℕ) → IsTrue (is_size (listed few s)) → listed few s ≡ listed (few ++ added) s
listed_left few added s h = sym (ap (λ o. unwrap_or o 0) (get_left few added s (listed few s) (sized_stands few s h)))

-- what a promise says holds of the other one too
record Goes (p q : Promise) : Type 0 where
  ty : p.ty ≡ q.ty
  kept : IsTrue p.kept → IsTrue q.kept
  size : IsTrue p.kept → p.size ≡ q.size
  pointed : IsTrue p.pointed → IsTrue q.pointed

-- structs that have a size keep it, and none goes
module _ (few more : List ℕ) (same : (s : ℕ) → IsTrue (is_size (listed few s)) → listed few s ≡ listed more s) (fewer : length few ≤ length more) where
  abbrev Child : Type 0
  Child = (t : Ty) × Goes (promised few t) (promised more t)

  abbrev layer : Ty-F Child → Ty-F Ty
  layer y = map-Ty Child Ty (λ c. c.0) y

  abbrev at : List ℕ → Ty-F Child → Promise
  at ns y = promise_step ns (map-Ty Ty Promise (promised ns) (layer y))

  stands : (s : ℕ) → IsTrue (nat_lt s (length few)) → IsTrue (nat_lt s (length more))
  stands s h = let less : s < length few = ltb-true s (length few) h in
      lt-ltb s (length more) (let lt : s < length more = omega (arith, less, fewer) in lt)

  array_kept : (n : ℕ) (c : Child) → IsTrue (at few (Ty-F.Array n c)).kept → IsTrue (at more (Ty-F.Array n c)).kept
  array_kept n c h = and_both (promised more c.0).kept _ (c.1.kept (and_left (promised few c.0).kept _ h))
      (subst (λ k. IsTrue (is_size (n * k))) (c.1.size (and_left (promised few c.0).kept _ h)) (and_right (promised few c.0).kept _ h))

  marked_kept : (c : Child) → IsTrue ((promised few c.0).kept && is_plain (promised few c.0).ty) → IsTrue ((promised more c.0).kept && is_plain (promised more c.0).ty)
  marked_kept c h = and_both (promised more c.0).kept _ (c.1.kept (and_left (promised few c.0).kept _ h))
      (subst (λ t. IsTrue (is_plain t)) c.1.ty (and_right (promised few c.0).kept _ h))

  level : (y : Ty-F Child) → Goes (at few y) (at more y)
  level Ty-F.Void = record { ty = refl; kept = λ h. h; size = λ h. refl; pointed = λ h. h }
  level Ty-F.Int = record { ty = refl; kept = λ h. h; size = λ h. refl; pointed = λ h. h }
  level Ty-F.Uint = record { ty = refl; kept = λ h. h; size = λ h. refl; pointed = λ h. h }
  level (Ty-F.Ptr c) = record { ty = ap Ptr c.1.ty; kept = c.1.pointed; size = λ h. refl; pointed = c.1.pointed }
  level (Ty-F.Array n c) = record {
    ty = ap (Array n) c.1.ty;
    kept = array_kept n c;
    size = λ h. ap (λ k. n * k) (c.1.size (and_left (promised few c.0).kept _ h));
    pointed = array_kept n c;
  }
  level (Ty-F.Struct s) = record {
    ty = refl;
    kept = λ h. subst (λ n. IsTrue (is_size n)) (same s h) h;
    size = same s;
    pointed = stands s;
  }
  level (Ty-F.Sync c) = record { ty = ap Sync c.1.ty; kept = marked_kept c; size = λ h. refl; pointed = marked_kept c }
  level (Ty-F.Future c) = record { ty = ap Future c.1.ty; kept = marked_kept c; size = λ h. refl; pointed = marked_kept c }

  goes : (t : Ty) → Goes (promised few t) (promised more t)
  goes = ind-Ty (λ t. Goes (promised few t) (promised more t)) (λ x y is. subst (λ z. Goes (promised few (roll-Ty z)) (promised more (roll-Ty z))) is
      (subst (λ p. Goes p (promised more (roll-Ty (layer y)))) (sym (fold-roll-Ty Promise (promise_step few) (layer y)))
      (subst (λ q. Goes (at few y) q) (sym (fold-roll-Ty Promise (promise_step more) (layer y))) (level y))))

  pub kept_goes : (ty : Ty) → IsTrue (will_be_object few ty) → IsTrue (will_be_object more ty)
  kept_goes ty h = (goes ty).kept h

  pub pointed_goes : (ty : Ty) → IsTrue (may_be_pointed_to few ty) → IsTrue (may_be_pointed_to more ty)
  pointed_goes ty h = (goes ty).pointed h

pub promise_grows : (few added : List ℕ) (ty : Ty) → IsTrue (will_be_object few ty) → IsTrue (will_be_object (few ++ added) ty)
promise_grows few added ty h = kept_goes few (few ++ added) (listed_left few added) (length_left few added) ty h

pub pointed_grows : (few added : List ℕ) (ty : Ty) → IsTrue (may_be_pointed_to few ty) → IsTrue (may_be_pointed_to (few ++ added) ty)
pointed_grows few added ty h = pointed_goes few (few ++ added) (listed_left few added) (length_left few added) ty h

-- all structs complete --------------------------------------------------------------

-- what a promise says is so
record Comes (p : Promise) (f : Formed) : Type 0 where
  ty : p.ty ≡ f.ty
  kept : IsTrue p.kept → IsTrue f.ok
  size : p.size ≡ f.shape.size
  pointed : IsTrue p.pointed → IsTrue f.ok

pub complete_at : (ns : List ℕ) → AreComplete ns → (s : ℕ) → s < length ns → IsTrue (is_size (listed ns s))
complete_at [] h s lt = absurd (omega (arith, lt))
complete_at (n ∷ ns) h zero lt = and_left (is_size n) _ h
complete_at (n ∷ ns) h (suc s) lt = complete_at ns (and_right (is_size n) _ h) s (omega (arith, lt))

module _ (ns : List ℕ) (complete : AreComplete ns) where
  abbrev all : List Shape
  all = map counted ns

  abbrev Claimed : Type 0
  Claimed = (t : Ty) × Comes (promised ns t) (formed all t)

  abbrev claimed : Ty-F Claimed → Ty-F Ty
  claimed y = map-Ty Claimed Ty (λ c. c.0) y

  abbrev made : Ty-F Claimed → Formed
  made y = form_step all (map-Ty Ty Formed (formed all) (claimed y))

  abbrev will : Ty-F Claimed → Promise
  will y = promise_step ns (map-Ty Ty Promise (promised ns) (claimed y))

  array_comes : (n : ℕ) (c : Claimed) → IsTrue (will (Ty-F.Array n c)).kept → IsTrue (made (Ty-F.Array n c)).ok
  array_comes n c h = and_both (formed all c.0).ok _ (c.1.kept (and_left (promised ns c.0).kept _ h))
      (subst (λ k. IsTrue (is_size (n * k))) c.1.size (and_right (promised ns c.0).kept _ h))

  marked_comes : (c : Claimed) → IsTrue ((promised ns c.0).kept && is_plain (promised ns c.0).ty) → IsTrue ((formed all c.0).ok && is_plain (formed all c.0).ty)
  marked_comes c h = and_both (formed all c.0).ok _ (c.1.kept (and_left (promised ns c.0).kept _ h))
      (subst (λ t. IsTrue (is_plain t)) c.1.ty (and_right (promised ns c.0).kept _ h))

  struct_by : (s : ℕ) (o : Option ℕ) → (IsTrue (nat_lt s (length ns)) → IsTrue (is_size (unwrap_or o 0))) →
      Comes (record { ty = Struct s; size = unwrap_or o 0; kept = is_size (unwrap_or o 0); pointed = nat_lt s (length ns) }) (struct_formed s (option_map counted o))
  struct_by s None f = record { ty = refl; kept = λ h. h; size = refl; pointed = f }
  struct_by s (Some n) f = record { ty = refl; kept = λ h. h; size = refl; pointed = f }

  struct_comes : (s : ℕ) → Comes (promise_step ns (Ty-F.Struct s)) (struct_formed s (slice_get all s))
  struct_comes s = subst (λ o. Comes (promise_step ns (Ty-F.Struct s)) (struct_formed s o)) (sym (slice_get-map counted ns s))
      (struct_by s (slice_get ns s) (λ h. complete_at ns complete s (ltb-true s (length ns) h)))

  comes_level : (y : Ty-F Claimed) → Comes (will y) (made y)
  comes_level Ty-F.Void = record { ty = refl; kept = λ h. h; size = refl; pointed = λ h. h }
  comes_level Ty-F.Int = record { ty = refl; kept = λ h. h; size = refl; pointed = λ h. h }
  comes_level Ty-F.Uint = record { ty = refl; kept = λ h. h; size = refl; pointed = λ h. h }
  comes_level (Ty-F.Ptr c) = record { ty = ap Ptr c.1.ty; kept = c.1.pointed; size = refl; pointed = c.1.pointed }
  comes_level (Ty-F.Array n c) = record { ty = ap (Array n) c.1.ty; kept = array_comes n c; size = ap (λ k. n * k) c.1.size; pointed = array_comes n c }
  comes_level (Ty-F.Struct s) = struct_comes s
  comes_level (Ty-F.Sync c) = record { ty = ap Sync c.1.ty; kept = marked_comes c; size = refl; pointed = marked_comes c }
  comes_level (Ty-F.Future c) = record { ty = ap Future c.1.ty; kept = marked_comes c; size = refl; pointed = marked_comes c }

  comes : (t : Ty) → Comes (promised ns t) (formed all t)
  comes = ind-Ty (λ t. Comes (promised ns t) (formed all t)) (λ x y is. subst (λ z. Comes (promised ns (roll-Ty z)) (formed all (roll-Ty z))) is
      (subst (λ p. Comes p (formed all (roll-Ty (claimed y)))) (sym (fold-roll-Ty Promise (promise_step ns) (claimed y)))
      (subst (λ f. Comes (will y) f) (sym (fold-roll-Ty Formed (form_step all) (claimed y))) (comes_level y))))

  pub promise_kept : (ty : Ty) → IsTrue (will_be_object ns ty) → IsTrue (is_object_by ns ty)
  promise_kept ty h = (comes ty).kept h

  pub pointed_kept : (ty : Ty) → IsTrue (may_be_pointed_to ns ty) → IsTrue (is_object_by ns ty)
  pointed_kept ty h = (comes ty).pointed h
