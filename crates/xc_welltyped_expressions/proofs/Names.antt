-- What a name stands for where nothing has a fault.
use Rattle.std.proofs.Common.{rules, ◌≡◌, ℕ, zero, suc, List, [], ◌∷◌, map, length, Bool, true, false, refl, sym, ap, ◌∙◌, subst}
use Rattle.std.specs.Prelude.{IsTrue, nat_lt, Option, Some, None, slice_get, cond}
use Rattle.std.proofs.lemmas.Bool.{lt-ltb}
use Rattle.std.proofs.lemmas.Option.{slice_get_within}
use Rattle.xc_text_place.specs.declared.Span.{Span}
use Rattle.xc_tree.specs.declared.ty.Ty.{Ty, Ptr}
use Rattle.xc_tree.specs.Lists.{passes}
use Rattle.xc_tree.specs.Types.{is_object, same_ty, pointee}
use Rattle.xc_tree.specs.Typed.{leads_to, addressed_type}
use Rattle.xc_tree.proofs.Lists.{and_both}
use Rattle.xc_type_rule.specs.declared.found.Found.{Found}
use Rattle.xc_type_rule.specs.declared.found.Thing.{Thing}
use Rattle.xc_type_rule.specs.declared.found.Thing.TheVariants as thing
use Rattle.xc_type_rule.specs.Least.{type_fault}
use Rattle.xc_type_rule.specs.Making.{unknown_place}
use Rattle.xc_type_names.specs.Scoped.{found_in, or_else}
use Rattle.xc_type_rule_places.specs.Places.{name_part, name_faults}
use Rattle.xc_type_scopes.specs.declared.env.Env.{Env}
use Rattle.xc_type_scopes.specs.Env.{found}
use Rattle.xc_type_scopes.specs.Judge.{Judged, give}
use Rattle.xc_type_expressions.specs.declared.text.Text.{Text}
use Rattle.xc_type_expressions.specs.Places.{is_reserved, named}
use Rattle.xc_welltyped.specs.Sound.{Point}
use Rattle.xc_welltyped.proofs.Types.{ty_opened, same_ty_refl}
use Rattle.xc_welltyped_rules.specs.Agrees.{thing_ok, is_typed_thing, local_ok}
use Rattle.xc_welltyped_rules.proofs.Names.{name_sound}
use Rattle.xc_welltyped_rules.proofs.PlacesWhole.{name_whole}
use Rattle.xc_welltyped_locals.specs.Seen.{thing_seen}
use Rattle.xc_welltyped_locals.proofs.SeenPlaces.{name_seen}
use Rattle.xc_welltyped_locals.specs.Used.{ThingMarked}
use Rattle.xc_welltyped_locals.proofs.UsedPlaces.{name_used}
use Rattle.xc_welltyped_claims.specs.Lists.{StaysSet}
use Rattle.xc_welltyped_claims.specs.Types.{is_object_by}
use Rattle.xc_welltyped_claims.specs.Things.{FileThing, OwnThing, SeenThing, HasThing}
use Rattle.xc_welltyped_claims.specs.Env.{Good, At, Covers, object_of}
use Rattle.xc_welltyped_claims.specs.Judges.{Gives, Given}
use Rattle.xc_welltyped_claims.specs.Found.{Fine}
use Rattle.xc_welltyped_claims.proofs.Lists.{each_get, starts_get}
use Rattle.xc_welltyped_claims.proofs.Things.{in_found}
use Rattle.xc_welltyped_claims.proofs.Judges.{given_self}
use Rattle.xc_welltyped_structs.proofs.Programs.{object_told}

-- a name stands for what the function declares, or for what stands at file scope
pub either : {T Q : Type 0} (a b : Option T) (x : T) → or_else a b ≡ Some x → (a ≡ Some x → Q) → (b ≡ Some x → Q) → Q
either None b x is f g = g is
either (Some y) b x is f g = f is

module _ (e : Env) (name : ℕ) (x : Thing) (is : found name e ≡ Some x) where
  pub standing : {Q : Type 0} → Good e → (OwnThing e.locals x → Q) → (FileThing e.structs.sizes x → found_in name e.file ≡ Some x → Q) → Q
  standing g f h = either (found_in name e.own) (found_in name e.file) x is
      (λ own. f (in_found (OwnThing e.locals) name e.own x own g.own))
      (λ file. h (in_found (FileThing e.structs.sizes) name e.file x file g.file) file)

-- types ---------------------------------------------------------------------------

own_typed : (locals : List (Span × Ty)) (x : Thing) → OwnThing locals x → IsTrue (is_typed_thing (Some x))
own_typed locals (thing.Local n (Some ty)) h = refl
own_typed locals (thing.Local n None) h = absurd h
own_typed locals (thing.Global n ty) h = absurd h
own_typed locals (thing.Func number params ret) h = absurd h

file_typed : (ns : List ℕ) (x : Thing) → FileThing ns x → IsTrue (is_typed_thing (Some x))
file_typed ns (thing.Global n None) h = absurd cc
file_typed ns (thing.Global n (Some ty)) h = refl
file_typed ns (thing.Local n ty) h = absurd cc
file_typed ns (thing.Func number params ret) h = refl

leads_there : (ty : Ty) → IsTrue (leads_to (Some ty) (Ptr ty))
leads_there ty = subst (λ o. IsTrue (passes (same_ty ty) o)) (let is : Some ty ≡ pointee (Ptr ty) = search (rules, ty_opened) in is) (same_ty_refl ty)

-- programs ------------------------------------------------------------------------

get_mapped : {A B : Type 0} (f : A → B) (xs : List A) (n : ℕ) (x : A) → slice_get xs n ≡ Some x → slice_get (map f xs) n ≡ Some (f x)
get_mapped f [] n x is = absurd cc
get_mapped {A} f (y ∷ xs) zero x is = let same : y ≡ x = cc in ap (λ z. Some (f z)) same
get_mapped f (y ∷ xs) (suc n) x is = get_mapped f xs n x is

module _ (t : Text) (so : Point) (e : Env) (g : Good e) (a : At t so e) where
  object_in : (ty : Ty) → IsTrue (is_object_by e.structs.sizes ty) → IsTrue (is_object so.shapes ty)
  object_in ty h = sym (object_told t so e g a ty) ∙ h

  local_in : (n : ℕ) (l : Span × Ty) → slice_get e.locals n ≡ Some l → IsTrue (local_ok so.cx n l.1)
  local_in n l is =
      let there : slice_get so.cx.locals n ≡ Some (object_of l) = starts_get (map object_of e.locals) so.cx.locals a.into.locals n (object_of l) (get_mapped object_of e.locals n l is) in
      and_both (nat_lt n (length so.cx.locals)) _ (lt-ltb n (length so.cx.locals) (slice_get_within so.cx.locals n (object_of l) there))
      (subst (λ o. IsTrue (leads_to (addressed_type o) (Ptr l.1))) (sym there) (leads_there l.1))

  own_ok : (x : Thing) → OwnThing e.locals x → IsTrue (thing_ok so (Some x))
  own_ok (thing.Local n (Some ty)) h = and_both (is_object so.shapes ty) _
      (object_in ty (each_get (λ (l : Span × Ty). IsTrue (is_object_by e.structs.sizes l.1)) e.locals n (h.0, ty) h.1 g.locals)) (local_in n (h.0, ty) h.1)
  own_ok (thing.Local n None) h = refl
  own_ok (thing.Global n ty) h = absurd h
  own_ok (thing.Func number params ret) h = refl

  file_ok : (x : Thing) → FileThing e.structs.sizes x → HasThing so.cx x → IsTrue (thing_ok so (Some x))
  file_ok (thing.Global n None) h k = refl
  file_ok (thing.Global n (Some ty)) h k = and_both (is_object so.shapes ty) _ (object_in ty h) k
  file_ok (thing.Local n ty) h k = absurd cc
  file_ok (thing.Func number params ret) h k = refl

-- what is seen ----------------------------------------------------------------------

own_seen : (seen : List ℕ) (x : Thing) → SeenThing seen x → IsTrue (thing_seen seen (Some x))
own_seen seen (thing.Local n (Some ty)) h = h
own_seen seen (thing.Local n None) h = refl
own_seen seen (thing.Global n ty) h = refl
own_seen seen (thing.Func number params ret) h = refl

file_seen : (ns seen : List ℕ) (x : Thing) → FileThing ns x → IsTrue (thing_seen seen (Some x))
file_seen ns seen (thing.Local n ty) h = absurd cc
file_seen ns seen (thing.Global n ty) h = refl
file_seen ns seen (thing.Func number params ret) h = refl

-- what is marked ----------------------------------------------------------------------

module _ (e : Env) (g : Good e) (flags : List Bool) (m : StaysSet e.addressed flags) where
  own_marked : (x : Thing) → OwnThing e.locals x → ThingMarked flags (length e.locals) (Some x)
  own_marked (thing.Local n (Some ty)) h = (slice_get_within e.locals n (h.0, ty) h.1, λ lies. m n (g.marks.marked n (h.0, ty) h.1 lies))
  own_marked (thing.Local n None) h = tt
  own_marked (thing.Global n ty) h = tt
  own_marked (thing.Func number params ret) h = tt

  file_marked : (x : Thing) → FileThing e.structs.sizes x → ThingMarked flags (length e.locals) (Some x)
  file_marked (thing.Local n ty) h = absurd cc
  file_marked (thing.Global n ty) h = tt
  file_marked (thing.Func number params ret) h = tt

-- names -------------------------------------------------------------------------------

module _ (t : Text) (e : Env) (g : Good e) (name : ℕ) where
  typed_there : (o : Option Thing) → found name e ≡ o → IsTrue (is_typed_thing o)
  typed_there None is = refl
  typed_there (Some x) is = standing e name x is g (own_typed e.locals x) (λ h file. file_typed e.structs.sizes x h)

  ok_there : (so : Point) → At t so e → (o : Option Thing) → found name e ≡ o → IsTrue (thing_ok so o)
  ok_there so a None is = refl
  ok_there so a (Some x) is = standing e name x is g (own_ok t so e g a x) (λ h file. file_ok t so e g a x h (a.into.things name x file))

  seen_there : (seen : List ℕ) → Covers seen e → (o : Option Thing) → found name e ≡ o → IsTrue (thing_seen seen o)
  seen_there seen c None is = refl
  seen_there seen c (Some x) is = either (found_in name e.own) (found_in name e.file) x is
      (λ own. own_seen seen x (in_found (SeenThing seen) name e.own x own c))
      (λ file. file_seen e.structs.sizes seen x (in_found (FileThing e.structs.sizes) name e.file x file g.file))

  marked_there : (flags : List Bool) → StaysSet e.addressed flags → (o : Option Thing) → found name e ≡ o → ThingMarked flags (length e.locals) o
  marked_there flags m None is = tt
  marked_there flags m (Some x) is = standing e name x is g (own_marked e g flags m x) (λ h file. file_marked e g flags m x h)

  pub name_fine : (span : Span) → name_faults span (found name e) ≡ [] → Fine t e (name_part span (found name e))
  name_fine span none = record {
    whole = name_whole span (found name e) (typed_there (found name e) refl) none;
    sound = λ so a. name_sound so span (found name e) (ok_there so a (found name e) refl);
    seen = λ seen c. name_seen seen span (found name e) (seen_there seen c (found name e) refl);
    used = λ flags m. name_used flags (length e.locals) span (found name e) (marked_there flags m (found name e) refl);
  }

-- what is found of a name by whether it is reserved
abbrev named_by : Bool → Span → Option Thing → Env → Judged Found
named_by b span o e = cond b (give unknown_place (type_fault span) e) (give (name_part span o) (name_faults span o) e)

pub named_fine : (t : Text) (span : Span) (name : ℕ) → Gives (Fine t) (named span (Some name))
unfolding named
named_fine t span name e g c = by (is_reserved name) c.faultless
  where
    by : (b : Bool) → (named_by b span (found name e) e).faults ≡ [] → Given e (named_by b span (found name e) e).env (Fine t (named_by b span (found name e) e).env (named_by b span (found name e) e).part)
    by true none = absurd cc
    by false none = given_self e (Fine t e (name_part span (found name e))) g (name_fine t e g name span none)
