-- What scopes name, as structs are added and completed.
use Rattle.std.proofs.Common.{◌≡◌, ℕ, ◌≤◌, List, [], ◌∷◌, length, map, Bool, true, false, refl, sym, ap, ◌∙◌, subst, arith}
use Rattle.std.specs.Prelude.{IsTrue, ◌||◌, Option, Some, None, slice_get, option_map, unwrap_or}
use Rattle.std.proofs.lemmas.Option.{slice_get-map}
use Rattle.xc_text_place.specs.declared.Span.{Span}
use Rattle.xc_tree.specs.declared.ty.Ty.{Ty}
use Rattle.xc_tree.specs.Lists.{every, passes}
use Rattle.xc_tree.proofs.Lists.{and_left, and_right, and_both}
use Rattle.xc_tree.specs.Types.{Shape, is_size, is_void}
use Rattle.xc_type_rule.specs.declared.found.Thing.{Thing}
use Rattle.xc_type_rule.specs.declared.found.Thing.TheVariants as thing
use Rattle.xc_type_rule.specs.Cells.{listed}
use Rattle.xc_welltyped.specs.Sound as sound
use Rattle.xc_welltyped.proofs.Points as points
use Rattle.xc_welltyped_claims.specs.Lists.{Each}
use Rattle.xc_welltyped_claims.specs.Types.{counted, is_object_by}
use Rattle.xc_welltyped_claims.specs.Things.{InScopes, FileThing, IsTag}
use Rattle.xc_welltyped_claims.proofs.Lists.{each_more}
use Rattle.xc_welltyped_structs.proofs.Promises.{sized_stands}

pub scopes_more : {T : Type 0} (P Q : T → Type 0) → ((x : T) → P x → Q x) → (ss : List (List (ℕ × T))) → InScopes P ss → InScopes Q ss
scopes_more P Q f = each_more (λ es. Each (λ e. P e.1) es) (λ es. Each (λ e. Q e.1) es) (each_more (λ e. P e.1) (λ e. Q e.1) (λ e. f e.1))

-- types of objects ------------------------------------------------------------------------------------

module _ (few more : List ℕ) (same : (s : ℕ) → IsTrue (is_size (listed few s)) → listed few s ≡ listed more s) (fewer : length few ≤ length more) where
  found_by : (s : ℕ) (x : Shape) (o : Option ℕ) → slice_get few s ≡ o → option_map counted o ≡ Some x → IsTrue (is_size x.size) → option_map counted (slice_get more s) ≡ Some x
  found_by s x None is e w = absurd cc
  found_by s x (Some n) is e w =
      let one : counted n ≡ x = cc in
      let here : listed few s ≡ n = ap (λ o. unwrap_or o 0) is in
      let sized : IsTrue (is_size n) = subst (λ (h : Shape). IsTrue (is_size h.size)) (sym one) w in
      let there : listed few s ≡ listed more s = same s (subst (λ k. IsTrue (is_size k)) (sym here) sized) in
      let stands = sized_stands more s (subst (λ k. IsTrue (is_size k)) (sym here ∙ there) sized) in
      ap (option_map counted) stands ∙ ap (λ k. Some (counted k)) (sym there ∙ here) ∙ ap Some one

  grows : sound.Grows (map counted few) (map counted more)
  grows s x e w = slice_get-map counted more s ∙ found_by s x (slice_get few s) refl (sym (slice_get-map counted few s) ∙ e) w

  pub object_goes : (t : Ty) → IsTrue (is_object_by few t) → IsTrue (is_object_by more t)
  object_goes t h = points.object_grows (map counted few) (map counted more) grows t h

  -- names -----------------------------------------------------------------------------------------------

  passes_goes : (o : Option Ty) → IsTrue (passes (is_object_by few) o) → IsTrue (passes (is_object_by more) o)
  passes_goes None h = h
  passes_goes (Some t) h = object_goes t h

  params_go : (ps : List (Option Ty)) → IsTrue (every (map (passes (is_object_by few)) ps)) → IsTrue (every (map (passes (is_object_by more)) ps))
  params_go [] h = h
  params_go (p ∷ ps) h = and_both (passes (is_object_by more) p) _ (passes_goes p (and_left (passes (is_object_by few) p) _ h)) (params_go ps (and_right (passes (is_object_by few) p) _ h))

  void_goes : (b : Bool) (t : Ty) → IsTrue (b || is_object_by few t) → IsTrue (b || is_object_by more t)
  void_goes true t h = h
  void_goes false t h = object_goes t h

  result_goes : (o : Option Ty) → IsTrue (passes (λ t. is_void t || is_object_by few t) o) → IsTrue (passes (λ t. is_void t || is_object_by more t) o)
  result_goes None h = h
  result_goes (Some t) h = void_goes (is_void t) t h

  thing_goes : (x : Thing) → FileThing few x → FileThing more x
  thing_goes (thing.Global n ty) h = passes_goes ty h
  thing_goes (thing.Local n ty) h = h
  thing_goes (thing.Func number params ret) h = and_both (every (map (passes (is_object_by more)) params)) _
      (params_go params (and_left (every (map (passes (is_object_by few)) params)) _ h))
      (result_goes ret (and_right (every (map (passes (is_object_by few)) params)) _ h))

  pub things_go : (ss : List (List (ℕ × Thing))) → InScopes (FileThing few) ss → InScopes (FileThing more) ss
  things_go = scopes_more (FileThing few) (FileThing more) thing_goes

  pub tags_go : (ss : List (List (ℕ × ℕ))) → InScopes (IsTag few) ss → InScopes (IsTag more) ss
  tags_go = scopes_more (IsTag few) (IsTag more) (λ n lt. let le = fewer in omega (arith, lt, le))

  pub locals_go : (ls : List (Span × Ty)) → Each (λ l. IsTrue (is_object_by few l.1)) ls → Each (λ l. IsTrue (is_object_by more l.1)) ls
  locals_go = each_more (λ l. IsTrue (is_object_by few l.1)) (λ l. IsTrue (is_object_by more l.1)) (λ l. object_goes l.1)
