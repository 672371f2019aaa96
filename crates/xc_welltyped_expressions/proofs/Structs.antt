-- Specifiers of structs without faults.
use Rattle.std.proofs.Common.{◌≡◌, ℕ, ◌+◌, ◌<◌, List, [], ◌∷◌, ◌++◌, map, length, Bool, true, false, refl, sym, ap, ◌∙◌, subst, arith, cond}
use Rattle.std.specs.Prelude.{IsTrue, is_some, Option, Some, None, option_and_then}
use Rattle.std.proofs.lemmas.List.{length-set}
use Rattle.xc_text_place.specs.declared.Span.{Span}
use Rattle.xc_tree.proofs.Lists.{and_left, and_right}
use Rattle.xc_raw.specs.declared.rule.Rule.TheVariants as rule
use Rattle.xc_raw.specs.declared.tree.Raw.{Raw}
use Rattle.xc_type_rule.specs.Least.{name_fault}
use Rattle.xc_type_names.specs.Scoped.{found_in, has_none, declared_in}
use Rattle.xc_type_structs.specs.declared.structs.Structs.{Structs}
use Rattle.xc_type_structs.specs.Table as table
use Rattle.xc_raw_parts.specs.Names.{struct_name}
use Rattle.xc_type_scopes.specs.declared.env.Env.{Env}
use Rattle.xc_type_scopes.specs.Env.{tagged, is_new_tag, with_tag, in_struct, after_struct}
use Rattle.xc_type_expressions.specs.declared.text.Text.{Text}
use Rattle.xc_type_expressions.specs.Places.{name_of}
use Rattle.xc_type_expressions.specs.Types.{members, the_next, struct_begun, name_fault_unless, struct_named, struct_by}
use Rattle.xc_type_expressions.specs.Judged.{judged}
use Rattle.xc_welltyped_claims.specs.Lists.{Each}
use Rattle.xc_welltyped_claims.specs.Things.{IsTag}
use Rattle.xc_welltyped_claims.specs.Env.{Good, Stays}
use Rattle.xc_welltyped_claims.specs.Judges.{Clean, Given}
use Rattle.xc_welltyped_claims.specs.Shaped.{is_member, all_of, level_ok, Spoken}
use Rattle.xc_welltyped_claims.proofs.Lists.{starts_length}
use Rattle.xc_welltyped_claims.proofs.Things.{in_found}
use Rattle.xc_welltyped_claims.proofs.Judges.{none_right, given_self}
use Rattle.xc_welltyped_structs.proofs.Places.{good_begun, good_behind}
use Rattle.xc_welltyped_expressions.proofs.Names.{either}
use Rattle.xc_welltyped_expressions.proofs.Expressions.{IsJudged}
use Rattle.xc_welltyped_expressions.proofs.Members.{members_given}

-- without braces --------------------------------------------------------------------------

tag_there : (e : Env) → Good e → (name number : ℕ) → tagged name e ≡ Some number → IsTag e.structs.sizes number
tag_there e g name number is = either (found_in name e.own_tags) (found_in name e.file_tags) number is
    (λ own. in_found (IsTag e.structs.sizes) name e.own_tags number own g.own_tags)
    (λ file. in_found (IsTag e.structs.sizes) name e.file_tags number file g.file_tags)

named_given : (at : Span) (e : Env) → Good e → (name : ℕ) (o : Option ℕ) → tagged name e ≡ o → Clean (struct_named at o) e →
    Given e (struct_named at o e).env (IsTag (struct_named at o e).env.structs.sizes (struct_named at o e).part.number)
named_given at e g name None is c = let none : name_fault at ≡ [] = c.faultless in absurd cc
named_given at e g name (Some number) is c = given_self e (IsTag e.structs.sizes number) g (tag_there e g name number is)

-- with braces -----------------------------------------------------------------------------

tag_structs : (name number : ℕ) (e : Env) → (with_tag name number e).structs ≡ e.structs
tag_structs name number e = by (has_none e.own_tags)
  where
    by : (b : Bool) → (cond b (record e { file_tags = declared_in name number e.file_tags }) (record e { own_tags = declared_in name number e.own_tags })).structs ≡ e.structs
    by true = refl
    by false = refl

one_longer : {A : Type 0} (xs : List A) (x : A) → length (xs ++ x ∷ []) ≡ length xs + 1
one_longer [] x = omega arith
one_longer (y ∷ xs) x = let more = one_longer xs x in omega (arith, more)

-- the new struct was opened
opened_there : (e e' : Env) (name : ℕ) → Stays (struct_begun name e) e' → the_next e < length e'.structs.sizes
opened_there e e' name s =
    let begun : (struct_begun name e).structs ≡ table.opened e.structs = tag_structs name (the_next e) (in_struct e) in
    let one : length (struct_begun name e).structs.sizes ≡ length e.structs.sizes + 1 = ap (λ (z : Structs). length z.sizes) begun ∙ one_longer e.structs.sizes 0 in
    let more = starts_length (struct_begun name e).structs.sizes e'.structs.sizes (s.structs.added, s.structs.sizes) in
    omega (arith, one, more)

closed_there : (e e' : Env) (name : ℕ) → Stays (struct_begun name e) e' → IsTag (after_struct (the_next e) e.layout e').structs.sizes (the_next e)
closed_there e e' name s = subst (λ k. the_next e < k) (sym (length-set e'.structs.sizes (the_next e) e'.layout.size)) (opened_there e e' name s)

module _ (t : Text) where
  struct_given : (at : Span) (o : Option ℕ) (ns : List Raw) → IsTrue (is_some o) → IsTrue (all_of is_member ns) → Each (IsJudged t) ns → (e : Env) → Good e → Clean (struct_by at o (map (judged t) ns)) e →
      IsTrue (struct_by at o (map (judged t) ns) e).part.fits →
      Given e (struct_by at o (map (judged t) ns) e).env (IsTag (struct_by at o (map (judged t) ns) e).env.structs.sizes (struct_by at o (map (judged t) ns) e).part.number × Each (Spoken t) ns)
  unfolding struct_by
  struct_given at None ns s x h e g c f = absurd cc
  struct_given at (Some name) [] s x h e g c f =
      let a = named_given at e g name (tagged name e) refl (record { faultless = c.faultless; within = c.within }) in
      record { good = a.good; stays = a.stays; holds = (a.holds, tt) }
  struct_given at (Some name) (m ∷ ms) s x h e g c f =
      let b0 : Env = struct_begun name e in
      let b = members_given t m ms h x b0 (good_begun e g name) (record { faultless = none_right (name_fault_unless (is_new_tag name e) at) _ c.faultless; within = c.within }) in
      let v : Env = (members (map (judged t) (m ∷ ms)) b0).env in
      let r = good_behind e v name g b.good b.stays b.holds.0 f in
      record { good = r.0; stays = r.1; holds = (closed_there e v name b.stays, b.holds.1) }

  pub tagged_given : (node : Raw) (at : Span) (ns : List Raw) → IsTrue (level_ok t node rule.Struct ns) → Each (IsJudged t) ns →
      (e : Env) → Good e → Clean (struct_by at (option_and_then (name_of t) (struct_name t.tokens.now node)) (map (judged t) ns)) e →
      IsTrue (struct_by at (option_and_then (name_of t) (struct_name t.tokens.now node)) (map (judged t) ns) e).part.fits →
      Given e (struct_by at (option_and_then (name_of t) (struct_name t.tokens.now node)) (map (judged t) ns) e).env
      (IsTag (struct_by at (option_and_then (name_of t) (struct_name t.tokens.now node)) (map (judged t) ns) e).env.structs.sizes (struct_by at (option_and_then (name_of t) (struct_name t.tokens.now node)) (map (judged t) ns) e).part.number
      × Each (Spoken t) ns)
  unfolding level_ok
  tagged_given node at ns l h e g c f = struct_given at (option_and_then (name_of t) (struct_name t.tokens.now node)) ns (and_right (all_of is_member ns) _ l) (and_left (all_of is_member ns) _ l) h e g c f
