-- Specifiers without faults.
use Rattle.std.proofs.Common.{◌≡◌, ℕ, List, [], ◌∷◌, map, length, Bool, true, false, refl, sym, ap, ◌∙◌, arith}
use Rattle.std.specs.Prelude.{IsTrue, nat_lt, Option, None, slice_get}
use Rattle.std.proofs.lemmas.Bool.{lt-ltb, eqb-true}
use Rattle.xc_text_place.specs.declared.Span.{Span}
use Rattle.xc_tree.specs.declared.ty.Ty.{Ty}
use Rattle.xc_tree.proofs.Lists.{and_left, and_right}
use Rattle.xc_raw.specs.declared.rule.Rule.TheVariants as rule
use Rattle.xc_raw.specs.declared.tree.Raw.{Raw}
use Rattle.xc_raw.specs.declared.word.Word.{Word}
use Rattle.xc_raw_parts.specs.Words.{specifier_words}
use Rattle.xc_type_rule.specs.Least.{fault_unless}
use Rattle.xc_raw.specs.Kinds as kinds
use Rattle.xc_type_declarators.specs.Specifiers as words
use Rattle.xc_type_declarators.specs.Specifiers.{often, base_ty, are_sound, specifier_faults}
use Rattle.xc_type_scopes.specs.declared.env.Env.{Env}
use Rattle.xc_type_scopes.specs.Judge.{Judge, give, and_then, each}
use Rattle.xc_type_expressions.specs.declared.text.Text.{Text}
use Rattle.xc_type_expressions.specs.declared.types.Tagged.{Tagged}
use Rattle.xc_type_expressions.specs.Roles.{Role}
use Rattle.xc_type_expressions.specs.Types.{number_of, all_fit, specifier_type, specified_faults, specified_by}
use Rattle.xc_type_expressions.specs.Judged.{judged}
use Rattle.xc_welltyped_claims.specs.Lists.{Each}
use Rattle.xc_welltyped_claims.specs.Things.{IsTag}
use Rattle.xc_welltyped_claims.specs.Env.{Good, Stays}
use Rattle.xc_welltyped_claims.specs.Judges.{Clean, Given, Gives}
use Rattle.xc_welltyped_claims.specs.Shaped.{rule_in, is_struct, all_of, level_ok, Spoken}
use Rattle.xc_welltyped_claims.specs.Roles.{IsBase}
use Rattle.xc_welltyped_claims.proofs.Env.{stays_then}
use Rattle.xc_welltyped_claims.proofs.Lists.{starts_length}
use Rattle.xc_welltyped_claims.proofs.Judges.{none_left, none_right, clean_first, clean_second, given_self, passing_give, passing_then, passing_each}
use Rattle.xc_welltyped_structs.proofs.Declared.{specified_base}
use Rattle.xc_welltyped_expressions.proofs.Passing.{all_passing, passing_all}
use Rattle.xc_welltyped_expressions.proofs.Parts.{map_many, each_many}
use Rattle.xc_welltyped_expressions.proofs.Expressions.{IsJudged}

-- a struct that was opened still is
pub tag_behind : (e e' : Env) → Stays e e' → (number : ℕ) → IsTag e.structs.sizes number → IsTag e'.structs.sizes number
tag_behind e e' s number h = let more = starts_length e.structs.sizes e'.structs.sizes (s.structs.added, s.structs.sizes) in omega (arith, h, more)

-- the struct of each specifier was opened
abbrev pub AreTags : Env → List Tagged → Type 0
AreTags e xs = Each (λ (x : Tagged). IsTag e.structs.sizes x.number) xs

-- a rule that is kept
pub kept_if : (span : Span) (b : Bool) → fault_unless b span ≡ [] → IsTrue b
kept_if span true none = refl
kept_if span false none = absurd cc

module _ (t : Text) where
  abbrev structs_of : List Raw → List (Judge Tagged)
  structs_of ns = map (λ (r : Role). r.struct) (map (judged t) ns)

  structs_passing : (ns : List Raw) → (e : Env) → (each (structs_of ns) e).env.over ≡ None → e.over ≡ None
  structs_passing ns = passing_each (structs_of ns) (passing_all (λ (r : Role). r.struct) (λ r q. q.struct) (map (judged t) ns) (all_passing t ns))

  tags_given : (ns : List Raw) → Each (IsJudged t) ns → IsTrue (all_of is_struct ns) → (e : Env) → Good e → Clean (each (structs_of ns)) e → IsTrue (all_fit (each (structs_of ns) e).part) →
      Given e (each (structs_of ns) e).env (AreTags (each (structs_of ns) e).env (each (structs_of ns) e).part × Each (Spoken t) ns)
  unfolding each
  tags_given [] h x e g c f = given_self e (Unit {0} × Unit {0}) g (tt, tt)
  tags_given (n ∷ ns) h x e g c f =
      let j : Judge Tagged = (judged t n).struct in
      let js : Judge (List Tagged) = each (structs_of ns) in
      let k : Tagged → Judge (List Tagged) = λ y. and_then js (λ ys. give (y ∷ ys) []) in
      let v : Env = (j e).env in
      let a = h.0.role.struct (and_left (is_struct (rule_in n)) _ x) e g (clean_first j k e c (λ y. passing_then js (λ ys. give (y ∷ ys) []) (structs_passing ns) (λ ys. passing_give (y ∷ ys) []))) (and_left (j e).part.fits _ f) in
      let d = clean_second j k e c in
      let b = tags_given ns h.1 (and_right (is_struct (rule_in n)) _ x) v a.good (clean_first js (λ ys. give ((j e).part ∷ ys) []) v d (λ ys. passing_give ((j e).part ∷ ys) [])) (and_right (j e).part.fits _ f) in
      record {
        good = b.good;
        stays = stays_then e v (js v).env a.stays b.stays;
        holds = ((tag_behind v (js v).env b.stays (j e).part.number a.holds.0, b.holds.0), (a.holds.1, b.holds.1));
      }

  -- their numbers ---------------------------------------------------------------------------

  abbrev numbers : List Tagged → List ℕ
  numbers xs = map (λ (x : Tagged). x.number) xs

  first_number : (xs : List Tagged) → slice_get (numbers xs) 0 ≡ number_of xs
  first_number [] = refl
  first_number (x ∷ xs) = refl

  below : (ns : List ℕ) (xs : List Tagged) → Each (λ (x : Tagged). IsTag ns x.number) xs → Each (λ n. IsTrue (nat_lt n (length ns))) (numbers xs)
  below ns [] h = tt
  below ns (x ∷ xs) h = (lt-ltb x.number (length ns) h.0, below ns xs h.1)

  module _ (node : Raw) where
    abbrev ws : List Word
    ws = specifier_words t.source.now t.tokens.now node

    pub specified_given : (span : Span) (ns : List Raw) → IsTrue (level_ok t node rule.Specs ns) → Each (IsJudged t) ns → (outermost : Bool) →
        Gives (λ e ty. IsBase e ty × Each (Spoken t) ns) (specified_by span ws (map (judged t) ns) outermost)
    unfolding level_ok specified_by
    specified_given span ns l h outermost e g c =
        let j : Judge (List Tagged) = each (structs_of ns) in
        let k : List Tagged → Judge (Option Ty) = λ xs. give (specifier_type ws xs) (specified_faults outermost span ws xs) in
        let none = (clean_second j k e c).faultless in
        let xs : List Tagged = (j e).part in
        let v : Env = (j e).env in
        let a = tags_given ns h (and_left (all_of is_struct ns) _ l) e g (clean_first j k e c (λ xs e h. h)) (kept_if span (all_fit xs) (none_right (specifier_faults outermost span ws) _ none)) in
        let many : often kinds.is_struct ws ≡ length (numbers xs) = eqb-true (often kinds.is_struct ws) (length ns) (and_right (all_of is_struct ns) _ l)
        ∙ sym (map_many (λ (x : Tagged). x.number) xs ∙ each_many (structs_of ns) e ∙ map_many (λ (r : Role). r.struct) (map (judged t) ns) ∙ map_many (judged t) ns) in
        let b = specified_base v.structs.sizes ws (numbers xs) outermost (kept_if span (are_sound outermost ws) (none_left (specifier_faults outermost span ws) _ none)) many (below v.structs.sizes xs a.holds.0) in
        record {
          good = a.good;
          stays = a.stays;
          holds = (record { ty = b.0; known = sym (ap (base_ty ws) (first_number xs)) ∙ b.1; fits = b.2 }, a.holds.1);
        }
