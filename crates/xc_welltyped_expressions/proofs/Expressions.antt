-- What expressions without faults are found to be.
use Rattle.std.proofs.Common.{◌≡◌, ◌+◌, List, [], ◌∷◌, map, Bool, true, false, refl, cond}
use Rattle.std.specs.Prelude.{IsTrue, ◌==◌, Option, Some, None}
use Rattle.std.proofs.lemmas.Bool.{eqb-true}
use Rattle.xc_tree.proofs.Lists.{and_left, and_right}
use Rattle.xc_raw.specs.declared.rule.Rule.{Rule}
use Rattle.xc_raw.specs.declared.rule.Rule.TheVariants as rule
use Rattle.xc_raw.specs.declared.tree.Raw.{Raw, out-Raw}
use Rattle.xc_type_rule.specs.declared.found.Found.{Found}
use Rattle.xc_raw_parts.specs.declared.operators.Suffix.{Suffix}
use Rattle.xc_raw_parts.specs.declared.operators.Suffix.TheVariants as suffix
use Rattle.xc_type_scopes.specs.Judge.{Judge}
use Rattle.xc_type_expressions.specs.declared.text.Text.{Text}
use Rattle.xc_type_expressions.specs.Calls.{called}
use Rattle.xc_type_expressions.specs.Judged.{judged, span_in, suffix_in, by_parts, is_call, found_of}
use Rattle.xc_welltyped_claims.specs.Lists.{Each}
use Rattle.xc_welltyped_claims.specs.Judges.{Gives}
use Rattle.xc_welltyped_claims.specs.Found.{Fine}
use Rattle.xc_welltyped_claims.specs.Shaped.{rule_in, is_expr, is_specs, all_of, is_token, postfix_ok, level_ok, Shaped, IsLexed, Spoken}
use Rattle.xc_welltyped_claims.specs.Roles.{RoleFine}
use Rattle.xc_welltyped_expressions.proofs.Parts.{IsPart}
use Rattle.xc_welltyped_expressions.proofs.Called.{called_fine}
use Rattle.xc_welltyped_expressions.proofs.Rules.{token_given, one_given, grouped_given, unary_given, postfix_given, two_given, index_given, binary_given, assign_given, comma_given, cond_given, cast_given}

-- what is known of a part
pub record IsJudged (t : Text) (n : Raw) : Type 0 where
  pub shaped : Shaped t n
  pub role : RoleFine t n (judged t n)

module _ (t : Text) where
  pub expr_part : (n : Raw) → IsTrue (is_expr (rule_in n)) → IsJudged t n → IsPart t n
  expr_part n x h = record { shaped = h.shaped; found = h.role.found x }

  pub expr_parts : (ns : List Raw) → IsTrue (all_of is_expr ns) → Each (IsJudged t) ns → Each (IsPart t) ns
  expr_parts [] x h = tt
  expr_parts (n ∷ ns) x h = (expr_part n (and_left (is_expr (rule_in n)) _ x) h.0, expr_parts ns (and_right (is_expr (rule_in n)) _ x) h.1)

module _ (t : Text) (lexed : IsLexed t) (node : Raw) where
  abbrev Node : Judge Found → Type 0
  Node j = Gives (λ e f. Fine t e f × Spoken t node) j

  abbrev Parts : List Raw → Judge Found → Type 0
  Parts ns j = Gives (λ e f. Fine t e f × Each (Spoken t) ns) j

  whole : (ns : List Raw) (j : Judge Found) → (Each (Spoken t) ns → Spoken t node) → Parts ns j → Node j
  whole ns j up f e g c = let b = f e g c in record { good = b.good; stays = b.stays; holds = (b.holds.0, up b.holds.1) }

  several : (o : Option Suffix) (n m : Raw) (ns : List Raw) → IsTrue (postfix_ok o (n ∷ m ∷ ns)) → is_call o ≡ false → ⊥
  several None n m ns h c = cc
  several (Some suffix.Call) n m ns h c = cc
  several (Some suffix.Index) n m ns h c = cc
  several (Some (suffix.Access a)) n m ns h c = cc
  several (Some (suffix.Step s)) n m ns h c = cc

  -- a call, an element, a member or a step
  postfix_parts : (b : Bool) → is_call (suffix_in t node) ≡ b → (n : Raw) (ns : List Raw) → IsPart t n → Each (IsPart t) ns → IsTrue (postfix_ok (suffix_in t node) ns) →
      Parts (n ∷ ns) (cond b (called t (span_in t node) (map (judged t) (n ∷ ns))) (by_parts t node rule.Postfix (map (judged t) (n ∷ ns))))
  postfix_parts true is n ns hn hs h = called_fine t lexed (span_in t node) n hn ns hs
  postfix_parts false is n [] hn hs h = one_given t node rule.Postfix n hn (postfix_given t node h is)
  postfix_parts false is n (i ∷ []) hn hs h = two_given t node rule.Postfix n i hn hs.0 (λ a b e g x y c. index_given t node i h is (judged t n).span a b e g x y c)
  postfix_parts false is n (i ∷ j ∷ ns) hn hs h = absurd (several (suffix_in t node) i j ns h is)

  pub found_fine : (r : Rule) (ns : List Raw) → IsTrue (is_expr r) → IsTrue (level_ok t node r ns) → Each (IsJudged t) ns → (is_token r ns ≡ false → Each (Spoken t) ns → Spoken t node) → Node (found_of t node r (map (judged t) ns))
  unfolding level_ok found_of
  found_fine rule.Prim [] x l h up = token_given t node lexed
      (record { first = refl; end = eqb-true (out-Raw node).end ((out-Raw node).first + 1) (and_left ((out-Raw node).end == (out-Raw node).first + 1) _ l) })
      (and_right ((out-Raw node).end == (out-Raw node).first + 1) _ l)
  found_fine rule.Prim (n ∷ []) x l h up = whole (n ∷ []) _ (up refl) (one_given t node rule.Prim n (expr_part t n l h.0) (grouped_given t node))
  found_fine rule.Prim (n ∷ m ∷ ns) x l h up = absurd cc
  found_fine rule.Postfix [] x l h up = absurd cc
  found_fine rule.Postfix (n ∷ ns) x l h up =
      let hs = expr_parts t (n ∷ ns) (and_left (all_of is_expr (n ∷ ns)) _ l) h in
      whole (n ∷ ns) _ (up refl) (postfix_parts (is_call (suffix_in t node)) refl n ns hs.0 hs.1 (and_right (all_of is_expr (n ∷ ns)) _ l))
  found_fine rule.Unary (n ∷ []) x l h up = whole (n ∷ []) _ (up refl)
      (one_given t node rule.Unary n (expr_part t n (and_left (is_expr (rule_in n)) _ l) h.0) (unary_given t node (and_right (is_expr (rule_in n)) _ l)))
  found_fine rule.Cast (s ∷ n ∷ []) x l h up = whole (s ∷ n ∷ []) _ (up refl)
      (cast_given t node s n (h.0.role.specified (and_left (is_specs (rule_in s)) _ l) false) (expr_part t n (and_right (is_specs (rule_in s)) _ l) h.1.0))
  found_fine (rule.Binary level) (n ∷ m ∷ []) x l h up =
      let hs = expr_parts t (n ∷ m ∷ []) (and_left (all_of is_expr (n ∷ m ∷ [])) _ l) h in
      whole (n ∷ m ∷ []) _ (up refl) (two_given t node (rule.Binary level) n m hs.0 hs.1.0
      (λ a b e g y z c. binary_given t node (judged t n).span a b e g y z level (and_right (all_of is_expr (n ∷ m ∷ [])) _ l) c))
  found_fine rule.Assign (n ∷ m ∷ []) x l h up =
      let hs = expr_parts t (n ∷ m ∷ []) (and_left (all_of is_expr (n ∷ m ∷ [])) _ l) h in
      whole (n ∷ m ∷ []) _ (up refl) (two_given t node rule.Assign n m hs.0 hs.1.0
      (λ a b e g y z c. assign_given t node (judged t n).span a b e g y z (and_right (all_of is_expr (n ∷ m ∷ [])) _ l) c))
  found_fine rule.Comma (n ∷ m ∷ []) x l h up =
      let hs = expr_parts t (n ∷ m ∷ []) l h in
      whole (n ∷ m ∷ []) _ (up refl) (two_given t node rule.Comma n m hs.0 hs.1.0 (λ a b e g y z c. comma_given t node (judged t n).span a b e g y z c))
  found_fine rule.Cond (n ∷ m ∷ k ∷ []) x l h up =
      let hs = expr_parts t (n ∷ m ∷ k ∷ []) l h in
      whole (n ∷ m ∷ k ∷ []) _ (up refl) (cond_given t node n m k hs.0 hs.1.0 hs.1.1.0)
  found_fine _ ns x l h up = absurd cc
