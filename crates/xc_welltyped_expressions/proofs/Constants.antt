-- Constants without faults.
use Rattle.std.proofs.Common.{◌≡◌, ℕ, List, [], ◌∷◌, map, Bool, true, false, sym, ap, ◌∙◌, subst}
use Rattle.std.specs.Prelude.{IsTrue, is_some, Option, Some, slice_get, unwrap_or, option_map}
use Rattle.xc_lex.specs.declared.number.Number.{Number}
use Rattle.xc_lex.specs.declared.token.Token.{Token}
use Rattle.xc_tree.specs.declared.ty.Ty.{Ty}
use Rattle.xc_tree.proofs.Lists.{and_left, and_right}
use Rattle.xc_raw.specs.declared.rule.Rule.{Rule}
use Rattle.xc_raw.specs.declared.rule.Rule.TheVariants as rule
use Rattle.xc_raw.specs.declared.tree.Raw.{Raw, out-Raw}
use Rattle.xc_raw.specs.declared.word.Word.{Word}
use Rattle.xc_raw_parts.specs.Words.{specifier_words, star_words}
use Rattle.xc_type_rule.specs.declared.found.Found.{Found}
use Rattle.xc_type_rule.specs.Least.{type_fault}
use Rattle.xc_type_rule.specs.Values.{rvalue, rvalue_faults}
use Rattle.xc_type_literals.specs.Constants.{constant_at}
use Rattle.xc_type_declarators.specs.Specifiers.{base_ty}
use Rattle.xc_raw_parts.specs.Spans.{span_of}
use Rattle.xc_raw_parts.specs.Operators.{binary_operator, prefix_operator}
use Rattle.xc_type_constants.specs.Pieces.{Piece, cast_to, strange_piece, piece_by, piece_in}
use Rattle.xc_type_constants.specs.InnerPieces.{pieces_in}
use Rattle.xc_type_scopes.specs.declared.env.Env.{Env}
use Rattle.xc_type_scopes.specs.Judge.{Judge, give, and_then}
use Rattle.xc_type_scopes.specs.Told.{anywhere}
use Rattle.xc_type_expressions.specs.declared.text.Text.{Text}
use Rattle.xc_type_expressions.specs.Operations as operations
use Rattle.xc_type_expressions.specs.Operations.{has_any}
use Rattle.xc_type_expressions.specs.Roles.{Role, value}
use Rattle.xc_type_expressions.specs.Types.{tags, number_of, specified_by}
use Rattle.xc_type_expressions.specs.Judged.{judged, span_in, has_stars, takes_value, with_one, with_two, with_three, operand, by_parts, casted, found_of}
use Rattle.xc_welltyped_claims.specs.Lists.{Each}
use Rattle.xc_welltyped_claims.specs.Env.{Good}
use Rattle.xc_welltyped_claims.specs.Judges.{Clean}
use Rattle.xc_welltyped_claims.specs.Shaped.{rule_in, is_expr, is_specs, all_of, level_ok}
use Rattle.xc_welltyped_claims.proofs.Judges.{clean_first, clean_second}
use Rattle.xc_welltyped_claims.proofs.Nodes.{judged_is}
use Rattle.xc_welltyped_expressions.proofs.Passing.{role_passing, passing_value, passing_one, passing_two}
use Rattle.xc_welltyped_expressions.proofs.Parts.{value_fine}
use Rattle.xc_welltyped_expressions.proofs.Rules.{operand_given}
use Rattle.xc_welltyped_expressions.proofs.Expressions.{IsJudged, expr_part}
use Rattle.xc_welltyped_expressions.proofs.Pieces.{PieceFine, token_fine, prefix_fine, operator_fine, cond_fine, cast_fine, cast_named}

operand_clean : (b : Bool) (r : Role) (e : Env) → Clean (operand b r) e → Clean r.found e
unfolding value
operand_clean true r e c = clean_first r.found (λ f env. give (rvalue env.structs.sizes r.span f) (rvalue_faults r.inner f.known) env) e c (λ x e h. h)
operand_clean false r e c = c

pub value_clean : (r : Role) (e : Env) → Clean (value r) e → Clean r.found e
value_clean r e c = operand_clean true r e c

module _ (t : Text) (node : Raw) where
  abbrev source : List ℕ
  source = t.source.now

  abbrev tokens : List Token
  tokens = t.tokens.now

  abbrev numbers : List (Option Number)
  numbers = t.texts.now.constants.items

  abbrev piece : Raw → Piece
  piece n = piece_in source tokens numbers n

  -- a part as a part of a constant
  part_fine : (n : Raw) → IsJudged t n → IsTrue (is_expr (rule_in n)) → (e : Env) → Good e → Clean (judged t n).found e → PieceFine (piece n)
  part_fine n h x e g c = subst PieceFine (ap (λ (r : Role). r.constant) (judged_is t n))
      (λ asked none. let k = h.role.constant x e g c asked none in record { pure = k.pure; typed = k.typed; value = k.value })

  abbrev CleanParts : Rule → List Raw → Env → Type 0
  CleanParts r ns e = Clean (by_parts t node r (map (judged t) ns)) e

  one_part : (r : Rule) (n : Raw) → IsJudged t n → IsTrue (is_expr (rule_in n)) → (e : Env) → Good e → CleanParts r (n ∷ []) e → PieceFine (piece n)
  unfolding by_parts
  one_part r n h x e g c = part_fine n h x e g (operand_clean (takes_value t node r) (judged t n) e
      (clean_first (operand (takes_value t node r) (judged t n)) (with_one t node r) e c (passing_one t node r)))

  two_parts : (r : Rule) (n m : Raw) → IsJudged t n → IsJudged t m → IsTrue (is_expr (rule_in n)) → IsTrue (is_expr (rule_in m)) → (e : Env) → Good e → CleanParts r (n ∷ m ∷ []) e → PieceFine (piece n) × PieceFine (piece m)
  unfolding by_parts
  two_parts r n m h k x y e g c =
      let j : Judge Found = operand (takes_value t node r) (judged t n) in
      let i : Judge Found = value (judged t m) in
      let w : Found → Found → Judge Found = with_two t node r (judged t n).span in
      let q : Found → Judge Found = λ z. and_then i (w z) in
      let c0 = clean_first j q e c (λ z e h. passing_value (judged t m) (role_passing t m).found e (passing_two t node r (judged t n).span z (i e).part (i e).env h)) in
      let a = operand_given t node (takes_value t node r) n (expr_part t n x h) e g c0 in
      let c1 = clean_first i (w (j e).part) (j e).env (clean_second j q e c) (passing_two t node r (judged t n).span (j e).part) in
      (part_fine n h x e g (operand_clean (takes_value t node r) (judged t n) e c0), part_fine m k y (j e).env a.good (value_clean (judged t m) (j e).env c1))

  three_parts : (r : Rule) (n m l : Raw) → IsJudged t n → IsJudged t m → IsJudged t l → IsTrue (is_expr (rule_in n)) → IsTrue (is_expr (rule_in m)) → IsTrue (is_expr (rule_in l)) →
      (e : Env) → Good e → CleanParts r (n ∷ m ∷ l ∷ []) e → PieceFine (piece n) × PieceFine (piece m) × PieceFine (piece l)
  unfolding by_parts
  three_parts r n m l hn hm hl xn xm xl e g c =
      let i : Judge Found = value (judged t n) in
      let j : Judge Found = value (judged t m) in
      let k : Judge Found = value (judged t l) in
      let last : Found → Found → Found → Judge Found = λ x y z. anywhere (with_three t node r x y z) in
      let q : Found → Found → Judge Found = λ x y. and_then k (last x y) in
      let p : Found → Judge Found = λ x. and_then j (q x) in
      let a0 = clean_first i p e c (λ x e h. passing_value (judged t m) (role_passing t m).found e (passing_value (judged t l) (role_passing t l).found (j e).env h)) in
      let a = value_fine t n (judged t n) (expr_part t n xn hn).found e g a0 in
      let c1 = clean_second i p e c in
      let u : Env = (i e).env in
      let b0 = clean_first j (q (i e).part) u c1 (λ y e h. passing_value (judged t l) (role_passing t l).found e h) in
      let b = value_fine t m (judged t m) (expr_part t m xm hm).found u a.good b0 in
      let c2 = clean_second j (q (i e).part) u c1 in
      let v : Env = (j u).env in
      let d0 = clean_first k (last (i e).part (j u).part) v c2 (λ z e h. h) in
      (part_fine n hn xn e g (value_clean (judged t n) e a0), part_fine m hm xm u a.good (value_clean (judged t m) u b0), part_fine l hl xl v b.good (value_clean (judged t l) v d0))

  -- casts -------------------------------------------------------------------------------------

  -- the type that the specifiers of a cast give
  base_given : (s : Raw) (e : Env) → (o : Option ℕ) × (((judged t s).specified false e).part ≡ base_ty (specifier_words source tokens s) o)
  unfolding specified_by
  base_given s e = (number_of (tags (map (judged t) (out-Raw s).parts) e).part, ap (λ (r : Role). (r.specified false e).part) (judged_is t s))

  cast_parts : (s n : Raw) → IsJudged t s → IsJudged t n → IsTrue (is_specs (rule_in s)) → IsTrue (is_expr (rule_in n)) → (out-Raw node).parts ≡ s ∷ n ∷ [] → (e : Env) → Good e →
      Clean (casted t node (map (judged t) (s ∷ n ∷ []))) e → PieceFine (piece n) × IsTrue (is_some (cast_to source tokens node (slice_get (out-Raw node).parts 0)))
  unfolding casted
  cast_parts s n hs hn xs xn is e g c =
      let i : Judge (Option Ty) = (judged t s).specified false in
      let j : Judge Found = value (judged t n) in
      let last : Option Ty → Found → Judge Found = λ ty v. anywhere (operations.cast_to (span_in t node) (has_stars t node) ty v) in
      let p : Option Ty → Judge Found = λ ty. and_then j (last ty) in
      let a = hs.role.specified xs false e g (clean_first i p e c (λ x e h. passing_value (judged t n) (role_passing t n).found e h)) in
      let c1 = clean_second i p e c in
      let u : Env = (i e).env in
      let b0 = clean_first j (last (i e).part) u c1 (λ y e h. h) in
      let v : Found = (j u).part in
      let none : (operations.cast_to (span_in t node) (has_stars t node) (i e).part v).faults ≡ [] = (clean_second j (last (i e).part) u c1).faultless in
      let stars : List Raw → List Word = λ ps. star_words source tokens (unwrap_or (option_map (λ p. (out-Raw p).end) (slice_get ps 0)) 0) (out-Raw node).end in
      let there : (operations.cast_to (span_in t node) (has_any (stars (s ∷ n ∷ []))) (Some a.holds.0.ty) v).faults ≡ [] =
      subst (λ ps. (operations.cast_to (span_in t node) (has_any (stars ps)) (Some a.holds.0.ty) v).faults ≡ []) is
      (subst (λ ty. (operations.cast_to (span_in t node) (has_stars t node) ty v).faults ≡ []) a.holds.0.known none) in
      let o = base_given s e in (
        part_fine n hn xn u a.good (value_clean (judged t n) u b0),
        subst (λ ps. IsTrue (is_some (cast_to source tokens node (slice_get ps 0)))) (sym is)
            (cast_named (span_in t node) (specifier_words source tokens s) (star_words source tokens (out-Raw s).end (out-Raw node).end) o.0 a.holds.0.ty (sym o.1 ∙ a.holds.0.known) v there),
      )

  -- nodes -------------------------------------------------------------------------------------

  none_strange : PieceFine (strange_piece (span_of tokens node))
  none_strange asked none = let no : type_fault (span_of tokens node) ≡ [] = none in absurd cc

  pub constant_fine : (r : Rule) (ns : List Raw) → (out-Raw node).parts ≡ ns → IsTrue (is_expr r) → IsTrue (level_ok t node r ns) → Each (IsJudged t) ns → (e : Env) → Good e →
      Clean (found_of t node r (map (judged t) ns)) e → PieceFine (piece_by source tokens numbers node r (pieces_in source tokens numbers ns))
  unfolding level_ok found_of piece_by
  constant_fine rule.Prim [] is x l h e g c = token_fine (span_of tokens node) (constant_at numbers (out-Raw node).first)
  constant_fine rule.Prim (n ∷ []) is x l h e g c = one_part rule.Prim n h.0 l e g c
  constant_fine rule.Prim (n ∷ m ∷ ns) is x l h e g c = absurd cc
  constant_fine rule.Unary (n ∷ []) is x l h e g c = prefix_fine (span_of tokens node) (prefix_operator source tokens node) (piece n)
      (one_part rule.Unary n h.0 (and_left (is_expr (rule_in n)) _ l) e g c)
  constant_fine (rule.Binary level) (n ∷ m ∷ []) is x l h e g c =
      let xs = and_left (all_of is_expr (n ∷ m ∷ [])) _ l in
      let ps = two_parts (rule.Binary level) n m h.0 h.1.0 (and_left (is_expr (rule_in n)) _ xs) (and_left (is_expr (rule_in m)) _ (and_right (is_expr (rule_in n)) _ xs)) e g c in
      operator_fine (span_of tokens node) (binary_operator source tokens node) (piece n) (piece m) ps.0 ps.1
  constant_fine rule.Cond (n ∷ m ∷ k ∷ []) is x l h e g c =
      let y = and_right (is_expr (rule_in n)) _ l in
      let ps = three_parts rule.Cond n m k h.0 h.1.0 h.1.1.0 (and_left (is_expr (rule_in n)) _ l) (and_left (is_expr (rule_in m)) _ y) (and_left (is_expr (rule_in k)) _ (and_right (is_expr (rule_in m)) _ y)) e g c in
      cond_fine (piece n) (piece m) (piece k) ps.0 ps.1 ps.2
  constant_fine rule.Cast (s ∷ n ∷ []) is x l h e g c =
      let ps = cast_parts s n h.0 h.1.0 (and_left (is_specs (rule_in s)) _ l) (and_right (is_specs (rule_in s)) _ l) is e g c in
      cast_fine (cast_to source tokens node (slice_get (out-Raw node).parts 0)) (piece n) ps.1 ps.0
  constant_fine rule.Comma ns is x l h e g c = none_strange
  constant_fine rule.Assign ns is x l h e g c = none_strange
  constant_fine rule.Postfix ns is x l h e g c = none_strange
  constant_fine _ ns is x l h e g c = absurd cc
