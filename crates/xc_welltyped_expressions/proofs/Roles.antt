-- What each role of a node without faults is.
use Rattle.std.proofs.Common.{◌≡◌, List, [], ◌∷◌, map, false, refl, sym, subst}
use Rattle.std.specs.Prelude.{IsTrue, is_some}
use Rattle.xc_tree.proofs.Lists.{and_both}
use Rattle.xc_raw.specs.declared.rule.Rule.{Rule}
use Rattle.xc_raw.specs.declared.rule.Rule.TheVariants as rule
use Rattle.xc_raw.specs.declared.tree.Raw.{Raw, out-Raw}
use Rattle.xc_type_declarators.specs.declared.declarators.Bound.{Bound}
use Rattle.xc_raw_parts.specs.Names.{struct_name}
use Rattle.xc_type_constants.specs.Pieces.{piece_in}
use Rattle.xc_type_constants.proofs.Nodes.{piece_is}
use Rattle.xc_type_scopes.specs.declared.env.Env.{Env}
use Rattle.xc_type_scopes.specs.Judge.{Judge}
use Rattle.xc_type_expressions.specs.declared.text.Text.{Text}
use Rattle.xc_type_expressions.specs.Types.{bounds}
use Rattle.xc_type_expressions.specs.Judged.{judged, role_of, span_in, spot_in}
use Rattle.xc_welltyped_claims.specs.Lists.{Each}
use Rattle.xc_welltyped_claims.specs.Env.{Good}
use Rattle.xc_welltyped_claims.specs.Judges.{Clean, Gives}
use Rattle.xc_welltyped_claims.specs.Shaped.{rule_in, is_expr, is_specs, is_struct, is_member, is_declr, all_of, is_token, level_ok, Shaped, IsLexed, Spoken}
use Rattle.xc_welltyped_claims.specs.Roles.{IsBase, RoleFine}
use Rattle.xc_welltyped_claims.proofs.Nodes as nodes
use Rattle.xc_welltyped_claims.proofs.Nodes.{judged_is, level_shaped, parts_shaped}
use Rattle.xc_welltyped_claims.proofs.Strings.{spoken_of}
use Rattle.xc_welltyped_expressions.proofs.Expressions.{IsJudged, found_fine}
use Rattle.xc_welltyped_expressions.proofs.Pieces.{PieceFine}
use Rattle.xc_welltyped_expressions.proofs.Constants.{constant_fine}
use Rattle.xc_welltyped_expressions.proofs.Bounds.{bounds_given, declarator_given}
use Rattle.xc_welltyped_expressions.proofs.Specified.{specified_given}
use Rattle.xc_welltyped_expressions.proofs.Members.{declaration_given}
use Rattle.xc_welltyped_expressions.proofs.Structs.{tagged_given}

-- rules ---------------------------------------------------------------------------------

specs_is : (r : Rule) → IsTrue (is_specs r) → r ≡ rule.Specs
specs_is rule.Specs h = refl
specs_is _ h = absurd cc

struct_is : (r : Rule) → IsTrue (is_struct r) → r ≡ rule.Struct
struct_is rule.Struct h = refl
struct_is _ h = absurd cc

member_is : (r : Rule) → IsTrue (is_member r) → r ≡ rule.Member
member_is rule.Member h = refl
member_is _ h = absurd cc

declr_is : (r : Rule) → IsTrue (is_declr r) → r ≡ rule.Declr
declr_is rule.Declr h = refl
declr_is _ h = absurd cc

module _ (t : Text) (lexed : IsLexed t) where
  module _ (node : Raw) (s : Shaped t node) (h : Each (IsJudged t) (out-Raw node).parts) where
    abbrev parts : List Raw
    parts = (out-Raw node).parts

    level : (r : Rule) → rule_in node ≡ r → IsTrue (level_ok t node r parts)
    level r is = subst (λ q. IsTrue (level_ok t node q parts)) is (level_shaped t node s)

    spoken : (r : Rule) → rule_in node ≡ r → is_token r parts ≡ false → Each (Spoken t) parts → Spoken t node
    spoken r is e p = spoken_of t lexed node s (subst (λ q. is_token q parts ≡ false) (sym is) e) p

    wrapped : {A : Type 0} (Q : Env → A → Type 0) (j : Judge A) → (Each (Spoken t) parts → Spoken t node) → Gives (λ e x. Q e x × Each (Spoken t) parts) j → Gives (λ e x. Q e x × Spoken t node) j
    wrapped Q j up f e g c = let b = f e g c in record { good = b.good; stays = b.stays; holds = (b.holds.0, up b.holds.1) }

    piece_fine : IsTrue (is_expr (rule_in node)) → (e : Env) → Good e → Clean (role_of t node (map (judged t) parts)).found e → PieceFine (piece_in t.source.now t.tokens.now t.texts.now.constants.items node)
    piece_fine x e g c = subst PieceFine (sym (piece_is t.source.now t.tokens.now t.texts.now.constants.items node))
        (constant_fine t node (rule_in node) parts refl x (level_shaped t node s) h e g c)

    role_given : RoleFine t node (role_of t node (map (judged t) parts))
    role_given = record {
      found = λ x. found_fine t lexed node (rule_in node) parts x (level_shaped t node s) h (λ e p. spoken_of t lexed node s e p);
      constant = λ x e g c asked none. let k = piece_fine x e g c asked none in record { pure = k.pure; typed = k.typed; value = k.value };
      specified = λ x outermost. let is = specs_is (rule_in node) x in
          wrapped (λ e ty. IsBase e ty) _ (spoken rule.Specs is refl) (specified_given t node (span_in t node) parts (level rule.Specs is) h outermost);
      struct = λ x e g c f. let is = struct_is (rule_in node) x in
          let b = tagged_given t node (spot_in t (struct_name t.tokens.now node)) parts (level rule.Struct is) h e g c f in
          record { good = b.good; stays = b.stays; holds = (b.holds.0, spoken rule.Struct is refl b.holds.1) };
      member = λ x. let is = member_is (rule_in node) x in
          λ e g c. let b = declaration_given t node parts (level rule.Member is) h e g c in
          record { good = b.good; stays = b.stays; holds = (b.holds.0, spoken rule.Member is refl b.holds.1) };
      declared = λ x base e g k c. let is = declr_is (rule_in node) x in
          let b = declarator_given t node parts (level rule.Declr is) h base e g k c in
          record { good = b.good; stays = b.stays; holds = (b.holds.0, spoken rule.Declr is refl b.holds.1) };
    }

  -- nodes -----------------------------------------------------------------------------------

  abbrev IsFine : Raw → Type 0
  IsFine n = Shaped t n → RoleFine t n (judged t n)

  all_judged : (ns : List Raw) → Each IsFine ns → Each (Shaped t) ns → Each (IsJudged t) ns
  all_judged [] f s = tt
  all_judged (n ∷ ns) f s = (record { shaped = s.0; role = f.0 s.0 }, all_judged ns f.1 s.1)

  -- the theorem
  pub role_fine : (node : Raw) → Shaped t node → RoleFine t node (judged t node)
  role_fine = nodes.by_parts IsFine (λ node f s. subst (RoleFine t node) (sym (judged_is t node)) (role_given node s (all_judged (out-Raw node).parts f (parts_shaped t node s))))

  pub judged_fine : (n : Raw) → Shaped t n → IsJudged t n
  judged_fine n s = record { shaped = s; role = role_fine n s }

  -- the bounds of a parameter have values
  bounds_judged : (ns : List Raw) → Each (λ n. Shaped t n × IsTrue (is_expr (rule_in n))) ns → Each (IsJudged t) ns × IsTrue (all_of is_expr ns)
  bounds_judged [] h = (tt, refl)
  bounds_judged (n ∷ ns) h = let rest = bounds_judged ns h.1 in ((judged_fine n h.0.0, rest.0), and_both (is_expr (rule_in n)) _ h.0.1 rest.1)

  pub bounds_fine : (ns : List Raw) → Each (λ n. Shaped t n × IsTrue (is_expr (rule_in n))) ns → Gives (λ e bs. Each (λ (b : Bound). IsTrue (is_some b.value)) bs × Each (Spoken t) ns) (bounds (map (judged t) ns))
  bounds_fine ns h = let b = bounds_judged ns h in bounds_given t ns b.0 b.1
