-- What each item of a text does (C99 6.9).
use Rattle.std.proofs.Common.{◌≡◌, List, [], ◌∷◌, true, false, refl, ap, ◌∙◌, subst}
use Rattle.std.specs.Prelude.{IsTrue}
use Rattle.xc_raw.specs.declared.rule.Rule.{Rule}
use Rattle.xc_raw.specs.declared.rule.Rule.TheVariants as rule
use Rattle.xc_raw.specs.declared.tree.Raw.{Raw, out-Raw}
use Rattle.xc_parse_grammar.specs.Grammar.{is_item}
use Rattle.xc_type_expressions.specs.declared.text.Text.{Text}
use Rattle.xc_type_expressions.specs.Judged.{span_in}
use Rattle.xc_type_unit.specs.Items.{Item}
use Rattle.xc_type_unit.specs.Globals as globals
use Rattle.xc_type_unit.specs.Functions as functions
use Rattle.xc_type_unit.specs.Functions.{Bodies}
use Rattle.xc_type_unit.specs.Texts as texts
use Rattle.xc_welltyped_claims.specs.Lists.{Each}
use Rattle.xc_welltyped_claims.specs.Shaped.{rule_in, is_token, level_ok, Shaped, IsLexed, Spoken}
use Rattle.xc_welltyped_claims.proofs.Env.{extends_then}
use Rattle.xc_welltyped_claims.proofs.Nodes.{parts_shaped, level_shaped}
use Rattle.xc_welltyped_claims.proofs.Strings.{spoken_of}
use Rattle.xc_welltyped_statements.proofs.Simple.{none_spoken}
use Rattle.xc_welltyped_unit.specs.Files.{AreApart, Does, DoesParts}
use Rattle.xc_welltyped_unit.proofs.Pragmas.{pragma_fine, past_fine}
use Rattle.xc_welltyped_unit.proofs.Declarations.{declaration_done}
use Rattle.xc_welltyped_unit.proofs.Done.{function_done}

module _ (t : Text) (lexed : IsLexed t) (b : Bodies) (apart : AreApart b) (node : Raw) (shaped : Shaped t node) where
  abbrev parts : List Raw
  parts = (out-Raw node).parts

  level : (r : Rule) → rule_in node ≡ r → IsTrue (level_ok t node r parts)
  level r is = subst (λ q. IsTrue (level_ok t node q parts)) is (level_shaped t node shaped)

  spoken : (r : Rule) → rule_in node ≡ r → is_token r parts ≡ false → Each (Spoken t) parts → Spoken t node
  spoken r is e s = spoken_of t lexed node shaped (ap (λ q. is_token q parts) is ∙ e) s

  -- behind the pragmas before it
  past : (i : Item) → (Each (Spoken t) parts → Spoken t node) → DoesParts t b parts i → Does t b node (λ s. i (texts.past_pragmas s))
  past i up does s f c =
      let p = past_fine t b s f in
      let d = does (texts.past_pragmas s) p.0 (record { faultless = c.faultless; within = c.within }) in
      record { fine = d.0; extends = extends_then s.env (texts.past_pragmas s).env (i (texts.past_pragmas s)).scope.env p.1 d.1; spoken = up d.2 }

  function_by : (ps : List Raw) → Each (Shaped t) ps → IsTrue (level_ok t node rule.Function ps) → DoesParts t b ps (functions.function t b ps)
  unfolding level_ok
  function_by [] h l = absurd cc
  function_by (specs ∷ []) h l = absurd cc
  function_by (specs ∷ callee ∷ []) h l = absurd cc
  function_by (specs ∷ callee ∷ params ∷ rest) h l = function_done t lexed b apart node specs callee params rest h l

  does_by : (r : Rule) → rule_in node ≡ r → is_item r ≡ true → Does t b node (texts.item_by t b node r)
  unfolding texts.item_by level_ok
  does_by rule.Pragma is x = λ s f c.
      let p = pragma_fine t b s f (span_in t node) in
      record { fine = p.0; extends = p.1; spoken = spoken rule.Pragma is refl (none_spoken t parts (level rule.Pragma is)) }
  does_by rule.Declaration is x = past (globals.declaration t parts) (spoken rule.Declaration is refl)
      (declaration_done t lexed b node parts (level rule.Declaration is) (parts_shaped t node shaped))
  does_by rule.Function is x = past (functions.function t b parts) (spoken rule.Function is refl) (function_by parts (parts_shaped t node shaped) (level rule.Function is))
  does_by _ is x = absurd (let no : false ≡ true = x in cc)

pub item_does : (t : Text) → IsLexed t → (b : Bodies) → AreApart b → (node : Raw) → Shaped t node → is_item (rule_in node) ≡ true → Does t b node (texts.item t b node)
unfolding texts.item
item_does t lexed b apart node shaped x = does_by t lexed b apart node shaped (rule_in node) refl x
