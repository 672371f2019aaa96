-- Of a text that was lexed and parsed: what its tokens spell, and that its node is shaped.
use Rattle.std.proofs.Common.{◌≡◌, ℕ, List, sym, ap, ◌∙◌, subst}
use Rattle.std.specs.List.{All}
use Rattle.xc_lex.specs.declared.token.Token.{Token}
use Rattle.xc_lex.specs.Source.{IsSpelled}
use Rattle.xc_raw.specs.declared.tree.Raw.{Raw}
use Rattle.xc_type_names.specs.Numbered.{numbered}
use Rattle.xc_type_literals.specs.Constants.{constants_of}
use Rattle.xc_type_literals.specs.Texts.{numbers_of, formats_of, all_taken}
use Rattle.xc_parse.specs.Texts.{words_of, Parsed}
use Rattle.xc_type_expressions.specs.declared.text.Text.{Text}
use Rattle.xc_welltyped_claims.specs.Shaped.{IsUnit, IsLexed}
use Rattle.xc_welltyped_claims.proofs.Lexed.{tokens_lexed}
use Rattle.xc_welltyped_claims.proofs.Shaped.{unit_shaped}

module _ (source : List ℕ) (tokens : List Token) (t : Text) (source_is : t.source.now ≡ source) (tokens_are : t.tokens.now ≡ tokens)
    (names : t.names.now ≡ numbered source tokens) (constants : t.texts.now.constants.items ≡ constants_of source tokens)
    (numbers : t.texts.now.numbers.items ≡ numbers_of tokens) (formats : t.texts.now.formats ≡ formats_of source tokens)
    (takes : t.texts.now.takes.items ≡ all_taken (formats_of source tokens)) where
  names_here : t.names.now ≡ numbered t.source.now t.tokens.now
  names_here = names ∙ (λ i. numbered (sym source_is i) (sym tokens_are i))

  numbers_here : t.texts.now.numbers.items ≡ numbers_of t.tokens.now
  numbers_here = numbers ∙ ap numbers_of (sym tokens_are)

  formats_here : formats_of source tokens ≡ formats_of t.source.now t.tokens.now
  formats_here = (λ i. formats_of (sym source_is i) (sym tokens_are i))

  pub lexed : IsLexed t
  lexed = tokens_lexed t names_here numbers_here (formats ∙ formats_here) (takes ∙ ap all_taken formats_here)

  pub shaped : All (IsSpelled source) tokens → (raw : Raw) → Parsed (words_of source tokens) raw → IsUnit t raw
  shaped h raw p = unit_shaped t names_here (constants ∙ (λ i. constants_of (sym source_is i) (sym tokens_are i))) numbers_here
      (subst (λ ts. All (IsSpelled t.source.now) ts) (sym tokens_are) (subst (λ s. All (IsSpelled s) tokens) (sym source_is) h))
      raw (subst (λ ws. Parsed ws raw) (λ i. words_of (sym source_is i) (sym tokens_are i)) p)
