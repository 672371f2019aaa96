-- What the tokens of the lexer spell.
use Rattle.std.proofs.Common.{◌≡◌, ℕ, ◌<◌, List, map, length, Bool, true, false, position, refl, sym, ap, ◌∙◌, subst, if◌then◌else◌}
use Rattle.std.specs.Prelude.{◌&&◌, nat_eq, Option, Some, None, option_map, option_and_then, unwrap_or, get_or, slice_get}
use Rattle.std.proofs.lemmas.Bool.{eqb-true, eq-eqb}
use Rattle.std.proofs.lemmas.List.{length-map}
use Rattle.std.proofs.lemmas.Option.{slice_get-map, slice_get_within, slice_get-get_or}
use Rattle.xc_lex.specs.declared.token.Token.{Token}
use Rattle.xc_lex.specs.declared.token.TokenKind.{TokenKind}
use Rattle.xc_lex.specs.declared.token.TokenKind.TheVariants as kind
use Rattle.xc_raw.specs.declared.word.Word.TheVariants as word
use Rattle.xc_raw.specs.declared.word.Literal.TheVariants as literal
use Rattle.xc_raw.specs.Words.{word_of}
use Rattle.xc_tree.specs.Formats.{integers_taken}
use Rattle.xc_type_names.specs.Numbered.{Numbered, numbered, spellings, text_of}
use Rattle.xc_type_names.specs.Numbered as named
use Rattle.xc_type_literals.specs.declared.texts.Literal.{Literal}
use Rattle.xc_text_place.specs.Stretches.{stretch_eq}
use Rattle.xc_type_literals.specs.Texts.{is_text_kind, is_text, stretch, stretches, numbers_of, number_in, literal_of, text_at, formats_of, all_taken}
use Rattle.xc_type_literals.specs.Texts as texts
use Rattle.xc_raw_parts.specs.Words.{word_in}
use Rattle.xc_raw_parts.specs.Spans.{word_at}
use Rattle.xc_type_rule_calls.proofs.Formats.{integers_agree}
use Rattle.xc_type_expressions.specs.declared.text.Text.{Text}
use Rattle.xc_type_expressions.specs.Places.{name_of}
use Rattle.xc_welltyped_claims.specs.Shaped.{literal_in, IsLiteral, IsSpelled, IsLexed}
use Rattle.xc_welltyped_claims.proofs.Keys.{place_holds, is_key, are_unique}
use Rattle.xc_welltyped_claims.proofs.Tokens.{literal_at, place_of_text}

-- what was made is made of something ----------------------------------------------------

then_some : {A B : Type 0} (f : A → Option B) (o : Option A) (y : B) → option_and_then f o ≡ Some y → (x : A) × (o ≡ Some x) × (f x ≡ Some y)
then_some f None y e = absurd cc
then_some f (Some x) y e = (x, refl, e)

map_some : {A B : Type 0} (f : A → B) (o : Option A) (y : B) → option_map f o ≡ Some y → (x : A) × (o ≡ Some x) × (f x ≡ y)
map_some f None y e = absurd cc
map_some f (Some x) y e = (x, refl, cc)

if_some : {A : Type 0} (b : Bool) (o : Option A) (y : A) → (if b then o else None) ≡ Some y → (b ≡ true) × (o ≡ Some y)
if_some true o y e = (refl, e)
if_some false o y e = absurd cc

-- the token of which it is made
token_some : {A : Type 0} (f : Token → Option A) (ts : List Token) (k : ℕ) (y : A) → option_and_then (λ n. n) (slice_get (map f ts) k) ≡ Some y → (x : Token) × (slice_get ts k ≡ Some x) × (f x ≡ Some y)
token_some f ts k y e =
    let a = then_some (λ n. n) (slice_get (map f ts) k) y e in
    let b = map_some f (slice_get ts k) a.0 (sym (slice_get-map f ts k) ∙ a.1) in
    (b.0, b.1, b.2 ∙ a.2)

name_word : (k : TokenKind) (bs : List ℕ) → named.name_at k ≡ true → word_of k bs ≡ word.Name
name_word kind.Name bs e = refl
name_word kind.Keyword bs e = absurd cc
name_word kind.Number bs e = absurd cc
name_word kind.Text bs e = absurd cc
name_word kind.Punctuator bs e = absurd cc
name_word kind.Pragma bs e = absurd cc

text_word : (k : TokenKind) (bs : List ℕ) → is_text_kind k ≡ true → word_of k bs ≡ word.Literal literal.Text
text_word kind.Name bs e = absurd cc
text_word kind.Keyword bs e = absurd cc
text_word kind.Number bs e = absurd cc
text_word kind.Text bs e = refl
text_word kind.Punctuator bs e = absurd cc
text_word kind.Pragma bs e = absurd cc

and_true : (b c : Bool) → (b && c) ≡ true → (b ≡ true) × (c ≡ true)
and_true true c e = (refl, e)
and_true false c e = absurd cc

stretch_back : (p q : ℕ × ℕ) → stretch_eq p q ≡ true → stretch_eq q p ≡ true
stretch_back p q e =
    let two = and_true (nat_eq p.0 q.0) (nat_eq p.1 q.1) e in
    (λ i. eq-eqb q.0 p.0 (sym (eqb-true p.0 q.0 two.0)) i && eq-eqb q.1 p.1 (sym (eqb-true p.1 q.1 two.1)) i)

module _ (t : Text) (names : t.names.now ≡ numbered t.source.now t.tokens.now) (numbers : t.texts.now.numbers.items ≡ numbers_of t.tokens.now)
    (formats : t.texts.now.formats ≡ formats_of t.source.now t.tokens.now) (takes : t.texts.now.takes.items ≡ all_taken (formats_of t.source.now t.tokens.now)) where
  abbrev source : List ℕ
  source = t.source.now

  abbrev tokens : List Token
  tokens = t.tokens.now

  abbrev known : List (ℕ × ℕ)
  known = stretches tokens

  abbrev taken : List (Option ℕ)
  taken = t.texts.now.takes.items

  word_here : (k : ℕ) (x : Token) → slice_get tokens k ≡ Some x → word_at source tokens k ≡ word_in source x
  word_here k x e = ap (λ o. unwrap_or (option_map (word_in source) o) word.Foreign) e

  names_are : (k name : ℕ) → name_of t k ≡ Some name → word_at source tokens k ≡ word.Name
  names_are k name e =
      let x = token_some (named.number_in (spellings source tokens) source) tokens k name (sym (ap (λ (n : Numbered). option_and_then (λ n. n) (slice_get n.numbers k)) names) ∙ e) in
      let i = if_some (named.name_at x.0.kind) _ name x.2 in
      word_here k x.0 x.1 ∙ name_word x.0.kind (text_of source x.0) i.0

  -- the token of a literal, and where it stands among the literals
  record IsToken (k : ℕ) (l : Literal) : Type 0 where
    at : Token
    found : slice_get tokens k ≡ Some at
    is : is_text at ≡ true
    number : ℕ
    place : position (stretch_eq (stretch at)) known ≡ Some number
    made : literal_of taken number ≡ l

  token_of : (k : ℕ) (l : Literal) → literal_in t k ≡ Some l → IsToken k l
  token_of k l e =
      let n = map_some (literal_of taken) (option_and_then (λ n. n) (slice_get t.texts.now.numbers.items k)) l e in
      let x = token_some (number_in known) tokens k n.0 (sym (ap (λ l. option_and_then (λ n. n) (slice_get l k)) numbers) ∙ n.1) in
      let i = if_some (is_text x.0) (position (stretch_eq (stretch x.0)) known) n.0 x.2 in
      record { at = x.0; found = x.1; is = i.0; number = n.0; place = i.1; made = n.2 }

  format_at : (n : ℕ) (p : ℕ × ℕ) → slice_get known n ≡ Some p → slice_get (formats_of source tokens) n ≡ Some (text_at source p)
  format_at n p e = slice_get-map (text_at source) known n ∙ ap (option_map (text_at source)) e

  takes_at : (n : ℕ) (p : ℕ × ℕ) → slice_get known n ≡ Some p → option_and_then (λ k. k) (slice_get taken n) ≡ integers_taken (text_at source p)
  takes_at n p e =
      ap (λ l. option_and_then (λ k. k) (slice_get l n)) takes
      ∙ ap (option_and_then (λ k. k)) (slice_get-map texts.takes (formats_of source tokens) n ∙ ap (option_map texts.takes) (format_at n p e))
      ∙ integers_agree (text_at source p)

  literals_are : (k : ℕ) (l : Literal) → literal_in t k ≡ Some l → IsLiteral t k l
  literals_are k l e =
      let x = token_of k l e in
      let p = place_holds (stretch_eq (stretch x.at)) (0, 0) known x.number x.place in
      record {
        word = word_here k x.at x.found ∙ text_word x.at.kind _ x.is;
        bytes = text_at source p.0;
        numbered = ap (λ f. slice_get f l.number) formats ∙ ap (slice_get (formats_of source tokens)) (ap (λ (m : Literal). m.number) (sym x.made)) ∙ format_at x.number p.0 p.1;
        takes = ap (λ (m : Literal). m.takes) (sym x.made) ∙ takes_at x.number p.0 p.1;
      }

  spelled_are : (n : ℕ) → n < length t.texts.now.formats → IsSpelled t n
  spelled_are n lt =
      let many : length t.texts.now.formats ≡ length known = ap length formats ∙ length-map known (text_at source) in
      let p = get_or known n (0, 0) in
      let at : slice_get known n ≡ Some p = slice_get-get_or known n (0, 0) (subst (λ m. n < m) many lt) in
      let x = is_key stretch_eq is_text stretch tokens n p at in
      let m = place_of_text t x.number x.token x.at x.passes in
      let q = place_holds (stretch_eq (stretch x.token)) (0, 0) known m.0 m.1 in
      let same : n ≡ m.0 = are_unique stretch_eq is_text stretch stretch_back tokens n m.0 p q.0 at q.1 (ap (λ k. stretch_eq k q.0) (sym x.key_is) ∙ q.2) in
      record {
        token = x.number;
        literal = literal_of taken m.0;
        within = slice_get_within tokens x.number x.token x.at;
        found = literal_at t numbers x.number x.token x.at x.passes m.0 m.1;
        number = sym same;
      }

  pub tokens_lexed : IsLexed t
  tokens_lexed = record { names = names_are; literals = literals_are; spelled = spelled_are }
