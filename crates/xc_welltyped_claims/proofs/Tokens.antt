-- What tokens of a text are named and worth.
use Rattle.std.proofs.Common.{◌≡◌, ℕ, zero, suc, ◌+◌, ◌-◌, List, [], ◌∷◌, length, map, take, drop, Bool, true, false, position, refl, sym, ap, ◌∙◌, subst, if◌then◌else◌}
use Rattle.std.specs.Prelude.{IsTrue, ◌&&◌, ◌==◌, not, is_some, Option, Some, None, option_map, option_and_then, unwrap_or, slice_get, slice_range}
use Rattle.std.specs.List.{All, prefix_len}
use Rattle.std.specs.Str.{bytes_eq}
use Rattle.std.proofs.lemmas.Bool.{eq-eqb}
use Rattle.std.proofs.lemmas.Option.{slice_get-map, slice_get_within, get_or_from_slice_get}
use Rattle.std.proofs.lemmas.Slice.Eq.{bytes_eq-Decides}
use mathlib.Core.Logic.{⊎_elim}
use Rattle.xc_lex.specs.declared.token.Token.{Token}
use Rattle.xc_lex.specs.declared.token.TokenKind.{TokenKind}
use Rattle.xc_lex.specs.declared.token.TokenKind.TheVariants as kind
use Rattle.xc_lex.specs.declared.front.Front.{Front}
use Rattle.xc_lex.specs.declared.front.Front.TheVariants.{LineEnd, Blank, Whole, Hash, Bad}
use Rattle.xc_lex.specs.Bytes.{is_name_start, is_name_char, is_blank, is_in_line}
use Rattle.xc_lex.specs.Numbers.{number_of}
use Rattle.xc_lex.specs.Front as front
use Rattle.xc_lex.specs.Source.{IsSpelled}
use Rattle.xc_raw.specs.declared.word.Word.{Word}
use Rattle.xc_raw.specs.declared.word.Word.TheVariants as word
use Rattle.xc_raw.specs.declared.word.Literal.TheVariants as literal
use Rattle.xc_raw.specs.Words.{found, keywords, keyword_of, punctuators, punctuator_of, word_of}
use Rattle.xc_parse_grammar.specs.Marks.{is_name, is_literal}
use Rattle.xc_tree.specs.Lists.{every}
use Rattle.xc_tree.proofs.Lists.{and_left, and_right}
use Rattle.xc_type_names.specs.Numbered.{Numbered, numbered, spellings, reserved, text_of}
use Rattle.xc_type_names.specs.Numbered as named
use Rattle.xc_type_literals.specs.Constants.{constants_of, constant_at, is_number_kind}
use Rattle.xc_text_place.specs.Stretches.{stretch_eq}
use Rattle.xc_type_literals.specs.Constants as values
use Rattle.xc_type_literals.specs.Texts.{is_text_kind, is_text, stretch, stretches, numbers_of, number_in, literal_of}
use Rattle.xc_raw_parts.specs.Names.{name_at, is_name_kind}
use Rattle.xc_type_expressions.specs.declared.text.Text.{Text}
use Rattle.xc_type_expressions.specs.Places.{name_of}
use Rattle.xc_welltyped_claims.specs.Shaped.{literal_in}
use Rattle.xc_welltyped_claims.proofs.Keys.{place_is, has_key}
use Rattle.xc_welltyped_claims.proofs.Placed.{HasWord}

-- kinds of tokens by their words ------------------------------------------------------

found_fails : (test : Word → Bool) (table : List (List ℕ × Word)) (bs : List ℕ) → test word.Foreign ≡ false → IsTrue (every (map (λ p. not (test p.1)) table)) → test (found table bs) ≡ false
found_fails test [] bs f h = f
found_fails test (p ∷ table) bs f h = by (bytes_eq p.0 bs) (fails (test p.1) (and_left (not (test p.1)) _ h)) (found_fails test table bs f (and_right (not (test p.1)) _ h))
  where
    fails : (b : Bool) → IsTrue (not b) → b ≡ false
    fails true g = absurd cc
    fails false g = refl

    by : (b : Bool) → test p.1 ≡ false → test (found table bs) ≡ false → test (if b then p.1 else found table bs) ≡ false
    by true g k = g
    by false g k = k

keyword_fails : (test : Word → Bool) (bs : List ℕ) → test word.Foreign ≡ false → IsTrue (every (map (λ p. not (test p.1)) keywords)) → test (keyword_of bs) ≡ false
unfolding keyword_of
keyword_fails test bs f h = found_fails test keywords bs f h

punctuator_fails : (test : Word → Bool) (bs : List ℕ) → test word.Foreign ≡ false → IsTrue (every (map (λ p. not (test p.1)) punctuators)) → test (punctuator_of bs) ≡ false
unfolding punctuator_of
punctuator_fails test bs f h = found_fails test punctuators bs f h

clash : (test : Word → Bool) (v w : Word) → test v ≡ false → test w ≡ true → v ≡ w → ⊥
clash test v w f g e = let both : false ≡ true = sym f ∙ ap test e ∙ g in cc both

pub name_kind : (k : TokenKind) (bs : List ℕ) → word_of k bs ≡ word.Name → k ≡ kind.Name
name_kind kind.Name bs e = refl
name_kind kind.Number bs e = absurd cc
name_kind kind.Text bs e = absurd cc
name_kind kind.Pragma bs e = absurd cc
name_kind kind.Keyword bs e = absurd (clash is_name (keyword_of bs) word.Name (keyword_fails is_name bs refl refl) refl e)
name_kind kind.Punctuator bs e = absurd (clash is_name (punctuator_of bs) word.Name (punctuator_fails is_name bs refl refl) refl e)

pub number_kind : (k : TokenKind) (bs : List ℕ) → word_of k bs ≡ word.Literal literal.Number → k ≡ kind.Number
number_kind kind.Name bs e = absurd cc
number_kind kind.Number bs e = refl
number_kind kind.Text bs e = absurd cc
number_kind kind.Pragma bs e = absurd cc
number_kind kind.Keyword bs e = absurd (clash is_literal (keyword_of bs) (word.Literal literal.Number) (keyword_fails is_literal bs refl refl) refl e)
number_kind kind.Punctuator bs e = absurd (clash is_literal (punctuator_of bs) (word.Literal literal.Number) (punctuator_fails is_literal bs refl refl) refl e)

pub text_kind : (k : TokenKind) (bs : List ℕ) → word_of k bs ≡ word.Literal literal.Text → k ≡ kind.Text
text_kind kind.Name bs e = absurd cc
text_kind kind.Number bs e = absurd cc
text_kind kind.Text bs e = refl
text_kind kind.Pragma bs e = absurd cc
text_kind kind.Keyword bs e = absurd (clash is_literal (keyword_of bs) (word.Literal literal.Text) (keyword_fails is_literal bs refl refl) refl e)
text_kind kind.Punctuator bs e = absurd (clash is_literal (punctuator_of bs) (word.Literal literal.Text) (punctuator_fails is_literal bs refl refl) refl e)

-- constants ---------------------------------------------------------------------------

-- what is made of the token of this number
pub at_token : {A : Type 0} (f : Token → Option A) (ts : List Token) (k : ℕ) (x : Token) → slice_get ts k ≡ Some x → option_and_then (λ n. n) (slice_get (map f ts) k) ≡ f x
at_token f ts k x e = ap (option_and_then (λ n. n)) (slice_get-map f ts k ∙ ap (option_map f) e)

take_length : {A : Type 0} (m : ℕ) (xs : List A) → take (length (take m xs)) xs ≡ take m xs
take_length zero xs = refl
take_length (suc m) [] = refl
take_length (suc m) (x ∷ xs) = ap (λ l. x ∷ l) (take_length m xs)

comment_no : (bs : List ℕ) (o : Front) (k : TokenKind) (n : ℕ) → unwrap_or (front.comment_of bs) o ≡ Whole k n → o ≡ Whole k n
comment_no [] o k n e = e
comment_no (b ∷ []) o k n e = e
comment_no (b ∷ c ∷ bs) o k n e = by (b == 47 && c == 47) (b == 47 && c == 42) (prefix_len is_in_line bs + 2) (front.close_from 0 bs) e
  where
    by : (p q : Bool) (m : ℕ) (closed : Option ℕ) → unwrap_or (if p then Some (Blank m) else if q then Some (front.blank_or_bad closed) else None) o ≡ Whole k n → o ≡ Whole k n
    by true q m closed e = absurd cc
    by false true m None e = absurd cc
    by false true m (Some d) e = absurd cc
    by false false m closed e = e

-- a number begins with a digit
token_number : (p q r s u v : Bool) (w : Front) (quote : Option ℕ) (m n : ℕ) →
    (if p then Blank 1 else if q then w else if r then LineEnd else if s then Hash else if u then front.text_or_bad quote else if v then Bad else Whole kind.Punctuator m) ≡ Whole kind.Number n → w ≡ Whole kind.Number n
token_number true q r s u v w quote m n e = absurd cc
token_number false true r s u v w quote m n e = e
token_number false false true s u v w quote m n e = absurd cc
token_number false false false true u v w quote m n e = absurd cc
token_number false false false false true v w None m n e = absurd cc
token_number false false false false true v w (Some k) m n e = absurd cc
token_number false false false false false true w quote m n e = absurd cc
token_number false false false false false false w quote m n e = absurd cc

-- and has a value
word_number : (p k q : Bool) (bs : List ℕ) (n : ℕ) → (if p then Whole (if k then kind.Keyword else kind.Name) (length bs) else if q then Whole kind.Number (length bs) else Bad) ≡ Whole kind.Number n → (q ≡ true) × (length bs ≡ n)
word_number true true q bs n e = absurd cc
word_number true false q bs n e = absurd cc
word_number false k true bs n e = (refl, cc)
word_number false k false bs n e = absurd cc

front_number : (bs : List ℕ) (n : ℕ) → front.front_of bs ≡ Whole kind.Number n → IsTrue (is_some (number_of (take n bs)))
front_number [] n e = absurd cc
front_number (b ∷ bs) n e =
    let whole = b ∷ bs in
    let t = comment_no whole (front.token_at b whole) kind.Number n e in
    let m = prefix_len is_name_char (drop 1 whole) + 1 in
    let w = token_number (is_blank b) (is_name_char b) (b == 10) (b == 35) (b == 34) (front.longest_punctuator whole == 0) (front.word_of b whole) (front.quote_from 0 false (drop 1 whole)) (front.longest_punctuator whole) n t in
    let two = word_number (is_name_start b) (front.is_keyword (take m whole)) (is_some (number_of (take m whole))) (take m whole) n w in
    let same : take n whole ≡ take m whole = ap (λ k. take k whole) (sym two.1) ∙ take_length m whole in
    ap (λ l. is_some (number_of l)) same ∙ two.0

spelled_number : (source : List ℕ) (x : Token) → IsSpelled source x → x.kind ≡ kind.Number → IsTrue (is_some (number_of (slice_range source x.text.start x.text.end)))
spelled_number source x h k = ⊎_elim
    (λ e. front_number (drop x.text.start source) (x.text.end - x.text.start) (e ∙ ap (λ y. Whole y (x.text.end - x.text.start)) k))
    (λ e. let both : kind.Pragma ≡ kind.Number = sym e.0 ∙ k in absurd cc)
    h

-- a text ---------------------------------------------------------------------------------

pub stretch_self : (p : ℕ × ℕ) → stretch_eq p p ≡ true
stretch_self p = (λ i. eq-eqb p.0 p.0 refl i && eq-eqb p.1 p.1 refl i)

module _ (t : Text) where
  abbrev source : List ℕ
  source = t.source.now

  abbrev tokens : List Token
  tokens = t.tokens.now

  abbrev Has : ℕ → Word → Type 0
  Has = HasWord source tokens

  abbrev known : List (List ℕ)
  known = spellings source tokens

  -- the number that a name has
  pub name_is : t.names.now ≡ numbered source tokens → (k : ℕ) (x : Token) → slice_get tokens k ≡ Some x → name_of t k ≡ named.number_in known source x
  name_is names k x e = ap (λ (n : Numbered). option_and_then (λ n. n) (slice_get n.numbers k)) names ∙ at_token (named.number_in known source) tokens k x e

  pub name_has : t.names.now ≡ numbered source tokens → (k : ℕ) → Has k word.Name → IsTrue (is_some (name_of t k))
  name_has names k h =
      let x = h.at in
      let is : named.name_at x.kind ≡ true = ap named.name_at (name_kind x.kind (text_of source x) h.spells) in
      let p = place_is (bytes_eq (text_of source x)) known (has_key bytes_eq (λ y. named.name_at y.kind) (text_of source) tokens (map (λ p. p.0) reserved) k x h.found is ((bytes_eq-Decides (text_of source x) (text_of source x)).1 refl)) in
      ap is_some (name_is names k x h.found ∙ ap (λ b. if b then position (bytes_eq (text_of source x)) known else None) is ∙ p.1)

  -- the token of a name
  pub name_token : (k : ℕ) → Has k word.Name → name_at tokens k ≡ Some k
  name_token k h =
      let is : is_name_kind h.at.kind ≡ true = ap is_name_kind (name_kind h.at.kind (text_of source h.at) h.spells) in
      ap (option_and_then (λ y. if is_name_kind y.kind then Some k else None)) h.found ∙ ap (λ b. if b then Some k else None) is

  -- the value that a constant has
  pub constant_has : t.texts.now.constants.items ≡ constants_of source tokens → All (IsSpelled source) tokens → (k : ℕ) → Has k (word.Literal literal.Number) → IsTrue (is_some (constant_at t.texts.now.constants.items k))
  constant_has constants spelled k h =
      let x = h.at in
      let is : x.kind ≡ kind.Number = number_kind x.kind (text_of source x) h.spells in
      let spells : IsSpelled source x = subst (IsSpelled source) (get_or_from_slice_get tokens k x x h.found) (spelled k x (slice_get_within tokens k x h.found)) in
      ap (λ l. is_some (constant_at l k)) constants ∙ ap is_some (at_token (values.number_in source) tokens k x h.found)
      ∙ ap (λ y. is_some (if is_number_kind y then number_of (slice_range source x.text.start x.text.end) else None)) is
      ∙ spelled_number source x spells is

  -- the number that a string literal has
  pub literal_is : t.texts.now.numbers.items ≡ numbers_of tokens → (k : ℕ) (x : Token) → slice_get tokens k ≡ Some x → literal_in t k ≡ option_map (literal_of t.texts.now.takes.items) (number_in (stretches tokens) x)
  literal_is numbers k x e =
      ap (λ l. option_map (literal_of t.texts.now.takes.items) (option_and_then (λ n. n) (slice_get l k))) numbers
      ∙ ap (option_map (literal_of t.texts.now.takes.items)) (at_token (number_in (stretches tokens)) tokens k x e)

  pub place_of_text : (k : ℕ) (x : Token) → slice_get tokens k ≡ Some x → is_text x ≡ true → (n : ℕ) × (position (stretch_eq (stretch x)) (stretches tokens) ≡ Some n)
  place_of_text k x e i = place_is (stretch_eq (stretch x)) (stretches tokens) (has_key stretch_eq is_text stretch tokens [] k x e i (stretch_self (stretch x)))

  pub literal_at : t.texts.now.numbers.items ≡ numbers_of tokens → (k : ℕ) (x : Token) → slice_get tokens k ≡ Some x → is_text x ≡ true → (n : ℕ) → position (stretch_eq (stretch x)) (stretches tokens) ≡ Some n → literal_in t k ≡ Some (literal_of t.texts.now.takes.items n)
  literal_at numbers k x e i n p = literal_is numbers k x e
      ∙ ap (λ b. option_map (literal_of t.texts.now.takes.items) (if b then position (stretch_eq (stretch x)) (stretches tokens) else None)) i
      ∙ ap (option_map (literal_of t.texts.now.takes.items)) p

  pub literal_has : t.texts.now.numbers.items ≡ numbers_of tokens → (k : ℕ) → Has k (word.Literal literal.Text) → IsTrue (is_some (literal_in t k))
  literal_has numbers k h =
      let is : is_text h.at ≡ true = ap is_text_kind (text_kind h.at.kind (text_of source h.at) h.spells) in
      let p = place_of_text k h.at h.found is in
      ap is_some (literal_at numbers k h.at h.found is p.0 p.1)
