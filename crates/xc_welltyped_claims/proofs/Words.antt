-- The tokens of a node, by the pattern of its rule.
use Rattle.std.proofs.Common.{◌≡◌, ℕ, zero, suc, ◌+◌, ◌-◌, ◌≤◌, ◌<◌, List, [], ◌∷◌, length, map, Some, Bool, true, false, refl, sym, ap, ◌∙◌, subst, arith, if◌then◌else◌, cond, ◌⊎◌, inl, inr}
use Rattle.std.specs.Prelude.{IsTrue, ◌==◌, ◌&&◌, not, nat_lt, is_some, slice_get, slice_range, count_by, fold}
use Rattle.std.proofs.lemmas.Bool.{eqb-true}
use Rattle.xc_lex.specs.declared.token.Token.{Token}
use Rattle.xc_lex.specs.declared.token.TokenKind.{TokenKind}
use Rattle.xc_lex.specs.declared.token.TokenKind.TheVariants as lex_kind
use Rattle.xc_raw.specs.declared.word.Word.{Word}
use Rattle.xc_raw.specs.declared.word.Word.TheVariants as word
use Rattle.xc_raw.specs.declared.word.Literal.TheVariants as literal
use Rattle.xc_raw.specs.Words.{word_of}
use Rattle.xc_raw.specs.declared.tree.Raw.{out-Raw}
use Rattle.xc_parse_grammar.specs.declared.marks.Kind.{Kind}
use Rattle.xc_parse_grammar.specs.declared.marks.Kind.TheVariants as kind
use Rattle.xc_parse_grammar.specs.declared.marks.Item.{Item}
use Rattle.xc_parse_grammar.specs.declared.marks.Item.TheVariants as item
use Rattle.xc_parse_grammar.specs.Marks.{number, level_rank, operator_rank, accepts, of_kind, is_name}
use Rattle.xc_raw.specs.declared.rule.Rule.TheVariants as rule
use Rattle.xc_raw.specs.declared.rule.Level.TheVariants as level_name
use Rattle.xc_raw.specs.declared.rule.Level.{Level}
use Rattle.xc_raw.specs.declared.word.Sign.TheVariants as sign
use Rattle.xc_raw.specs.declared.word.Complement.TheVariants as complement
use Rattle.xc_parse_grammar.specs.Grammar.{Pattern, nothing, of, ◌⋅◌, ◌∣◌, opt, many, listed, listed_more, listed_next, stars}
use Rattle.xc_parse_grammar.specs.Grammar as g
use Rattle.xc_parse_grammar.proofs.Tables.{same_word}
use Rattle.xc_tree.specs.Lists.{every}
use Rattle.xc_tree.proofs.Lists.{and_left, and_right, and_both}
use Rattle.xc_raw_parts.specs.Words.{words_in, is_of_stars, leading, star_words}
use Rattle.xc_raw.specs.Kinds.{is_struct}
use Rattle.xc_raw_parts.specs.Names.{is_name_kind, names_from, first_name}
use Rattle.xc_raw_parts.specs.Operators.{operator_of, assignment_of, prefix_of}
use Rattle.xc_welltyped_claims.specs.Shaped.{begins_with_star}
use Rattle.xc_welltyped_claims.proofs.Patterns.{Piece, token, part, nodes, Claim, Ended, One, Times, Turns, Reads}
use Rattle.xc_welltyped_claims.proofs.Tokens.{name_kind}
use Rattle.xc_welltyped_claims.proofs.Placed.{HasWord, Placed, range_first, range_none, spelled, is_quiet}

-- words of operators ----------------------------------------------------------------------

ranked : (w : Word) → IsTrue (is_some (operator_of w)) ⊎ (operator_rank w ≡ 0)
ranked word.Star = inl refl
ranked word.Ampersand = inl refl
ranked (word.Sign s) = inl refl
ranked (word.Binary b) = inl refl
ranked _ = inr refl

some_rank : (l : Level) → (0 == level_rank l) ≡ true → ⊥
some_rank level_name.Or e = cc
some_rank level_name.And e = cc
some_rank level_name.BitOr e = cc
some_rank level_name.BitXor e = cc
some_rank level_name.BitAnd e = cc
some_rank level_name.Equality e = cc
some_rank level_name.Relation e = cc
some_rank level_name.Shift e = cc
some_rank level_name.Sum e = cc
some_rank level_name.Product e = cc

pub operator_word : (l : Level) (w : Word) → of_kind (kind.Operator l) w ≡ true → IsTrue (is_some (operator_of w))
operator_word l w h = by (ranked w)
  where
    by : IsTrue (is_some (operator_of w)) ⊎ (operator_rank w ≡ 0) → IsTrue (is_some (operator_of w))
    by (inl o) = o
    by (inr e) = absurd (some_rank l (ap (λ n. n == level_rank l) (sym e) ∙ h))

pub assignment_word : (w : Word) → of_kind kind.Assignment w ≡ true → IsTrue (is_some (assignment_of w))
assignment_word word.Set h = refl
assignment_word (word.Assign a) h = refl
assignment_word _ h = absurd cc

pub step_word : (w : Word) → of_kind kind.Step w ≡ true → IsTrue (is_some (prefix_of w))
step_word (word.Step s) h = refl
step_word _ h = absurd cc

pub prefix_word : (w : Word) → of_kind kind.Prefix w ≡ true → IsTrue (is_some (prefix_of w))
prefix_word word.Star h = refl
prefix_word word.Ampersand h = refl
prefix_word (word.Sign sign.Plus) h = refl
prefix_word (word.Sign sign.Minus) h = refl
prefix_word (word.Complement complement.Bits) h = refl
prefix_word (word.Complement complement.Truth) h = refl
prefix_word _ h = absurd cc

qualifier_word : (w : Word) → of_kind kind.Qualifier w ≡ true → is_name w ≡ false
qualifier_word word.Name h = absurd cc
qualifier_word _ h = refl

specifier_word : (w : Word) → of_kind kind.Specifier w ≡ true → IsTrue (not (is_struct w))
specifier_word word.Struct h = absurd cc
specifier_word _ h = refl

-- tokens that all pass a test ----------------------------------------------------------------

abbrev pub tokens_in : List Piece → List Word
tokens_in [] = []
tokens_in (token w ∷ xs) = w ∷ tokens_in xs
tokens_in (part n ∷ xs) = tokens_in xs

module _ (test : Word → Bool) where
  abbrev Lets : Item → Type 0
  Lets (item.Part c) = Unit {0}
  Lets (item.Word v) = (w : Word) → accepts (item.Word v) w ≡ true → IsTrue (test w)
  Lets (item.Kind k) = (w : Word) → accepts (item.Kind k) w ≡ true → IsTrue (test w)

  -- the tokens of a pattern pass
  abbrev pub LetsAll : Pattern → Type 0
  LetsAll nothing = Unit {0}
  LetsAll (of i) = Lets i
  LetsAll (p ⋅ q) = LetsAll p × LetsAll q
  LetsAll (p ∣ q) = LetsAll p × LetsAll q
  LetsAll (opt p) = LetsAll p
  LetsAll (many p) = LetsAll p
  LetsAll (listed i) = Lets i × Lets (item.Word word.Comma)
  LetsAll (listed_more i) = Lets i × Lets (item.Word word.Comma)
  LetsAll (listed_next i) = Lets i × Lets (item.Word word.Comma)

  abbrev pub AllPass : Claim → Type 0
  AllPass K = (xs : List Piece) → K xs → IsTrue (every (map test (tokens_in xs)))

  one_pass : (i : Item) → Lets i → (K : Claim) → AllPass K → AllPass (One i K)
  one_pass i l K f [] h = absurd h
  one_pass (item.Part c) l K f (token w ∷ xs) h = absurd h.0
  one_pass (item.Part c) l K f (part n ∷ xs) h = f xs h.1
  one_pass (item.Word v) l K f (token w ∷ xs) h = and_both (test w) _ (l w h.0) (f xs h.1)
  one_pass (item.Word v) l K f (part n ∷ xs) h = absurd h.0
  one_pass (item.Kind k) l K f (token w ∷ xs) h = and_both (test w) _ (l w h.0) (f xs h.1)
  one_pass (item.Kind k) l K f (part n ∷ xs) h = absurd h.0

  times_pass : (R : Claim → Claim) → ((K : Claim) → AllPass K → AllPass (R K)) → (n : ℕ) (K : Claim) → AllPass K → AllPass (Times R n K)
  times_pass R r zero K f = f
  times_pass R r (suc n) K f = r (Times R n K) (times_pass R r n K f)

  turns_pass : (b : Bool) (i : Item) → Lets i → Lets (item.Word word.Comma) → (n : ℕ) (K : Claim) → AllPass K → AllPass (Turns b i n K)
  turns_pass b i l c zero K f = f
  turns_pass true i l c (suc n) K f = one_pass (item.Word word.Comma) c (Turns false i n K) (turns_pass false i l c n K f)
  turns_pass false i l c (suc n) K f = one_pass i l (Turns true i n K) (turns_pass true i l c n K f)

  pub all_pass : (p : Pattern) → LetsAll p → (K : Claim) → AllPass K → AllPass (Reads p K)
  all_pass nothing l K f xs h = f xs h
  all_pass (of i) l K f xs h = one_pass i l K f xs h
  all_pass (p ⋅ q) l K f xs h = all_pass p l.0 (Reads q K) (all_pass q l.1 K f) xs h
  all_pass (p ∣ q) l K f xs (inl h) = all_pass p l.0 K f xs h
  all_pass (p ∣ q) l K f xs (inr h) = all_pass q l.1 K f xs h
  all_pass (opt p) l K f xs (inl h) = f xs h
  all_pass (opt p) l K f xs (inr h) = all_pass p l K f xs h
  all_pass (many p) l K f xs h = times_pass (Reads p) (all_pass p l) h.0 K f xs h.1
  all_pass (listed i) l K f xs h = one_pass i l.0 (λ ys. (n : ℕ) × Turns true i n K ys) (λ ys q. turns_pass true i l.0 l.1 q.0 K f ys q.1) xs h
  all_pass (listed_more i) l K f xs h = turns_pass true i l.0 l.1 h.0 K f xs h.1
  all_pass (listed_next i) l K f xs h = turns_pass false i l.0 l.1 h.0 K f xs h.1

  ended_pass : AllPass Ended
  ended_pass [] h = refl
  ended_pass (x ∷ xs) h = absurd h

  pub all_tokens : (p : Pattern) → LetsAll p → (xs : List Piece) → Reads p Ended xs → IsTrue (every (map test (tokens_in xs)))
  all_tokens p l xs h = all_pass p l Ended ended_pass xs h

-- string literals ---------------------------------------------------------------------------

-- no literal is such a token
abbrev calm_item : Item → Bool
calm_item (item.Word v) = nat_lt 0 (number v)
calm_item (item.Kind kind.Literal) = false
calm_item (item.Kind k) = true
calm_item (item.Part c) = true

abbrev pub calm : Pattern → Bool
calm nothing = true
calm (of i) = calm_item i
calm (p ⋅ q) = calm p && calm q
calm (p ∣ q) = calm p && calm q
calm (opt p) = calm p
calm (many p) = calm p
calm (listed i) = calm_item i
calm (listed_more i) = calm_item i
calm (listed_next i) = calm_item i

text_or : (w : Word) → IsTrue (is_quiet w) ⊎ (w ≡ word.Literal literal.Text)
text_or (word.Literal literal.Text) = inr refl
text_or (word.Literal literal.Number) = inl refl
text_or _ = inl refl

-- what is no string literal, or is none at all
unless_text : (test : Word → Bool) (w : Word) → (test (word.Literal literal.Text) ≡ true → ⊥) → test w ≡ true → IsTrue (is_quiet w)
unless_text test w f e = by (text_or w)
  where
    by : IsTrue (is_quiet w) ⊎ (w ≡ word.Literal literal.Text) → IsTrue (is_quiet w)
    by (inl q) = q
    by (inr same) = absurd (f (ap test (sym same) ∙ e))

no_text_word : (v : Word) → nat_lt 0 (number v) ≡ true → accepts (item.Word v) (word.Literal literal.Text) ≡ true → ⊥
no_text_word v c e =
    let bad : nat_lt 0 0 ≡ true = ap (nat_lt 0) (sym (eqb-true (number v) 0 e)) ∙ c in cc bad

no_text_kind : (k : Kind) → calm_item (item.Kind k) ≡ true → of_kind k (word.Literal literal.Text) ≡ true → ⊥
no_text_kind kind.Literal c e = cc c
no_text_kind kind.Specifier c e = cc e
no_text_kind kind.Qualifier c e = cc e
no_text_kind kind.Access c e = cc e
no_text_kind kind.Step c e = cc e
no_text_kind kind.Prefix c e = cc e
no_text_kind kind.Assignment c e = cc e
no_text_kind (kind.Operator l) c e = some_rank l e

calm_lets : (i : Item) → calm_item i ≡ true → Lets is_quiet i
calm_lets (item.Part c) e = tt
calm_lets (item.Word v) e = λ w h. unless_text (accepts (item.Word v)) w (no_text_word v e) h
calm_lets (item.Kind k) e = λ w h. unless_text (accepts (item.Kind k)) w (no_text_kind k e) h

comma_lets : Lets is_quiet (item.Word word.Comma)
comma_lets = calm_lets (item.Word word.Comma) refl

pub calm_all : (p : Pattern) → IsTrue (calm p) → LetsAll is_quiet p
calm_all nothing e = tt
calm_all (of i) e = calm_lets i e
calm_all (p ⋅ q) e = (calm_all p (and_left (calm p) _ e), calm_all q (and_right (calm p) _ e))
calm_all (p ∣ q) e = (calm_all p (and_left (calm p) _ e), calm_all q (and_right (calm p) _ e))
calm_all (opt p) e = calm_all p e
calm_all (many p) e = calm_all p e
calm_all (listed i) e = (calm_lets i e, comma_lets)
calm_all (listed_more i) e = (calm_lets i e, comma_lets)
calm_all (listed_next i) e = (calm_lets i e, comma_lets)

pub quiet_spelled : (xs : List Piece) → IsTrue (every (map is_quiet (tokens_in xs))) → IsTrue (every (map is_quiet (spelled xs)))
quiet_spelled [] h = refl
quiet_spelled (token w ∷ xs) h = and_both (is_quiet w) _ (and_left (is_quiet w) _ h) (quiet_spelled xs (and_right (is_quiet w) _ h))
quiet_spelled (part n ∷ xs) h = quiet_spelled xs h

-- structs among specifiers --------------------------------------------------------------------

abbrev no_struct : Word → Bool
no_struct w = not (is_struct w)

counted_from : (n : ℕ) (xs : List Piece) → IsTrue (every (map no_struct (tokens_in xs))) → fold (λ a x. a + cond (is_struct x) 1 0) n (spelled xs) ≡ n + length (nodes xs)
counted_from n [] h = omega arith
counted_from n (token w ∷ xs) h =
    let none : n + cond (is_struct w) 1 0 ≡ n = by (is_struct w) (and_left (no_struct w) _ h) in
    ap (λ m. fold (λ a x. a + cond (is_struct x) 1 0) m (spelled xs)) none ∙ counted_from n xs (and_right (no_struct w) _ h)
  where
    by : (b : Bool) → IsTrue (not b) → n + cond b 1 0 ≡ n
    by true f = absurd cc
    by false f = omega arith
counted_from n (part m ∷ xs) h =
    let rest = counted_from (n + 1) xs h in omega (arith, rest)

structs_counted : (xs : List Piece) → IsTrue (every (map no_struct (tokens_in xs))) → count_by is_struct (spelled xs) ≡ length (nodes xs)
structs_counted xs h = let all = counted_from 0 xs h in omega (arith, all)

pub specs_counted : (xs : List Piece) → Reads (g.rule_of rule.Specs) Ended xs → count_by is_struct (spelled xs) ≡ length (nodes xs)
specs_counted xs h = structs_counted xs (all_tokens no_struct (g.rule_of rule.Specs) ((specifier_word, tt), (specifier_word, tt)) xs h)

-- stars and names -------------------------------------------------------------------------------

-- what begins with a star, or with nothing that stands behind stars
abbrev pub Head : Claim
Head [] = Unit {0}
Head (token w ∷ xs) = (w ≡ word.Star) ⊎ (is_of_stars w ≡ false)
Head (part n ∷ xs) = ⊥

one_head : (v : Word) → nat_lt 0 (number v) ≡ true → (v ≡ word.Star) ⊎ (is_of_stars v ≡ false) → (k : Claim) (xs : List Piece) → One (item.Word v) k xs → Head xs
one_head v c s k [] h = absurd h
one_head v c s k (token w ∷ xs) h = subst (λ u. (u ≡ word.Star) ⊎ (is_of_stars u ≡ false)) (sym (same_word v w c h.0)) s
one_head v c s k (part n ∷ xs) h = absurd h.0

stars_head : (k : Claim) → ((xs : List Piece) → k xs → Head xs) → (xs : List Piece) → Reads stars k xs → Head xs
stars_head k f xs h = by h.0 h.1
  where
    by : (n : ℕ) → Times (Reads (g.token word.Star ⋅ many (g.any kind.Qualifier))) n k xs → Head xs
    by zero r = f xs r
    by (suc n) r = one_head word.Star refl (inl refl) (Reads (many (g.any kind.Qualifier)) (Times (Reads (g.token word.Star ⋅ many (g.any kind.Qualifier))) n k)) xs r

pub declr_head : (k : Claim) (xs : List Piece) → Reads stars (One (item.Word word.Name) k) xs → Head xs
declr_head k xs h = stars_head (One (item.Word word.Name) k) (one_head word.Name refl (inr refl) k) xs h

abbrev pub param_bounds : Pattern
param_bounds = opt (g.token word.OpenBracket ⋅ opt g.cond ⋅ g.token word.CloseBracket ⋅ many (g.token word.OpenBracket ⋅ g.cond ⋅ g.token word.CloseBracket))

pub param_head : (xs : List Piece) → Reads (stars ⋅ opt (g.token word.Name) ⋅ param_bounds) Ended xs → Head xs
param_head xs h = stars_head (Reads (opt (g.token word.Name) ⋅ param_bounds) Ended) behind xs h
  where
    over : (ys : List Piece) → Ended ys → Head ys
    over [] e = tt
    over (y ∷ ys) e = absurd e

    bounds : (ys : List Piece) → Reads param_bounds Ended ys → Head ys
    bounds ys (inl e) = over ys e
    bounds ys (inr r) = one_head word.OpenBracket refl (inr refl) _ ys r

    behind : (ys : List Piece) → Reads (opt (g.token word.Name) ⋅ param_bounds) Ended ys → Head ys
    behind ys (inl r) = bounds ys r
    behind ys (inr r) = one_head word.Name refl (inr refl) _ ys r

module _ (source : List ℕ) (tokens : List Token) where
  abbrev Has : ℕ → Word → Type 0
  Has = HasWord source tokens

  pub placed_end : (xs : List Piece) (from end : ℕ) → Placed source tokens from end xs → from ≤ end
  placed_end [] from end h = omega (arith, h)
  placed_end (token w ∷ xs) from end h = omega (arith, placed_end xs (from + 1) end h.1)
  placed_end (part n ∷ xs) from end h = let low = h.1 in omega (arith, low, placed_end xs (out-Raw n).end end h.2)

  starts : (ws : List Word) (w : Word) → (w ≡ word.Star) ⊎ (is_of_stars w ≡ false) → IsTrue (begins_with_star (leading (w ∷ ws)))
  unfolding leading
  starts ws w (inl e) = ap (λ u. begins_with_star (if is_of_stars u then u ∷ leading ws else [])) e
  starts ws w (inr e) = ap (λ b. begins_with_star (if b then w ∷ leading ws else [])) e

  none_leads : leading [] ≡ []
  unfolding leading
  none_leads = refl

  pub head_starts : (xs : List Piece) (from end : ℕ) → Placed source tokens from end xs → Head xs → IsTrue (begins_with_star (star_words source tokens from end))
  head_starts [] from end p h = ap (λ k. begins_with_star (leading (words_in source (slice_range tokens k end)))) p ∙ ap (λ l. begins_with_star (leading (words_in source l))) (range_none tokens end) ∙ ap begins_with_star none_leads
  head_starts (token w ∷ xs) from end p h =
      let low : from < end = omega (arith, placed_end xs (from + 1) end p.1) in
      ap (λ l. begins_with_star (leading (words_in source l))) (range_first tokens from end p.0.at p.0.found low)
      ∙ ap (λ v. begins_with_star (leading (v ∷ words_in source (slice_range tokens (from + 1) end)))) p.0.spells
      ∙ starts (words_in source (slice_range tokens (from + 1) end)) w h
  head_starts (part n ∷ xs) from end p h = absurd h

  -- behind stars: what holds where the words behind them begin holds where they do, if each of them keeps it
  module _ (end : ℕ) (P : ℕ → Type 0) (back : (from : ℕ) (w : Word) → is_name w ≡ false → Has from w → from < end → P (from + 1) → P from) where
    abbrev Gets : Claim → Type 0
    Gets K = (xs : List Piece) (from : ℕ) → Placed source tokens from end xs → K xs → P from

    gets_star : (K : Claim) → Gets K → Gets (One (item.Word word.Star) K)
    gets_star K f [] from p h = absurd h
    gets_star K f (token w ∷ xs) from p h =
        back from w (ap is_name (same_word word.Star w refl h.0)) p.0 (omega (arith, placed_end xs (from + 1) end p.1)) (f xs (from + 1) p.1 h.1)
    gets_star K f (part n ∷ xs) from p h = absurd h.0

    gets_qualifier : (K : Claim) → Gets K → Gets (One (item.Kind kind.Qualifier) K)
    gets_qualifier K f [] from p h = absurd h
    gets_qualifier K f (token w ∷ xs) from p h =
        back from w (qualifier_word w h.0) p.0 (omega (arith, placed_end xs (from + 1) end p.1)) (f xs (from + 1) p.1 h.1)
    gets_qualifier K f (part n ∷ xs) from p h = absurd h.0

    gets_times : (R : Claim → Claim) → ((K : Claim) → Gets K → Gets (R K)) → (n : ℕ) (K : Claim) → Gets K → Gets (Times R n K)
    gets_times R r zero K f = f
    gets_times R r (suc n) K f = r (Times R n K) (gets_times R r n K f)

    gets_qualifiers : (K : Claim) → Gets K → Gets (Reads (many (g.any kind.Qualifier)) K)
    gets_qualifiers K f xs from p h = gets_times (One (item.Kind kind.Qualifier)) gets_qualifier h.0 K f xs from p h.1

    pub past_stars : (K : Claim) → Gets K → Gets (Reads stars K)
    past_stars K f xs from p h =
        gets_times (Reads (g.token word.Star ⋅ many (g.any kind.Qualifier))) (λ L e. gets_star (Reads (many (g.any kind.Qualifier)) L) (gets_qualifiers L e)) h.0 K f xs from p h.1

  -- a name among some tokens, and none before it
  pub record FirstName (from end : ℕ) : Type 0 where
    pub number : ℕ
    pub is : first_name tokens from end ≡ Some number
    pub has : Has number word.Name

  no_name_kind : (k : TokenKind) (bs : List ℕ) → is_name (word_of k bs) ≡ false → is_name_kind k ≡ false
  no_name_kind lex_kind.Name bs e = absurd cc
  no_name_kind lex_kind.Keyword bs e = refl
  no_name_kind lex_kind.Number bs e = refl
  no_name_kind lex_kind.Text bs e = refl
  no_name_kind lex_kind.Punctuator bs e = refl
  no_name_kind lex_kind.Pragma bs e = refl

  names_next : (from end : ℕ) (x : Token) → slice_get tokens from ≡ Some x → from < end → first_name tokens from end ≡ slice_get (names_from from (x ∷ slice_range tokens (from + 1) end)) 0
  names_next from end x e lt = ap (λ l. slice_get (names_from from l) 0) (range_first tokens from end x e lt)

  no_name : (from end : ℕ) (w : Word) → is_name w ≡ false → Has from w → from < end → FirstName (from + 1) end → FirstName from end
  no_name from end w e h lt f =
      let kind : is_name_kind h.at.kind ≡ false = no_name_kind h.at.kind (slice_range source h.at.text.start h.at.text.end) (ap is_name h.spells ∙ e) in
      record {
        number = f.number;
        is = names_next from end h.at h.found lt
            ∙ ap (λ b. slice_get (if b then from ∷ names_from (from + 1) (slice_range tokens (from + 1) end) else names_from (from + 1) (slice_range tokens (from + 1) end)) 0) kind
            ∙ f.is;
        has = f.has;
      }

  a_name : (from end : ℕ) → Has from word.Name → from < end → FirstName from end
  a_name from end h lt =
      let kind : is_name_kind h.at.kind ≡ true = ap is_name_kind (name_kind h.at.kind (slice_range source h.at.text.start h.at.text.end) h.spells) in
      record {
        number = from;
        is = names_next from end h.at h.found lt
            ∙ ap (λ b. slice_get (if b then from ∷ names_from (from + 1) (slice_range tokens (from + 1) end) else names_from (from + 1) (slice_range tokens (from + 1) end)) 0) kind;
        has = h;
      }

  here_named : (end : ℕ) (K : Claim) (xs : List Piece) (from : ℕ) → Placed source tokens from end xs → One (item.Word word.Name) K xs → FirstName from end
  here_named end K [] from p h = absurd h
  here_named end K (token w ∷ xs) from p h =
      a_name from end (subst (Has from) (same_word word.Name w refl h.0) p.0) (omega (arith, placed_end xs (from + 1) end p.1))
  here_named end K (part n ∷ xs) from p h = absurd h.0

  -- behind stars
  pub declr_named : (K : Claim) (xs : List Piece) (from end : ℕ) → Placed source tokens from end xs → Reads stars (One (item.Word word.Name) K) xs → FirstName from end
  declr_named K xs from end p h =
      past_stars end (λ k. FirstName k end) (λ k w e a lt f. no_name k end w e a lt f) (One (item.Word word.Name) K) (here_named end K) xs from p h

  last_named : (end : ℕ) (xs : List Piece) (from : ℕ) → Placed source tokens from end xs → One (item.Word word.Name) Ended xs → Has (end - 1) word.Name
  last_named end [] from p h = absurd h
  last_named end (token w ∷ []) from p h =
      let last : from ≡ end - 1 = omega (arith, p.1) in
      subst (λ k. Has k word.Name) last (subst (Has from) (same_word word.Name w refl h.0) p.0)
  last_named end (token w ∷ x ∷ xs) from p h = absurd h.1
  last_named end (part n ∷ xs) from p h = absurd h.0

  pub callee_named : (xs : List Piece) (from end : ℕ) → Placed source tokens from end xs → Reads stars (One (item.Word word.Name) Ended) xs → Has (end - 1) word.Name
  callee_named xs from end p h =
      past_stars end (λ k. Has (end - 1) word.Name) (λ k w e a lt f. f) (One (item.Word word.Name) Ended) (last_named end) xs from p h
