-- The node of a text is shaped as the judgement counts on.
use Rattle.std.proofs.Common.{◌≡◌, ℕ, zero, suc, ◌+◌, ◌-◌, List, [], ◌∷◌, length, map, drop, Option, Some, None, Bool, true, false, refl, sym, ap, ◌∙◌, subst, arith, ◌⊎◌, inl, inr, if◌then◌else◌}
use Rattle.std.specs.Prelude.{IsTrue, ◌==◌, is_some, option_map, option_and_then, slice_get, slice_range}
use Rattle.std.specs.List.{All}
use Rattle.std.proofs.lemmas.Bool.{eq-eqb}
use Rattle.std.proofs.lemmas.List.{length-map}
use Rattle.xc_lex.specs.declared.token.Token.{Token}
use Rattle.xc_lex.specs.declared.token.TokenKind.{TokenKind}
use Rattle.xc_lex.specs.declared.token.TokenKind.TheVariants as lex_kind
use Rattle.xc_lex.specs.Source.{IsSpelled}
use Rattle.xc_raw.specs.declared.word.Word.{Word}
use Rattle.xc_raw.specs.declared.word.Word.TheVariants as word
use Rattle.xc_raw.specs.declared.word.Literal.TheVariants as literal
use Rattle.xc_raw.specs.declared.word.Access.{Access}
use Rattle.xc_raw.specs.declared.word.Step.{Step}
use Rattle.xc_raw.specs.declared.rule.Rule.{Rule}
use Rattle.xc_raw.specs.declared.rule.Rule.TheVariants as rule
use Rattle.xc_raw.specs.declared.tree.Raw.{Raw, out-Raw, roll-Raw, out-roll-Raw}
use Rattle.xc_raw.specs.declared.tree.Raw.TheOpen.{Raw-F}
use Rattle.xc_raw.specs.Words.{word_of}
use Rattle.xc_parse_grammar.specs.declared.marks.Class.{Class}
use Rattle.xc_parse_grammar.specs.declared.marks.Class.TheVariants as class
use Rattle.xc_parse_grammar.specs.declared.marks.Strength.TheVariants as strength
use Rattle.xc_parse_grammar.specs.declared.marks.Kind.{Kind}
use Rattle.xc_parse_grammar.specs.declared.marks.Kind.TheVariants as kind
use Rattle.xc_parse_grammar.specs.declared.marks.Item.{Item}
use Rattle.xc_parse_grammar.specs.declared.marks.Item.TheVariants as item
use Rattle.xc_parse_grammar.specs.Marks.{of_kind}
use Rattle.xc_parse_grammar.specs.Grammar.{Form, leaf, begin, ◌▹◌, leaves, Pattern, ◌⋅◌, ◌∣◌, opt, many, rule_of, sort, Fits, Begun, Whole, expr, assign, stars}
use Rattle.xc_parse_grammar.specs.Grammar as g
use Rattle.xc_parse_grammar.proofs.Tables.{same_word}
use Rattle.xc_parse.specs.Raws.{node_at, parts_of, raws_of}
use Rattle.xc_parse.specs.Texts.{words_of, Parsed}
use Rattle.xc_tree.specs.Lists.{every}
use Rattle.xc_tree.proofs.Lists.{and_both}
use Rattle.xc_type_names.specs.Numbered.{numbered}
use Rattle.xc_type_literals.specs.Constants.{constants_of}
use Rattle.xc_type_literals.specs.Texts.{numbers_of}
use Rattle.xc_raw_parts.specs.Words.{word_in, words_around, specifier_words}
use Rattle.xc_type_declarators.specs.Specifiers.{often}
use Rattle.xc_raw.specs.Kinds as kinds
use Rattle.xc_type_declarators.specs.Specifiers as words
use Rattle.xc_raw_parts.specs.declared.operators.Suffix.TheVariants as suffix
use Rattle.xc_raw_parts.specs.Spans.{word_at}
use Rattle.xc_raw_parts.specs.Names.{is_name_kind, names_from, struct_name, callee_name, declarator_name, names_between}
use Rattle.xc_raw_parts.specs.Operators.{word_behind, operator_of, assignment_of, prefix_of, suffix_of}
use Rattle.xc_raw_parts.proofs.Nodes.{by_nodes_is}
use Rattle.xc_type_expressions.specs.declared.text.Text.{Text}
use Rattle.xc_type_expressions.specs.Places.{name_of}
use Rattle.xc_type_expressions.specs.Judged.{prefix_in, suffix_in}
use Rattle.xc_welltyped_claims.specs.Lists.{Each}
use Rattle.xc_welltyped_claims.specs.Shaped.{rule_in, is_named, begins_with_star, stars_in, is_primary, postfix_ok, level_ok, is_token, lacks_around, strings_ok, shape_step, is_shaped, Shaped, IsUnit}
use Rattle.xc_welltyped_claims.proofs.Lists.{each_both, get_taken}
use Rattle.xc_welltyped_claims.proofs.Patterns.{Piece, token, part, nodes, node, pieces, Claim, Ended, One, Reads, whole_reads, parts_are}
use Rattle.xc_welltyped_claims.proofs.Placed.{HasWord, Placed, AreAt, word_is, at_both, words_at, tree_placed, words_are, lacks_placed, spelled, is_quiet}
use Rattle.xc_welltyped_claims.proofs.Parts.{Over, Parts, parts_read, over_ended, parts_of_rule, expr_class}
use Rattle.xc_welltyped_claims.proofs.Levels as levels
use Rattle.xc_welltyped_claims.proofs.Tokens.{name_has, name_token, constant_has, literal_has}
use Rattle.xc_welltyped_claims.proofs.Words.{operator_word, assignment_word, step_word, prefix_word, all_tokens, calm, calm_all, quiet_spelled, specs_counted, declr_head, param_head, head_starts, declr_named, callee_named}
use Rattle.xc_welltyped.proofs.Types.{or_right}

-- tokens of a stretch
get_dropped : {A : Type 0} (n k : ℕ) (xs : List A) (x : A) → slice_get (drop n xs) k ≡ Some x → slice_get xs (n + k) ≡ Some x
get_dropped zero k xs x e = let same : k ≡ 0 + k = omega arith in subst (λ m. slice_get xs m ≡ Some x) same e
get_dropped (suc n) k [] x e = absurd cc
get_dropped (suc n) k (y ∷ xs) x e = let same : suc (n + k) ≡ suc n + k = omega arith in subst (λ m. slice_get (y ∷ xs) m ≡ Some x) same (get_dropped n k xs x e)

access_word : (w : Word) → of_kind kind.Access w ≡ true → (a : Access) × (w ≡ word.Access a)
access_word (word.Access a) h = (a, refl)
access_word _ h = absurd cc

step_is : (w : Word) → of_kind kind.Step w ≡ true → (s : Step) × (w ≡ word.Step s)
step_is (word.Step s) h = (s, refl)
step_is _ h = absurd cc

word_of_name : (k : TokenKind) (bs : List ℕ) → is_name_kind k ≡ true → word_of k bs ≡ word.Name
word_of_name lex_kind.Name bs e = refl
word_of_name lex_kind.Keyword bs e = absurd cc
word_of_name lex_kind.Number bs e = absurd cc
word_of_name lex_kind.Text bs e = absurd cc
word_of_name lex_kind.Punctuator bs e = absurd cc
word_of_name lex_kind.Pragma bs e = absurd cc

-- no rule but that of primary expressions has literals
is_calm : (r : Rule) → (r ≡ rule.Prim) ⊎ IsTrue (calm (rule_of r))
is_calm rule.Prim = inl refl
is_calm _ = inr refl

abbrev suffixes : Pattern
suffixes = g.token word.OpenBracket ⋅ expr ⋅ g.token word.CloseBracket ∣ g.token word.Open ⋅ opt (assign ⋅ many (g.token word.Comma ⋅ assign)) ⋅ g.token word.Close ∣ g.any kind.Access ⋅ g.token word.Name ∣ g.any kind.Step

index_one : (ns : List Raw) → Parts (expr ⋅ g.token word.CloseBracket) Over ns → IsTrue (postfix_ok (Some suffix.Index) ns)
index_one [] h = absurd h
index_one (i ∷ []) h = refl
index_one (i ∷ j ∷ ns) h = absurd h.1

module _ (t : Text) (names : t.names.now ≡ numbered t.source.now t.tokens.now) (constants : t.texts.now.constants.items ≡ constants_of t.source.now t.tokens.now)
    (numbers : t.texts.now.numbers.items ≡ numbers_of t.tokens.now) (all : All (IsSpelled t.source.now) t.tokens.now) where
  abbrev source : List ℕ
  source = t.source.now

  abbrev tokens : List Token
  tokens = t.tokens.now

  abbrev Has : ℕ → Word → Type 0
  Has = HasWord source tokens

  abbrev At : Raw → List Piece → Type 0
  At n xs = Placed source tokens (out-Raw n).first (out-Raw n).end xs

  abbrev Of : Raw → List Piece → Type 0
  Of n xs = (out-Raw n).parts ≡ nodes xs

  abbrev In : Rule → List Piece → Type 0
  In r xs = Reads (rule_of r) Ended xs

  abbrev Ok : Raw → Rule → List Piece → Type 0
  Ok n r xs = IsTrue (level_ok t n r (nodes xs))

  -- names ---------------------------------------------------------------------------------

  named_at : (o : Option ℕ) (k : ℕ) → o ≡ Some k → Has k word.Name → IsTrue (is_named t o)
  named_at o k e h = ap (is_named t) e ∙ name_has t names k h

  struct_named : (n : Raw) (xs : List Piece) → At n xs → In rule.Struct xs → IsTrue (is_named t (struct_name tokens n))
  struct_named n [] p h = absurd h
  struct_named n (part m ∷ xs) p h = absurd h.0
  struct_named n (token w ∷ []) p h = absurd h.1
  struct_named n (token w ∷ part m ∷ xs) p h = absurd h.1.0
  struct_named n (token w ∷ token v ∷ xs) p h =
      let here = subst (Has ((out-Raw n).first + 1)) (same_word word.Name v refl h.1.0) p.1.0 in
      named_at (struct_name tokens n) ((out-Raw n).first + 1) (name_token t ((out-Raw n).first + 1) here) here

  place_named : (n : Raw) (xs : List Piece) → At n xs → In rule.Place xs → IsTrue (is_some (name_of t (out-Raw n).first))
  place_named n [] p h = absurd h
  place_named n (part m ∷ xs) p h = absurd h.0
  place_named n (token w ∷ xs) p h = name_has t names (out-Raw n).first (subst (Has (out-Raw n).first) (same_word word.Name w refl h.0) p.0)

  declr_name : (K : Claim) (n : Raw) (xs : List Piece) → At n xs → Reads stars (One (item.Word word.Name) K) xs → IsTrue (is_named t (declarator_name tokens n))
  declr_name K n xs p h = let f = declr_named source tokens K xs (out-Raw n).first (out-Raw n).end p h in named_at (declarator_name tokens n) f.number f.is f.has

  callee_is : (n : Raw) (xs : List Piece) → At n xs → In rule.Callee xs → IsTrue (is_named t (callee_name tokens n))
  callee_is n xs p h =
      let last = callee_named source tokens xs (out-Raw n).first (out-Raw n).end p h in
      named_at (callee_name tokens n) ((out-Raw n).end - 1) (name_token t ((out-Raw n).end - 1) last) last

  stars_begin : (K : Claim) (n : Raw) (xs : List Piece) → At n xs → Reads stars (One (item.Word word.Name) K) xs → IsTrue (begins_with_star (stars_in t (out-Raw n).first (out-Raw n).end))
  stars_begin K n xs p h = head_starts source tokens xs (out-Raw n).first (out-Raw n).end p (declr_head K xs h)

  -- the names among tokens
  names_have : (ts : List Token) (n : ℕ) → ((k : ℕ) (x : Token) → slice_get ts k ≡ Some x → slice_get tokens (n + k) ≡ Some x) → IsTrue (every (map (λ k. is_some (name_of t k)) (names_from n ts)))
  names_have [] n f = refl
  names_have (x ∷ ts) n f = by (is_name_kind x.kind) refl
      (names_have ts (n + 1) (λ k y e. let next : n + suc k ≡ (n + 1) + k = omega arith in subst (λ m. slice_get tokens m ≡ Some y) next (f (suc k) y e)))
    where
      by : (b : Bool) → is_name_kind x.kind ≡ b → IsTrue (every (map (λ k. is_some (name_of t k)) (names_from (n + 1) ts))) →
          IsTrue (every (map (λ k. is_some (name_of t k)) (if is_name_kind x.kind then n ∷ names_from (n + 1) ts else names_from (n + 1) ts)))
      by true e r =
          let here : n + 0 ≡ n = omega arith in
          let at : slice_get tokens n ≡ Some x = subst (λ m. slice_get tokens m ≡ Some x) here (f 0 x refl) in
          let has : Has n word.Name = record { at = x; found = at; spells = word_of_name x.kind (slice_range source x.text.start x.text.end) e } in
          ap (λ b. every (map (λ k. is_some (name_of t k)) (if b then n ∷ names_from (n + 1) ts else names_from (n + 1) ts))) e
          ∙ and_both (is_some (name_of t n)) _ (name_has t names n has) r
      by false e r = ap (λ b. every (map (λ k. is_some (name_of t k)) (if b then n ∷ names_from (n + 1) ts else names_from (n + 1) ts))) e ∙ r

  between_have : (ps : List Raw) → IsTrue (every (map (λ k. is_some (name_of t k)) (names_between tokens ps)))
  between_have [] = refl
  between_have (a ∷ []) = refl
  between_have (a ∷ b ∷ ps) = names_have (slice_range tokens (out-Raw a).end (out-Raw b).first) (out-Raw a).end
      (λ k x e. get_dropped (out-Raw a).end k tokens x (get_taken ((out-Raw b).first - (out-Raw a).end) (drop (out-Raw a).end tokens) k x e))

  -- operators -------------------------------------------------------------------------------

  behind_is : (n a : Raw) (w : Word) (ys : List Piece) → (out-Raw n).parts ≡ a ∷ nodes ys → Has (out-Raw a).end w → word_behind source tokens n ≡ Some w
  behind_is n a w ys e h = ap (λ ps. option_map (word_at source tokens) (option_map (λ p. (out-Raw p).end) (slice_get ps 0))) e ∙ ap Some (word_is source tokens (out-Raw a).end w h)

  abbrev Behind : Raw → Kind → Type 0
  Behind n k = (w : Word) × (word_behind source tokens n ≡ Some w) × (of_kind k w ≡ true)

  behind_kind : (c : Class) (k : Kind) (K : Claim) (n : Raw) (xs : List Piece) → Of n xs → At n xs → One (item.Part c) (One (item.Kind k) K) xs → Behind n k
  behind_kind c k K n [] e p h = absurd h
  behind_kind c k K n (token w ∷ xs) e p h = absurd h.0
  behind_kind c k K n (part a ∷ []) e p h = absurd h.1
  behind_kind c k K n (part a ∷ part b ∷ xs) e p h = absurd h.1.0
  behind_kind c k K n (part a ∷ token w ∷ xs) e p h = (w, behind_is n a w xs e p.2.0, h.1.0)

  first_kind : (k : Kind) (K : Claim) (n : Raw) (xs : List Piece) → At n xs → One (item.Kind k) K xs → (w : Word) × (word_at source tokens (out-Raw n).first ≡ w) × (of_kind k w ≡ true)
  first_kind k K n [] p h = absurd h
  first_kind k K n (part a ∷ xs) p h = absurd h.0
  first_kind k K n (token w ∷ xs) p h = (w, word_is source tokens (out-Raw n).first w p.0, h.0)

  prefix_some : (n : Raw) (xs : List Piece) → At n xs → In rule.Unary xs → IsTrue (is_some (prefix_in t n))
  prefix_some n xs p (inl h) = let f = first_kind kind.Step _ n xs p h in ap (λ w. is_some (prefix_of w)) f.1 ∙ step_word f.0 f.2
  prefix_some n xs p (inr h) = let f = first_kind kind.Prefix _ n xs p h in ap (λ w. is_some (prefix_of w)) f.1 ∙ prefix_word f.0 f.2

  suffix_fits : (n a : Raw) (ys : List Piece) → (out-Raw n).parts ≡ a ∷ nodes ys → Placed source tokens (out-Raw a).end (out-Raw n).end ys → Reads suffixes Ended ys → IsTrue (postfix_ok (suffix_in t n) (nodes ys))
  suffix_fits n a [] e p (inl h) = absurd h
  suffix_fits n a [] e p (inr (inl h)) = absurd h
  suffix_fits n a [] e p (inr (inr (inl h))) = absurd h
  suffix_fits n a [] e p (inr (inr (inr h))) = absurd h
  suffix_fits n a (part b ∷ ys) e p (inl h) = absurd h.0
  suffix_fits n a (part b ∷ ys) e p (inr (inl h)) = absurd h.0
  suffix_fits n a (part b ∷ ys) e p (inr (inr (inl h))) = absurd h.0
  suffix_fits n a (part b ∷ ys) e p (inr (inr (inr h))) = absurd h.0
  suffix_fits n a (token w ∷ ys) e p (inl h) =
      ap (λ s. postfix_ok (option_and_then suffix_of s) (nodes ys)) (behind_is n a w ys e p.0)
      ∙ ap (λ v. postfix_ok (suffix_of v) (nodes ys)) (same_word word.OpenBracket w refl h.0)
      ∙ index_one (nodes ys) (parts_read (expr ⋅ g.token word.CloseBracket) Ended Over over_ended ys h.1)
  suffix_fits n a (token w ∷ ys) e p (inr (inl h)) =
      ap (λ s. postfix_ok (option_and_then suffix_of s) (nodes ys)) (behind_is n a w ys e p.0)
      ∙ ap (λ v. postfix_ok (suffix_of v) (nodes ys)) (same_word word.Open w refl h.0)
  suffix_fits n a (token w ∷ []) e p (inr (inr (inl h))) = absurd h.1
  suffix_fits n a (token w ∷ part b ∷ ys) e p (inr (inr (inl h))) = absurd h.1.0
  suffix_fits n a (token w ∷ token v ∷ []) e p (inr (inr (inl h))) =
      ap (λ s. postfix_ok (option_and_then suffix_of s) []) (behind_is n a w (token v ∷ []) e p.0)
      ∙ ap (λ u. postfix_ok (suffix_of u) []) (access_word w h.0).1
  suffix_fits n a (token w ∷ token v ∷ y ∷ ys) e p (inr (inr (inl h))) = absurd h.1.1
  suffix_fits n a (token w ∷ []) e p (inr (inr (inr h))) =
      ap (λ s. postfix_ok (option_and_then suffix_of s) []) (behind_is n a w [] e p.0)
      ∙ ap (λ u. postfix_ok (suffix_of u) []) (step_is w h.0).1
  suffix_fits n a (token w ∷ y ∷ ys) e p (inr (inr (inr h))) = absurd h.1

  postfix_ok_of : (n : Raw) (xs : List Piece) → Of n xs → At n xs → In rule.Postfix xs → Ok n rule.Postfix xs
  postfix_ok_of n [] e p h = absurd h
  postfix_ok_of n (token w ∷ xs) e p h = absurd h.0
  postfix_ok_of n (part a ∷ xs) e p h = levels.postfix_level t n a (nodes xs) (suffix_fits n a xs e p.2 h.1) (parts_of_rule rule.Postfix (part a ∷ xs) h)

  -- primary expressions -----------------------------------------------------------------------

  prim_token : (n : Raw) (w : Word) → Has (out-Raw n).first w → (out-Raw n).first + 1 ≡ (out-Raw n).end → IsTrue (is_primary t (out-Raw n).first w) → IsTrue (level_ok t n rule.Prim [])
  unfolding level_ok
  prim_token n w h e i = and_both ((out-Raw n).end == (out-Raw n).first + 1) _ (eq-eqb (out-Raw n).end ((out-Raw n).first + 1) (sym e))
      (subst (λ v. IsTrue (is_primary t (out-Raw n).first v)) (sym (word_is source tokens (out-Raw n).first w h)) i)

  literal_primary : (k : ℕ) (w : Word) → Has k w → of_kind kind.Literal w ≡ true → IsTrue (is_primary t k w)
  literal_primary k (word.Literal literal.Number) h e = constant_has t constants all k h
  literal_primary k (word.Literal literal.Text) h e = literal_has t numbers k h
  literal_primary k _ h e = absurd cc

  prim_group : (n : Raw) (ns : List Raw) → Parts (expr ⋅ g.token word.Close) Over ns → IsTrue (level_ok t n rule.Prim ns)
  unfolding level_ok
  prim_group n [] h = absurd h
  prim_group n (a ∷ []) h = expr_class strength.Expr (rule_in a) h.0
  prim_group n (a ∷ b ∷ ns) h = absurd h.1

  prim_ok : (n : Raw) (xs : List Piece) → At n xs → In rule.Prim xs → Ok n rule.Prim xs
  prim_ok n [] p (inl h) = absurd h
  prim_ok n [] p (inr (inl h)) = absurd h
  prim_ok n [] p (inr (inr h)) = absurd h
  prim_ok n (part a ∷ xs) p (inl h) = absurd h.0
  prim_ok n (part a ∷ xs) p (inr (inl h)) = absurd h.0
  prim_ok n (part a ∷ xs) p (inr (inr h)) = absurd h.0
  prim_ok n (token w ∷ []) p (inl h) =
      let same = same_word word.Name w refl h.0 in
      prim_token n w p.0 p.1 (subst (λ v. IsTrue (is_primary t (out-Raw n).first v)) (sym same) (name_has t names (out-Raw n).first (subst (Has (out-Raw n).first) same p.0)))
  prim_ok n (token w ∷ x ∷ xs) p (inl h) = absurd h.1
  prim_ok n (token w ∷ []) p (inr (inl h)) = prim_token n w p.0 p.1 (literal_primary (out-Raw n).first w p.0 h.0)
  prim_ok n (token w ∷ x ∷ xs) p (inr (inl h)) = absurd h.1
  prim_ok n (token w ∷ xs) p (inr (inr h)) = prim_group n (nodes xs) (parts_read (expr ⋅ g.token word.Close) Ended Over over_ended xs h.1)

  -- parameters and specifiers -------------------------------------------------------------------

  param_begins : (n : Raw) (xs : List Piece) → At n xs → In rule.Param xs → (m : Raw) (ms : List Raw) → nodes xs ≡ m ∷ ms → IsTrue (begins_with_star (stars_in t (out-Raw m).end (out-Raw n).end))
  param_begins n [] p h m ms e = absurd h
  param_begins n (token w ∷ xs) p h m ms e = absurd h.0
  param_begins n (part a ∷ xs) p h m ms e =
      let same : a ≡ m = cc in
      subst (λ k. IsTrue (begins_with_star (stars_in t (out-Raw k).end (out-Raw n).end))) same (head_starts source tokens xs (out-Raw a).end (out-Raw n).end p.2 (param_head xs h.1))

  specs_are : (n : Raw) (xs : List Piece) → Of n xs → At n xs → In rule.Specs xs → IsTrue (often kinds.is_struct (specifier_words source tokens n) == length (nodes xs))
  specs_are n xs e p h =
      let same : specifier_words source tokens n ≡ spelled xs = ap (λ ps. words_around source tokens (out-Raw n).first (out-Raw n).end ps) e ∙ words_are source tokens xs (out-Raw n).first (out-Raw n).end p in
      eq-eqb (often kinds.is_struct (specifier_words source tokens n)) (length (nodes xs)) (ap (often kinds.is_struct) same ∙ specs_counted xs h)

  -- a node of a rule has its shape ------------------------------------------------------------------

  level : (r : Rule) (n : Raw) (xs : List Piece) → Of n xs → At n xs → In r xs → Ok n r xs
  level rule.Unit n xs e p h = levels.unit_level t n (nodes xs) (parts_of_rule rule.Unit xs h)
  level rule.Pragma n xs e p h = levels.pragma_level t n (nodes xs) (parts_of_rule rule.Pragma xs h)
  level rule.Declaration n xs e p h = levels.declaration_level t n (nodes xs) (parts_of_rule rule.Declaration xs h)
  level rule.Function n xs e p h = levels.function_level t n (nodes xs) (parts_of_rule rule.Function xs h)
  level rule.Specs n xs e p h = levels.specs_level t n (nodes xs) (specs_are n xs e p h) (parts_of_rule rule.Specs xs h)
  level rule.Struct n xs e p h = levels.struct_level t n (nodes xs) (struct_named n xs p h) (parts_of_rule rule.Struct xs h)
  level rule.Member n xs e p h = levels.member_level t n (nodes xs) (parts_of_rule rule.Member xs h)
  level rule.Declr n xs e p h = levels.declr_level t n (nodes xs) (declr_name _ n xs p h) (stars_begin _ n xs p h) (parts_of_rule rule.Declr xs h)
  level rule.Callee n xs e p h = levels.callee_level t n (nodes xs) (callee_is n xs p h) (stars_begin Ended n xs p h) (parts_of_rule rule.Callee xs h)
  level rule.Dinit n xs e p h = levels.dinit_level t n (nodes xs) (parts_of_rule rule.Dinit xs h)
  level rule.Initialisers n xs e p h = levels.initialisers_level t n (nodes xs) (parts_of_rule rule.Initialisers xs h)
  level rule.Params n xs e p h = levels.params_level t n (nodes xs) (parts_of_rule rule.Params xs h)
  level rule.Param n xs e p h = levels.param_level t n (nodes xs) (param_begins n xs p h) (parts_of_rule rule.Param xs h)
  level rule.Block n xs e p h = levels.block_level t n (nodes xs) (parts_of_rule rule.Block xs h)
  level rule.Sub n xs e p h = levels.sub_level t n (nodes xs) (parts_of_rule rule.Sub xs h)
  level rule.Eval n xs e p h = levels.eval_level t n (nodes xs) (parts_of_rule rule.Eval xs h)
  level rule.Clause n xs e p h = levels.clause_level t n (nodes xs) (parts_of_rule rule.Clause xs h)
  level rule.Step n xs e p h = levels.step_level t n (nodes xs) (parts_of_rule rule.Step xs h)
  level rule.Return n xs e p h = levels.return_level t n (nodes xs) (parts_of_rule rule.Return xs h)
  level rule.If n xs e p h = levels.if_level t n (nodes xs) (parts_of_rule rule.If xs h)
  level rule.While n xs e p h = levels.while_level t n (nodes xs) (parts_of_rule rule.While xs h)
  level rule.Do n xs e p h = levels.do_level t n (nodes xs) (parts_of_rule rule.Do xs h)
  level rule.For n xs e p h = levels.for_level t n (nodes xs) (parts_of_rule rule.For xs h)
  level rule.ForDeclaration n xs e p h = levels.for_declaration_level t n (nodes xs) (parts_of_rule rule.ForDeclaration xs h)
  level rule.Break n xs e p h = levels.break_level t n (nodes xs) (parts_of_rule rule.Break xs h)
  level rule.Continue n xs e p h = levels.continue_level t n (nodes xs) (parts_of_rule rule.Continue xs h)
  level rule.Future n xs e p h = levels.future_level t n (nodes xs) (between_have (out-Raw n).parts) (parts_of_rule rule.Future xs h)
  level rule.Place n xs e p h = levels.place_level t n (nodes xs) (place_named n xs p h) (parts_of_rule rule.Place xs h)
  level rule.Comma n xs e p h = levels.comma_level t n (nodes xs) (parts_of_rule rule.Comma xs h)
  level rule.Assign n xs e p h =
      let b = behind_kind (class.At strength.Unary) kind.Assignment _ n xs e p h in
      levels.assign_level t n (nodes xs) (ap (λ o. is_some (option_and_then assignment_of o)) b.1 ∙ assignment_word b.0 b.2) (parts_of_rule rule.Assign xs h)
  level rule.Cond n xs e p h = levels.cond_level t n (nodes xs) (parts_of_rule rule.Cond xs h)
  level (rule.Binary l) n xs e p h =
      let b = behind_kind (class.At (strength.Binary l)) (kind.Operator l) _ n xs e p h in
      levels.binary_level t n l (nodes xs) (ap (λ o. is_some (option_and_then operator_of o)) b.1 ∙ operator_word l b.0 b.2) (parts_of_rule (rule.Binary l) xs h)
  level rule.Cast n xs e p h = levels.cast_level t n (nodes xs) (parts_of_rule rule.Cast xs h)
  level rule.Unary n xs e p h = levels.unary_level t n (nodes xs) (prefix_some n xs p h) (parts_of_rule rule.Unary xs h)
  level rule.Postfix n xs e p h = postfix_ok_of n xs e p h
  level rule.Prim n xs e p h = prim_ok n xs p h

  -- string literals -----------------------------------------------------------------------------------

  calm_strings : (q : Pattern) → IsTrue (calm q) → (from end : ℕ) (xs : List Piece) → Placed source tokens from end xs → Reads q Ended xs → IsTrue (lacks_around source tokens from end (nodes xs))
  calm_strings q c from end xs p h = lacks_placed source tokens xs from end p (quiet_spelled xs (all_tokens is_quiet q (calm_all q c) xs h))

  strings_by : (r : Rule) → IsTrue (calm (rule_of r)) → (n : Raw) (xs : List Piece) → At n xs → In r xs → IsTrue (strings_ok t n r (nodes xs))
  strings_by r c n xs p h = or_right (is_token r (nodes xs)) _ (calm_strings (rule_of r) c (out-Raw n).first (out-Raw n).end xs p h)

  prim_strings : (n : Raw) (xs : List Piece) → At n xs → In rule.Prim xs → IsTrue (strings_ok t n rule.Prim (nodes xs))
  prim_strings n [] p h = refl
  prim_strings n (token w ∷ []) p h = refl
  prim_strings n (token w ∷ x ∷ xs) p (inl h) = absurd h.1
  prim_strings n (token w ∷ x ∷ xs) p (inr (inl h)) = absurd h.1
  prim_strings n (token w ∷ x ∷ xs) p (inr (inr h)) = or_right (is_token rule.Prim (nodes (token w ∷ x ∷ xs))) _
      (calm_strings (g.token word.Open ⋅ expr ⋅ g.token word.Close) refl (out-Raw n).first (out-Raw n).end (token w ∷ x ∷ xs) p h)
  prim_strings n (part a ∷ xs) p (inl h) = absurd h.0
  prim_strings n (part a ∷ xs) p (inr (inl h)) = absurd h.0
  prim_strings n (part a ∷ xs) p (inr (inr h)) = absurd h.0

  strings : (r : Rule) (n : Raw) (xs : List Piece) → At n xs → In r xs → IsTrue (strings_ok t n r (nodes xs))
  strings r n xs p h = by (is_calm r)
    where
      by : (r ≡ rule.Prim) ⊎ IsTrue (calm (rule_of r)) → IsTrue (strings_ok t n r (nodes xs))
      by (inl e) = subst (λ q. IsTrue (strings_ok t n q (nodes xs))) (sym e) (prim_strings n xs p (subst (λ q. In q xs) e h))
      by (inr c) = strings_by r c n xs p h

  -- trees ----------------------------------------------------------------------------------------------

  all_shaped : (ns : List Raw) → Each (Shaped t) ns → IsTrue (every (map (is_shaped t) ns))
  all_shaped [] h = refl
  all_shaped (n ∷ ns) h = and_both (is_shaped t n) _ h.0 (all_shaped ns h.1)

  opens : (n : Raw) → is_shaped t n ≡ shape_step t n (map (is_shaped t) (out-Raw n).parts)
  unfolding is_shaped
  opens n = by_nodes_is (shape_step t) n

  node_shaped : (n : Raw) (xs : List Piece) → Of n xs → At n xs → In (rule_in n) xs → Each (Shaped t) (out-Raw n).parts → Shaped t n
  node_shaped n xs e p h parts = opens n ∙ and_both (every (map (is_shaped t) (out-Raw n).parts)) _ (all_shaped (out-Raw n).parts parts)
      (and_both (level_ok t n (rule_in n) (out-Raw n).parts) _
      (subst (λ ps. IsTrue (level_ok t n (rule_in n) ps)) (sym e) (level (rule_in n) n xs e p h))
      (subst (λ ps. IsTrue (strings_ok t n (rule_in n) ps)) (sym e) (strings (rule_in n) n xs p h)))

  -- the node that a whole tree makes
  made_shaped : (f : Form) (start : ℕ) (r : Rule) → sort f ≡ Some r → Whole f → AreAt source tokens start (leaves f) → Each (Shaped t) (parts_of start f) → Shaped t (node r start (start + length (leaves f)) (parts_of start f))
  made_shaped f start r e w a parts =
      let end = start + length (leaves f) in
      let l : Raw-F Raw = record { rule = r; first = start; end = end; parts = parts_of start f } in
      let is : out-Raw (roll-Raw l) ≡ l = out-roll-Raw l in
      let xs = pieces start f in
      node_shaped (roll-Raw l) xs
      (ap (λ (m : Raw-F Raw). m.parts) is ∙ parts_are start f)
      (subst (λ (m : Raw-F Raw). Placed source tokens m.first m.end xs) (sym is) (tree_placed source tokens f start w.0 w.1 a))
      (subst (λ (m : Raw-F Raw). In m.rule xs) (sym is) (whole_reads f start r e w))
      (subst (λ (m : Raw-F Raw). Each (Shaped t) m.parts) (sym is) parts)

  raws_by : (f : Form) (start : ℕ) (o : Option Rule) → sort f ≡ o → Whole f → AreAt source tokens start (leaves f) → Each (Shaped t) (parts_of start f) → Each (Shaped t) (node_at o start (start + length (leaves f)) (parts_of start f))
  raws_by f start None e w a parts = tt
  raws_by f start (Some r) e w a parts = (made_shaped f start r e w a parts, tt)

  last_shaped : (i : Item) (start : ℕ) (f : Form) → Fits i f (Whole f) → AreAt source tokens start (leaves f) → ((end : Pattern) → Begun f end → Each (Shaped t) (parts_of start f)) → Each (Shaped t) (raws_of start f)
  last_shaped (item.Part c) start f h a k = raws_by f start (sort f) refl h.0 a (k h.0.0 h.0.1)
  last_shaped (item.Word v) start (leaf w) h a k = tt
  last_shaped (item.Word v) start (begin r) h a k = absurd h
  last_shaped (item.Word v) start (f ▹ g) h a k = absurd h
  last_shaped (item.Kind v) start (leaf w) h a k = tt
  last_shaped (item.Kind v) start (begin r) h a k = absurd h
  last_shaped (item.Kind v) start (f ▹ g) h a k = absurd h

  parts_shaped : (f : Form) (start : ℕ) (left : Pattern) → Begun f left → AreAt source tokens start (leaves f) → Each (Shaped t) (parts_of start f)
  parts_shaped (leaf w) start left b a = tt
  parts_shaped (begin r) start left b a = tt
  parts_shaped (f ▹ h) start left b a =
      let here = start + length (leaves f) in
      let two = at_both source tokens start (leaves f) (leaves h) a in
      each_both (Shaped t) (parts_of start f) (raws_of here h) (parts_shaped f start b.from b.begun two.0)
      (last_shaped b.item here h b.fits two.1 (λ end whole. parts_shaped h here end whole two.1))

  pub unit_shaped : (raw : Raw) → Parsed (words_of source tokens) raw → IsUnit t raw
  unit_shaped raw p =
      let f = p.tree in
      let d = p.is_tree.derives in
      let a : AreAt source tokens 0 (leaves f) = subst (AreAt source tokens 0) (sym d.spelled) (words_at source tokens) in
      let end = 0 + length (leaves f) in
      let l : Raw-F Raw = record { rule = rule.Unit; first = 0; end = end; parts = parts_of 0 f } in
      let list : raw ∷ [] ≡ roll-Raw l ∷ [] = p.made ∙ ap (λ o. node_at o 0 end (parts_of 0 f)) d.unit in
      let same : raw ≡ roll-Raw l = cc in
      let is : out-Raw raw ≡ l = ap out-Raw same ∙ out-roll-Raw l in
      let many : end ≡ length tokens = omega (arith, ap length d.spelled, length-map tokens (word_in source)) in
      record {
        shaped = subst (Shaped t) (sym same) (made_shaped f 0 rule.Unit d.unit d.whole a (parts_shaped f 0 d.whole.0 d.whole.1 a));
        unit = ap (λ (m : Raw-F Raw). m.rule) is;
        first = ap (λ (m : Raw-F Raw). m.first) is;
        end = ap (λ (m : Raw-F Raw). m.end) is ∙ many;
      }
