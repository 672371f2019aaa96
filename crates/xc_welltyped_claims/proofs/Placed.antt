-- Where the tokens and the parts of a node stand in a text.
use Rattle.std.proofs.Common.{◌≡◌, ℕ, zero, suc, ◌+◌, ◌-◌, ◌≤◌, ◌<◌, List, [], ◌∷◌, ◌++◌, length, length-append, map, take, drop, Option, Some, None, Bool, refl, sym, ap, ◌∙◌, subst, arith, append_assoc}
use Rattle.std.specs.Prelude.{IsTrue, not, slice_get, slice_range, option_map, unwrap_or}
use Rattle.std.proofs.lemmas.List.{append-nil}
use Rattle.xc_lex.specs.declared.token.Token.{Token}
use Rattle.xc_raw.specs.declared.word.Word.{Word}
use Rattle.xc_raw.specs.declared.word.Word.TheVariants as word
use Rattle.xc_raw.specs.declared.rule.Rule.{Rule}
use Rattle.xc_raw.specs.declared.tree.Raw.{Raw, out-Raw, roll-Raw, out-roll-Raw}
use Rattle.xc_raw.specs.declared.tree.Raw.TheOpen.{Raw-F}
use Rattle.xc_parse_grammar.specs.declared.marks.Class.{Class}
use Rattle.xc_parse_grammar.specs.declared.marks.Item.{Item}
use Rattle.xc_parse_grammar.specs.declared.marks.Item.TheVariants as item
use Rattle.xc_parse_grammar.specs.Grammar.{Form, leaf, begin, ◌▹◌, leaves, Pattern, sort, Is, Fits, Begun}
use Rattle.xc_parse.specs.Raws.{node_at, parts_of}
use Rattle.xc_parse.specs.Texts.{words_of}
use Rattle.xc_tree.specs.Lists.{every}
use Rattle.xc_tree.proofs.Lists.{and_left, and_right, and_both}
use Rattle.xc_raw_parts.specs.Words.{word_in, words_in, words_around}
use Rattle.xc_raw_parts.specs.Spans.{word_at}
use Rattle.xc_welltyped_claims.specs.Shaped.{is_string, lacks_strings, lacks_around}
use Rattle.xc_welltyped_claims.proofs.Patterns.{Piece, token, part, nodes, parts_as, piece_of, pieces}

-- the token of this number is this word
pub record HasWord (source : List ℕ) (tokens : List Token) (k : ℕ) (w : Word) : Type 0 where
  pub at : Token
  pub found : slice_get tokens k ≡ Some at
  pub spells : word_in source at ≡ w

-- the words of pieces, with `struct` for each part
abbrev pub spelled : List Piece → List Word
spelled [] = []
spelled (token w ∷ xs) = w ∷ spelled xs
spelled (part n ∷ xs) = word.Struct ∷ spelled xs

abbrev pub is_quiet : Word → Bool
is_quiet w = not (is_string w)

-- stretches of tokens ---------------------------------------------------------------

drop_first : {A : Type 0} (xs : List A) (k : ℕ) (x : A) → slice_get xs k ≡ Some x → drop k xs ≡ x ∷ drop (suc k) xs
drop_first [] k x e = absurd cc
drop_first (y ∷ xs) zero x e = let same : y ≡ x = cc in ap (λ z. z ∷ xs) same
drop_first (y ∷ xs) (suc k) x e = drop_first xs k x e

-- a stretch by its first token
pub range_first : (ts : List Token) (from to : ℕ) (x : Token) → slice_get ts from ≡ Some x → from < to → slice_range ts from to ≡ x ∷ slice_range ts (from + 1) to
range_first ts from to x e lt =
    let many : to - from ≡ suc (to - (from + 1)) = omega (arith, lt) in
    let next : suc from ≡ from + 1 = omega arith in
    (λ i. take (many i) (drop_first ts from x e i)) ∙ ap (λ k. x ∷ take (to - (from + 1)) (drop k ts)) next

pub range_none : (ts : List Token) (k : ℕ) → slice_range ts k k ≡ []
range_none ts k = let none : k - k ≡ 0 = omega arith in ap (λ n. take n (drop k ts)) none

-- the places of pieces ----------------------------------------------------------------

module _ (source : List ℕ) (tokens : List Token) where
  abbrev Has : ℕ → Word → Type 0
  Has = HasWord source tokens

  pub word_is : (k : ℕ) (w : Word) → Has k w → word_at source tokens k ≡ w
  word_is k w h = ap (λ o. unwrap_or (option_map (word_in source) o) word.Foreign) h.found ∙ h.spells

  -- the words stand there, one behind the other
  abbrev pub AreAt : ℕ → List Word → Type 0
  AreAt k [] = Unit {0}
  AreAt k (w ∷ ws) = Has k w × AreAt (k + 1) ws

  -- the pieces stand there up to a token
  abbrev pub Placed : ℕ → ℕ → List Piece → Type 0
  Placed from end [] = from ≡ end
  Placed from end (token w ∷ xs) = Has from w × Placed (from + 1) end xs
  Placed from end (part n ∷ xs) = ((out-Raw n).first ≡ from) × (from ≤ (out-Raw n).end) × Placed (out-Raw n).end end xs

  at_left : (k : ℕ) (xs ys : List Word) → AreAt k (xs ++ ys) → AreAt k xs
  at_left k [] ys h = tt
  at_left k (x ∷ xs) ys h = (h.0, at_left (k + 1) xs ys h.1)

  at_right : (k : ℕ) (xs ys : List Word) → AreAt k (xs ++ ys) → AreAt (k + length xs) ys
  at_right k [] ys h = let same : k ≡ k + 0 = omega arith in subst (λ n. AreAt n ys) same h
  at_right k (x ∷ xs) ys h =
      let same : (k + 1) + length xs ≡ k + length (x ∷ xs) = omega arith in
      subst (λ n. AreAt n ys) same (at_right (k + 1) xs ys h.1)

  pub at_both : (k : ℕ) (xs ys : List Word) → AreAt k (xs ++ ys) → AreAt k xs × AreAt (k + length xs) ys
  at_both k xs ys h = (at_left k xs ys h, at_right k xs ys h)

  -- the words of the tokens
  at_all : (n : ℕ) (ts : List Token) → ((k : ℕ) (x : Token) → slice_get ts k ≡ Some x → slice_get tokens (n + k) ≡ Some x) → AreAt n (words_of source ts)
  at_all n [] f = tt
  at_all n (x ∷ ts) f =
      let here : n + 0 ≡ n = omega arith in (
        record { at = x; found = subst (λ m. slice_get tokens m ≡ Some x) here (f 0 x refl); spells = refl },
        at_all (n + 1) ts (λ k y e. let next : n + suc k ≡ (n + 1) + k = omega arith in subst (λ m. slice_get tokens m ≡ Some y) next (f (suc k) y e)),
      )

  pub words_at : AreAt 0 (words_of source tokens)
  words_at = at_all 0 tokens (λ k x e. let same : k ≡ 0 + k = omega arith in subst (λ m. slice_get tokens m ≡ Some x) same e)

  placed_from : (xs : List Piece) (end k m : ℕ) → k ≡ m → Placed k end xs → Placed m end xs
  placed_from xs end k m e h = subst (λ n. Placed n end xs) e h

  placed_node : (c : Class) (o : Option Rule) → Is c o → (from len : ℕ) (ps : List Raw) (end : ℕ) (xs : List Piece) → Placed (from + len) end xs → Placed from end (parts_as (node_at o from (from + len) ps) ++ xs)
  placed_node c None i from len ps end xs h = absurd i
  placed_node c (Some r) i from len ps end xs h =
      let l : Raw-F Raw = record { rule = r; first = from; end = from + len; parts = ps } in
      let is : out-Raw (roll-Raw l) ≡ l = out-roll-Raw l in
      let last : (out-Raw (roll-Raw l)).end ≡ from + len = ap (λ (m : Raw-F Raw). m.end) is in
      (ap (λ (m : Raw-F Raw). m.first) is, omega (arith, last), placed_from xs end (from + len) (out-Raw (roll-Raw l)).end (sym last) h)

  -- the piece that a tree is
  placed_piece : (i : Item) (start : ℕ) (g : Form) (whole : Type 0) → Fits i g whole → AreAt start (leaves g) → (end : ℕ) (xs : List Piece) → Placed (start + length (leaves g)) end xs → Placed start end (piece_of start g ++ xs)
  placed_piece (item.Part c) start (leaf w) whole f a end xs h = absurd f.1
  placed_piece (item.Part c) start (begin r) whole f a end xs h = placed_node c (sort (begin r)) f.1 start (length (leaves (begin r))) (parts_of start (begin r)) end xs h
  placed_piece (item.Part c) start (f ▹ g) whole i a end xs h = placed_node c (sort (f ▹ g)) i.1 start (length (leaves (f ▹ g))) (parts_of start (f ▹ g)) end xs h
  placed_piece (item.Word v) start (leaf w) whole f a end xs h = (a.0, placed_from xs end (start + length (w ∷ [])) (start + 1) (omega arith) h)
  placed_piece (item.Word v) start (begin r) whole f a end xs h = absurd f
  placed_piece (item.Word v) start (f ▹ g) whole i a end xs h = absurd i
  placed_piece (item.Kind v) start (leaf w) whole f a end xs h = (a.0, placed_from xs end (start + length (w ∷ [])) (start + 1) (omega arith) h)
  placed_piece (item.Kind v) start (begin r) whole f a end xs h = absurd f
  placed_piece (item.Kind v) start (f ▹ g) whole i a end xs h = absurd i

  -- what stands in a tree
  placed_tree : (f : Form) (start : ℕ) (left : Pattern) → Begun f left → AreAt start (leaves f) → (end : ℕ) (xs : List Piece) → Placed (start + length (leaves f)) end xs → Placed start end (pieces start f ++ xs)
  placed_tree (leaf w) start left b a end xs h = absurd b
  placed_tree (begin r) start left b a end xs h = placed_from xs end (start + 0) start (omega arith) h
  placed_tree (f ▹ g) start left b a end xs h =
      let here = start + length (leaves f) in
      let two = at_both start (leaves f) (leaves g) a in
      let long : start + length (leaves f ++ leaves g) ≡ here + length (leaves g) = omega (arith, length-append (leaves f) (leaves g)) in
      let p = placed_piece b.item here g _ b.fits two.1 end xs (placed_from xs end _ _ long h) in
      subst (Placed start end) (sym (append_assoc (pieces start f) (piece_of here g) xs)) (placed_tree f start b.from b.begun two.0 end (piece_of here g ++ xs) p)

  pub tree_placed : (f : Form) (start : ℕ) (left : Pattern) → Begun f left → AreAt start (leaves f) → Placed start (start + length (leaves f)) (pieces start f)
  tree_placed f start left b a = subst (Placed start (start + length (leaves f))) (append-nil (pieces start f)) (placed_tree f start left b a (start + length (leaves f)) [] refl)

  -- words around parts --------------------------------------------------------------------

  abbrev pub up_to : ℕ → List Raw → ℕ
  up_to end [] = end
  up_to end (n ∷ ns) = (out-Raw n).first

  pub placed_up_to : (xs : List Piece) (from end : ℕ) → Placed from end xs → from ≤ up_to end (nodes xs)
  placed_up_to [] from end h = omega (arith, h)
  placed_up_to (token w ∷ xs) from end h = omega (arith, placed_up_to xs (from + 1) end h.1)
  placed_up_to (part n ∷ xs) from end h = omega (arith, h.0)

  words_next : (ns : List Raw) (from end : ℕ) (x : Token) → slice_get tokens from ≡ Some x → from < up_to end ns → words_around source tokens from end ns ≡ word_in source x ∷ words_around source tokens (from + 1) end ns
  unfolding words_around
  words_next [] from end x e lt = ap (words_in source) (range_first tokens from end x e lt)
  words_next (n ∷ ns) from end x e lt = ap (λ l. words_in source l ++ word.Struct ∷ words_around source tokens (out-Raw n).end end ns) (range_first tokens from (out-Raw n).first x e lt)

  pub words_are : (xs : List Piece) (from end : ℕ) → Placed from end xs → words_around source tokens from end (nodes xs) ≡ spelled xs
  unfolding words_around
  words_are [] from end h = ap (λ k. words_in source (slice_range tokens k end)) h ∙ ap (words_in source) (range_none tokens end)
  words_are (token w ∷ xs) from end h =
      words_next (nodes xs) from end h.0.at h.0.found (omega (arith, placed_up_to xs (from + 1) end h.1))
      ∙ (λ i. h.0.spells i ∷ words_are xs (from + 1) end h.1 i)
  words_are (part n ∷ xs) from end h =
      (λ i. words_in source (slice_range tokens from (h.0 i)) ++ word.Struct ∷ words_are xs (out-Raw n).end end h.2 i)
      ∙ ap (λ l. words_in source l ++ word.Struct ∷ spelled xs) (range_none tokens from)

  -- string literals -------------------------------------------------------------------------

  lacks_words : (xs : List Token) (ys : List Word) → IsTrue (every (map is_quiet (words_in source xs ++ ys))) → IsTrue (lacks_strings source xs) × IsTrue (every (map is_quiet ys))
  lacks_words [] ys h = (refl, h)
  lacks_words (x ∷ xs) ys h =
      let rest = lacks_words xs ys (and_right (is_quiet (word_in source x)) _ h) in
      (and_both (is_quiet (word_in source x)) _ (and_left (is_quiet (word_in source x)) _ h) rest.0, rest.1)

  lacks_all : (ns : List Raw) (from end : ℕ) → IsTrue (every (map is_quiet (words_around source tokens from end ns))) → IsTrue (lacks_around source tokens from end ns)
  unfolding words_around lacks_around
  lacks_all [] from end h = (lacks_words (slice_range tokens from end) [] (subst (λ l. IsTrue (every (map is_quiet l))) (sym (append-nil (words_in source (slice_range tokens from end)))) h)).0
  lacks_all (n ∷ ns) from end h =
      let two = lacks_words (slice_range tokens from (out-Raw n).first) (word.Struct ∷ words_around source tokens (out-Raw n).end end ns) h in
      and_both (lacks_strings source (slice_range tokens from (out-Raw n).first)) _ two.0 (lacks_all ns (out-Raw n).end end (and_right (is_quiet word.Struct) _ two.1))

  pub lacks_placed : (xs : List Piece) (from end : ℕ) → Placed from end xs → IsTrue (every (map is_quiet (spelled xs))) → IsTrue (lacks_around source tokens from end (nodes xs))
  lacks_placed xs from end p h = lacks_all (nodes xs) from end (subst (λ l. IsTrue (every (map is_quiet l))) (sym (words_are xs from end p)) h)
