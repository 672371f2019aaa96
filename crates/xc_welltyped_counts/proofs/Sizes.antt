-- How large nodes are, by how many tokens they cover.
use Rattle.std.proofs.Common.{◌≡◌, ℕ, ◌+◌, ◌*◌, ◌-◌, ◌≤◌, List, [], ◌∷◌, length, drop, Bool, true, false, refl, sym, ap, ◌∙◌, subst, arith, Option, Some, None, if◌then◌else◌}
use Rattle.std.specs.Prelude.{slice_range}
use Rattle.std.proofs.lemmas.List.{length-drop, length-map, length-take}
use Rattle.xc_lex.specs.declared.token.Token.{Token}
use Rattle.xc_raw.specs.declared.rule.Rule.{Rule}
use Rattle.xc_raw.specs.declared.rule.Rule.TheVariants as rule
use Rattle.xc_raw.specs.declared.tree.Raw.{Raw, out-Raw, roll-Raw, out-roll-Raw}
use Rattle.xc_raw.specs.declared.tree.Raw.TheOpen.{Raw-F}
use Rattle.xc_parse_grammar.specs.declared.marks.Item.{Item}
use Rattle.xc_parse_grammar.specs.declared.marks.Item.TheVariants as item
use Rattle.xc_parse_grammar.specs.Grammar.{Form, leaf, begin, ◌▹◌, leaves, Pattern, rule_of, sort, Fits, Begun, Whole}
use Rattle.xc_parse.specs.Raws.{node_at, parts_of, raws_of}
use Rattle.xc_parse.specs.Texts.{words_of, Parsed}
use Rattle.xc_raw_parts.specs.Words.{word_in}
use Rattle.xc_raw_parts.specs.Names.{is_name, names_from, names_between, captured_names}
use Rattle.xc_raw_parts.proofs.Nodes.{by_nodes_is}
use Rattle.xc_welltyped_claims.specs.Lists.{Each}
use Rattle.xc_welltyped_claims.specs.Shaped.{rule_in}
use Rattle.xc_welltyped_claims.proofs.Lists.{each_both}
use Rattle.xc_welltyped_claims.proofs.Patterns.{Piece, token, part, nodes, node, pieces, Ended, Reads, whole_reads, parts_are}
use Rattle.xc_welltyped_claims.proofs.Placed.{Placed, AreAt, at_both, words_at, tree_placed}
use Rattle.xc_welltyped_counts.specs.Sizes.{own_from, own_tokens, size_step, size, sizes}
use Rattle.xc_welltyped_counts.proofs.Credits.{left, credit, pieces_pay}

-- the tokens among pieces
abbrev own : List Piece → ℕ
own [] = 0
own (token w ∷ xs) = 1 + own xs
own (part n ∷ xs) = own xs

names_few : (ts : List Token) (n : ℕ) → length (names_from n ts) ≤ length ts
names_few [] n = omega arith
names_few (x ∷ ts) n = by (is_name x) (names_few ts (n + 1))
  where
    by : (b : Bool) → length (names_from (n + 1) ts) ≤ length ts → length (if b then n ∷ names_from (n + 1) ts else names_from (n + 1) ts) ≤ length (x ∷ ts)
    by true h = omega (arith, h)
    by false h = omega (arith, h)

range_few : (ts : List Token) (from to k : ℕ) → to ≤ from + k → length (slice_range ts from to) ≤ k
range_few ts from to k le = let many = length-take (to - from) (drop from ts) in omega (arith, many, le)

-- one token earlier, there is at most one more
range_earlier : (ts : List Token) (from to : ℕ) → length (slice_range ts from to) ≤ 1 + length (slice_range ts (from + 1) to)
range_earlier ts from to = omega (arith, length-take (to - from) (drop from ts), length-take (to - (from + 1)) (drop (from + 1) ts), length-drop from ts, length-drop (from + 1) ts)

between_own : (ts : List Token) (at end : ℕ) (ns : List Raw) → length (names_between ts ns) ≤ own_from ts at end ns
between_own ts at end [] = omega arith
between_own ts at end (n ∷ []) = omega arith
between_own ts at end (n ∷ m ∷ ns) = omega (arith, names_few (slice_range ts (out-Raw n).end (out-Raw m).first) (out-Raw n).end)

-- the names that a `future` statement copies are among its own tokens
pub captured_own : (ts : List Token) (n : Raw) → length (captured_names ts n) ≤ own_tokens ts n
captured_own ts n = between_own ts (out-Raw n).first (out-Raw n).end (out-Raw n).parts

-- nodes by their parts --------------------------------------------------------------

module _ (ts : List Token) where
  pub size_is : (n : Raw) → size ts n ≡ 1 + own_tokens ts n + sizes ts (out-Raw n).parts
  unfolding size
  size_is n = by_nodes_is (size_step ts) n

  -- a node is as large as its tokens pay for, and leaves something over
  Paid : Raw → Type 0
  Paid n = size ts n + left (rule_in n) + 5 * (out-Raw n).first ≤ 5 * (out-Raw n).end

  module _ (source : List ℕ) where
    abbrev At : ℕ → ℕ → List Piece → Type 0
    At = Placed source ts

    all_paid : (xs : List Piece) (from end : ℕ) → At from end xs → Each Paid (nodes xs) → credit xs + own xs + sizes ts (nodes xs) + 5 * from ≤ 5 * end
    unfolding Paid
    all_paid [] from end p h = omega (arith, p)
    all_paid (token w ∷ xs) from end p h = let more = all_paid xs (from + 1) end p.1 h in omega (arith, more)
    all_paid (part n ∷ xs) from end p h =
        let more = all_paid xs (out-Raw n).end end p.2 h.1 in
        let first = p.0 in
        let here = h.0 in
        omega (arith, more, first, here)

    -- tokens of a node's own -----------------------------------------------------------

    earlier : (ns : List Raw) (from end : ℕ) → own_from ts from end ns ≤ 1 + own_from ts (from + 1) end ns
    earlier [] from end = range_earlier ts from end
    earlier (n ∷ ns) from end = omega (arith, range_earlier ts from (out-Raw n).first)

    own_few : (xs : List Piece) (from end : ℕ) → At from end xs → own_from ts from end (nodes xs) ≤ own xs
    own_few [] from end p = range_few ts from end 0 (omega (arith, p))
    own_few (token w ∷ xs) from end p = let more = own_few xs (from + 1) end p.1 in omega (arith, more, earlier (nodes xs) from end)
    own_few (part n ∷ xs) from end p =
        let more = own_few xs (out-Raw n).end end p.2 in
        let first : (out-Raw n).first ≡ from = p.0 in
        omega (arith, more, range_few ts from (out-Raw n).first 0 (omega (arith, first)))

    -- trees ---------------------------------------------------------------------------------

    node_paid : (n : Raw) (xs : List Piece) → (out-Raw n).parts ≡ nodes xs → At (out-Raw n).first (out-Raw n).end xs → Reads (rule_of (rule_in n)) Ended xs → Each Paid (nodes xs) → Paid n
    unfolding Paid
    node_paid n xs e p h parts =
        let all = all_paid xs (out-Raw n).first (out-Raw n).end p parts in
        let pays = pieces_pay (rule_in n) xs h in
        let few = own_few xs (out-Raw n).first (out-Raw n).end p in
        let is = size_is n ∙ ap (λ ps. 1 + own_from ts (out-Raw n).first (out-Raw n).end ps + sizes ts ps) e in
        omega (arith, all, pays, few, is)

    -- the node that a whole tree makes
    made_paid : (f : Form) (start : ℕ) (r : Rule) → sort f ≡ Some r → Whole f → AreAt source ts start (leaves f) → Each Paid (parts_of start f) → Paid (node r start (start + length (leaves f)) (parts_of start f))
    made_paid f start r e w a parts =
        let l : Raw-F Raw = record { rule = r; first = start; end = start + length (leaves f); parts = parts_of start f } in
        let is : out-Raw (roll-Raw l) ≡ l = out-roll-Raw l in
        let xs = pieces start f in
        node_paid (roll-Raw l) xs
        (ap (λ (m : Raw-F Raw). m.parts) is ∙ parts_are start f)
        (subst (λ (m : Raw-F Raw). At m.first m.end xs) (sym is) (tree_placed source ts f start w.0 w.1 a))
        (subst (λ (m : Raw-F Raw). Reads (rule_of m.rule) Ended xs) (sym is) (whole_reads f start r e w))
        (subst (Each Paid) (parts_are start f) parts)

    raws_by : (f : Form) (start : ℕ) (o : Option Rule) → sort f ≡ o → Whole f → AreAt source ts start (leaves f) → Each Paid (parts_of start f) → Each Paid (node_at o start (start + length (leaves f)) (parts_of start f))
    raws_by f start None e w a parts = tt
    raws_by f start (Some r) e w a parts = (made_paid f start r e w a parts, tt)

    last_paid : (i : Item) (start : ℕ) (f : Form) → Fits i f (Whole f) → AreAt source ts start (leaves f) → ((end : Pattern) → Begun f end → Each Paid (parts_of start f)) → Each Paid (raws_of start f)
    last_paid (item.Part c) start f h a k = raws_by f start (sort f) refl h.0 a (k h.0.0 h.0.1)
    last_paid (item.Word v) start (leaf w) h a k = tt
    last_paid (item.Word v) start (begin r) h a k = absurd h
    last_paid (item.Word v) start (f ▹ g) h a k = absurd h
    last_paid (item.Kind v) start (leaf w) h a k = tt
    last_paid (item.Kind v) start (begin r) h a k = absurd h
    last_paid (item.Kind v) start (f ▹ g) h a k = absurd h

    parts_paid : (f : Form) (start : ℕ) (q : Pattern) → Begun f q → AreAt source ts start (leaves f) → Each Paid (parts_of start f)
    parts_paid (leaf w) start q b a = tt
    parts_paid (begin r) start q b a = tt
    parts_paid (f ▹ h) start q b a =
        let here = start + length (leaves f) in
        let two = at_both source ts start (leaves f) (leaves h) a in
        each_both Paid (parts_of start f) (raws_of here h) (parts_paid f start b.from b.begun two.0)
        (last_paid b.item here h b.fits two.1 (λ end whole. parts_paid h here end whole two.1))

    -- the node of a text is at most five times as large as the text has tokens
    pub text_paid : (raw : Raw) → Parsed (words_of source ts) raw → size ts raw ≤ 5 * length ts
    unfolding Paid
    text_paid raw p =
        let f = p.tree in
        let d = p.is_tree.derives in
        let a : AreAt source ts 0 (leaves f) = subst (AreAt source ts 0) (sym d.spelled) (words_at source ts) in
        let end = 0 + length (leaves f) in
        let l : Raw-F Raw = record { rule = rule.Unit; first = 0; end = end; parts = parts_of 0 f } in
        let list : raw ∷ [] ≡ roll-Raw l ∷ [] = p.made ∙ ap (λ o. node_at o 0 end (parts_of 0 f)) d.unit in
        let same : raw ≡ roll-Raw l = cc in
        let is : out-Raw raw ≡ l = ap out-Raw same ∙ out-roll-Raw l in
        let paid : Paid raw = subst Paid (sym same) (made_paid f 0 rule.Unit d.unit d.whole a (parts_paid f 0 d.whole.0 d.whole.1 a)) in
        let last : (out-Raw raw).end ≡ end = ap (λ (m : Raw-F Raw). m.end) is in
        let many : end ≡ length ts = omega (arith, ap length d.spelled, length-map ts (word_in source)) in
        omega (arith, paid, last, many)
