-- What stands in a node of the grammar, by the pattern of its rule.
use Rattle.std.proofs.Common.{◌≡◌, ℕ, zero, suc, ◌+◌, List, [], ◌∷◌, ◌++◌, length, Option, Some, None, Bool, true, false, refl, sym, ap, ◌∙◌, subst, append_assoc, ◌⊎◌, inl, inr}
use Rattle.std.specs.Prelude.{◌&&◌, ◌||◌}
use Rattle.std.proofs.lemmas.List.{append-nil}
use Rattle.std.proofs.lemmas.Option.{same_Some}
use mathlib.Core.Logic.{⊎_elim}
use Rattle.xc_raw.specs.declared.word.Word.{Word}
use Rattle.xc_raw.specs.declared.word.Word.TheVariants as word
use Rattle.xc_raw.specs.declared.rule.Rule.{Rule}
use Rattle.xc_raw.specs.declared.tree.Raw.{Raw, out-Raw, roll-Raw, out-roll-Raw}
use Rattle.xc_raw.specs.declared.tree.Raw.TheOpen.{Raw-F}
use Rattle.xc_parse_grammar.specs.declared.marks.Class.{Class}
use Rattle.xc_parse_grammar.specs.declared.marks.Item.{Item}
use Rattle.xc_parse_grammar.specs.declared.marks.Item.TheVariants as item
use Rattle.xc_parse_grammar.specs.Marks.{accepts}
use Rattle.xc_parse_grammar.specs.Grammar.{Form, leaf, begin, ◌▹◌, leaves, Pattern, nothing, of, ◌⋅◌, ◌∣◌, opt, many, listed, listed_more, listed_next, rule_of, may_be_over, followed_by, all_followed_by, when, firsts, Among, sort, InClass, Is, Fits, Begun, Whole}
use Rattle.xc_parse.specs.Raws.{node_at, parts_of, raws_of}

-- a token or a node that stands in a node
pub data Piece : Type 0 where
  token : Word → Piece
  part : Raw → Piece

abbrev pub nodes : List Piece → List Raw
nodes [] = []
nodes (token w ∷ xs) = nodes xs
nodes (part n ∷ xs) = n ∷ nodes xs

-- the item allows it
abbrev pub Suits : Item → Piece → Type 0
Suits (item.Part c) (part n) = InClass c (out-Raw n).rule
Suits (item.Part c) (token w) = ⊥
Suits (item.Word v) (part n) = ⊥
Suits (item.Word v) (token w) = accepts (item.Word v) w ≡ true
Suits (item.Kind k) (part n) = ⊥
Suits (item.Kind k) (token w) = accepts (item.Kind k) w ≡ true

-- patterns ------------------------------------------------------------------------

-- what is claimed of pieces
abbrev pub Claim : Type 1
Claim = List Piece → Type 0

abbrev pub Ended : Claim
Ended [] = Unit {0}
Ended (x ∷ xs) = ⊥

-- a piece, and what is claimed behind it
abbrev pub One : Item → Claim → Claim
One i k [] = ⊥
One i k (x ∷ xs) = Suits i x × k xs

abbrev pub Times : (Claim → Claim) → ℕ → Claim → Claim
Times R zero k = k
Times R (suc n) k = R (Times R n k)

-- so many pieces, a comma and the item in turn
abbrev pub Turns : Bool → Item → ℕ → Claim → Claim
Turns b i zero k = k
Turns true i (suc n) k = One (item.Word word.Comma) (Turns false i n k)
Turns false i (suc n) k = One i (Turns true i n k)

-- pieces of this pattern, and what is claimed behind them
abbrev pub Reads : Pattern → Claim → Claim
Reads nothing k = k
Reads (of i) k = One i k
Reads (p ⋅ q) k = Reads p (Reads q k)
Reads (p ∣ q) k = λ xs. Reads p k xs ⊎ Reads q k xs
Reads (opt p) k = λ xs. k xs ⊎ Reads p k xs
Reads (many p) k = λ xs. (n : ℕ) × Times (Reads p) n k xs
Reads (listed i) k = One i (λ xs. (n : ℕ) × Turns true i n k xs)
Reads (listed_more i) k = λ xs. (n : ℕ) × Turns true i n k xs
Reads (listed_next i) k = λ xs. (n : ℕ) × Turns false i n k xs

abbrev Under : Claim → Claim → Type 0
Under K L = (xs : List Piece) → K xs → L xs

under_one : (i : Item) (K L : Claim) → Under K L → Under (One i K) (One i L)
under_one i K L f [] h = h
under_one i K L f (x ∷ xs) h = (h.0, f xs h.1)

under_times : (R : Claim → Claim) → ((K L : Claim) → Under K L → Under (R K) (R L)) → (n : ℕ) (K L : Claim) → Under K L → Under (Times R n K) (Times R n L)
under_times R r zero K L f = f
under_times R r (suc n) K L f = r (Times R n K) (Times R n L) (under_times R r n K L f)

under_turns : (b : Bool) (i : Item) (n : ℕ) (K L : Claim) → Under K L → Under (Turns b i n K) (Turns b i n L)
under_turns b i zero K L f = f
under_turns true i (suc n) K L f = under_one (item.Word word.Comma) (Turns false i n K) (Turns false i n L) (under_turns false i n K L f)
under_turns false i (suc n) K L f = under_one i (Turns true i n K) (Turns true i n L) (under_turns true i n K L f)

pub under : (p : Pattern) (K L : Claim) → Under K L → Under (Reads p K) (Reads p L)
under nothing K L f xs h = f xs h
under (of i) K L f xs h = under_one i K L f xs h
under (p ⋅ q) K L f xs h = under p (Reads q K) (Reads q L) (under q K L f) xs h
under (p ∣ q) K L f xs (inl h) = inl (under p K L f xs h)
under (p ∣ q) K L f xs (inr h) = inr (under q K L f xs h)
under (opt p) K L f xs (inl h) = inl (f xs h)
under (opt p) K L f xs (inr h) = inr (under p K L f xs h)
under (many p) K L f xs h = (h.0, under_times (Reads p) (under p) h.0 K L f xs h.1)
under (listed i) K L f xs h = under_one i (λ xs. (n : ℕ) × Turns true i n K xs) (λ xs. (n : ℕ) × Turns true i n L xs) (λ ys g. (g.0, under_turns true i g.0 K L f ys g.1)) xs h
under (listed_more i) K L f xs h = (h.0, under_turns true i h.0 K L f xs h.1)
under (listed_next i) K L f xs h = (h.0, under_turns false i h.0 K L f xs h.1)

-- a number that is told behind the pieces can be told before them
abbrev Some_of : (ℕ → Claim) → Claim
Some_of K xs = (m : ℕ) × K m xs

told_one : (i : Item) (K : ℕ → Claim) → Under (One i (Some_of K)) (Some_of (λ m. One i (K m)))
told_one i K [] h = absurd h
told_one i K (x ∷ xs) h = (h.1.0, (h.0, h.1.1))

told_times : (R : Claim → Claim) → ((K L : Claim) → Under K L → Under (R K) (R L)) → ((K : ℕ → Claim) → Under (R (Some_of K)) (Some_of (λ m. R (K m)))) →
    (n : ℕ) (K : ℕ → Claim) → Under (Times R n (Some_of K)) (Some_of (λ m. Times R n (K m)))
told_times R r t zero K xs h = h
told_times R r t (suc n) K xs h = t (λ m. Times R n (K m)) xs (r (Times R n (Some_of K)) (Some_of (λ m. Times R n (K m))) (told_times R r t n K) xs h)

told_turns : (b : Bool) (i : Item) (n : ℕ) (K : ℕ → Claim) → Under (Turns b i n (Some_of K)) (Some_of (λ m. Turns b i n (K m)))
told_turns b i zero K xs h = h
told_turns true i (suc n) K xs h = told_one (item.Word word.Comma) (λ m. Turns false i n (K m)) xs
    (under_one (item.Word word.Comma) (Turns false i n (Some_of K)) (Some_of (λ m. Turns false i n (K m))) (told_turns false i n K) xs h)
told_turns false i (suc n) K xs h = told_one i (λ m. Turns true i n (K m)) xs
    (under_one i (Turns true i n (Some_of K)) (Some_of (λ m. Turns true i n (K m))) (told_turns true i n K) xs h)

told : (p : Pattern) (K : ℕ → Claim) → Under (Reads p (Some_of K)) (Some_of (λ m. Reads p (K m)))
told nothing K xs h = h
told (of i) K xs h = told_one i K xs h
told (p ⋅ q) K xs h = told p (λ m. Reads q (K m)) xs (under p (Reads q (Some_of K)) (Some_of (λ m. Reads q (K m))) (told q K) xs h)
told (p ∣ q) K xs (inl h) = let r = told p K xs h in (r.0, inl r.1)
told (p ∣ q) K xs (inr h) = let r = told q K xs h in (r.0, inr r.1)
told (opt p) K xs (inl h) = (h.0, inl h.1)
told (opt p) K xs (inr h) = let r = told p K xs h in (r.0, inr r.1)
told (many p) K xs h = let r = told_times (Reads p) (under p) (told p) h.0 K xs h.1 in (r.0, (h.0, r.1))
told (listed i) K [] h = absurd h
told (listed i) K (x ∷ xs) h = let r = told_turns true i h.1.0 K xs h.1.1 in (r.0, (h.0, (h.1.0, r.1)))
told (listed_more i) K xs h = let r = told_turns true i h.0 K xs h.1 in (r.0, (h.0, r.1))
told (listed_next i) K xs h = let r = told_turns false i h.0 K xs h.1 in (r.0, (h.0, r.1))

-- steps ---------------------------------------------------------------------------

and_both : (b c : Bool) → (b && c) ≡ true → (b ≡ true) × (c ≡ true)
and_both true c e = (refl, e)
and_both false c e = absurd cc

or_one : (b c : Bool) → (b || c) ≡ true → (b ≡ true) ⊎ (c ≡ true)
or_one true c e = inl refl
or_one false c e = inr e

-- what may be over is so before what is claimed
over : (p : Pattern) (k : Claim) (xs : List Piece) → may_be_over p ≡ true → k xs → Reads p k xs
over nothing k xs e h = h
over (of i) k xs e h = absurd cc
over (p ⋅ q) k xs e h = let two = and_both (may_be_over p) _ e in over p (Reads q k) xs two.0 (over q k xs two.1 h)
over (p ∣ q) k xs e h = ⊎_elim (λ l. inl (over p k xs l h)) (λ r. inr (over q k xs r h)) (or_one (may_be_over p) _ e)
over (opt p) k xs e h = inl h
over (many p) k xs e h = (0, h)
over (listed i) k xs e h = absurd cc
over (listed_more i) k xs e h = (0, h)
over (listed_next i) k xs e h = (0, h)

followed : (p q : Pattern) (k : Claim) (xs : List Piece) → Reads (followed_by p q) k xs → Reads p (Reads q k) xs
followed nothing q k xs h = h
followed (of i) q k xs h = h
followed (p ⋅ p') q k xs h = under p (Reads (followed_by p' q) k) (Reads p' (Reads q k)) (followed p' q k) xs h
followed (p ∣ p') q k xs h = h
followed (opt p) q k xs h = h
followed (many p) q k xs h = h
followed (listed i) q k xs h = h
followed (listed_more i) q k xs h = h
followed (listed_next i) q k xs h = h

among_some : (i : Item) (s : Pattern) (xs ys : List (Item × Pattern)) → Among i s (xs ++ ys) → Among i s xs ⊎ Among i s ys
among_some i s [] ys h = inr h
among_some i s (x ∷ xs) ys (inl h) = inl (inl h)
among_some i s (x ∷ xs) ys (inr h) = one (among_some i s xs ys h)
  where
    one : Among i s xs ⊎ Among i s ys → Among i s (x ∷ xs) ⊎ Among i s ys
    one (inl l) = inl (inr l)
    one (inr r) = inr r

among_followed : (i : Item) (s q : Pattern) (xs : List (Item × Pattern)) → Among i s (all_followed_by q xs) → (m : Pattern) × Among i m xs × (followed_by m q ≡ s)
among_followed i s q [] h = absurd h
among_followed i s q (x ∷ xs) (inl h) = (x.1, inl (h.0, refl), h.1)
among_followed i s q (x ∷ xs) (inr h) = let r = among_followed i s q xs h in (r.0, inr r.1, r.2)

among_when : (i : Item) (s : Pattern) (b : Bool) (xs : List (Item × Pattern)) → Among i s (when b xs) → (b ≡ true) × Among i s xs
among_when i s true xs h = (refl, h)
among_when i s false xs h = absurd h

-- a first piece
first : (p : Pattern) (i : Item) (left : Pattern) → Among i left (firsts p) → (k : Claim) (x : Piece) (xs : List Piece) → Suits i x → Reads left k xs → Reads p k (x ∷ xs)
first nothing i left a k x xs s h = absurd a
first (of j) i left (inl a) k x xs s h = (subst (λ l. Suits l x) (sym a.0) s, subst (λ l. Reads l k xs) (sym a.1) h)
first (of j) i left (inr a) k x xs s h = absurd a
first (p ⋅ q) i left a k x xs s h = ⊎_elim
    (λ b. let m = among_followed i left q (firsts p) b in
    first p i m.0 m.1 (Reads q k) x xs s (followed m.0 q k xs (subst (λ l. Reads l k xs) (sym m.2) h)))
    (λ b. let m = among_when i left (may_be_over p) (firsts q) b in
    over p (Reads q k) (x ∷ xs) m.0 (first q i left m.1 k x xs s h))
    (among_some i left (all_followed_by q (firsts p)) (when (may_be_over p) (firsts q)) a)
first (p ∣ q) i left a k x xs s h = ⊎_elim (λ b. inl (first p i left b k x xs s h)) (λ b. inr (first q i left b k x xs s h))
    (among_some i left (firsts p) (firsts q) a)
first (opt p) i left a k x xs s h = inr (first p i left a k x xs s h)
first (many p) i left a k x xs s h =
    let m = among_followed i left (many p) (firsts p) a in
    let r = told p (λ n. Times (Reads p) n k) (x ∷ xs) (first p i m.0 m.1 (Reads (many p) k) x xs s (followed m.0 (many p) k xs (subst (λ l. Reads l k xs) (sym m.2) h))) in
    (suc r.0, r.1)
first (listed j) i left (inl a) k x xs s h = (subst (λ l. Suits l x) (sym a.0) s, subst (λ l. Reads l k xs) (sym a.1) h)
first (listed j) i left (inr a) k x xs s h = absurd a
first (listed_more j) i left (inl a) k x xs s h = let r : Reads (listed_next j) k xs = subst (λ l. Reads l k xs) (sym a.1) h in (suc r.0, (subst (λ l. Suits l x) (sym a.0) s, r.1))
first (listed_more j) i left (inr a) k x xs s h = absurd a
first (listed_next j) i left (inl a) k x xs s h = let r : Reads (listed_more j) k xs = subst (λ l. Reads l k xs) (sym a.1) h in (suc r.0, (subst (λ l. Suits l x) (sym a.0) s, r.1))
first (listed_next j) i left (inr a) k x xs s h = absurd a

-- trees -----------------------------------------------------------------------------

abbrev pub parts_as : List Raw → List Piece
parts_as [] = []
parts_as (n ∷ ns) = part n ∷ parts_as ns

-- the piece that a tree is
abbrev pub piece_of : ℕ → Form → List Piece
piece_of start (leaf w) = token w ∷ []
piece_of start (begin r) = parts_as (raws_of start (begin r))
piece_of start (f ▹ g) = parts_as (raws_of start (f ▹ g))

-- what stands in a tree
abbrev pub pieces : ℕ → Form → List Piece
pieces start (leaf w) = []
pieces start (begin r) = []
pieces start (f ▹ g) = pieces start f ++ piece_of (start + length (leaves f)) g

abbrev pub node : Rule → (from to : ℕ) → List Raw → Raw
node r from to ps = roll-Raw (record { rule = r; first = from; end = to; parts = ps })

-- the one piece of a tree that an item allows
pub record IsPiece (i : Item) (start : ℕ) (g : Form) : Type 0 where
  pub piece : Piece
  pub is : piece_of start g ≡ piece ∷ []
  pub suits : Suits i piece

node_suits : (c : Class) (start : ℕ) (g : Form) (o : Option Rule) (from to : ℕ) (ps : List Raw) → Is c o →
    (n : Raw) × (parts_as (node_at o from to ps) ≡ part n ∷ []) × InClass c (out-Raw n).rule
node_suits c start g None from to ps h = absurd h
node_suits c start g (Some r) from to ps h = (node r from to ps, refl, subst (λ (l : Raw-F Raw). InClass c l.rule) (sym (out-roll-Raw (record { rule = r; first = from; end = to; parts = ps }))) h)

pub piece_is : (i : Item) (start : ℕ) (g : Form) (whole : Type 0) → Fits i g whole → IsPiece i start g
piece_is (item.Part c) start (leaf w) whole h = absurd h.1
piece_is (item.Part c) start (begin r) whole h =
    let n = node_suits c start (begin r) (sort (begin r)) start (start + length (leaves (begin r))) (parts_of start (begin r)) h.1 in
    record { piece = part n.0; is = n.1; suits = n.2 }
piece_is (item.Part c) start (f ▹ g) whole h =
    let n = node_suits c start (f ▹ g) (sort (f ▹ g)) start (start + length (leaves (f ▹ g))) (parts_of start (f ▹ g)) h.1 in
    record { piece = part n.0; is = n.1; suits = n.2 }
piece_is (item.Word v) start (leaf w) whole h = record { piece = token w; is = refl; suits = h }
piece_is (item.Word v) start (begin r) whole h = absurd h
piece_is (item.Word v) start (f ▹ g) whole h = absurd h
piece_is (item.Kind v) start (leaf w) whole h = record { piece = token w; is = refl; suits = h }
piece_is (item.Kind v) start (begin r) whole h = absurd h
piece_is (item.Kind v) start (f ▹ g) whole h = absurd h

-- what was read, and what may follow it
begun_reads : (f : Form) (start : ℕ) (left : Pattern) → Begun f left → (r : Rule) → sort f ≡ Some r → (k : Claim) (xs : List Piece) → Reads left k xs → Reads (rule_of r) k (pieces start f ++ xs)
begun_reads (leaf w) start left b r e k xs h = absurd b
begun_reads (begin q) start left b r e k xs h =
    let same : left ≡ rule_of r = b ∙ ap rule_of (same_Some q r e) in subst (λ l. Reads l k xs) same h
begun_reads (f ▹ g) start left b r e k xs h =
    let here = start + length (leaves f) in
    let p = piece_is b.item here g _ b.fits in
    let whole = begun_reads f start b.from b.begun r e k (p.piece ∷ xs) (first b.from b.item left b.allowed k p.piece xs p.suits h) in
    let same : pieces start f ++ p.piece ∷ xs ≡ (pieces start f ++ piece_of here g) ++ xs =
    sym (append_assoc (pieces start f) (p.piece ∷ []) xs) ∙ ap (λ l. (pieces start f ++ l) ++ xs) (sym p.is) in
    subst (Reads (rule_of r) k) same whole

-- a whole node has the pieces of its rule
pub whole_reads : (f : Form) (start : ℕ) (r : Rule) → sort f ≡ Some r → Whole f → Reads (rule_of r) Ended (pieces start f)
whole_reads f start r e w = subst (Reads (rule_of r) Ended) (append-nil (pieces start f)) (begun_reads f start w.0 w.1 r e Ended [] (over w.0 Ended [] w.2 tt))

-- its parts ---------------------------------------------------------------------------

nodes_both : (xs ys : List Piece) → nodes (xs ++ ys) ≡ nodes xs ++ nodes ys
nodes_both [] ys = refl
nodes_both (token w ∷ xs) ys = nodes_both xs ys
nodes_both (part n ∷ xs) ys = ap (λ l. n ∷ l) (nodes_both xs ys)

nodes_parts : (ns : List Raw) → nodes (parts_as ns) ≡ ns
nodes_parts [] = refl
nodes_parts (n ∷ ns) = ap (λ l. n ∷ l) (nodes_parts ns)

nodes_piece : (start : ℕ) (g : Form) → nodes (piece_of start g) ≡ raws_of start g
nodes_piece start (leaf w) = refl
nodes_piece start (begin r) = nodes_parts (raws_of start (begin r))
nodes_piece start (f ▹ g) = nodes_parts (raws_of start (f ▹ g))

pub parts_are : (start : ℕ) (f : Form) → parts_of start f ≡ nodes (pieces start f)
parts_are start (leaf w) = refl
parts_are start (begin r) = refl
parts_are start (f ▹ g) =
    let here = start + length (leaves f) in
    (λ i. parts_are start f i ++ sym (nodes_piece here g) i) ∙ sym (nodes_both (pieces start f) (piece_of here g))
