-- The first cells of a global that has initialisers.
use Rattle.std.proofs.Common.{◌≡◌, ℕ, zero, suc, ◌+◌, ◌-◌, ◌<◌, ◌≤◌, List, [], ◌∷◌, ◌++◌, map, Bool, true, false, refl, sym, ap, ◌∙◌, subst, arith, cond}
use Rattle.std.specs.Prelude.{IsTrue, is_some, nat_lt, replicate, Option, Some, None, option_map}
use Rattle.std.proofs.lemmas.Bool.{ltb-true}
use Rattle.xc_tree.specs.declared.ty.Ty.{Ty}
use Rattle.xc_tree.specs.declared.expr.Expr.{Expr}
use Rattle.xc_tree.specs.declared.tree.Object.{Object}
use Rattle.xc_tree.specs.Lists.{every, ascending, passes}
use Rattle.xc_tree.specs.Types.{is_number, base, cell_of, size_of}
use Rattle.xc_tree.specs.Typed.{Context}
use Rattle.xc_tree.specs.Valid.{word_ok, cell_ok, cells_from}
use Rattle.xc_tree.proofs.Lists.{and_left, and_right, and_both}
use Rattle.xc_type_rule.specs.Making.{both}
use Rattle.xc_type_rule.specs.Cells.{cells}
use Rattle.xc_type_initialiser_objects.specs.declared.inits.Inits.{Inits}
use Rattle.xc_type_initialiser_objects.specs.Cells.{Cell, fresh, is_fresh, in_front, trimmed, filled_from, initialised}
use Rattle.xc_type_initialiser_objects.specs.Words.{word_of, init_word, words_of, global_words}
use Rattle.xc_type_scopes.specs.declared.env.Env.{Env}
use Rattle.xc_type_expressions.specs.declared.text.Text.{Text}
use Rattle.xc_welltyped.proofs.Types.{or_right}
use Rattle.xc_welltyped_claims.specs.Lists.{Each}
use Rattle.xc_welltyped_claims.specs.Types.{is_object_by}
use Rattle.xc_welltyped_claims.specs.Env.{Good, Into}
use Rattle.xc_welltyped_claims.proofs.Lists.{each_more}
use Rattle.xc_welltyped_claims.proofs.Env.{point, at_point}
use Rattle.xc_welltyped_statements.specs.Inits.{is_word_ok, has_word, GivesAll, GlobalInits}
use Rattle.xc_welltyped_statements.proofs.Values.{some_of}
use Rattle.xc_welltyped_statements.proofs.Parts.{CellsTold}
use Rattle.xc_welltyped_statements.proofs.Scalar.{is_scalar, all_scalars}

abbrev Init : Type 0
Init = ℕ × Expr

abbrev Word : Type 0
Word = ℕ × ℕ

-- words ----------------------------------------------------------------------------

-- the word of each initialiser, at its offset
abbrev AreWords : List Init → List Word → Type 0
AreWords [] [] = Unit {0}
AreWords (i ∷ is) (w ∷ ws) = (i.0 ≡ w.0) × (word_of i.1 ≡ Some w.1) × AreWords is ws
AreWords _ _ = ⊥

record Worded (made : List Init) : Type 0 where
  words : List Word
  known : words_of made ≡ Some words
  are : AreWords made words

worded : (made : List Init) → Each (λ (i : Init). IsTrue (is_some (word_of i.1))) made → Worded made
unfolding words_of init_word both
worded [] h = record { words = []; known = refl; are = tt }
worded (i ∷ is) h =
    let w = some_of (word_of i.1) h.0 in
    let r = worded is h.1 in
    record {
      words = (i.0, w.0) ∷ r.words;
      known = ap (λ o. both (λ (w : Word) (ws : List Word). w ∷ ws) (option_map (λ n. (i.0, n)) o) (words_of is)) w.1 ∙ ap (λ o. both (λ (w : Word) (ws : List Word). w ∷ ws) (Some (i.0, w.0)) o) r.known;
      are = (refl, w.1, r.are);
    }

-- cells ------------------------------------------------------------------------------

module _ (globals : List Object) (cell : ℕ → Option Ty) where
  abbrev CellOk : ℕ → Cell → Type 0
  CellOk k c = IsTrue (passes (λ ty. cell_ok globals ty c) (cell k))

  abbrev From : ℕ → List Cell → Type 0
  From k cs = IsTrue (cells_from globals cell k cs)

  front : (k : ℕ) (c : Cell) (cs : List Cell) → CellOk k c → From (k + 1) cs → From k (in_front c cs)
  front k c [] h g = by (is_fresh c)
    where
      by : (b : Bool) → From k (cond b [] (c ∷ []))
      by true = refl
      by false = and_both (passes (λ ty. cell_ok globals ty c) (cell k)) _ h refl
  front k c (d ∷ ds) h g = and_both (passes (λ ty. cell_ok globals ty c) (cell k)) _ h g

  -- without those at the end
  pub trimmed_ok : (k : ℕ) (cs : List Cell) → From k cs → From k (trimmed cs)
  unfolding trimmed
  trimmed_ok k [] h = refl
  trimmed_ok k (c ∷ cs) h = front k c (trimmed cs) (and_left (passes (λ ty. cell_ok globals ty c) (cell k)) _ h)
      (trimmed_ok (k + 1) cs (and_right (passes (λ ty. cell_ok globals ty c) (cell k)) _ h))

  -- a scalar may be full and 0, and hold a word that may stand there
  fresh_by : (o : Option Ty) → IsTrue (passes is_scalar o) → IsTrue (passes (λ ty. cell_ok globals ty fresh) o)
  fresh_by None h = h
  fresh_by (Some ty) h = at (base ty) h
    where
      at : (b : Option Ty) → IsTrue (is_some b) → IsTrue (passes (word_ok globals 0) b)
      at None h = h
      at (Some b) h = or_right (is_number b) _ refl

  word_by : (o : Option Ty) (w : ℕ) → IsTrue (is_word_ok globals o w) → IsTrue (passes (λ ty. cell_ok globals ty (w, true)) o)
  word_by None w h = h
  word_by (Some ty) w h = h

  module _ (size : ℕ) (scalar : (k : ℕ) → k < size → IsTrue (passes is_scalar (cell k))) where
    pub fresh_ok : (n k : ℕ) (cs : List Cell) → k + n ≤ size → From (k + n) cs → From k (replicate n fresh ++ cs)
    fresh_ok zero k cs le h = let same : k + 0 ≡ k = omega arith in subst (λ m. From m cs) same h
    fresh_ok (suc n) k cs le h =
        let next : k + suc n ≡ (k + 1) + n = omega arith in
        and_both (passes (λ ty. cell_ok globals ty fresh) (cell k)) _ (fresh_by (cell k) (scalar k (omega (arith, le))))
        (fresh_ok n (k + 1) cs (omega (arith, le)) (subst (λ m. From m cs) next h))

    later : (n : ℕ) (is : List Init) → IsTrue (every (map (nat_lt n) (map (λ i. i.0) is))) → Each (λ (i : Init). n + 1 ≤ i.0) is
    later n [] h = tt
    later n (i ∷ is) h = ((let lt = ltb-true n i.0 (and_left (nat_lt n i.0) _ h) in omega (arith, lt)), later n is (and_right (nat_lt n i.0) _ h))

    pub filled_ok : (k : ℕ) (is : List Init) (ws : List Word) → AreWords is ws → IsTrue (ascending (map (λ i. i.0) is)) → Each (λ (i : Init). k ≤ i.0) is → Each (λ (i : Init). i.0 < size) is →
        Each (λ (i : Init). IsTrue (passes (is_word_ok globals (cell i.0)) (word_of i.1))) is → From k (filled_from k ws)
    unfolding filled_from ascending
    filled_ok k [] [] a up low high h = refl
    filled_ok k [] (w ∷ ws) a up low high h = absurd a
    filled_ok k (i ∷ is) [] a up low high h = absurd a
    filled_ok k (i ∷ is) (w ∷ ws) a up low high h =
        let at = a.0 in
        let below = low.0 in
        let above = high.0 in
        let there : i.0 ≡ k + (w.0 - k) = omega (arith, at, below) in
        let held : IsTrue (is_word_ok globals (cell i.0) w.1) = subst (λ o. IsTrue (passes (is_word_ok globals (cell i.0)) o)) a.1 h.0 in
        let rest : From (i.0 + 1) (filled_from (w.0 + 1) ws) = subst (λ m. From (i.0 + 1) (filled_from (m + 1) ws)) at
        (filled_ok (i.0 + 1) is ws a.2 (and_right (every (map (nat_lt i.0) (map (λ i. i.0) is))) _ up) (later i.0 is (and_left (every (map (nat_lt i.0) (map (λ i. i.0) is))) _ up)) high.1 h.1) in
        fresh_ok (w.0 - k) k ((w.1, true) ∷ filled_from (w.0 + 1) ws) (omega (arith, there, above))
        (subst (λ m. From m ((w.1, true) ∷ filled_from (w.0 + 1) ws)) there
        (and_both (passes (λ ty. cell_ok globals ty (w.1, true)) (cell i.0)) _ (word_by (cell i.0) w.1 held) rest))

-- objects ------------------------------------------------------------------------------

module _ (t : Text) (cells_told : CellsTold t) (e : Env) (good : Good e) (ty : Ty) (object : IsTrue (is_object_by e.structs.sizes ty)) where
  scalar_at : (cx : Context) → Into t cx e → (k : ℕ) → k < cells e.structs.sizes ty → IsTrue (passes is_scalar (cell_of cx.shapes ty k))
  scalar_at cx i k lt =
      let size : cells e.structs.sizes ty ≡ size_of cx.shapes ty = cells_told (point cx e) e good (at_point t cx e i) ty object in
      let all = subst (λ S. (k : ℕ) → k < size_of S ty → IsTrue (passes is_scalar (cell_of S ty k))) (sym i.shapes) (all_scalars cx.structs ty) in
      all k (omega (arith, lt, size))

  words_fine : (is : Inits) → GivesAll t e ty 0 true is → (w : Worded is.made) → (cx : Context) → Into t cx e → IsTrue (cells_from cx.globals (cell_of cx.shapes ty) 0 (initialised w.words))
  words_fine is g w cx i =
      let cell = cell_of cx.shapes ty in
      trimmed_ok cx.globals cell 0 (filled_from 0 w.words)
      (filled_ok cx.globals cell (cells e.structs.sizes ty) (scalar_at cx i) 0 is.made w.words w.are g.inits.ascends
      (each_more (λ (i : Init). (0 ≤ i.0) × (i.0 < 0 + cells e.structs.sizes ty)) (λ (i : Init). 0 ≤ i.0) (λ i h. h.0) is.made g.inits.within)
      (each_more (λ (i : Init). (0 ≤ i.0) × (i.0 < 0 + cells e.structs.sizes ty)) (λ (i : Init). i.0 < cells e.structs.sizes ty) (λ i h. let high = h.1 in omega (arith, high)) is.made g.inits.within)
      (each_more (λ i. IsTrue (has_word cx ty 0 i)) (λ (i : Init). IsTrue (passes (is_word_ok cx.globals (cell i.0)) (word_of i.1)))
      (λ i h. let same : i.0 - 0 ≡ i.0 = omega arith in subst (λ n. IsTrue (passes (is_word_ok cx.globals (cell n)) (word_of i.1))) same h) is.made (g.words refl cx i)))

  pub global_given : (is : Inits) → GivesAll t e ty 0 true is → GlobalInits t e ty (global_words is)
  global_given is g =
      let w = worded is.made (g.worded refl) in
      record {
        words = w.words;
        known = ap (λ b. cond b (words_of is.made) None) g.whole ∙ w.known;
        cells = λ cx i. words_fine is g w cx i;
      }
