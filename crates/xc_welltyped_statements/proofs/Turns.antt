-- Initialisers between braces, one behind another.
use Rattle.std.proofs.Common.{◌≡◌, ℕ, ◌+◌, ◌-◌, ◌^◌, ◌<◌, ◌≤◌, List, [], ◌∷◌, map, Bool, refl, sym, ap, ◌∙◌, subst, arith, add-one}
use Rattle.std.specs.Prelude.{IsTrue, ◌&&◌, Some, None}
use Rattle.xc_tree.specs.declared.ty.Ty.{Ty, out-Ty}
use Rattle.xc_tree.specs.declared.expr.Expr.{Expr}
use Rattle.xc_tree.specs.Lists.{passes}
use Rattle.xc_tree.specs.Types.{may_hold, cell_of}
use Rattle.xc_tree.specs.Typed.{Context, value_ok}
use Rattle.xc_tree.proofs.Lists.{and_left, and_right}
use Rattle.xc_raw.specs.declared.tree.Raw.{Raw}
use Rattle.xc_type_rule.specs.Cells.{cells}
use Rattle.xc_type_rule.specs.Least.{fault_unless}
use Rattle.xc_type_initialiser_objects.specs.declared.target.Target.{Target}
use Rattle.xc_type_initialiser_objects.specs.declared.target.Part.{Part}
use Rattle.xc_type_initialiser_objects.specs.declared.inits.Inits.{Inits}
use Rattle.xc_type_initialiser_objects.specs.Parts.{part_of, part_at, part_typed, is_braced_at}
use Rattle.xc_type_initialiser_objects.specs.Inits.{and_also}
use Rattle.xc_type_initialiser_objects.specs.Words.{word_of}
use Rattle.xc_type_scopes.specs.declared.env.Env.{Env}
use Rattle.xc_type_scopes.specs.Judge.{Judge, give, and_then}
use Rattle.xc_type_expressions.specs.declared.text.Text.{Text}
use Rattle.xc_welltyped.proofs.Whole.{kept}
use Rattle.xc_type_initialisers.specs.Initialisers.{to_part, one_of, in_turn, initialiser}
use Rattle.xc_welltyped_claims.specs.Lists.{Each}
use Rattle.xc_welltyped_claims.specs.Types.{is_object_by}
use Rattle.xc_welltyped_claims.specs.Env.{Good, AreComplete, Stays, Into}
use Rattle.xc_welltyped_claims.specs.Judges.{Clean, Given}
use Rattle.xc_welltyped_claims.specs.Shaped.{rule_in, is_init, all_of, Spoken}
use Rattle.xc_welltyped_claims.proofs.Lists.{each_more, each_both}
use Rattle.xc_welltyped_claims.proofs.Env.{complete_behind, stays_then, stays_extends, into_before}
use Rattle.xc_welltyped_claims.proofs.Judges.{passing_give, passing_then, clean_first, clean_second, given_self}
use Rattle.xc_welltyped_structs.proofs.Lists.{each_with}
use Rattle.xc_welltyped_statements.specs.Inits.{is_init_ok, is_word_ok, has_word, GivesAll, InitialiserFine, InitialiserPassing}
use Rattle.xc_welltyped_statements.proofs.Passing.{each_map, initialiser_passing, passing_turn}
use Rattle.xc_welltyped_statements.proofs.Sized.{cells_stay, object_stays}
use Rattle.xc_welltyped_statements.proofs.Kept.{gives_nothing, gives_behind, gives_both}
use Rattle.xc_welltyped_statements.proofs.Declarations.{PromiseKept}
use Rattle.xc_welltyped_statements.proofs.Parts.{CellsTold, StructsTold, begin_at, IsPart, part_fine}

abbrev Init : Type 0
Init = ℕ × Expr

-- what is given to a part is given to the whole --------------------------------

module _ (t : Text) (outermost : Bool) (ty own : Ty) (from off b : ℕ) (at : off ≡ from + b) (e : Env) where
  abbrev size : ℕ
  size = cells e.structs.sizes own

  abbrev Within : Init → Type 0
  Within i = (off ≤ i.0) × (i.0 < off + size)

  module _ (few : b + size ≤ cells e.structs.sizes ty) (cell : (cx : Context) → Into t cx e → (j : ℕ) → j < size → cell_of cx.shapes ty (b + j) ≡ cell_of cx.shapes own j) where
    cell_is : (cx : Context) → Into t cx e → (n : ℕ) → off ≤ n → n < off + size → cell_of cx.shapes ty (n - from) ≡ cell_of cx.shapes own (n - off)
    cell_is cx i n low high =
        let same : n - from ≡ b + (n - off) = omega (arith, at, low) in
        ap (cell_of cx.shapes ty) same ∙ cell cx i (n - off) (omega (arith, low, high))

    wider : (i : Init) → Within i → (from ≤ i.0) × (i.0 < from + cells e.structs.sizes ty)
    wider i h = let low = h.0 in let high = h.1 in (omega (arith, at, low), omega (arith, at, high, few))

    pub widened : (is : Inits) → GivesAll t e own off outermost is → GivesAll t e ty from outermost is
    widened is g = record {
      whole = g.whole;
      inits = record {
        ascends = g.inits.ascends;
        within = each_more Within (λ (i : Init). (from ≤ i.0) × (i.0 < from + cells e.structs.sizes ty)) wider is.made g.inits.within;
        typed = λ cx p. each_with Within (λ i. IsTrue (is_init_ok cx own off i)) (λ i. IsTrue (is_init_ok cx ty from i))
            (λ i w h. subst (λ o. IsTrue (value_ok cx i.1 && passes (λ c. may_hold c i.1.ty) o)) (sym (cell_is cx p i.0 w.0 w.1)) h)
            is.made g.inits.within (g.inits.typed cx p);
        seen = g.inits.seen;
        used = g.inits.used;
      };
      worded = g.worded;
      words = λ o cx p. each_with Within (λ i. IsTrue (has_word cx own off i)) (λ i. IsTrue (has_word cx ty from i))
          (λ i w h. subst (λ c. IsTrue (passes (is_word_ok cx.globals c) (word_of i.1))) (sym (cell_is cx p i.0 w.0 w.1)) h)
          is.made g.inits.within (g.words o cx p);
    }

-- one behind another --------------------------------------------------------------

module _ (t : Text) (cells_told : CellsTold t) (structs_told : StructsTold t) (promise_kept : PromiseKept) (outermost : Bool)
    (e : Env) (good : Good e) (complete : AreComplete e.structs.sizes) (ty : Ty) (object : IsTrue (is_object_by e.structs.sizes ty)) (braced : IsTrue (is_braced_at (out-Ty ty)))
    (to : Target) (typed : to.ty ≡ Some ty) (fits : to.off + cells e.structs.sizes ty ≤ 2 ^ 22) where
  -- where the part with this number begins
  abbrev pub place : ℕ → ℕ
  place k = to.off + begin_at e (out-Ty ty) k

  -- all lie there and behind
  pub record GivesFrom (e' : Env) (k : ℕ) (is : Inits) : Type 0 where
    pub gives : GivesAll t e' ty to.off outermost is
    pub behind : Each (λ (i : Init). place k ≤ i.0) is.made

  part_is : (k : ℕ) (e' : Env) → Stays e e' → IsTrue (part_of e'.structs to k).there → IsPart t e ty (out-Ty ty) to.off k (part_of e'.structs to k)
  unfolding part_of
  part_is k e' s h =
      let same : part_typed e'.structs to.off k to.ty ≡ part_at e'.structs to.off k (out-Ty ty) = ap (part_typed e'.structs to.off k) typed in
      subst (λ (p : Part). IsPart t e ty (out-Ty ty) to.off k p) (sym same)
      (part_fine t cells_told structs_told promise_kept e good complete ty object e' s to.off fits k (out-Ty ty) refl braced (subst (λ (p : Part). IsTrue p.there) same h))

  -- what one part is given, and what the parts behind it are
  module _ (k : ℕ) (p : Part) (part : IsPart t e ty (out-Ty ty) to.off k p) (b c : Env) (s : Stays e b) (s' : Stays b c) (x y : Inits)
      (f : GivesAll t b part.own p.target.off outermost x) (g : GivesFrom c (k + 1) y) where
    abbrev begin : ℕ
    begin = begin_at e (out-Ty ty) k

    own_cells : cells e.structs.sizes part.own ≡ cells b.structs.sizes part.own
    own_cells = cells_stay e.structs b.structs s.structs part.own part.object

    all_cells : cells e.structs.sizes ty ≡ cells b.structs.sizes ty
    all_cells = cells_stay e.structs b.structs s.structs ty object

    wide : GivesAll t b ty to.off outermost x
    wide = let few = part.few in let same = own_cells in let whole = all_cells in
        widened t outermost ty part.own to.off p.target.off begin part.at b (omega (arith, few, same, whole))
        (λ cx i j lt. part.cell cx (into_before t cx e b (stays_extends e b s) i) j (omega (arith, lt, same))) x f

    next_at : begin_at e (out-Ty ty) (k + 1) ≡ begin + cells e.structs.sizes part.own
    next_at = ap (begin_at e (out-Ty ty)) (add-one k) ∙ part.next

    lower : Each (λ (i : Init). i.0 < place (k + 1)) x.made
    lower = let same = own_cells in let n = next_at in let at = part.at in
        each_more (λ (i : Init). (p.target.off ≤ i.0) × (i.0 < p.target.off + cells b.structs.sizes part.own)) (λ (i : Init). i.0 < place (k + 1))
        (λ i w. let high = w.1 in omega (arith, high, same, n, at)) x.made f.inits.within

    first : Each (λ (i : Init). place k ≤ i.0) x.made
    first = let at = part.at in
        each_more (λ (i : Init). (p.target.off ≤ i.0) × (i.0 < p.target.off + cells b.structs.sizes part.own)) (λ (i : Init). place k ≤ i.0)
        (λ i w. let low = w.0 in omega (arith, low, at)) x.made f.inits.within

    rest : Each (λ (i : Init). place k ≤ i.0) y.made
    rest = let n = next_at in
        each_more (λ (i : Init). place (k + 1) ≤ i.0) (λ (i : Init). place k ≤ i.0) (λ i h. omega (arith, h, n)) y.made g.behind

    pub joined : GivesFrom c k (and_also x y)
    joined = record {
      gives = gives_both t ty to.off outermost c (place (k + 1)) x y (gives_behind t ty to.off outermost b c s' (object_stays e.structs b.structs s.structs ty object) x wide) g.gives lower g.behind;
      behind = each_both (λ (i : Init). place k ≤ i.0) x.made y.made first rest;
    }

  abbrev pub Fine : Raw → Type 0
  Fine n = InitialiserFine t n (initialiser t n)

  abbrev pub turn : ℕ → List Raw → Judge Inits
  turn k ns = in_turn outermost to k (map (initialiser t) ns)

  turn_passing : (k : ℕ) (ns : List Raw) (e' : Env) → (turn k ns e').env.over ≡ None → e'.over ≡ None
  turn_passing k ns = passing_turn outermost to k (map (initialiser t) ns) (each_map InitialiserPassing (initialiser t) ns (all_pass ns))
    where
      all_pass : (ns : List Raw) → Each (λ n. InitialiserPassing (initialiser t n)) ns
      all_pass [] = tt
      all_pass (n ∷ ns) = (initialiser_passing t n, all_pass ns)

  -- the first of some
  one_fine : (k : ℕ) (n : Raw) → Fine n → IsTrue (is_init (rule_in n)) → (b : Env) → Good b → (s : Stays e b) → Clean (to_part outermost (initialiser t n) (part_of b.structs to k)) b →
      (part : IsPart t e ty (out-Ty ty) to.off k (part_of b.structs to k)) ×
      Given b ((initialiser t n).given outermost (part_of b.structs to k).target b).env
      (GivesAll t ((initialiser t n).given outermost (part_of b.structs to k).target b).env part.own (part_of b.structs to k).target.off outermost
      ((initialiser t n).given outermost (part_of b.structs to k).target b).part × Spoken t n)
  one_fine k n fine init b g s c =
      let i = initialiser t n in
      let p = part_of b.structs to k in
      let j = i.given outermost p.target in
      let f : Inits → Judge Inits = λ x. give x (fault_unless p.there i.span) in
      let there : IsTrue p.there = kept i.span p.there (clean_second j f b c).faultless in
      let part = part_is k b s there in
      let size = cells_stay e.structs b.structs s.structs part.own part.object in
      let at = part.at in
      let few = part.few in (
        part,
        fine.given init outermost p.target part.own part.typed b g (complete_behind e.structs b.structs s.structs complete) (object_stays e.structs b.structs s.structs part.own part.object)
            (omega (arith, size, at, few, fits)) (clean_first j f b c (λ x. passing_give x (fault_unless p.there i.span))),
      )

  pub turn_fine : (k : ℕ) (ns : List Raw) → Each Fine ns → IsTrue (all_of is_init ns) → (b : Env) → Good b → Stays e b → Clean (turn k ns) b →
      Given b (turn k ns b).env (GivesFrom (turn k ns b).env k (turn k ns b).part × Each (Spoken t) ns)
  unfolding in_turn
  turn_fine k [] fs o b g s c = given_self b _ g (record { gives = gives_nothing t ty to.off outermost b; behind = tt }, tt)
  turn_fine k (n ∷ ns) fs o b g s c =
      let j : Judge Inits = one_of outermost to k (initialiser t n) in
      let f : Inits → Judge Inits = λ x. and_then (turn (k + 1) ns) (λ y. give (and_also x y) []) in
      let c1 = clean_first j f b c (λ x. passing_then (turn (k + 1) ns) (λ y. give (and_also x y) []) (turn_passing (k + 1) ns) (λ y. passing_give (and_also x y) [])) in
      let one = one_fine k n fs.0 (and_left (is_init (rule_in n)) _ o) b g s (record { faultless = c1.faultless; within = c1.within }) in
      let b' = (j b).env in
      let x = (j b).part in
      let s' = stays_then e b b' s one.1.stays in
      let c2 = clean_second j f b c in
      let c3 = clean_first (turn (k + 1) ns) (λ y. give (and_also x y) []) b' c2 (λ y. passing_give (and_also x y) []) in
      let r = turn_fine (k + 1) ns fs.1 (and_right (is_init (rule_in n)) _ o) b' one.1.good s' c3 in
      let d = (turn (k + 1) ns b').env in
      record {
        good = r.good;
        stays = stays_then b b' d one.1.stays r.stays;
        holds = (joined k (part_of b.structs to k) one.0 b' d s' r.stays x (turn (k + 1) ns b').part one.1.holds.0 r.holds.0, (one.1.holds.1, r.holds.1));
      }
