-- The numbers of definitions.
use Rattle.std.proofs.Common.{◌≡◌, ℕ, ◌<◌, List, [], ◌∷◌, length, Bool, true, false, refl, sym, ◌∙◌, arith, ◌⊎◌, inl, inr}
use Rattle.std.specs.Prelude.{nat_eq, cond, ◌+◌, Option, Some, None}
use Rattle.xc_raw.specs.declared.tree.Raw.{Raw}
use Rattle.xc_type_names.specs.Scoped.{found_in, is_new, declared_in}
use Rattle.xc_type_expressions.specs.declared.text.Text.{Text}
use Rattle.xc_type_unit.specs.Functions.{Bodies, defined, next, with_defined, bodies_from, bodies_of}
use Rattle.xc_welltyped_claims.proofs.Things.{length_declared}
use Rattle.xc_welltyped_unit.specs.Files.{AreApart}
use Rattle.xc_welltyped_unit.proofs.Names.{found_either}

-- they lie below the number of the next
record AreNumbered (n : ℕ) (b : Bodies) : Type 0 where
  one : length b ≡ 1
  below : (x m : ℕ) → found_in x b ≡ Some m → m < n
  apart : AreApart b

module _ (n name : ℕ) (b : Bodies) (h : AreNumbered n b) where
  abbrev Either : ℕ → ℕ → Type 0
  Either x m = ((x ≡ name) × (n ≡ m)) ⊎ ((nat_eq x name ≡ false) × (found_in x b ≡ Some m))

  low : (x m : ℕ) → Either x m → m < n + 1
  low x m (inl p) = let e = p.1 in omega (arith, e)
  low x m (inr p) = let lt = h.below x m p.1 in omega (arith, lt)

  same : (x y m : ℕ) → Either x m → Either y m → x ≡ y
  same x y m (inl p) (inl q) = p.0 ∙ sym q.0
  same x y m (inl p) (inr q) = let lt = h.below y m q.1 in let e = p.1 in absurd (omega (arith, lt, e))
  same x y m (inr p) (inl q) = let lt = h.below x m p.1 in let e = q.1 in absurd (omega (arith, lt, e))
  same x y m (inr p) (inr q) = h.apart x y m p.1 q.1

  with_next : AreNumbered (n + 1) (declared_in name n b)
  with_next = record {
    one = length_declared name n b ∙ h.one;
    below = λ x m e. low x m (found_either name n x m b h.one e);
    apart = λ x y m e f. same x y m (found_either name n x m b h.one e) (found_either name n y m b h.one f);
  }

later : (n : ℕ) (b : Bodies) → AreNumbered n b → AreNumbered (n + 1) b
later n b h = record { one = h.one; below = λ x m e. (let lt = h.below x m e in omega (arith, lt)); apart = h.apart }

with_one : (d : Option (Option ℕ)) (n : ℕ) (b : Bodies) → AreNumbered n b → AreNumbered (next d n) (with_defined d n b)
with_one None n b h = h
with_one (Some None) n b h = later n b h
with_one (Some (Some name)) n b h = by (is_new name b)
  where
    by : (new : Bool) → AreNumbered (n + 1) (cond new (declared_in name n b) b)
    by true = with_next n name b h
    by false = later n b h

-- how many definitions there are, where so many stand before them
unfoldable pub definitions : Text → ℕ → List Raw → ℕ
definitions t n [] = n
definitions t n (node ∷ nodes) = definitions t (next (defined t node) n) nodes

numbered_from : (t : Text) (nodes : List Raw) (n : ℕ) (b : Bodies) → AreNumbered n b → AreNumbered (definitions t n nodes) (bodies_from t n b nodes)
unfolding bodies_from definitions
numbered_from t [] n b h = h
numbered_from t (node ∷ nodes) n b h = numbered_from t nodes (next (defined t node) n) (with_defined (defined t node) n b) (with_one (defined t node) n b h)

numbered : (t : Text) (nodes : List Raw) → AreNumbered (definitions t 0 nodes) (bodies_of t nodes)
numbered t nodes = numbered_from t nodes 0 ([] ∷ []) (record {
  one = refl;
  below = λ x m e. absurd cc;
  apart = λ x y m e f. absurd cc;
})

pub bodies_apart : (t : Text) (ns : List Raw) → AreApart (bodies_of t ns)
bodies_apart t ns = (numbered t ns).apart

pub bodies_below : (t : Text) (ns : List Raw) (x m : ℕ) → found_in x (bodies_of t ns) ≡ Some m → m < definitions t 0 ns
bodies_below t ns = (numbered t ns).below
