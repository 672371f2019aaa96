-- What an initialiser gives, behind what follows it.
use Rattle.std.proofs.Common.{◌≡◌, ℕ, ◌+◌, ◌<◌, ◌≤◌, List, [], ◌∷◌, map, Bool, refl, sym, subst}
use Rattle.std.specs.Prelude.{IsTrue, is_some}
use Rattle.std.proofs.lemmas.List.{map-append}
use Rattle.xc_tree.specs.declared.ty.Ty.{Ty}
use Rattle.xc_tree.specs.declared.expr.Expr.{Expr}
use Rattle.xc_tree.specs.Lists.{ascending}
use Rattle.xc_tree.specs.Statements.{sees}
use Rattle.xc_tree.proofs.Lists.{and_both}
use Rattle.xc_type_rule.specs.Cells.{cells}
use Rattle.xc_type_initialiser_objects.specs.declared.inits.Inits.{Inits}
use Rattle.xc_type_initialiser_objects.specs.Inits.{nothing, and_also}
use Rattle.xc_type_initialiser_objects.specs.Words.{word_of}
use Rattle.xc_type_scopes.specs.declared.env.Env.{Env}
use Rattle.xc_type_expressions.specs.declared.text.Text.{Text}
use Rattle.xc_type_lowering.specs.Accessed.{only_accessed}
use Rattle.xc_welltyped_claims.specs.Lists.{Each}
use Rattle.xc_welltyped_claims.specs.Types.{is_object_by}
use Rattle.xc_welltyped_claims.specs.Things.{InScopes, SeenThing}
use Rattle.xc_welltyped_claims.specs.Env.{Stays}
use Rattle.xc_welltyped_claims.proofs.Lists.{each_both, set_then}
use Rattle.xc_welltyped_claims.proofs.Env.{into_before, stays_extends}
use Rattle.xc_welltyped_statements.specs.Inits.{is_init_ok, has_word, GivesAll}
use Rattle.xc_welltyped_statements.proofs.Ordered.{ascending_none, ascending_both}
use Rattle.xc_welltyped_statements.proofs.Sized.{cells_stay}

abbrev Init : Type 0
Init = ℕ × Expr

abbrev Places : List Init → List ℕ
Places made = map (λ i. i.0) made

each_places : (P : ℕ → Type 0) (is : List Init) → Each (λ (i : Init). P i.0) is → Each P (Places is)
each_places P [] h = tt
each_places P (i ∷ is) h = (h.0, each_places P is h.1)

module _ (t : Text) (ty : Ty) (from : ℕ) (outermost : Bool) where
  pub gives_nothing : (e : Env) → GivesAll t e ty from outermost nothing
  gives_nothing e = record {
    whole = refl;
    inits = record { ascends = ascending_none; within = tt; typed = λ cx i. tt; seen = λ seen c. tt; used = λ flags m. tt };
    worded = λ o. tt;
    words = λ o cx i. tt;
  }

  -- behind what follows
  pub gives_behind : (e e' : Env) → Stays e e' → IsTrue (is_object_by e.structs.sizes ty) → (is : Inits) → GivesAll t e ty from outermost is → GivesAll t e' ty from outermost is
  gives_behind e e' s h is g =
      let same : cells e.structs.sizes ty ≡ cells e'.structs.sizes ty = cells_stay e.structs e'.structs s.structs ty h in
      record {
        whole = g.whole;
        inits = record {
          ascends = g.inits.ascends;
          within = subst (λ n. Each (λ (i : Init). (from ≤ i.0) × (i.0 < from + n)) is.made) same g.inits.within;
          typed = λ cx i. g.inits.typed cx (into_before t cx e e' (stays_extends e e' s) i);
          seen = λ seen c. g.inits.seen seen (subst (λ o. InScopes (SeenThing seen) o) s.own c);
          used = λ flags m. g.inits.used flags (set_then e.addressed e'.addressed flags s.addressed m);
        };
        worded = g.worded;
        words = λ o cx i. g.words o cx (into_before t cx e e' (stays_extends e e' s) i);
      }

  -- what lies below an offset, and then what does not
  pub gives_both : (e : Env) (k : ℕ) (a b : Inits) → GivesAll t e ty from outermost a → GivesAll t e ty from outermost b →
      Each (λ (i : Init). i.0 < k) a.made → Each (λ (i : Init). k ≤ i.0) b.made → GivesAll t e ty from outermost (and_also a b)
  gives_both e k a b f g low high = record {
    whole = and_both a.whole _ f.whole g.whole;
    inits = record {
      ascends = subst (λ l. IsTrue (ascending l)) (sym (map-append (λ (i : Init). i.0) a.made b.made))
          (ascending_both k (Places a.made) (Places b.made) f.inits.ascends g.inits.ascends (each_places (λ n. n < k) a.made low) (each_places (λ n. k ≤ n) b.made high));
      within = each_both (λ (i : Init). (from ≤ i.0) × (i.0 < from + cells e.structs.sizes ty)) a.made b.made f.inits.within g.inits.within;
      typed = λ cx i. each_both (λ j. IsTrue (is_init_ok cx ty from j)) a.made b.made (f.inits.typed cx i) (g.inits.typed cx i);
      seen = λ seen c. each_both (λ (j : Init). IsTrue (sees seen j.1)) a.made b.made (f.inits.seen seen c) (g.inits.seen seen c);
      used = λ flags m. each_both (λ (j : Init). IsTrue (only_accessed flags j.1)) a.made b.made (f.inits.used flags m) (g.inits.used flags m);
    };
    worded = λ o. each_both (λ (j : Init). IsTrue (is_some (word_of j.1))) a.made b.made (f.worded o) (g.worded o);
    words = λ o cx i. each_both (λ j. IsTrue (has_word cx ty from j)) a.made b.made (f.words o cx i) (g.words o cx i);
  }
