-- Several parts of a text, one behind another.
use Rattle.std.proofs.Common.{◌≡◌, ℕ, suc, List, [], ◌∷◌, map, length, Bool, refl, ap}
use Rattle.xc_raw.specs.declared.tree.Raw.{Raw}
use Rattle.xc_type_rule.specs.declared.found.Found.{Found}
use Rattle.xc_type_rule.specs.Values.{rvalue, rvalue_faults}
use Rattle.xc_welltyped_rules.specs.Callees.{AreSound, AreWhole}
use Rattle.xc_welltyped_locals.specs.Seen.{AreSeen}
use Rattle.xc_welltyped_locals.specs.Used.{AreUsed}
use Rattle.xc_welltyped.specs.Sound.{Point}
use Rattle.xc_type_scopes.specs.declared.env.Env.{Env}
use Rattle.xc_type_scopes.specs.Judge.{Judge, give, and_then, each}
use Rattle.xc_type_expressions.specs.declared.text.Text.{Text}
use Rattle.xc_type_expressions.specs.Roles.{Role, value, values}
use Rattle.xc_type_expressions.specs.Judged.{judged}
use Rattle.xc_welltyped_claims.specs.Lists.{Each, StaysSet}
use Rattle.xc_welltyped_claims.specs.Env.{At, Covers}
use Rattle.xc_welltyped_claims.specs.Judges.{Passing, Gives, Lasts}
use Rattle.xc_welltyped_claims.specs.Found.{Fine, AreFine}
use Rattle.xc_welltyped_claims.specs.Shaped.{Shaped, Spoken}
use Rattle.xc_welltyped_claims.specs.Roles.{RolePassing}
use Rattle.xc_welltyped_claims.proofs.Env.{stays_then, fine_behind}
use Rattle.xc_welltyped_claims.proofs.Judges.{clean_first, clean_second, given_self, gives_then, passing_give, passing_then, passing_each}
use Rattle.xc_welltyped_expressions.proofs.Passing.{all_passing, passing_all, passing_value}
use Rattle.xc_welltyped_expressions.proofs.Places.{as_value_fine}

-- parts -------------------------------------------------------------------------------

-- what is claimed of each part is claimed of all of them
module _ {A : Type 0} (t : Text) (f : Role → Judge A) (p : (r : Role) → RolePassing r → Passing (f r)) (Q : Env → A → Type 0) (lasts : Lasts Q) where
  abbrev js_of : List Raw → List (Judge A)
  js_of ns = map f (map (judged t) ns)

  pub parts_passing : (ns : List Raw) → Passing (each (js_of ns))
  parts_passing ns = passing_each (js_of ns) (passing_all f p (map (judged t) ns) (all_passing t ns))

  pub gives_parts : (ns : List Raw) → Each (λ n. Gives (λ e x. Q e x × Spoken t n) (f (judged t n))) ns → Gives (λ e xs. Each (Q e) xs × Each (Spoken t) ns) (each (js_of ns))
  unfolding each
  gives_parts [] h e g c = given_self e (Unit {0} × Unit {0}) g (tt, tt)
  gives_parts (n ∷ ns) h e g c =
      let j = f (judged t n) in
      let k : A → Judge (List A) = λ x. and_then (each (js_of ns)) (λ xs. give (x ∷ xs) []) in
      let a = h.0 e g (clean_first j k e c (λ x. passing_then (each (js_of ns)) (λ xs. give (x ∷ xs) []) (parts_passing ns) (λ xs. passing_give (x ∷ xs) []))) in
      let d = clean_second j k e c in
      let b = gives_parts ns h.1 (j e).env a.good (clean_first (each (js_of ns)) (λ xs. give ((j e).part ∷ xs) []) (j e).env d (λ xs. passing_give ((j e).part ∷ xs) [])) in
      record {
        good = b.good;
        stays = stays_then e (j e).env (each (js_of ns) (j e).env).env a.stays b.stays;
        holds = ((lasts (j e).env (each (js_of ns) (j e).env).env (j e).part a.good b.stays a.holds.0, b.holds.0), (a.holds.1, b.holds.1));
      }

-- there are as many as there are parts
pub map_many : {A B : Type 0} (f : A → B) (xs : List A) → length (map f xs) ≡ length xs
map_many f [] = refl
map_many f (x ∷ xs) = ap suc (map_many f xs)

pub each_many : {A : Type 0} (js : List (Judge A)) (e : Env) → length (each js e).part ≡ length js
unfolding each
each_many [] e = refl
each_many (j ∷ js) e = ap suc (each_many js (j e).env)

-- values --------------------------------------------------------------------------------

-- an expression within another
pub record IsPart (t : Text) (n : Raw) : Type 0 where
  pub shaped : Shaped t n
  pub found : Gives (λ e f. Fine t e f × Spoken t n) (judged t n).found

pub fine_lasts : (t : Text) → Lasts (Fine t)
fine_lasts t e e' f g s h = fine_behind t e e' s f h

pub with_lasts : {A : Type 0} (Q : Env → A → Type 0) (P : Type 0) → Lasts Q → Lasts (λ e x. Q e x × P)
with_lasts Q P l e e' x g s h = (l e e' x g s h.0, h.1)

module _ (t : Text) where
  pub value_fine : (node : Raw) (r : Role) → Gives (λ e f. Fine t e f × Spoken t node) r.found → Gives (λ e f. Fine t e f × Spoken t node) (value r)
  unfolding value
  value_fine node r f = gives_then (λ e f. Fine t e f × Spoken t node) (λ e f. Fine t e f × Spoken t node) r.found
      (λ f env. give (rvalue env.structs.sizes r.span f) (rvalue_faults r.inner f.known) env) (λ x e h. h) f
      (λ x e g h c. given_self e _ g (as_value_fine t r.span r.inner x e g h.0 c.faultless, h.1))

  each_value : (ns : List Raw) → Each (IsPart t) ns → Each (λ n. Gives (λ e x. Fine t e x × Spoken t n) (value (judged t n))) ns
  each_value [] h = tt
  each_value (n ∷ ns) h = (value_fine n (judged t n) h.0.found, each_value ns h.1)

  pub values_fine : (ns : List Raw) → Each (IsPart t) ns → Gives (λ e fs. AreFine t e fs × Each (Spoken t) ns) (values (map (judged t) ns))
  values_fine ns h = gives_parts t value (λ r q. passing_value r q.found) (Fine t) (fine_lasts t) ns (each_value ns h)

-- what is fine --------------------------------------------------------------------------

module _ (t : Text) (e : Env) where
  pub all_whole : (fs : List Found) → AreFine t e fs → AreWhole fs
  all_whole [] h = tt
  all_whole (f ∷ fs) h = (h.0.whole, all_whole fs h.1)

  pub all_sound : (so : Point) → At t so e → (fs : List Found) → AreFine t e fs → AreSound so fs
  all_sound so a [] h = tt
  all_sound so a (f ∷ fs) h = (h.0.sound so a, all_sound so a fs h.1)

  pub all_seen : (seen : List ℕ) → Covers seen e → (fs : List Found) → AreFine t e fs → AreSeen seen fs
  all_seen seen c [] h = tt
  all_seen seen c (f ∷ fs) h = (h.0.seen seen c, all_seen seen c fs h.1)

  pub all_used : (flags : List Bool) → StaysSet e.addressed flags → (fs : List Found) → AreFine t e fs → AreUsed flags (length e.locals) fs
  all_used flags m [] h = tt
  all_used flags m (f ∷ fs) h = (h.0.used flags m, all_used flags m fs h.1)
