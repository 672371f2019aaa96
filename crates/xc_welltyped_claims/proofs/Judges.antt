-- What is claimed of parts one behind another.
use Rattle.std.proofs.Common.{◌≡◌, List, [], ◌∷◌, ◌++◌, refl, sym, ap, ◌∙◌}
use Rattle.xc_type_rule.specs.declared.fault.Fault.{Fault}
use Rattle.xc_type_names.specs.Scoped.{has_none}
use Rattle.xc_type_scopes.specs.declared.env.Env.{Env}
use Rattle.xc_type_scopes.specs.Judge.{Judge, give, and_then, mapped, each, framed}
use Rattle.xc_type_scopes.specs.Told.{Told, anywhere}
use Rattle.xc_welltyped_claims.specs.Lists.{Each}
use Rattle.xc_welltyped_claims.specs.Env.{Good, Ready, Extends}
use Rattle.xc_welltyped_claims.specs.Judges.{Clean, Passing, Given, Gives, Lasts, Made, Makes}
use Rattle.xc_welltyped_claims.proofs.Env.{stays_self, stays_then, stays_extends, extends_self, extends_then, complete_behind}

-- faults --------------------------------------------------------------------------

pub none_left : {A : Type 0} (xs ys : List A) → xs ++ ys ≡ [] → xs ≡ []
none_left [] ys e = refl
none_left (x ∷ xs) ys e = absurd cc

pub none_right : {A : Type 0} (xs ys : List A) → xs ++ ys ≡ [] → ys ≡ []
none_right [] ys e = e
none_right (x ∷ xs) ys e = absurd cc

-- counts ----------------------------------------------------------------------------

pub passing_give : {A : Type 0} (x : A) (fs : List Fault) → Passing (give x fs)
passing_give x fs e h = h

pub passing_anywhere : {A : Type 0} (x : Told A) → Passing (anywhere x)
passing_anywhere x e h = h

pub passing_then : {A B : Type 0} (j : Judge A) (k : A → Judge B) → Passing j → ((x : A) → Passing (k x)) → Passing (and_then j k)
passing_then j k p q e h = p e (q (j e).part (j e).env h)

pub passing_mapped : {A B : Type 0} (f : A → B) (j : Judge A) → Passing j → Passing (mapped f j)
passing_mapped f j p e h = p e h

pub passing_each : {A : Type 0} (js : List (Judge A)) → Each Passing js → Passing (each js)
unfolding each
passing_each [] p e h = h
passing_each (j ∷ js) p e h = p.0 e (passing_each js p.1 (j e).env h)

pub passing_framed : {A : Type 0} (begins ends : Env → Env) (j : Judge A) → ((e : Env) → (begins e).over ≡ e.over) → ((e : Env) → (ends e).over ≡ e.over) → Passing j → Passing (framed begins ends j)
passing_framed begins ends j f g p e h = sym (f e) ∙ p (begins e) (sym (g (j (begins e)).env) ∙ h)

-- parts without faults ----------------------------------------------------------------

module _ {A B : Type 0} (j : Judge A) (k : A → Judge B) (e : Env) (c : Clean (and_then j k) e) where
  pub clean_first : ((x : A) → Passing (k x)) → Clean j e
  clean_first p = record { faultless = none_left (j e).faults _ c.faultless; within = p (j e).part (j e).env c.within }

  pub clean_second : Clean (k (j e).part) (j e).env
  clean_second = record { faultless = none_right (j e).faults _ c.faultless; within = c.within }

pub clean_mapped : {A B : Type 0} (f : A → B) (j : Judge A) (e : Env) → Clean (mapped f j) e → Clean j e
clean_mapped f j e c = record { faultless = c.faultless; within = c.within }

pub clean_framed : {A : Type 0} (begins ends : Env → Env) (j : Judge A) (e : Env) → ((e : Env) → (ends e).over ≡ e.over) → Clean (framed begins ends j) e → Clean j (begins e)
clean_framed begins ends j e g c = record { faultless = c.faultless; within = sym (g (j (begins e)).env) ∙ c.within }

-- roles -------------------------------------------------------------------------------

pub given_self : (e : Env) (Q : Type 0) → Good e → Q → Given e e Q
given_self e Q g q = record { good = g; stays = stays_self e; holds = q }

pub given_then : (a b c : Env) (P Q : Type 0) → Given a b P → Given b c Q → Given a c Q
given_then a b c P Q f g = record { good = g.good; stays = stays_then a b c f.stays g.stays; holds = g.holds }

pub gives_give : {A : Type 0} (Q : Env → A → Type 0) (x : A) (fs : List Fault) → ((e : Env) → Good e → fs ≡ [] → Q e x) → Gives Q (give x fs)
gives_give Q x fs f e g c = given_self e (Q e x) g (f e g c.faultless)

pub gives_anywhere : {A : Type 0} (Q : Env → A → Type 0) (x : Told A) → ((e : Env) → Good e → x.faults ≡ [] → Q e x.part) → Gives Q (anywhere x)
gives_anywhere Q x f e g c = given_self e (Q e x.part) g (f e g c.faultless)

-- one part, and another by what the first is
pub gives_then : {A B : Type 0} (P : Env → A → Type 0) (Q : Env → B → Type 0) (j : Judge A) (k : A → Judge B) → ((x : A) → Passing (k x)) →
    Gives P j → ((x : A) (e : Env) → Good e → P e x → Clean (k x) e → Given e (k x e).env (Q (k x e).env (k x e).part)) → Gives Q (and_then j k)
gives_then P Q j k p f h e g c =
    let a = f e g (clean_first j k e c p) in
    given_then e (j e).env _ _ _ a (h (j e).part (j e).env a.good a.holds (clean_second j k e c))

pub gives_mapped : {A B : Type 0} (P : Env → A → Type 0) (Q : Env → B → Type 0) (f : A → B) (j : Judge A) → ((e : Env) (x : A) → P e x → Q e (f x)) → Gives P j → Gives Q (mapped f j)
gives_mapped P Q f j h g e good c =
    let a = g e good (clean_mapped f j e c) in
    record { good = a.good; stays = a.stays; holds = h (j e).env (j e).part a.holds }

-- several parts
pub gives_each : {A : Type 0} (Q : Env → A → Type 0) → Lasts Q → (js : List (Judge A)) → Each Passing js → Each (Gives Q) js → Gives (λ e xs. Each (Q e) xs) (each js)
unfolding each
gives_each Q l [] p f e g c = given_self e (Unit {0}) g tt
gives_each {A} Q l (j ∷ js) p f e g c =
    let k : A → Judge (List A) = λ x. and_then (each js) (λ xs. give (x ∷ xs) []) in
    let a = f.0 e g (clean_first j k e c (λ x. passing_then (each js) (λ xs. give (x ∷ xs) []) (passing_each js p.1) (λ xs. passing_give (x ∷ xs) []))) in
    let d = clean_second j k e c in
    let b = gives_each Q l js p.1 f.1 (j e).env a.good (clean_first (each js) (λ xs. give ((j e).part ∷ xs) []) (j e).env d (λ xs. passing_give ((j e).part ∷ xs) [])) in
    record {
      good = b.good;
      stays = stays_then e (j e).env (each js (j e).env).env a.stays b.stays;
      holds = (l (j e).env (each js (j e).env).env (j e).part a.good b.stays a.holds, b.holds);
    }

-- statements ----------------------------------------------------------------------------

pub made_self : (e : Env) (Q : Type 0) → Ready e → Q → Made e e Q
made_self e Q r q = record { ready = r; extends = extends_self e; file = refl; holds = q }

pub made_then : (a b c : Env) (P Q : Type 0) → Made a b P → Made b c Q → Made a c Q
made_then a b c P Q f g = record { ready = g.ready; extends = extends_then a b c f.extends g.extends; file = g.file ∙ f.file; holds = g.holds }

-- roles stand where statements do
pub made_of : (e e' : Env) (Q : Type 0) → Ready e → Given e e' Q → Made e e' Q
made_of e e' Q r g = record {
  ready = record { good = g.good; complete = complete_behind e.structs e'.structs g.stays.structs r.complete; within = ap has_none g.stays.own ∙ r.within };
  extends = stays_extends e e' g.stays;
  file = g.stays.file;
  holds = g.holds;
}

pub makes_of : {A : Type 0} (Q : Env → A → Type 0) (j : Judge A) → Gives Q j → Makes (λ e e' x. Q e' x) j
makes_of Q j f e r c = made_of e (j e).env (Q (j e).env (j e).part) r (f e r.good c)

-- one part, and another by what the first is
pub makes_then : {A B : Type 0} (P : Env → Env → A → Type 0) (Q : Env → Env → B → Type 0) (R : Env → Env → B → Type 0) (j : Judge A) (k : A → Judge B) → ((x : A) → Passing (k x)) →
    Makes P j → ((x : A) (e e' : Env) → Ready e' → P e e' x → Clean (k x) e' → Made e' (k x e').env (Q e' (k x e').env (k x e').part)) →
    ((x : A) (y : B) (e e' e'' : Env) → Extends e e' → Extends e' e'' → P e e' x → Q e' e'' y → R e e'' y) → Makes R (and_then j k)
makes_then P Q R j k p f h join e r c =
    let a = f e r (clean_first j k e c p) in
    let b = h (j e).part e (j e).env a.ready a.holds (clean_second j k e c) in
    record {
      ready = b.ready;
      extends = extends_then e (j e).env (k (j e).part (j e).env).env a.extends b.extends;
      file = b.file ∙ a.file;
      holds = join (j e).part (k (j e).part (j e).env).part e (j e).env (k (j e).part (j e).env).env a.extends b.extends a.holds b.holds;
    }

pub makes_mapped : {A B : Type 0} (P : Env → Env → A → Type 0) (Q : Env → Env → B → Type 0) (f : A → B) (j : Judge A) → ((e e' : Env) (x : A) → P e e' x → Q e e' (f x)) → Makes P j → Makes Q (mapped f j)
makes_mapped P Q f j h m e r c =
    let a = m e r (clean_mapped f j e c) in
    record { ready = a.ready; extends = a.extends; file = a.file; holds = h e (j e).env (j e).part a.holds }
