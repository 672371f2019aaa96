-- What is claimed of parts of a text without faults.
use Rattle.std.specs.Prelude.{◌≡◌, [], None}
use Rattle.xc_type_scopes.specs.declared.env.Env.{Env}
use Rattle.xc_type_scopes.specs.Judge.{Judge}
use Rattle.xc_welltyped_claims.specs.Env.{Good, Ready, Stays, Extends}

-- the part has no fault, and no count is passed up to its end
pub record Clean {A : Type 0} (j : Judge A) (e : Env) : Type 0 where
  pub faultless : (j e).faults ≡ []
  pub within : (j e).env.over ≡ None

-- where no count is passed behind the part, none is before it
abbrev pub Passing : {A : Type 0} → Judge A → Type 0
Passing j = (e : Env) → (j e).env.over ≡ None → e.over ≡ None

-- expressions, specifiers, structs and declarators ------------------------------

pub record Given (e e' : Env) (claim : Type 0) : Type 0 where
  pub good : Good e'
  pub stays : Stays e e'
  pub holds : claim

-- what is found is so where it is found
abbrev pub Gives : {A : Type 0} → (Env → A → Type 0) → Judge A → Type 0
Gives Q j = (e : Env) → Good e → Clean j e → Given e (j e).env (Q (j e).env (j e).part)

-- it stays so
abbrev pub Lasts : {A : Type 0} → (Env → A → Type 0) → Type 0
Lasts {A} Q = (e e' : Env) (x : A) → Good e → Stays e e' → Q e x → Q e' x

-- statements ----------------------------------------------------------------------

pub record Made (e e' : Env) (claim : Type 0) : Type 0 where
  pub ready : Ready e'
  pub extends : Extends e e'
  pub file : e'.file ≡ e.file
  pub holds : claim

-- what is made is so, by what stands before it and behind it
abbrev pub Makes : {A : Type 0} → (Env → Env → A → Type 0) → Judge A → Type 0
Makes Q j = (e : Env) → Ready e → Clean j e → Made e (j e).env (Q e (j e).env (j e).part)
