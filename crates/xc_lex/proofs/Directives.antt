-- What directives do.
use Rattle.std.proofs.Common.{◌≡◌, ◌<◌, ℕ, ◌+◌, List, [], ◌∷◌, ◌++◌, length, drop, Bool, false, if◌then◌else◌, sym, ap, ◌∙◌, subst, arith}
use Rattle.std.proofs.lemmas.List.{map-append}
use Rattle.std.specs.List.{slice_range}
use Rattle.xc_lex.specs.declared.token.Token.{Token}
use Rattle.xc_lex.specs.declared.token.TokenKind.TheVariants.{Name}
use Rattle.xc_lex.specs.declared.macros.Macro.{Macro}
use Rattle.xc_lex.specs.declared.macros.Made.{Made}
use Rattle.xc_lex.specs.declared.stop.Stop.{Stop}
use Rattle.xc_lex.specs.declared.stop.Stop.TheVariants.{NoMemory, At}
use Rattle.xc_lex.specs.declared.front.Front.TheVariants.{Whole}
use Rattle.xc_lex.specs.Front.{front_of}
use Rattle.xc_lex.specs.Macros.{Macros, bytes_of}
use Rattle.xc_lex.specs.Lines.{Line, good, bad, words_at, body_at, past_blanks, define_by, define_at, directive_by, directive_at, directive_of, named}
use Rattle.xc_lex.specs.State.{entry_of, all_of, index_of, unmade}
use Rattle.xc_lex.specs.Steps.{IsIdle}
use Rattle.xc_lex.specs.InnerSteps.{BodyEnds, BodyStops, DirectiveRead, DirectiveStops}
use Rattle.xc_lex.proofs.Defining.{is_defined-new, is_defined-known, index_of-le, IsIdle-push, MadeFits-push}

-- a name stands behind `define`
pub record DefinesAt (source : List ℕ) (start at n : ℕ) : Type 0 where
  pub place : at ≡ past_blanks source start
  pub front : front_of (drop at source) ≡ Whole Name n

define_named : (source : List ℕ) (ms : Macros) (hash start at n : ℕ) → DefinesAt source start at n → define_at source ms hash start ≡ define_by (Whole Name n) source ms hash at
define_named source ms hash start at n h = ap (λ p. define_by (front_of (drop p source)) source ms hash p) (sym h.place) ∙ ap (λ v. define_by v source ms hash at) h.front

pub define_new : (source : List ℕ) (ms : List Macro) (hash start at n : ℕ) → DefinesAt source start at n → index_of source ms (slice_range source at (at + n)) ≡ length ms
    → define_at source (all_of source ms) hash start ≡ body_at source (all_of source ms) (slice_range source at (at + n)) (at + n)
define_new source ms hash start at n h new = define_named source (all_of source ms) hash start at n h
    ∙ ap (λ b. if b then bad (all_of source ms) [] hash else body_at source (all_of source ms) (slice_range source at (at + n)) (at + n)) (is_defined-new source ms (slice_range source at (at + n)) new)

pub define_known : (source : List ℕ) (ms : List Macro) (hash start at n : ℕ) → DefinesAt source start at n → (index_of source ms (slice_range source at (at + n)) ≡ length ms → ⊥)
    → define_at source (all_of source ms) hash start ≡ bad (all_of source ms) [] hash
define_known source ms hash start at n h old =
    let most = index_of-le source ms (slice_range source at (at + n)) in
    let within : index_of source ms (slice_range source at (at + n)) < length ms = omega (arith, most, old) in
    define_named source (all_of source ms) hash start at n h
    ∙ ap (λ b. if b then bad (all_of source ms) [] hash else body_at source (all_of source ms) (slice_range source at (at + n)) (at + n)) (is_defined-known source ms (slice_range source at (at + n)) within)

pub DirectiveRead-at : (source : List ℕ) (line : Line) (ts : List Token) (at : ℕ) (ms ms' : List Macro) (opened opened' : List Bool) (made made' : List Made) → ms' ≡ ms → opened' ≡ opened → made' ≡ made → DirectiveRead source line ts at ms opened made → DirectiveRead source line ts at ms' opened' made'
DirectiveRead-at source line ts at ms ms' opened opened' made made' e f g h =
    let a = subst (λ (ns : List Macro). DirectiveRead source line ts at ns opened made) (sym e) h in
    let b = subst (λ (os : List Bool). DirectiveRead source line ts at ms' os made) (sym f) a in
    subst (λ (ns : List Made). DirectiveRead source line ts at ms' opened' ns) (sym g) b

pub define_read : (source : List ℕ) (ms : List Macro) (opened : List Bool) (made : List Made) (hash start at n stop : ℕ) (m : Macro) → DefinesAt source start at n → index_of source ms (slice_range source at (at + n)) ≡ length ms
    → BodyEnds (words_at source (at + n)) m.body.items stop → bytes_of source m.name ≡ slice_range source at (at + n) → IsIdle source ms opened made
    → DirectiveRead source (define_at source (all_of source ms) hash start) [] stop (ms ++ m ∷ []) (opened ++ false ∷ []) (made ++ unmade ∷ [])
define_read source ms opened made hash start at n stop m h new body name idle = record {
  idle = IsIdle-push source ms m opened made idle (subst (λ (bs : List ℕ). index_of source ms bs ≡ length ms) (sym name) new);
  fits = λ tokens. MadeFits-push source ms m (opened ++ false ∷ []) opened made tokens idle.kept;
  same = define_new source ms hash start at n h new ∙ body.ends (all_of source ms) (slice_range source at (at + n))
      ∙ ap (λ bs. good (all_of source ms ++ (bs, m.body.items) ∷ []) [] stop) (sym name)
      ∙ ap (λ ns. good ns [] stop) (sym (map-append (entry_of source) ms (m ∷ [])));
}

pub define_stops : (source : List ℕ) (ms : List Macro) (hash start at n : ℕ) (stop : Stop) → DefinesAt source start at n → index_of source ms (slice_range source at (at + n)) ≡ length ms → BodyStops (words_at source (at + n)) stop
    → DirectiveStops (define_at source (all_of source ms) hash start) (all_of source ms) stop
define_stops source ms hash start at n NoMemory h new body = tt
define_stops source ms hash start at n (At place) h new body = define_new source ms hash start at n h new ∙ body (all_of source ms) (slice_range source at (at + n))

-- a name stands behind `#`
pub directive_named : (source : List ℕ) (ms : Macros) (hash at n : ℕ) → DefinesAt source (hash + 1) at n → directive_at source ms hash ≡ named (directive_of (slice_range source at (at + n))) source ms hash (at + n)
directive_named source ms hash at n h = ap (λ p. directive_by (front_of (drop p source)) source ms hash p) (sym h.place) ∙ ap (λ v. directive_by v source ms hash at) h.front
