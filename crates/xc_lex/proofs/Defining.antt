-- A further macro.
use Rattle.std.proofs.Common.{◌≡◌, ◌≤◌, ◌<◌, ℕ, zero, suc, ◌+◌, List, [], ◌∷◌, ◌++◌, length, Bool, true, false, if◌then◌else◌, ◌==◌, is_some, refl, sym, ap, ◌∙◌, arith, length-append}
use Rattle.std.specs.Str.{bytes_eq}
use Rattle.std.proofs.lemmas.Slice.Eq.{bytes_eq-Decides}
use Rattle.xc_lex.specs.declared.token.Token.{Token}
use Rattle.xc_lex.specs.declared.macros.Macro.{Macro}
use Rattle.xc_lex.specs.declared.macros.Made.{Made}
use Rattle.xc_lex.specs.Macros.{bytes_of, is_defined}
use Rattle.xc_lex.specs.State.{entry_of, all_of, visible, index_of, AreApart, shut, unmade, made_of, IsKept, MadeFits}
use Rattle.xc_lex.specs.Steps.{IsIdle}
use Rattle.std.proofs.lemmas.Bool.{eqb-true}
use Rattle.xc_lex.proofs.Made.{MadeFits-none}
use Rattle.xc_lex.proofs.Lookups.{body_of-absent, body_of-closed}

visible_nil : (source : List ℕ) (ms : List Macro) → visible source ms [] ≡ all_of source ms
visible_nil source [] = refl
visible_nil source (m ∷ ms) = ap (λ ns. entry_of source m ∷ ns) (visible_nil source ms)

pub is_defined-new : (source : List ℕ) (ms : List Macro) (name : List ℕ) → index_of source ms name ≡ length ms → is_defined (all_of source ms) name ≡ false
is_defined-new source ms name h = ap (λ ns. is_defined ns name) (sym (visible_nil source ms)) ∙ ap is_some (body_of-absent source ms [] name h)

pub is_defined-known : (source : List ℕ) (ms : List Macro) (name : List ℕ) → index_of source ms name < length ms → is_defined (all_of source ms) name ≡ true
is_defined-known source ms name h = ap (λ ns. is_defined ns name) (sym (visible_nil source ms)) ∙ ap is_some (body_of-closed source ms [] name h refl)

pub index_of-le : (source : List ℕ) (ms : List Macro) (name : List ℕ) → index_of source ms name ≤ length ms
index_of-le source [] name = omega arith
index_of-le source (m ∷ ms) name =
    elim (bytes_eq (bytes_of source m.name) name) as (λ v. (if v then 0 else suc (index_of source ms name)) ≤ suc (length ms)) [ true ↦ omega arith | false ↦ let h = index_of-le source ms name in omega (arith, h) ]

index_of-push : (source : List ℕ) (ms : List Macro) (m : Macro) (name : List ℕ) → index_of source ms name < length ms → index_of source (ms ++ m ∷ []) name ≡ index_of source ms name
index_of-push source [] m name h = absurd (omega arith)
index_of-push source (x ∷ ms) m name h =
    elim (bytes_eq (bytes_of source x.name) name) as (λ v. (if v then 0 else suc (index_of source ms name)) < suc (length ms) → (if v then 0 else suc (index_of source (ms ++ m ∷ []) name)) ≡ (if v then 0 else suc (index_of source ms name)))
    [ true ↦ λ h. refl | false ↦ λ h. ap suc (index_of-push source ms m name (omega arith)) ] h

index_of-push_absent : (source : List ℕ) (ms : List Macro) (m : Macro) (name : List ℕ) → index_of source ms name ≡ length ms → bytes_eq (bytes_of source m.name) name ≡ false → index_of source (ms ++ m ∷ []) name ≡ length (ms ++ m ∷ [])
index_of-push_absent source [] m name h e = rw e refl
index_of-push_absent source (x ∷ ms) m name h e =
    elim (bytes_eq (bytes_of source x.name) name) as (λ v. (if v then 0 else suc (index_of source ms name)) ≡ suc (length ms) → (if v then 0 else suc (index_of source (ms ++ m ∷ []) name)) ≡ suc (length (ms ++ m ∷ [])))
    [ true ↦ λ h. absurd (omega arith) | false ↦ λ h. ap suc (index_of-push_absent source ms m name (omega arith) e) ] h

bytes_eq_swap : (a b : List ℕ) → bytes_eq a b ≡ false → bytes_eq b a ≡ false
bytes_eq_swap a b h =
    elim (bytes_eq b a) as (λ v. bytes_eq b a ≡ v → v ≡ false)
    [ true ↦ λ e. let same : b ≡ a = (bytes_eq-Decides b a).0 e in let yes : bytes_eq a b ≡ true = (bytes_eq-Decides a b).1 (sym same) in absurd (cc) | false ↦ λ e. refl ] refl

AreApart-push : (source : List ℕ) (ms : List Macro) (m : Macro) → AreApart source ms → index_of source ms (bytes_of source m.name) ≡ length ms → AreApart source (ms ++ m ∷ [])
AreApart-push source [] m a h = (refl, tt)
AreApart-push source (x ∷ ms) m a h =
    elim (bytes_eq (bytes_of source x.name) (bytes_of source m.name)) as (λ v. bytes_eq (bytes_of source x.name) (bytes_of source m.name) ≡ v → (if v then 0 else suc (index_of source ms (bytes_of source m.name))) ≡ suc (length ms) → AreApart source (x ∷ (ms ++ m ∷ []))) [
      | true ↦ λ e h. absurd (omega arith)
      | false ↦ λ e h. (index_of-push_absent source ms m (bytes_of source x.name) a.0 (bytes_eq_swap (bytes_of source x.name) (bytes_of source m.name) e), AreApart-push source ms m a.1 (omega arith))
    ] refl h

shut-push : (ms : List Macro) (m : Macro) → shut (ms ++ m ∷ []) ≡ shut ms ++ false ∷ []
shut-push [] m = refl
shut-push (x ∷ ms) m = ap (λ os. false ∷ os) (shut-push ms m)

made_of-push : (made : List Made) (i : ℕ) → made_of (made ++ unmade ∷ []) i ≡ made_of made i
made_of-push [] zero = refl
made_of-push [] (suc i) = refl
made_of-push (x ∷ made) zero = refl
made_of-push (x ∷ made) (suc i) = made_of-push made i

pub IsIdle-push : (source : List ℕ) (ms : List Macro) (m : Macro) (opened : List Bool) (made : List Made) → IsIdle source ms opened made → index_of source ms (bytes_of source m.name) ≡ length ms
    → IsIdle source (ms ++ m ∷ []) (opened ++ false ∷ []) (made ++ unmade ∷ [])
IsIdle-push source ms m opened made h new =
    let kept = h.kept in
    let more : length (ms ++ m ∷ []) ≡ length ms + 1 = length-append ms (m ∷ []) in
    let opened_more : length (opened ++ false ∷ []) ≡ length opened + 1 = length-append opened (false ∷ []) in
    let made_more = length-append made (unmade ∷ []) in
    record {
      kept = record {
        opened_len = omega (arith, more, opened_more, kept.opened_len);
        made_len = omega (arith, more, made_more, kept.made_len);
        apart = AreApart-push source ms m kept.apart new;
        past = λ i. let same = ap (λ m. m.macros) (made_of-push made i) in let past = kept.past i in omega (arith, more, same, past);
      };
      idle = ap (λ os. os ++ false ∷ []) h.idle ∙ sym (shut-push ms m);
    }

below : (a b : ℕ) → a < b → (a == b) ≡ false
below a b h = elim (a == b) as (λ v. (a == b) ≡ v → v ≡ false) [ true ↦ λ e. let same = eqb-true a b e in absurd (omega (arith, same)) | false ↦ λ e. refl ] refl

-- what was made is forgotten
pub MadeFits-push : (source : List ℕ) (ms : List Macro) (m : Macro) (opened opened' : List Bool) (made : List Made) (tokens : List Token) → IsKept source ms opened' made → MadeFits source (ms ++ m ∷ []) opened (made ++ unmade ∷ []) tokens
MadeFits-push source ms m opened opened' made tokens kept =
    let more : length (ms ++ m ∷ []) ≡ length ms + 1 = length-append ms (m ∷ []) in
    MadeFits-none source (ms ++ m ∷ []) opened _ tokens (λ i _. let same = ap (λ m. m.macros) (made_of-push made i) in let past = kept.past i in below (made_of (made ++ unmade ∷ []) i).macros (length (ms ++ m ∷ [])) (omega (arith, more, same, past)))

pub IsIdle-empty : (source : List ℕ) → IsIdle source [] [] []
IsIdle-empty source = record {
  kept = record { opened_len = refl; made_len = refl; apart = tt; past = λ i. made_of-nil i };
  idle = refl;
}
  where
    made_of-nil : (i : ℕ) → (made_of [] i).macros ≤ 0
    made_of-nil zero = omega arith
    made_of-nil (suc i) = omega arith
