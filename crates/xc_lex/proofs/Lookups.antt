-- Macros by their names.
use Rattle.std.proofs.Common.{◌≡◌, ◌<◌, ℕ, zero, suc, ◌++◌, List, [], ◌∷◌, length, Bool, true, false, if◌then◌else◌, Option, Some, None, IsSome, refl, sym, ap, subst, arith, get_or}
use Rattle.std.proofs.Math.ListN.{set}
use Rattle.std.specs.Str.{bytes_eq}
use Rattle.std.proofs.lemmas.Slice.Eq.{bytes_eq-Decides}
use Rattle.xc_lex.specs.declared.macros.Macro.{Macro}
use Rattle.xc_lex.specs.Macros.{bytes_of, body_of, without}
use Rattle.xc_lex.specs.State.{entry_of, visible, index_of, AreApart, AreNumbered, tokens_of, is_set}

-- a name of no macro
pub body_of-absent : (source : List ℕ) (ms : List Macro) (opened : List Bool) (name : List ℕ) → index_of source ms name ≡ length ms → body_of (visible source ms opened) name ≡ None
body_of-absent source [] opened name h = refl
body_of-absent source (m ∷ ms) [] name h =
    elim (bytes_eq (bytes_of source m.name) name) as (λ v. (if v then 0 else suc (index_of source ms name)) ≡ suc (length ms) → (if v then Some m.body.items else body_of (visible source ms []) name) ≡ None)
    [ true ↦ λ h. absurd (omega arith) | false ↦ λ h. body_of-absent source ms [] name (omega arith) ] h
body_of-absent source (m ∷ ms) (true ∷ opened) name h =
    elim (bytes_eq (bytes_of source m.name) name) as (λ v. (if v then 0 else suc (index_of source ms name)) ≡ suc (length ms) → body_of (visible source ms opened) name ≡ None)
    [ true ↦ λ h. absurd (omega arith) | false ↦ λ h. body_of-absent source ms opened name (omega arith) ] h
body_of-absent source (m ∷ ms) (false ∷ opened) name h =
    elim (bytes_eq (bytes_of source m.name) name) as (λ v. (if v then 0 else suc (index_of source ms name)) ≡ suc (length ms) → (if v then Some m.body.items else body_of (visible source ms opened) name) ≡ None)
    [ true ↦ λ h. absurd (omega arith) | false ↦ λ h. body_of-absent source ms opened name (omega arith) ] h

-- a macro that is not opened
pub body_of-closed : (source : List ℕ) (ms : List Macro) (opened : List Bool) (name : List ℕ) → index_of source ms name < length ms → is_set opened (index_of source ms name) ≡ false
    → body_of (visible source ms opened) name ≡ Some (tokens_of ms (index_of source ms name))
body_of-closed source [] opened name h f = absurd (omega arith)
body_of-closed source (m ∷ ms) [] name h f =
    elim (bytes_eq (bytes_of source m.name) name) as (λ v. (if v then 0 else suc (index_of source ms name)) < suc (length ms) → (if v then Some m.body.items else body_of (visible source ms []) name) ≡ Some (tokens_of (m ∷ ms) (if v then 0 else suc (index_of source ms name))))
    [ true ↦ λ h. refl | false ↦ λ h. body_of-closed source ms [] name (omega arith) refl ] h
body_of-closed source (m ∷ ms) (true ∷ opened) name h f =
    elim (bytes_eq (bytes_of source m.name) name) as (λ v. (if v then 0 else suc (index_of source ms name)) < suc (length ms) → is_set (true ∷ opened) (if v then 0 else suc (index_of source ms name)) ≡ false → body_of (visible source ms opened) name ≡ Some (tokens_of (m ∷ ms) (if v then 0 else suc (index_of source ms name))))
    [ true ↦ λ h f. absurd (cc) | false ↦ λ h f. body_of-closed source ms opened name (omega arith) f ] h f
body_of-closed source (m ∷ ms) (false ∷ opened) name h f =
    elim (bytes_eq (bytes_of source m.name) name) as (λ v. (if v then 0 else suc (index_of source ms name)) < suc (length ms) → is_set (false ∷ opened) (if v then 0 else suc (index_of source ms name)) ≡ false → (if v then Some m.body.items else body_of (visible source ms opened) name) ≡ Some (tokens_of (m ∷ ms) (if v then 0 else suc (index_of source ms name))))
    [ true ↦ λ h f. refl | false ↦ λ h f. body_of-closed source ms opened name (omega arith) f ] h f

-- a macro that is opened
pub body_of-opened : (source : List ℕ) (ms : List Macro) (opened : List Bool) (name : List ℕ) → AreApart source ms → is_set opened (index_of source ms name) ≡ true → body_of (visible source ms opened) name ≡ None
body_of-opened source [] opened name a f = refl
body_of-opened source (m ∷ ms) [] name a f = absurd (cc)
body_of-opened source (m ∷ ms) (true ∷ opened) name a f =
    elim (bytes_eq (bytes_of source m.name) name) as (λ v. bytes_eq (bytes_of source m.name) name ≡ v → is_set (true ∷ opened) (if v then 0 else suc (index_of source ms name)) ≡ true → body_of (visible source ms opened) name ≡ None) [
      | true ↦ λ e f. let same : bytes_of source m.name ≡ name = (bytes_eq-Decides (bytes_of source m.name) name).0 e in
          body_of-absent source ms opened name (subst (λ (n : List ℕ). index_of source ms n ≡ length ms) same a.0)
      | false ↦ λ e f. body_of-opened source ms opened name a.1 f
    ] refl f
body_of-opened source (m ∷ ms) (false ∷ opened) name a f =
    elim (bytes_eq (bytes_of source m.name) name) as (λ v. is_set (false ∷ opened) (if v then 0 else suc (index_of source ms name)) ≡ true → (if v then Some m.body.items else body_of (visible source ms opened) name) ≡ None)
    [ true ↦ λ f. absurd (cc) | false ↦ λ f. body_of-opened source ms opened name a.1 f ] f

-- to open a macro is to forget it
pub visible-open : (source : List ℕ) (ms : List Macro) (opened : List Bool) (name : List ℕ) → index_of source ms name < length ms → index_of source ms name < length opened → is_set opened (index_of source ms name) ≡ false
    → visible source ms (set opened (index_of source ms name) true) ≡ without name (visible source ms opened)
visible-open source [] opened name h k f = absurd (omega arith)
visible-open source (m ∷ ms) [] name h k f = absurd (omega arith)
visible-open source (m ∷ ms) (true ∷ opened) name h k f =
    elim (bytes_eq (bytes_of source m.name) name) as (λ v. (if v then 0 else suc (index_of source ms name)) < suc (length ms) → (if v then 0 else suc (index_of source ms name)) < suc (length opened) → is_set (true ∷ opened) (if v then 0 else suc (index_of source ms name)) ≡ false
    → visible source (m ∷ ms) (set (true ∷ opened) (if v then 0 else suc (index_of source ms name)) true) ≡ without name (visible source ms opened))
    [ true ↦ λ h k f. absurd (cc) | false ↦ λ h k f. visible-open source ms opened name (omega arith) (omega arith) f ] h k f
visible-open source (m ∷ ms) (false ∷ opened) name h k f =
    elim (bytes_eq (bytes_of source m.name) name) as (λ v. (if v then 0 else suc (index_of source ms name)) < suc (length ms) → (if v then 0 else suc (index_of source ms name)) < suc (length opened) → is_set (false ∷ opened) (if v then 0 else suc (index_of source ms name)) ≡ false
    → visible source (m ∷ ms) (set (false ∷ opened) (if v then 0 else suc (index_of source ms name)) true) ≡ (if v then visible source ms opened else entry_of source m ∷ without name (visible source ms opened)))
    [ true ↦ λ h k f. refl | false ↦ λ h k f. ap (λ ns. entry_of source m ∷ ns) (visible-open source ms opened name (omega arith) (omega arith) f) ] h k f

pub length-visible-open : (source : List ℕ) (ms : List Macro) (opened : List Bool) (i : ℕ) → i < length ms → i < length opened → is_set opened i ≡ false → suc (length (visible source ms (set opened i true))) ≡ length (visible source ms opened)
length-visible-open source [] opened i h k f = absurd (omega arith)
length-visible-open source (m ∷ ms) [] i h k f = absurd (omega arith)
length-visible-open source (m ∷ ms) (true ∷ opened) zero h k f = absurd (cc)
length-visible-open source (m ∷ ms) (true ∷ opened) (suc i) h k f = length-visible-open source ms opened i (omega arith) (omega arith) f
length-visible-open source (m ∷ ms) (false ∷ opened) zero h k f = refl
length-visible-open source (m ∷ ms) (false ∷ opened) (suc i) h k f = ap suc (length-visible-open source ms opened i (omega arith) (omega arith) f)

-- flags
pub set_back : (opened : List Bool) (i : ℕ) (b c : Bool) → is_set opened i ≡ b → i < length opened → set (set opened i c) i b ≡ opened
set_back [] i b c f k = absurd (omega arith)
set_back (o ∷ opened) zero b c f k = ap (λ p. p ∷ opened) (sym f)
set_back (o ∷ opened) (suc i) b c f k = ap (λ os. o ∷ os) (set_back opened i b c f (omega arith))

pub is_set-set : (bs : List Bool) (i : ℕ) (b : Bool) → i < length bs → is_set (set bs i b) i ≡ b
is_set-set [] i b k = absurd (omega arith)
is_set-set (o ∷ bs) zero b k = refl
is_set-set (o ∷ bs) (suc i) b k = is_set-set bs i b (omega arith)

pub is_set-set_other : (bs : List Bool) (i j : ℕ) (b : Bool) → (j ≡ i → ⊥) → is_set (set bs i b) j ≡ is_set bs j
is_set-set_other [] i j b ne = refl
is_set-set_other (o ∷ bs) zero zero b ne = absurd (ne refl)
is_set-set_other (o ∷ bs) zero (suc j) b ne = refl
is_set-set_other (o ∷ bs) (suc i) zero b ne = refl
is_set-set_other (o ∷ bs) (suc i) (suc j) b ne = is_set-set_other bs i j b (λ e. ne (ap suc e))

pub is_set_read : (bs : List Bool) (i : ℕ) (d : Bool) → i < length bs → get_or bs i d ≡ is_set bs i
is_set_read [] i d k = absurd (omega arith)
is_set_read (o ∷ bs) zero d k = refl
is_set_read (o ∷ bs) (suc i) d k = is_set_read bs i d (omega arith)

-- a name without a number is the name of no macro
pub index_of-unnumbered : (source : List ℕ) (ms : List Macro) (numbers : List ℕ → Option ℕ) (name : List ℕ) → AreNumbered source ms numbers → numbers name ≡ None → index_of source ms name ≡ length ms
index_of-unnumbered source [] numbers name h none = refl
index_of-unnumbered source (m ∷ ms) numbers name h none =
    elim (bytes_eq (bytes_of source m.name) name) as (λ v. bytes_eq (bytes_of source m.name) name ≡ v → (if v then 0 else suc (index_of source ms name)) ≡ suc (length ms)) [
      | true ↦ λ e.
          let same : bytes_of source m.name ≡ name = (bytes_eq-Decides (bytes_of source m.name) name).0 e in
          let some : IsSome (numbers name) = subst (λ (q : List ℕ). IsSome (numbers q)) same h.0 in
          absurd (no_value (numbers name) some none)
      | false ↦ λ e. ap suc (index_of-unnumbered source ms numbers name h.1 none)
    ] refl
  where
    no_value : (o : Option ℕ) → IsSome o → o ≡ None → ⊥
    no_value None some none = absurd (cc)
    no_value (Some x) some none = absurd (cc)

-- the macro of a number has its name
pub index_of-numbered : (source : List ℕ) (ms : List Macro) (i : ℕ) (d : Macro) (name : List ℕ) → AreApart source ms → i < length ms → bytes_of source (get_or ms i d).name ≡ name → index_of source ms name ≡ i
index_of-numbered source [] i d name a h e = absurd (omega arith)
index_of-numbered source (m ∷ ms) zero d name a h e = rw ((bytes_eq-Decides (bytes_of source m.name) name).1 e) refl
index_of-numbered source (m ∷ ms) (suc i) d name a h e =
    let rest = index_of-numbered source ms i d name a.1 (omega arith) e in
    elim (bytes_eq (bytes_of source m.name) name) as (λ v. bytes_eq (bytes_of source m.name) name ≡ v → (if v then 0 else suc (index_of source ms name)) ≡ suc i) [
      | true ↦ λ f.
          let same : bytes_of source m.name ≡ name = (bytes_eq-Decides (bytes_of source m.name) name).0 f in
          let far : index_of source ms name ≡ length ms = subst (λ (q : List ℕ). index_of source ms q ≡ length ms) same a.0 in
          absurd (omega (arith, far, rest))
      | false ↦ λ f. ap suc rest
    ] refl

-- a further number
pub AreNumbered-push : (source : List ℕ) (ms : List Macro) (m : Macro) (old new : List ℕ → Option ℕ) → ((q : List ℕ) → IsSome (old q) → IsSome (new q)) → IsSome (new (bytes_of source m.name)) → AreNumbered source ms old → AreNumbered source (ms ++ m ∷ []) new
AreNumbered-push source [] m old new keeps named h = (named, tt)
AreNumbered-push source (x ∷ ms) m old new keeps named h = (keeps (bytes_of source x.name) h.0, AreNumbered-push source ms m old new keeps named h.1)
