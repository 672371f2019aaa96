-- Parts one behind another, walked by an index.
use Rattle.std.proofs.Common.{◌≡◌, ℕ, ◌+◌, ◌<◌, ◌≤◌, List, [], ◌∷◌, ◌++◌, length, get_or, drop, map, refl, sym, ap, ◌∙◌, append_assoc}
use Rattle.std.specs.Prelude.{Option}
use Rattle.std.proofs.lemmas.List.{append-nil, drop_more, drop_all}
use Rattle.xc_type_rule.specs.declared.fault.Fault.{Fault}
use Rattle.xc_type_rule.specs.Least.{least_from}
use Rattle.xc_type_rule.proofs.Least.{least_append}
use Rattle.xc_type_scopes.specs.declared.env.Env.{Env}
use Rattle.xc_type_scopes.specs.Judge.{Judged, Judge, Judges, give, and_then, each}

module _ {A C : Type 0} (J : C → Judge A) where
  pub each_none : (e : Env) → each (map J []) e ≡ record { env = e; part = []; faults = [] }
  unfolding each
  each_none e = refl

  module _ (xs : List C) (k : ℕ) (d : C) (lt : k < length xs) (e : Env) where
    abbrev here : Env
    here = (J (get_or xs k d) e).env

    -- behind the next part the rest leaves what all that were left leave
    pub each_env : (each (map J (drop (k + 1) xs)) here).env ≡ (each (map J (drop k xs)) e).env
    unfolding each
    each_env = sym (ap (λ r. (each (map J r) e).env) (drop_more xs k d lt))

    pub each_part : (J (get_or xs k d) e).part ∷ (each (map J (drop (k + 1) xs)) here).part ≡ (each (map J (drop k xs)) e).part
    unfolding each
    each_part = sym (ap (λ r. (each (map J r) e).part) (drop_more xs k d lt))

    pub each_faults : (f : Option Fault) → least_from (least_from f (J (get_or xs k d) e).faults) (each (map J (drop (k + 1) xs)) here).faults
        ≡ least_from f (each (map J (drop k xs)) e).faults
    unfolding each
    each_faults f = sym (least_append f _ _) ∙ ap (λ r. least_from f ((J (get_or xs k d) e).faults ++ r)) (sym (append-nil _))
        ∙ sym (ap (λ r. least_from f (each (map J r) e).faults) (drop_more xs k d lt))

module _ {A B C : Type 0} (fn : C → B) (J : B → Judge A) where
  abbrev rest : List C → Judge (List A)
  rest xs = each (map J (map fn xs))

  -- the parts from one on are this part and those behind it
  pub each_opens : (xs : List C) (k : ℕ) (x : C) → k < length xs → get_or xs k x ≡ x → (e : Env) →
      rest (drop k xs) e ≡ and_then (J (fn x)) (λ a. and_then (rest (drop (k + 1) xs)) (λ more. give (a ∷ more) [])) e
  unfolding each
  each_opens xs k x lt is e = ap (λ r. rest r e) (drop_more xs k x lt) ∙ ap (λ y. rest (y ∷ drop (k + 1) xs) e) is

  -- what is judged so far, and what is judged of the parts that are left, is what is judged of all
  abbrev pub Left : List A → Judged (List A) → Option Fault → Judged (List A) → Option Fault → Type 0
  Left done r now whole was = (done ++ r.part ≡ whole.part) × (r.env ≡ whole.env) × (least_from now r.faults ≡ least_from was whole.faults)

  module _ (xs : List C) (k : ℕ) (whole : Judged (List A)) (was : Option Fault) where
    -- the next part, where it is kept and where it is not
    module _ (x : C) (lt : k < length xs) (is : get_or xs k x ≡ x) (e e' : Env) (f f' : Option Fault) (v : A) (h : Judges (J (fn x)) e e' f f' v) where
      abbrev behind : Judged (List A)
      behind = rest (drop (k + 1) xs) e'

      abbrev all : Judged (List A)
      all = and_then (J (fn x)) (λ a. and_then (rest (drop (k + 1) xs)) (λ more. give (a ∷ more) [])) e

      same : behind ≡ rest (drop (k + 1) xs) (J (fn x) e).env
      same = ap (rest (drop (k + 1) xs)) h.1

      pub walked : (rest (drop k xs) e).env ≡ whole.env × least_from f (rest (drop k xs) e).faults ≡ least_from was whole.faults →
          behind.env ≡ whole.env × least_from f' behind.faults ≡ least_from was whole.faults
      walked l =
          let o : rest (drop k xs) e ≡ all = each_opens xs k x lt is e in
          let more = rest (drop (k + 1) xs) (J (fn x) e).env in (
            ap (λ (r : Judged (List A)). r.env) same ∙ ap (λ (r : Judged (List A)). r.env) (sym o) ∙ l.0,
            ap (λ y. least_from y behind.faults) h.2 ∙ ap (λ (r : Judged (List A)). least_from (least_from f (J (fn x) e).faults) r.faults) same
                ∙ sym (least_append f (J (fn x) e).faults more.faults) ∙ ap (λ y. least_from f ((J (fn x) e).faults ++ y)) (sym (append-nil more.faults))
                ∙ ap (λ (r : Judged (List A)). least_from f r.faults) (sym o) ∙ l.1,
          )

      pub walked_with : (done : List A) → Left done (rest (drop k xs) e) f whole was → Left (done ++ v ∷ []) behind f' whole was
      walked_with done l =
          let o : rest (drop k xs) e ≡ all = each_opens xs k x lt is e in
          let w = walked (l.1, l.2) in (
            append_assoc done (v ∷ []) behind.part ∙ ap (λ y. done ++ y ∷ behind.part) h.0 ∙ ap (λ (r : Judged (List A)). done ++ (J (fn x) e).part ∷ r.part) same
                ∙ ap (λ (r : Judged (List A)). done ++ r.part) (sym o) ∙ l.0,
            w.0,
            w.1,
          )

    -- behind the last part, likewise
    module _ (le : length xs ≤ k) (e : Env) (f : Option Fault) where
      none : rest (drop k xs) e ≡ rest [] e
      none = ap (λ r. rest r e) (drop_all k xs le)

      pub walked_all : (rest (drop k xs) e).env ≡ whole.env × least_from f (rest (drop k xs) e).faults ≡ least_from was whole.faults → e ≡ whole.env × f ≡ least_from was whole.faults
      unfolding each least_from
      walked_all l = (sym (ap (λ (r : Judged (List A)). r.env) none) ∙ l.0, sym (ap (λ (r : Judged (List A)). least_from f r.faults) none) ∙ l.1)

      pub walked_all_with : (done : List A) → Left done (rest (drop k xs) e) f whole was → done ≡ whole.part × e ≡ whole.env × f ≡ least_from was whole.faults
      unfolding each
      walked_all_with done l =
          let w = walked_all (l.1, l.2) in
          (sym (append-nil done) ∙ sym (ap (λ (r : Judged (List A)). done ++ r.part) none) ∙ l.0, w.0, w.1)

pub ruleset each_rules = (each_none, each_env, each_part, each_faults)
