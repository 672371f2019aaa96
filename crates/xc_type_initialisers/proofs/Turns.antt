-- Initialisers, one after another.
use Rattle.std.proofs.Common.{◌≡◌, ℕ, ◌+◌, ◌<◌, List, [], ◌∷◌, ◌++◌, length, get_or, drop, map, Bool, true, false, refl, sym, ap, ◌∙◌, append_assoc}
use Rattle.std.specs.Prelude.{◌&&◌, Option}
use Rattle.std.proofs.lemmas.List.{append-nil, drop_more}
use Rattle.std.proofs.lemmas.Grind.{common_steps}
use Rattle.xc_raw.specs.declared.tree.Raw.{Raw, out-Raw}
use Rattle.xc_raw_parts.proofs.Nodes.{by_nodes_is}
use Rattle.xc_type_rule.specs.declared.fault.Fault.{Fault}
use Rattle.xc_type_rule.specs.Least.{least_from}
use Rattle.xc_type_rule.proofs.Least.{least_append, least_none}
use Rattle.xc_type_initialiser_objects.specs.declared.inits.Inits.{Inits}
use Rattle.xc_type_initialiser_objects.specs.declared.target.Target.{Target}
use Rattle.xc_type_initialiser_objects.specs.Inits.{nothing, and_also}
use Rattle.xc_type_scopes.specs.declared.env.Env.{Env}
use Rattle.xc_type_scopes.specs.Judge.{Judge, Judged, give, and_then}
use Rattle.xc_type_expressions.specs.declared.text.Text.{Text}
use Rattle.xc_type_expressions.specs.Judged.{span_in}
use Rattle.xc_type_expressions.proofs.Roles.{span_is, constant_is}
use Rattle.xc_type_initialisers.specs.Forms.{form_by, form_in}
use Rattle.xc_type_initialisers.specs.Initialisers.{Initialiser, one_of, in_turn, given_by, initialiser_of, initialiser}

-- what initialisers give, joined ------------------------------------------------

and_true : (b : Bool) → (b && true) ≡ b
and_true true = refl
and_true false = refl

and_assoc : (a b c : Bool) → ((a && b) && c) ≡ (a && (b && c))
and_assoc true b c = refl
and_assoc false b c = refl

pub also_nothing : (a : Inits) → and_also a nothing ≡ a
also_nothing a = ap (λ m. record { made = m; whole = a.whole && true }) (append-nil a.made) ∙ ap (λ w. record { made = a.made; whole = w }) (and_true a.whole)

pub nothing_also : (a : Inits) → and_also nothing a ≡ a
nothing_also a = refl

pub also_assoc : (a b c : Inits) → and_also (and_also a b) c ≡ and_also a (and_also b c)
also_assoc a b c = ap (λ m. record { made = m; whole = (a.whole && b.whole) && c.whole }) (append_assoc a.made b.made c.made)
    ∙ ap (λ w. record { made = a.made ++ (b.made ++ c.made); whole = w }) (and_assoc a.whole b.whole c.whole)

-- nodes ----------------------------------------------------------------------

initialiser_is : (t : Text) (raw : Raw) → initialiser t raw ≡ initialiser_of t raw (map (initialiser t) (out-Raw raw).parts)
unfolding initialiser
initialiser_is t raw = by_nodes_is (initialiser_of t) raw

pub bytes_are : (t : Text) (raw : Raw) → (initialiser t raw).span ≡ span_in t raw
bytes_are t raw = ap (λ (i : Initialiser). i.span) (initialiser_is t raw)

pub given_is : (t : Text) (raw : Raw) (outermost : Bool) (to : Target) →
    (initialiser t raw).given outermost to ≡ given_by t raw (out-Raw raw).rule (map (initialiser t) (out-Raw raw).parts) outermost to
given_is t raw outermost to = ap (λ (i : Initialiser). i.given outermost to) (initialiser_is t raw)

-- one after another -----------------------------------------------------------

pub none_env : (o : Bool) (to : Target) (k : ℕ) (e : Env) → (in_turn o to k [] e).env ≡ e
unfolding in_turn
none_env o to k e = refl

pub none_part : (o : Bool) (to : Target) (k : ℕ) (e : Env) → (in_turn o to k [] e).part ≡ nothing
unfolding in_turn
none_part o to k e = refl

pub none_faults : (o : Bool) (to : Target) (k : ℕ) (e : Env) → (in_turn o to k [] e).faults ≡ []
unfolding in_turn
none_faults o to k e = refl

module _ (J : Raw → Initialiser) (o : Bool) (to : Target) (xs : List Raw) (k : ℕ) (x : Raw) (lt : k < length xs) (at : x ≡ get_or xs k x) (e : Env) where
  abbrev rest : ℕ → Judge Inits
  rest n = in_turn o to n (map J (drop n xs))

  abbrev one : Judged Inits
  one = one_of o to k (J x) e

  opens : rest k e ≡ and_then (one_of o to k (J x)) (λ a. and_then (rest (k + 1)) (λ b. give (and_also a b) [])) e
  unfolding in_turn
  opens = ap (λ r. in_turn o to k (map J r) e) (drop_more xs k x lt) ∙ ap (λ y. in_turn o to k (map J (y ∷ drop (k + 1) xs)) e) (sym at)

  module _ (behind : Env) (env : behind ≡ one.env) where
    pub turn_env : (rest (k + 1) behind).env ≡ (rest k e).env
    turn_env = ap (λ v. (rest (k + 1) v).env) env ∙ sym (ap (λ (j : Judged Inits). j.env) opens)

    pub turn_part : (a b : Inits) → b ≡ and_also a one.part → and_also b (rest (k + 1) behind).part ≡ and_also a (rest k e).part
    turn_part a b part =
        ap (λ v. and_also b (rest (k + 1) v).part) env ∙ ap (λ i. and_also i (rest (k + 1) one.env).part) part
        ∙ also_assoc a one.part (rest (k + 1) one.env).part ∙ sym (ap (λ (j : Judged Inits). and_also a j.part) opens)

    pub turn_faults : (f g : Option Fault) → g ≡ least_from f one.faults → least_from g (rest (k + 1) behind).faults ≡ least_from f (rest k e).faults
    turn_faults f g faults =
        ap (λ v. least_from g (rest (k + 1) v).faults) env ∙ ap (λ h. least_from h (rest (k + 1) one.env).faults) faults
        ∙ sym (least_append f one.faults (rest (k + 1) one.env).faults)
        ∙ ap (λ r. least_from f (one.faults ++ r)) (sym (append-nil (rest (k + 1) one.env).faults))
        ∙ sym (ap (λ (j : Judged Inits). least_from f j.faults) opens)

-- by the text alone ------------------------------------------------------------

pub form_is : (t : Text) (raw : Raw) → form_in t raw ≡ form_by t raw (out-Raw raw).rule (map (form_in t) (out-Raw raw).parts)
unfolding form_in
form_is t raw = by_nodes_is (λ node. form_by t node (out-Raw node).rule) raw

pub ruleset form_rules = (common_steps, form_is)

pub ruleset leaf_rules = (common_steps, least_append, least_none, span_is, constant_is)

pub ruleset turn_rules = (common_steps, least_append, least_none, append-nil, also_nothing, nothing_also, also_assoc, bytes_are, given_is, none_env, none_part, none_faults)
