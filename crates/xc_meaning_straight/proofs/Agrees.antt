-- Straight programs keep their meaning, by induction on terms and commands.
use Rattle.std.proofs.Common.{◌≡◌, ℕ, zero, suc, ◌^◌, ◌<◌, ◌==◌, List, [], ◌∷◌, ◌++◌, Bool, true, false, refl, sym, ap, ◌∙◌, arith}
use Rattle.std.specs.Prelude.{cond, Option, Some, None, if◌then◌else◌}
use Rattle.std.proofs.Math.Nat.{mul-div_cancel, mul-mod_left}
use Rattle.std.proofs.lemmas.List.{map-append}
use Rattle.xc_word.specs.declared.memory.Kind.{Kind}
use Rattle.xc_word.specs.declared.memory.Kind.TheVariants as kind
use Rattle.xc_meaning_world.specs.World.{Reach, Request, On, Print as Shows, Stop, Reply, Got, Dead, Action, act_of, tick}
use Rattle.xc_tree_words.specs.Words.{binary_word, unary_word}
use Rattle.xc_meaning.specs.Terms as old
use Rattle.xc_meaning.specs.Meaning as straight
use Rattle.xc_meaning_terms.specs.Pointers.{offset_of, pointer_to, access_at}
use Rattle.xc_meaning_threads.specs.Events.{Of, event}
use Rattle.xc_meaning_threads.specs.Meaning.{Env, Setting, setting, Point, point, Outcome, Gives, Halts, Trapped, Exit, Ends, Returns, and_then, answered, asked, ask, stopped, given, touch, write, either, as_truth, show, format_at, value_of, values_of, then_do, in_order, followed, outcome_of, ended, ticked, nothing_set}
use Rattle.xc_meaning_straight.specs.Straight.{term_for, terms_for, command_for, commands_for, program_for, HasMeaning, HaveMeaning, IsStraight, AreStraight, event_of, events_of, value_for, outcome_for, SameRuns}

push : (t : List Action) (a : Action) → events_of t ++ event_of a ∷ [] ≡ events_of (t ++ a ∷ [])
push t a = sym (map-append event_of t (a ∷ []))

-- what follows may be put behind at once
again : {X Y Z : Type 0} (o : Outcome X) (f : X → Point → Outcome Y) (g : Y → Point → Outcome Z) → and_then (and_then o f) g ≡ and_then o (λ x p. and_then (f x p) g)
again (Gives x p) f g = refl
again (Halts how t) f g = refl

module _ (env : Env) where
  abbrev at : straight.Point → Point
  at p = point env p.replies (events_of p.trace)

  answers : (q : Request) (a : Reply) (rs : List Reply) (t : List Action) → answered env q a rs (events_of t) ≡ value_for env (straight.answered q a rs t)
  answers q Dead rs t = ap (Halts Trapped) (push t (act_of q Dead))
  answers q (Got v) rs t = ap (λ u. Gives v (point env rs u)) (push t (act_of q (Got v)))

  asks : (q : Request) (rs : List Reply) (t : List Action) → asked env q rs (events_of t) ≡ value_for env (straight.asked q rs t)
  asks q [] t = refl
  asks q (a ∷ rs) t = answers q a rs t

  stops : (rs : List Reply) (t : List Action) → stopped rs (events_of t) ≡ value_for env (straight.stopped rs t)
  stops [] t = refl
  stops (a ∷ rs) t = ap (Halts Trapped) (push t (act_of Stop a))

  gives : (o : Option ℕ) (p : straight.Point) → given o (at p) ≡ value_for env (straight.given o p)
  gives None p = stops p.replies p.trace
  gives (Some v) p = refl

  binds : (o : straight.Value) (go : ℕ → Point → Outcome ℕ) (go' : ℕ → straight.Point → straight.Value)
      → ((v : ℕ) (p : straight.Point) → go v (at p) ≡ value_for env (go' v p))
      → and_then (value_for env o) go ≡ value_for env (straight.then_value o go')
  binds (straight.Gives v p) go go' h = h v p
  binds (straight.Traps t) go go' h = refl
  binds (straight.Cuts t) go go' h = refl

  bind : (o : Outcome ℕ) (o' : straight.Value) → o ≡ value_for env o' → (go : ℕ → Point → Outcome ℕ) (go' : ℕ → straight.Point → straight.Value)
      → ((v : ℕ) (p : straight.Point) → go v (at p) ≡ value_for env (go' v p))
      → and_then o go ≡ value_for env (straight.then_value o' go')
  bind o o' e go go' h = ap (λ z. and_then z go) e ∙ binds o' go go' h

  chooses : (b : Bool) (f g : Point → Outcome ℕ) (f' g' : straight.Value) (p : straight.Point)
      → f (at p) ≡ value_for env f' → g (at p) ≡ value_for env g' → either b f g (at p) ≡ value_for env (if b then f' else g')
  chooses true f g f' g' p x y = x
  chooses false f g f' g' p x y = y

  same_access : (k : Kind) (g v : ℕ) → access_at k (pointer_to (suc g)) v ≡ straight.access_of k g v
  same_access k g v = ap (λ (s : ℕ). record { kind = k; place = record { seg = s; off = offset_of (pointer_to (suc g)) }; value = v }) (mul-div_cancel (suc g) lit)
      ∙ ap (λ (o : ℕ). record { kind = k; place = record { seg = suc g; off = o }; value = v }) (mul-mod_left (suc g) (2 ^ 32)) where
        lit : zero < 2 ^ 32
        lit = omega arith

  reads : (g : ℕ) (p : straight.Point) → touch kind.ReadXx (pointer_to (suc g)) 0 (at p) ≡ value_for env (straight.read g p)
  reads g p = ap (λ a. ask (On (Reach a)) (at p)) (same_access kind.ReadXx g 0) ∙ asks (On (Reach (straight.access_of kind.ReadXx g 0))) p.replies p.trace

  writes : (g v u : ℕ) (p : straight.Point) → write kind.WriteXf (pointer_to (suc g)) v u (at p) ≡ value_for env (straight.write g v u p)
  writes g v u p = bind (touch kind.WriteXf (pointer_to (suc g)) v (at p)) (straight.ask (On (Reach (straight.access_of kind.WriteXf g v))) p)
      (ap (λ a. ask (On (Reach a)) (at p)) (same_access kind.WriteXf g v) ∙ asks (On (Reach (straight.access_of kind.WriteXf g v))) p.replies p.trace)
      (λ w q. Gives u q) (λ w q. straight.Gives u q) (λ w q. refl)

  module _ (s : Setting) where
    abbrev fs : List (List ℕ)
    fs = s.formats

    shows : (format vs : List ℕ) (p : straight.Point) → show format vs (at p) ≡ value_for env (straight.show format vs p)
    shows format vs p = bind _ _ (asks (Shows _) p.replies p.trace) (λ w q. Gives 0 q) (λ w q. straight.Gives 0 q) (λ w q. refl)

    mutual
      values : (e : old.Term) → HasMeaning e → (p : straight.Point) → value_of s (term_for e) (at p) ≡ value_for env (straight.value_of fs e p)
      values (old.Number n) h p = refl
      values (old.Read g) h p = reads g p
      values (old.Write g value) h p = bind _ _ (values value h p) (λ v q. write kind.WriteXf (pointer_to (suc g)) v v q) (λ v q. straight.write g v v q) (λ v q. writes g v v q)
      values (old.Update op unsigned post g value) h p =
          bind _ _ (reads g p) _ _ (λ x q.
          bind _ _ (values value h q) _ _ (λ v q.
          bind _ _ (gives (binary_word op unsigned x v) q) _ _ (λ new q. writes g new (cond post x new) q)))
      values (old.Unary op of) h p = bind _ _ (values of h p) (λ x q. Gives (unary_word op x) q) (λ x q. straight.Gives (unary_word op x) q) (λ x q. refl)
      values (old.Binary op unsigned a b) h p =
          bind _ _ (values a h.0 p) _ _ (λ x q. bind _ _ (values b h.1 q) _ _ (λ y q. gives (binary_word op unsigned x y) q))
      values (old.And a b) h p = bind _ _ (values a h.0 p) _ _ (λ x q. chooses (x == 0) _ _ _ _ q refl (bind _ _ (values b h.1 q) as_truth straight.as_truth (λ x q. refl)))
      values (old.Or a b) h p = bind _ _ (values a h.0 p) _ _ (λ x q. chooses (x == 0) _ _ _ _ q (bind _ _ (values b h.1 q) as_truth straight.as_truth (λ x q. refl)) refl)
      values (old.Cond test a b) h p = bind _ _ (values test h.0 p) _ _ (λ x q. chooses (x == 0) _ _ _ _ q (values b h.2 q) (values a h.1 q))
      values (old.Comma a b) h p = bind _ _ (values a h.0 p) _ _ (λ x q. values b h.1 q)
      values (old.Print format args) h p = lists args h (show (format_at fs format)) (straight.show (straight.format_at fs format)) (λ vs q. shows (format_at fs format) vs q) p
      values (old.Term.Unbuilt span) h p = elim h [ ]

      lists : (es : old.Terms) → HaveMeaning es → (go : List ℕ → Point → Outcome ℕ) (go' : List ℕ → straight.Point → straight.Value)
          → ((vs : List ℕ) (p : straight.Point) → go vs (at p) ≡ value_for env (go' vs p)) → (p : straight.Point)
          → and_then (values_of s (terms_for es) (at p)) go ≡ value_for env (straight.with_values fs es go' p)
      lists old.NoMore h go go' same p = same [] p
      lists (old.More e es) h go go' same p =
          again (value_of s (term_for e) (at p)) (λ v q. and_then (values_of s (terms_for es) q) (λ vs q. Gives (v ∷ vs) q)) go
          ∙ bind _ _ (values e h.0 p) _ (λ v q. straight.with_values fs es (λ vs q. go' (v ∷ vs) q) q)
          (λ v q. again (values_of s (terms_for es) (at q)) (λ vs q. Gives (v ∷ vs) q) go
          ∙ lists es h.1 (λ vs q. go (v ∷ vs) q) (λ vs q. go' (v ∷ vs) q) (λ vs q. same (v ∷ vs) q) q)

    outcomes_bind : (o : straight.Value) (go : ℕ → Point → Outcome Exit) (go' : ℕ → straight.Point → straight.Outcome)
        → ((v : ℕ) (p : straight.Point) → go v (at p) ≡ outcome_for env (go' v p))
        → and_then (value_for env o) go ≡ outcome_for env (straight.with_value o go')
    outcomes_bind (straight.Gives v p) go go' h = h v p
    outcomes_bind (straight.Traps t) go go' h = refl
    outcomes_bind (straight.Cuts t) go go' h = refl

    does : (o : straight.Outcome) (go : Point → Outcome Exit) (go' : straight.Point → straight.Outcome)
        → ((p : straight.Point) → go (at p) ≡ outcome_for env (go' p))
        → then_do (outcome_for env o) go ≡ outcome_for env (straight.then_do o go')
    does (straight.Done p) go go' h = h p
    does (straight.Returned v p) go go' h = refl
    does (straight.Trapped t) go go' h = refl
    does (straight.Cut t) go go' h = refl

    -- a statement begins
    tick_same : (p : straight.Point) → ticked (at p) ≡ at (straight.ticked p)
    tick_same p = ap (λ u. point env p.replies u) (push p.trace tick)

    -- no statement of these declares an object
    rest_same : (c : old.Command) (does_it rest : Point → Outcome Exit) (p : Point) → followed s (command_for c) does_it rest p ≡ then_do (does_it p) rest
    rest_same old.Empty does_it rest p = refl
    rest_same (old.Eval e) does_it rest p = refl
    rest_same (old.Block all) does_it rest p = refl
    rest_same (old.Return e) does_it rest p = refl
    rest_same (old.Command.Unbuilt span) does_it rest p = refl

    evaluated : (e : old.Term) → HasMeaning e → (go : ℕ → Point → Outcome Exit) (go' : ℕ → straight.Point → straight.Outcome)
        → ((v : ℕ) (p : straight.Point) → go v (at p) ≡ outcome_for env (go' v p)) → (p : straight.Point)
        → and_then (value_of s (term_for e) (ticked (at p))) go ≡ outcome_for env (straight.with_value (straight.value_of fs e (straight.ticked p)) go')
    evaluated e h go go' same p = ap (λ q. and_then (value_of s (term_for e) q) go) (tick_same p)
        ∙ ap (λ o. and_then o go) (values e h (straight.ticked p))
        ∙ outcomes_bind (straight.value_of fs e (straight.ticked p)) go go' same

    mutual
      outcomes : (c : old.Command) → IsStraight c → (p : straight.Point) → outcome_of s (command_for c) (at p) ≡ outcome_for env (straight.outcome_of fs c p)
      outcomes old.Empty h p = ap (Gives Ends) (tick_same p)
      outcomes (old.Eval e) h p = evaluated e h (λ v q. Gives Ends q) (λ v q. straight.Done q) (λ v q. refl) p
      outcomes (old.Block all) h p = ap (λ q. in_order s (commands_for all) (Gives Ends) q) (tick_same p) ∙ orders all h (straight.ticked p)
      outcomes (old.Return e) h p = evaluated e h (λ v q. Gives (Returns v) q) straight.Returned (λ v q. refl) p
      outcomes (old.Command.Unbuilt span) h p = elim h [ ]

      orders : (cs : old.Commands) → AreStraight cs → (p : straight.Point) → in_order s (commands_for cs) (Gives Ends) (at p) ≡ outcome_for env (straight.in_order fs cs p)
      orders old.End h p = refl
      orders (old.Then c cs) h p = rest_same c (outcome_of s (command_for c)) (in_order s (commands_for cs) (Gives Ends)) (at p)
          ∙ ap (λ o. then_do o (in_order s (commands_for cs) (Gives Ends))) (outcomes c h.0 p)
          ∙ does (straight.outcome_of fs c p) (in_order s (commands_for cs) (Gives Ends)) (straight.in_order fs cs) (λ q. orders cs h.1 q)

ends_same : (env : Env) (o : straight.Outcome) → ended (outcome_for env o) ≡ outcome_for env (straight.ended o)
ends_same env (straight.Done p) = refl
ends_same env (straight.Returned v p) = refl
ends_same env (straight.Trapped t) = refl
ends_same env (straight.Cut t) = refl

pub same_runs : SameRuns
same_runs p h n rs = ap ended (outcomes nothing_set (setting (program_for p) n) p.body h (straight.point rs []))
    ∙ ends_same nothing_set (straight.outcome_of p.formats p.body (straight.point rs []))
