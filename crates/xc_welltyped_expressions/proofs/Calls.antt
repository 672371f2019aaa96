-- Calls of what is fine are fine.
use Rattle.std.proofs.Common.{◌≡◌, ℕ, ◌+◌, ◌<◌, ◌≤◌, List, [], ◌∷◌, map, length, Bool, true, refl, sym, ap, ◌∙◌, subst, arith}
use Rattle.std.specs.Prelude.{IsTrue, ◌||◌, ◌==◌, is_some, Option, Some, None, option_and_then}
use Rattle.std.proofs.lemmas.Bool.{eqb-true}
use Rattle.xc_text_place.specs.declared.Span.{Span}
use Rattle.xc_word.specs.declared.memory.Kind.{Kind}
use Rattle.xc_word.specs.declared.memory.Kind.TheVariants as kind
use Rattle.xc_tree.specs.declared.ty.Ty.{Ty}
use Rattle.xc_tree.specs.Lists.{every, passes}
use Rattle.xc_tree.specs.Types.{is_object, is_void}
use Rattle.xc_tree.proofs.Lists.{and_left, and_right, and_both}
use Rattle.xc_raw.specs.declared.rule.Rule.{Rule}
use Rattle.xc_raw.specs.declared.rule.Rule.TheVariants as rule
use Rattle.xc_raw.specs.declared.tree.Raw.{Raw, out-Raw}
use Rattle.xc_type_rule.specs.declared.found.Found.{Found}
use Rattle.xc_type_rule.specs.declared.found.Thing.{Thing}
use Rattle.xc_type_rule.specs.declared.found.Thing.TheVariants as thing
use Rattle.xc_type_names.specs.declared.numbers.Reserved.{Reserved}
use Rattle.xc_type_names.specs.declared.numbers.Reserved.TheVariants.{Printf, ReadFe, ReadFf, ReadXx, WriteEf, WriteFf, WriteXf, Purge, FetchAdd}
use Rattle.xc_type_literals.specs.declared.texts.Literal.{Literal}
use Rattle.xc_type_rule_calls.specs.Calls.{call_part, call_faults}
use Rattle.xc_type_rule_calls.specs.Accesses.{access_part, access_faults, update_part, update_faults}
use Rattle.xc_welltyped_rules.specs.Callees.{IsCalled, params_ok, ret_ok, is_typed_call}
use Rattle.xc_welltyped_rules.proofs.Calls.{call_sound}
use Rattle.xc_welltyped_rules.proofs.Accesses.{access_sound, update_sound}
use Rattle.xc_welltyped_rules.proofs.CallsWhole.{call_whole, access_whole, update_whole}
use Rattle.xc_welltyped_locals.proofs.SeenCalls.{call_seen, access_seen, update_seen}
use Rattle.xc_type_scopes.specs.declared.env.Env.{Env}
use Rattle.xc_type_scopes.specs.Env.{found}
use Rattle.xc_type_expressions.specs.declared.text.Text.{Text}
use Rattle.xc_type_expressions.specs.Roles.{Role}
use Rattle.xc_type_expressions.specs.Places.{name_of, alone_by}
use Rattle.xc_type_expressions.specs.Calls.{accessing, updating, calling_reserved, calling}
use Rattle.xc_type_expressions.specs.Judged.{judged}
use Rattle.xc_welltyped.specs.Sound.{Point}
use Rattle.xc_welltyped_locals.proofs.UsedCalls.{call_used, access_used, accessed_used}
use Rattle.xc_welltyped_claims.specs.Types.{is_object_by}
use Rattle.xc_welltyped_claims.specs.Things.{OwnThing, FileThing, HasThing}
use Rattle.xc_welltyped_claims.specs.Env.{Good, At}
use Rattle.xc_welltyped_claims.specs.Judges.{Clean, Given}
use Rattle.xc_welltyped_claims.specs.Found.{Fine, AreFine}
use Rattle.xc_welltyped_claims.specs.Shaped.{rule_in, literal_in, level_ok, Shaped, IsLexed, Spoken}
use Rattle.xc_welltyped_claims.proofs.Nodes.{judged_is, level_shaped}
use Rattle.xc_welltyped_claims.proofs.Judges.{given_self}
use Rattle.xc_welltyped_structs.proofs.Programs.{object_told}
use Rattle.xc_welltyped_expressions.proofs.Names.{standing}
use Rattle.xc_welltyped_expressions.proofs.Parts.{all_whole, all_sound, all_seen, all_used}

-- functions ---------------------------------------------------------------------------

typed_ret : (p : Ty → Bool) (ret : Option Ty) → IsTrue (passes p ret) → IsTrue (passes (λ ty. true) ret)
typed_ret p None h = absurd cc
typed_ret p (Some ty) h = refl

own_called : (locals : List (Span × Ty)) (x : Thing) → OwnThing locals x → IsTrue (is_typed_call (Some x))
own_called locals (thing.Local n ty) h = refl
own_called locals (thing.Global n ty) h = absurd h
own_called locals (thing.Func number params ret) h = absurd h

file_called : (ns : List ℕ) (x : Thing) → FileThing ns x → IsTrue (is_typed_call (Some x))
file_called ns (thing.Local n ty) h = refl
file_called ns (thing.Global n ty) h = refl
file_called ns (thing.Func number params ret) h = typed_ret (λ t. is_void t || is_object_by ns t) ret (and_right (every (map (passes (is_object_by ns)) params)) _ h)

-- in a program
module _ (t : Text) (so : Point) (e : Env) (g : Good e) (a : At t so e) where
  params_there : (ps : List (Option Ty)) → IsTrue (every (map (passes (is_object_by e.structs.sizes)) ps)) → IsTrue (params_ok so ps)
  params_there [] h = refl
  params_there (None ∷ ps) h = absurd cc
  params_there (Some ty ∷ ps) h = and_both (is_object so.shapes ty) _ (sym (object_told t so e g a ty) ∙ and_left (is_object_by e.structs.sizes ty) _ h)
      (params_there ps (and_right (is_object_by e.structs.sizes ty) _ h))

  ret_there : (ret : Option Ty) → IsTrue (passes (λ t. is_void t || is_object_by e.structs.sizes t) ret) → IsTrue (ret_ok so ret)
  ret_there None h = refl
  ret_there (Some ty) h = subst (λ b. IsTrue (is_void ty || b)) (object_told t so e g a ty) h

  own_callee : (x : Thing) → OwnThing e.locals x → IsCalled so (Some x)
  own_callee (thing.Local n ty) h = tt
  own_callee (thing.Global n ty) h = tt
  own_callee (thing.Func number params ret) h = absurd h

  file_callee : (x : Thing) → FileThing e.structs.sizes x → HasThing so.cx x → IsCalled so (Some x)
  file_callee (thing.Local n ty) h k = tt
  file_callee (thing.Global n ty) h k = tt
  file_callee (thing.Func number params ret) h k = record {
    takes = params_there params (and_left (every (map (passes (is_object_by e.structs.sizes)) params)) _ h);
    gives = ret_there ret (and_right (every (map (passes (is_object_by e.structs.sizes)) params)) _ h);
    defined = k;
  }

module _ (t : Text) (e : Env) (g : Good e) where
  typed_call_there : (name : ℕ) (o : Option Thing) → found name e ≡ o → IsTrue (is_typed_call o)
  typed_call_there name None is = refl
  typed_call_there name (Some x) is = standing e name x is g (own_called e.locals x) (λ h file. file_called e.structs.sizes x h)

  called_there : (name : ℕ) (so : Point) → At t so e → (o : Option Thing) → found name e ≡ o → IsCalled so o
  called_there name so a None is = tt
  called_there name so a (Some x) is = standing e name x is g (own_callee t so e g a x) (λ h file. file_callee t so e g a x h (a.into.things name x file))

  module _ (span : Span) where
    call_fine : (at : Span) (name : ℕ) (args : List Found) → AreFine t e args → call_faults span at (found name e) args ≡ [] → Fine t e (call_part span (found name e) args)
    call_fine at name args h none = record {
      whole = call_whole span at (found name e) args (typed_call_there name (found name e) refl) (all_whole t e args h) none;
      sound = λ so a. call_sound so span (found name e) args (called_there name so a (found name e) refl) (all_sound t e so a args h);
      seen = λ seen c. call_seen seen span (found name e) args (all_seen t e seen c args h);
      used = λ flags m. call_used flags (length e.locals) span (found name e) args (all_used t e flags m args h);
    }

    -- generic functions -----------------------------------------------------------------

    access_fine : (k : Kind) (p : Found) → Fine t e p → access_faults span k p ≡ [] → Fine t e (access_part span k p)
    access_fine k p h none = record {
      whole = access_whole span k p h.whole none;
      sound = λ so a. access_sound so span k p (h.sound so a);
      seen = λ seen c. access_seen seen span k p (h.seen seen c);
      used = λ flags m. access_used flags (length e.locals) span k p (h.used flags m);
    }

    update_fine : (k : Kind) (p v : Found) → Fine t e p → Fine t e v → update_faults span k p v ≡ [] → Fine t e (update_part span k p v)
    update_fine k p v h i none = record {
      whole = update_whole span k p v h.whole i.whole none;
      sound = λ so a. update_sound so span k p v (h.sound so a) (i.sound so a);
      seen = λ seen c. update_seen seen span k p v (h.seen seen c) (i.seen seen c);
      used = λ flags m. accessed_used flags (length e.locals) span k p v (h.used flags m) (i.used flags m);
    }

    accessing_fine : (k : Kind) (vs : List Found) → AreFine t e vs → (accessing span k vs).faults ≡ [] → Fine t e (accessing span k vs).part
    accessing_fine k [] h none = absurd cc
    accessing_fine k (p ∷ []) h none = access_fine k p h.0 none
    accessing_fine k (p ∷ q ∷ vs) h none = absurd cc

    updating_fine : (k : Kind) (vs : List Found) → AreFine t e vs → (updating span k vs).faults ≡ [] → Fine t e (updating span k vs).part
    updating_fine k [] h none = absurd cc
    updating_fine k (p ∷ []) h none = absurd cc
    updating_fine k (p ∷ v ∷ []) h none = update_fine k p v h.0 h.1.0 none
    updating_fine k (p ∷ v ∷ w ∷ vs) h none = absurd cc

    reserved_fine : (r : Reserved) (vs : List Found) → AreFine t e vs → (calling_reserved span r vs).faults ≡ [] → Fine t e (calling_reserved span r vs).part
    unfolding calling_reserved
    reserved_fine Printf vs h none = absurd cc
    reserved_fine ReadFe vs h none = accessing_fine kind.ReadFe vs h none
    reserved_fine ReadFf vs h none = accessing_fine kind.ReadFf vs h none
    reserved_fine ReadXx vs h none = accessing_fine kind.ReadXx vs h none
    reserved_fine Purge vs h none = accessing_fine kind.Purge vs h none
    reserved_fine WriteEf vs h none = updating_fine kind.WriteEf vs h none
    reserved_fine WriteFf vs h none = updating_fine kind.WriteFf vs h none
    reserved_fine WriteXf vs h none = updating_fine kind.WriteXf vs h none
    reserved_fine FetchAdd vs h none = updating_fine kind.Add vs h none

    pub calling_fine : (at : Span) (name : ℕ) (r : Option Reserved) (vs : List Found) → AreFine t e vs → Clean (calling span at name r vs) e →
        Given e (calling span at name r vs e).env (Fine t (calling span at name r vs e).env (calling span at name r vs e).part)
    unfolding calling
    calling_fine at name None vs h c = given_self e (Fine t e (call_part span (found name e) vs)) g (call_fine at name vs h c.faultless)
    calling_fine at name (Some r) vs h c = given_self e (Fine t e (calling_reserved span r vs).part) g (reserved_fine r vs h c.faultless)

-- an expression of one token ------------------------------------------------------------

-- a token alone
pub record IsAlone (node : Raw) (token : ℕ) : Type 0 where
  pub first : (out-Raw node).first ≡ token
  pub end : (out-Raw node).end ≡ (out-Raw node).first + 1

module _ (t : Text) (lexed : IsLexed t) (node : Raw) where
  alone_at : (r : Rule) (ps : List Raw) (token : ℕ) → alone_by r ps (out-Raw node).first ≡ Some token → IsTrue (level_ok t node r ps) → IsAlone node token
  unfolding level_ok
  alone_at rule.Prim [] token is h = record { first = let same : (out-Raw node).first ≡ token = cc in same; end = eqb-true (out-Raw node).end ((out-Raw node).first + 1) (and_left ((out-Raw node).end == (out-Raw node).first + 1) _ h) }
  alone_at rule.Prim (p ∷ ps) token is h = absurd cc
  alone_at _ ps token is h = absurd cc

  pub alone_is : Shaped t node → (token : ℕ) → (judged t node).alone ≡ Some token → IsAlone node token
  alone_is s token is = alone_at (rule_in node) (out-Raw node).parts token (sym (ap (λ (r : Role). r.alone) (judged_is t node)) ∙ is) (level_shaped t node s)

  -- each token of it is that one
  pub only : (token x : ℕ) → IsAlone node token → (out-Raw node).first ≤ x → x < (out-Raw node).end → x ≡ token
  only token x a low lt = let first = a.first in let end = a.end in omega (arith, first, end, low, lt)

  pub no_text : (token name : ℕ) (l : Literal) → name_of t token ≡ Some name → literal_in t token ≡ Some l → ⊥
  no_text token name l n i = let a = lexed.names token name n in let b = (lexed.literals token l i).word in cc

  -- a name is no string literal
  pub name_spoken : Shaped t node → (token name : ℕ) → (judged t node).alone ≡ Some token → name_of t token ≡ Some name → Spoken t node
  name_spoken s token name is n x l low lt i =
      absurd (no_text token name l n (subst (λ k. literal_in t k ≡ Some l) (only token x (alone_is s token is) low lt) i))

  pub named_spoken : Shaped t node → (o : Option ℕ) → (judged t node).alone ≡ o → (name : ℕ) → option_and_then (name_of t) o ≡ Some name → Spoken t node
  named_spoken s None is name n = absurd cc
  named_spoken s (Some token) is name n = name_spoken s token name is n

  -- a format is one
  pub format_spoken : Shaped t node → (token : ℕ) (l : Literal) → (judged t node).alone ≡ Some token → literal_in t token ≡ Some l → IsTrue (is_some l.takes) → Spoken t node
  format_spoken s token l is i takes x k low lt j =
      let same : Some l ≡ Some k = sym i ∙ subst (λ y. literal_in t y ≡ Some k) (only token x (alone_is s token is) low lt) j in
      subst (λ (z : Literal). IsTrue (is_some z.takes)) (let one : l ≡ k = cc in one) takes
