-- What comes of runs, put together.
use Rattle.std.proofs.Common.{◌≡◌, ℕ, List, Bool, false, Option, Some, None, Result, Ok, Err, refl, sym, subst}
use Rattle.std.specs.Prelude.{IfOk, is_some}
use Rattle.xc_isa.specs.declared.code.Code.{Code}
use Rattle.xc_isa.specs.Machine.{State, start}
use Rattle.xc_machine.specs.declared.run.End.{End}
use Rattle.xc_machine.specs.Limits.{Limits}
use Rattle.xc_machine.specs.Runs.{RunsTo, named_in}
use Rattle.xc_top_words.specs.declared.command.Options.{Options}
use Rattle.xc_machine_play.specs.declared.outcome.Ending.{Ending}
use Rattle.xc_machine_play.specs.Plays.{ending_of, Played, limits_in}

pub ok_map : {A E : Type 0} {P Q : A → Type 0} (r : Result A E) → ((x : A) → P x → Q x) → IfOk r P → IfOk r Q
ok_map (Ok x) f h = f x h
ok_map (Err e) f h = h

pub not_some : {A : Type 0} (o : Option A) → false ≡ is_some o → o ≡ None
not_some None e = refl
not_some (Some x) e = absurd cc

module _ {C : Type 0} (picks : C → List ℕ → Option ℕ → C → Type 0) (has_left : C → Bool) (c : C) where
  -- a run whose streams are named so
  pub played : (code : Code) (limits : Limits) (st : State) (limit before : ℕ) (after : C) (last : State) (count : ℕ) (end : End) (left : Bool) (why : Ending) (steps : ℕ) (out named : List ℕ)
      (run : RunsTo picks code limits limit c st before after last count end) → named ≡ named_in picks code limits limit c st before after last count end run
      → before ≡ 0 → left ≡ has_left after → ending_of end left ≡ Some why → steps ≡ count → out ≡ last.world.out
      → Played picks has_left c code limits st limit why steps out named
  played code limits st limit before after last count end left why steps out named run names none is_left told counted printed =
      let P : ℕ → ℕ → Type 0 = λ b n. (r : RunsTo picks code limits limit c st b after last n end) × (named ≡ named_in picks code limits limit c st b after last n end r) in
      let moved : P 0 steps = subst (P 0) (sym counted) (subst (λ b. P b count) none (run, names)) in
      record {
        after = after;
        last = last;
        end = end;
        run = moved.0;
        told = subst (λ b. ending_of end b ≡ Some why) is_left told;
        printed = printed;
        names = moved.1;
      }

  -- on a machine that is as code begins
  pub played_from : (code k : Code) (limits : Limits) (st : State) (limit : ℕ) (o : Options) (why : Ending) (steps : ℕ) (out named : List ℕ)
      → k ≡ code → limits ≡ limits_in o → st ≡ start code o.processors o.streams → limit ≡ o.steps
      → Played picks has_left c k limits st limit why steps out named → Played picks has_left c code (limits_in o) (start code o.processors o.streams) o.steps why steps out named
  played_from code k limits st limit o why steps out named same_code same_limits same_state same_limit h =
      subst (λ x. Played picks has_left c x (limits_in o) (start code o.processors o.streams) o.steps why steps out named) same_code
      (subst (λ x. Played picks has_left c k x (start code o.processors o.streams) o.steps why steps out named) same_limits
      (subst (λ x. Played picks has_left c k limits x o.steps why steps out named) same_state
      (subst (λ x. Played picks has_left c k limits st x why steps out named) same_limit h)))
