-- What the texts decide, put together.
use Rattle.std.proofs.Common.{◌≡◌, ◌≤◌, ℕ, List, [], Option, Some, None, Result, Ok, Err, refl, sym, ap, ◌∙◌, subst}
use Rattle.std.specs.Prelude.{MatchResult}
use Rattle.xc_text_lines.specs.Grammar.{IsFirstBad}
use Rattle.xc_sched.specs.Runs.{IsRead, IsSchedule}
use Rattle.xc_isa.specs.declared.code.Code.{Code}
use Rattle.xc_top_words.specs.declared.command.Choice.{Choice}
use Rattle.xc_top_words.specs.declared.command.Choice.TheVariants as choice
use Rattle.xc_top_words.specs.declared.command.Options.{Options}
use Rattle.xc_top_words.specs.declared.command.Command.{Command}
use Rattle.xc_top_words.specs.Commands.{options_in}
use Rattle.xc_machine_play.specs.declared.source.Source.{Source}
use Rattle.xc_machine_play.specs.declared.source.Source.TheVariants as source
use Rattle.xc_machine_play.specs.declared.outcome.Ending.{Ending}
use Rattle.xc_machine_play.specs.Plays.{Plays, IsRecord}
use Rattle.xc_gen_promises.specs.Promises.{IsMachine}
use Rattle.xc_top.specs.declared.status.Bad.{Bad}
use Rattle.xc_top.specs.declared.status.Bad.TheVariants.{Line}
use Rattle.xc_top.specs.declared.status.Status.{Status}
use Rattle.xc_top.specs.declared.status.Status.TheVariants.{BadSchedule}
use Rattle.xc_top.specs.Lines.{line_of}
use Rattle.xc_top.specs.Judges.{StandsFor, Chooses, IsBadSchedule, status_of, with_choices, Executes, NoSchedule, WasRun, Judges, Executed}
use Rattle.xc_top.proofs.Sources.{sourced}

-- what a schedule's text is
spelled : (file text : List ℕ) (r : Result Source Bad) → MatchResult r (λ s. (steps : List ℕ) × IsRead text steps × (s ≡ source.Schedule steps)) (λ bad. (k : ℕ) × (bad ≡ Line file k) × IsFirstBad IsSchedule text k)
    → MatchResult r (λ s. Chooses (choice.Schedule file) (Some text) s) (λ bad. (name : List ℕ) × (k : ℕ) × (bad ≡ Line name k) × IsBadSchedule (choice.Schedule file) (Some text) name k)
spelled file text (Ok s) h = h
spelled file text (Err bad) h = (file, h.0, h.1, (refl, h.2))

pub chosen : (c : Choice) (schedule : Option (List ℕ)) (file text : List ℕ) (r : Result Source Bad) → c ≡ choice.Schedule file → schedule ≡ Some text
    → MatchResult r (λ s. (steps : List ℕ) × IsRead text steps × (s ≡ source.Schedule steps)) (λ bad. (k : ℕ) × (bad ≡ Line file k) × IsFirstBad IsSchedule text k)
    → MatchResult r (λ s. Chooses c schedule s) (λ bad. (name : List ℕ) × (k : ℕ) × (bad ≡ Line name k) × IsBadSchedule c schedule name k)
chosen c schedule file text r e f h =
    subst (λ x. MatchResult r (λ s. Chooses x schedule s) (λ bad. (name : List ℕ) × (k : ℕ) × (bad ≡ Line name k) × IsBadSchedule x schedule name k)) (sym e)
    (subst (λ x. MatchResult r (λ s. Chooses (choice.Schedule file) x s) (λ bad. (name : List ℕ) × (k : ℕ) × (bad ≡ Line name k) × IsBadSchedule (choice.Schedule file) x name k)) (sym f) (spelled file text r h))

pub was_run : (o : Options) (code : Code) (schedule : Option (List ℕ)) (from : Source) (why : Ending) (steps : ℕ) (printed : List ℕ) (choices : Option (List ℕ)) (named : List ℕ) (streams processors : ℕ) (status : Status) (out err : List ℕ)
    → Chooses o.choice schedule from → Plays from code o why steps printed named → IsRecord o.recorded named choices
    → streams ≡ o.streams → processors ≡ o.processors → IsMachine processors streams
    → status ≡ status_of why (record { steps = steps; streams = streams; processors = processors }) → out ≡ printed → err ≡ with_choices (line_of (status_of why (record { steps = steps; streams = streams; processors = processors }))) choices
    → Executes o code schedule status out err
was_run o code schedule from why steps printed choices named streams processors status out err chooses plays recorded same_streams same_processors machine is_status is_out says =
    WasRun (record {
      source = from;
      chooses = chooses;
      machine = subst (λ q. IsMachine q o.streams) same_processors (subst (λ n. IsMachine processors n) same_streams machine);
      why = why;
      steps = steps;
      named = named;
      plays = subst (λ t. Plays from code o why steps t named) (sym is_out) plays;
      is_status = is_status ∙ ap (λ n. status_of why (record { steps = steps; streams = n; processors = processors })) same_streams
          ∙ ap (λ q. status_of why (record { steps = steps; streams = o.streams; processors = q })) same_processors;
      choices = choices;
      is_record = recorded;
      says = says ∙ ap (λ s. with_choices (line_of s) choices) (sym is_status);
    })

pub no_schedule : (o : Options) (code : Code) (schedule : Option (List ℕ)) (bad : Bad) (status : Status) (out err : List ℕ)
    → (name : List ℕ) × (k : ℕ) × (bad ≡ Line name k) × IsBadSchedule o.choice schedule name k
    → status ≡ BadSchedule bad → out ≡ [] → err ≡ line_of (BadSchedule bad) → Executes o code schedule status out err
no_schedule o code schedule bad status out err h is_status silent says =
    NoSchedule (record {
      name = h.0;
      line = h.1;
      why = h.3;
      is_status = is_status ∙ ap BadSchedule h.2;
      silent = silent;
      says = says ∙ ap line_of (sym is_status);
    })

pub was_executed : (c : Command) (text : List ℕ) (schedule : Option (List ℕ)) (o : Options) (code : Code) (status : Status) (out err : List ℕ)
    → options_in c ≡ Some o → StandsFor c text code → Executes o code schedule status out err → Judges c text schedule status out err
was_executed c text schedule o code status out err options stands h = Executed o options code stands h (sourced c text o code schedule status out err stands h)
