-- The samples of answers hold.
use Rattle.std.proofs.Common.{◌≡◌, inl, ℕ, zero, suc, ◌^◌, ◌<◌, List, [], ◌∷◌, refl, ap, ◌∙◌, cond, subst, arith}
use Rattle.std.specs.Prelude.{Some, slice_get}
use Rattle.xc_word.specs.declared.memory.Kind.TheVariants as kind
use Rattle.xc_meaning_world.specs.World.{Reach, On, Got, Dead, world_of}
use Rattle.xc_meaning_world.specs.Runs.{part_of}
use Rattle.xc_meaning_world.proofs.Puts.{eqb_other}
use Rattle.xc_meaning_terms.specs.Terms.{Program}
use Rattle.xc_meaning_terms.specs.Pointers.{access_at}
use Rattle.xc_meaning_threads.specs.Events.{Event, Task, Main, by_thread}
use Rattle.xc_meaning_threads.specs.Meaning.{nothing_set}
use Rattle.xc_meaning_threads.specs.Traces.{IsTrace, IsWhole, Asks}
use Rattle.xc_meaning_source.specs.Source.{tasks_in, SourceRun, HasEnded}
use Rattle.xc_meaning_source.specs.Work.{world_after}
use Rattle.xc_meaning_serial.specs.Serial.{SerialRun}
use Rattle.xc_meaning_samples.specs.Samples.{t}
use Rattle.xc_meaning_samples.specs.SerialSamples.{sum, sum_begun, sum_run, waiting, waiting_run, dividing, dividing_run, SumIsDone, SumIsLimited, WaitingIsBlocked, DividingTraps, ConcurrentIsExplicit, SerialSamples}

-- of a run in which no thread starts
alone_trace : (p : Program) (l : List (ℕ × Event)) → tasks_in l ≡ Main ∷ [] → IsTrace p Main (part_of 0 l)
    → (s : ℕ) (task : Task) → slice_get (tasks_in l) s ≡ Some task → IsTrace p task (part_of s l)
alone_trace p l one h zero task e =
    let first : slice_get (Main ∷ []) zero ≡ Some task = subst (λ ts. slice_get ts zero ≡ Some task) one e in
    let same : Main ≡ task = cc in subst (λ k. IsTrace p k (part_of 0 l)) same h
alone_trace p l one h (suc s) task e =
    let none : slice_get (Main ∷ []) (suc s) ≡ Some task = subst (λ ts. slice_get ts (suc s) ≡ Some task) one e in cc

alone_whole : (p : Program) (l : List (ℕ × Event)) → tasks_in l ≡ Main ∷ [] → IsWhole p Main (part_of 0 l) → HasEnded p l
alone_whole p l one h zero task e =
    let first : slice_get (Main ∷ []) zero ≡ Some task = subst (λ ts. slice_get ts zero ≡ Some task) one e in
    let same : Main ≡ task = cc in subst (λ k. IsWhole p k (part_of 0 l)) same h
alone_whole p l one h (suc s) task e =
    let none : slice_get (Main ∷ []) (suc s) ≡ Some task = subst (λ ts. slice_get ts (suc s) ≡ Some task) one e in cc

-- no other thread acts
others : (t : List Event) (s : ℕ) → part_of (suc s) (by_thread 0 t) ≡ []
others [] s = refl
others (e ∷ t) s = ap (λ b. cond b (e ∷ part_of (suc s) (by_thread 0 t)) (part_of (suc s) (by_thread 0 t))) (eqb_other 0 (suc s) (λ e. cc)) ∙ others t s

first : 0 < 1
first = omega arith

sum_goes : SourceRun sum sum_run (world_after (world_of sum.globals) sum_run)
sum_goes = record {
  applies = (9, tt, _, refl, (9, tt, _, refl, (9, tt, _, refl, (9, tt, _, refl, (9, tt, _, refl, (9, tt, _, refl, (9, tt, _, refl, refl)))))));
  in_turn = (first, (first, (first, (first, (first, (first, (first, tt)))))));
  traces = alone_trace sum sum_run refl (9, [], refl);
  joins = (tt, (tt, (tt, (tt, (tt, (tt, (tt, tt)))))));
}

sum_serial : SerialRun sum 4 sum_run (world_after (world_of sum.globals) sum_run)
sum_serial = record { run = sum_goes; alone = others (part_of 0 sum_run); chosen = (tt, (tt, (tt, (tt, (tt, (tt, (tt, tt))))))); limited = omega arith }

sum_is_done : SumIsDone
sum_is_done = (refl, sum_run, world_after (world_of sum.globals) sum_run, sum_serial, alone_whole sum sum_run refl (9, nothing_set, refl), refl)

begun_goes : SourceRun sum sum_begun (world_after (world_of sum.globals) sum_begun)
begun_goes = record {
  applies = (9, tt, _, refl, (9, tt, _, refl, (9, tt, _, refl, (9, tt, _, refl, (9, tt, _, refl, (9, tt, _, refl, refl))))));
  in_turn = (first, (first, (first, (first, (first, (first, tt))))));
  traces = alone_trace sum sum_begun refl (9, t ∷ [], refl);
  joins = (tt, (tt, (tt, (tt, (tt, (tt, tt))))));
}

sum_is_limited : SumIsLimited
sum_is_limited = (
  refl,
  sum_begun,
  world_after (world_of sum.globals) sum_begun,
  record { run = begun_goes; alone = others (part_of 0 sum_begun); chosen = (tt, (tt, (tt, (tt, (tt, (tt, tt)))))); limited = omega arith },
  refl,
  inl (9, [], refl),
)

waiting_goes : SourceRun waiting waiting_run (world_after (world_of waiting.globals) waiting_run)
waiting_goes = record {
  applies = (9, tt, _, refl, (9, tt, _, refl, (9, tt, _, refl, refl)));
  in_turn = (first, (first, (first, tt)));
  traces = alone_trace waiting waiting_run refl (9, [], refl);
  joins = (tt, (tt, (tt, tt)));
}

reads_next : Asks waiting Main (part_of 0 waiting_run) (On (Reach (access_at kind.ReadFe (2 ^ 32) 0)))
reads_next Dead = (9, [], refl)
reads_next (Got v) = (9, t ∷ [], refl)

waiting_is_blocked : WaitingIsBlocked
waiting_is_blocked = (
  refl,
  waiting_run,
  world_after (world_of waiting.globals) waiting_run,
  record { run = waiting_goes; alone = others (part_of 0 waiting_run); chosen = (tt, (tt, (tt, tt))); limited = omega arith },
  (Reach (access_at kind.ReadFe (2 ^ 32) 0), reads_next, λ num. refl),
)

dividing_goes : SourceRun dividing dividing_run (world_after (world_of dividing.globals) dividing_run)
dividing_goes = record {
  applies = (9, tt, _, refl, (9, tt, _, refl, (9, tt, _, refl, refl)));
  in_turn = (first, (first, (first, tt)));
  traces = alone_trace dividing dividing_run refl (9, [], refl);
  joins = (tt, (tt, (tt, tt)));
}

dividing_traps : DividingTraps
dividing_traps = (
  refl,
  dividing_run,
  world_after (world_of dividing.globals) dividing_run,
  record { run = dividing_goes; alone = others (part_of 0 dividing_run); chosen = (tt, (tt, (tt, tt))); limited = omega arith },
  ((0, t) ∷ (0, t) ∷ [], 0, _, refl),
)

concurrent_is_explicit : ConcurrentIsExplicit
concurrent_is_explicit = refl

pub serial_samples : SerialSamples
serial_samples = (sum_is_done, sum_is_limited, waiting_is_blocked, dividing_traps, concurrent_is_explicit)
