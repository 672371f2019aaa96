-- The samples hold by computing.
use Rattle.std.proofs.Common.{◌≡◌, ℕ, zero, suc, ◌<◌, [], ◌∷◌, refl, subst, arith}
use Rattle.std.specs.Prelude.{Some, slice_get}
use Rattle.xc_meaning_world.specs.World.{world_of, put}
use Rattle.xc_meaning_world.specs.Runs.{part_of}
use Rattle.xc_meaning_threads.specs.Events.{Task, Main, Turn}
use Rattle.xc_meaning_threads.specs.Meaning.{nothing_set}
use Rattle.xc_meaning_threads.specs.Traces.{IsTrace, IsWhole}
use Rattle.xc_meaning_source.specs.Source.{tasks_in, SourceRun, HasEnded}
use Rattle.xc_meaning_source.specs.Work.{world_after}
use Rattle.xc_meaning_samples.specs.Samples.{concurrent_program, three_threads, concurrent_body, ThreeThreads, Samples, MoreSamples}

all_traces : (s : ℕ) (task : Task) → slice_get (tasks_in three_threads) s ≡ Some task → IsTrace concurrent_program task (part_of s three_threads)
all_traces zero task e = let same : Main ≡ task = cc in subst (λ k. IsTrace concurrent_program k (part_of 0 three_threads)) same (9, [], refl)
all_traces (suc zero) task e = let same : Turn 0 1 (1 ∷ []) concurrent_body ≡ task = cc in subst (λ k. IsTrace concurrent_program k (part_of 1 three_threads)) same (9, [], refl)
all_traces (suc (suc zero)) task e = let same : Turn 0 3 (1 ∷ []) concurrent_body ≡ task = cc in subst (λ k. IsTrace concurrent_program k (part_of 2 three_threads)) same (9, [], refl)
all_traces (suc (suc (suc n))) task e = cc

all_end : HasEnded concurrent_program three_threads
all_end zero task e = let same : Main ≡ task = cc in subst (λ k. IsWhole concurrent_program k (part_of 0 three_threads)) same (9, put (put (put nothing_set 0 0) 0 1) 0 5, refl)
all_end (suc zero) task e = let same : Turn 0 1 (1 ∷ []) concurrent_body ≡ task = cc in subst (λ k. IsWhole concurrent_program k (part_of 1 three_threads)) same (9, _, refl)
all_end (suc (suc zero)) task e = let same : Turn 0 3 (1 ∷ []) concurrent_body ≡ task = cc in subst (λ k. IsWhole concurrent_program k (part_of 2 three_threads)) same (9, _, refl)
all_end (suc (suc (suc n))) task e = cc

first : 0 < 1
first = omega arith

among : 0 < 3
among = omega arith

second : 1 < 3
second = omega arith

third : 2 < 3
third = omega arith

three_threads_run : SourceRun concurrent_program three_threads (world_after (world_of concurrent_program.globals) three_threads)
three_threads_run = record {
  applies = (9, tt, _, refl, (9, tt, _, refl, (9, tt, _, refl, (9, tt, _, refl, (9, tt, _, refl, (9, tt, _, refl, (9, tt, _, refl, (9, tt, _, refl, (9, tt, _, refl, (9, tt, _, refl, (9, tt, _, refl, (9, tt, _, refl, refl))))))))))));
  in_turn = (first, (first, (first, (first, (first, (first, (first, (third, (third, (second, (second, (among, (among, (among, tt))))))))))))));
  traces = all_traces;
  joins = (tt, (tt, (tt, (tt, (tt, (tt, (tt, (tt, (tt, (tt, (tt, (((Turn 0 1 (1 ∷ []) concurrent_body, refl, (9, _, refl)), ((Turn 0 3 (1 ∷ []) concurrent_body, refl, (9, _, refl)), tt)), (tt, (tt, tt))))))))))))));
}

pub three_threads_end : ThreeThreads
three_threads_end = (three_threads_run, all_end)

pub samples : Samples
samples = (
  refl,
  refl,
  refl,
  refl,
  refl,
  refl,
  refl,
  refl,
  refl,
  refl,
  refl,
  refl,
  refl,
  refl,
  refl,
  refl,
  refl,
  refl,
  refl,
  refl,
  refl,
  refl,
  refl,
  refl,
  three_threads_end,
  (refl, refl, refl, refl),
  (refl, refl),
  (refl, refl),
  refl,
)

pub more_samples : MoreSamples
more_samples = (refl, refl, refl, refl, refl, refl, refl, refl, refl, refl, refl)
