-- The theorem, put together.
use Rattle.std.proofs.Common.{ℕ}
use Rattle.xc_isa.specs.declared.code.Code.{Code}
use Rattle.xc_isa_streams.specs.Class.{Class}
use Rattle.xc_isa_streams.specs.Promises.{NeverBad, AlwaysOwn, AlwaysFair, RunsStand}
use Rattle.xc_isa_streams.proofs.Projected.{first_stage, steps_to, onward_from, projected}
use Rattle.xc_isa_streams.proofs.WordsOf.{words_by_owners}
use Rattle.xc_isa_streams.proofs.Finishes.{ended_runs}
use Rattle.xc_isa_streams.proofs.WaitsShown.{waits_shown, stuck_waits}

pub stand : (of : ℕ → Class) (code : Code) → AlwaysOwn of code → AlwaysFair of code → RunsStand of code
stand of code always fair = record {
  runs = projected of code always fair;
  ended = ended_runs of code always fair;
  first = first_stage of code;
  steps = steps_to of code always fair;
  onward = onward_from of code always fair;
  words = words_by_owners of code;
  waits = waits_shown of code always fair;
  stuck = stuck_waits of code always fair;
}

-- it is enough that no stream alone is bad
pub never_bad_owns : (of : ℕ → Class) (code : Code) → NeverBad of code → AlwaysOwn of code
never_bad_owns of code never l steps p n a at arg m j t serves shown alive here s bad = never at arg j s.num _ t (shown.each a at arg here).0 s.fresh bad
