use Rattle.xc_commute_histories.proofs.GoesBackProof.{goes_back}
use Rattle.xc_commute.specs.Threads.{IsTrap}
use Rattle.xc_commute.proofs.Deeds.{quiet_by_touches}
use Rattle.xc_commute.proofs.threads.memory_teams_go_back.Goals as goal

pub returns : goal.returns
returns g c =
    goes_back g.P.MemoryThreads.program g.P.MemoryThreads.cells IsTrap (quiet_by_touches g.P.MemoryThreads.program g.P.MemoryThreads.cells c.requires.memory c.requires.quiet) c.requires.answers c.requires.each_loop
