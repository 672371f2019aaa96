use Rattle.xc_commute_histories.proofs.GoesBackProof.{goes_back}
use Rattle.xc_commute_histories.proofs.theorem.team_runs_go_back.Goals as goal

pub returns : goal.returns
returns g c = goes_back g.P.Threads.program g.P.Threads.cells g.P.Threads.traps c.requires.quiet c.requires.answers c.requires.each_loop
