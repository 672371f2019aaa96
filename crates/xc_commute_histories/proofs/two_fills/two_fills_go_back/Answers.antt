use Rattle.std.proofs.Common.{refl}
use Rattle.xc_commute_histories.proofs.Fills.{quiet, answers, each_loop, later_first}
use Rattle.xc_commute_histories.proofs.two_fills.two_fills_go_back.Goals as goal

pub team_runs_go_back-requires : goal.team_runs_go_back-requires
team_runs_go_back-requires c = record { quiet = quiet; answers = answers; each_loop = each_loop }

pub returns-clause-ends : goal.returns-clause-ends
returns-clause-ends c = (_, _, refl, later_first)
