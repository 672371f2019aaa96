-- Code that stands for the source runs of a straight program stands for those of its tree.
use Rattle.std.proofs.Common.{◌≡◌, ℕ, List, None, sym, subst}
use Rattle.xc_isa.specs.declared.code.Code.{Code}
use Rattle.xc_tree.specs.declared.tree.Tree.{Tree}
use Rattle.xc_meaning.specs.Terms as straight
use Rattle.xc_meaning_straight.specs.Straight.{program_for, IsStraight}
use Rattle.xc_meaning_straight_runs.specs.StraightRuns.{run_for}
use Rattle.xc_meaning_straight_runs.proofs.Runs.{same_source_runs, same_ends, same_traps}
use Rattle.xc_gen.specs.Faithful.{Faithful}
use Rattle.xc_gen_promises.specs.Promises.{StandsFor}
use Rattle.xc_gen_straight.proofs.Programs.{straight_trees}
use Rattle.xc_gen_whole.specs.Whole.{CodeStands}

stands_for : (p : straight.Program) → IsStraight p.body → (c : Code) → Faithful p c → StandsFor (program_for p) c
stands_for p h c f = record {
  ends = λ processors streams slots st comes quit.
      (let s = f.ends processors streams comes.0 slots st comes.1 quit in (run_for s.0, s.1, (same_source_runs p h s.0 s.1).0 s.2, (same_ends p h s.0).0 s.3, s.4));
  traps = λ processors streams slots kind comes.
      (let s = f.traps processors streams comes.0 slots kind comes.1 in (run_for s.0, s.1, (same_source_runs p h s.0 s.1).0 s.2, (same_traps s.0).0 s.3));
}

pub code_stands : CodeStands
code_stands t built c f =
    let law = straight_trees t built in
    subst (λ p. StandsFor p c) (sym law.0) (stands_for (straight.program_of t) law.1 c f)
