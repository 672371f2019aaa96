use Rattle.xc_type.proofs.Faults.{faults_of}
use Rattle.xc_type.proofs.checker.checked.Goals as goal

pub returns-clause-fault : goal.returns-clause-fault
returns-clause-fault c = faults_of c.args.source.now c.args.tokens.now c.args.text.now c.args.raw.now c.judged.result c.requires.text c.judged.ensures.fault
