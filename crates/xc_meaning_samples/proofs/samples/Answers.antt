use Rattle.xc_meaning_samples.proofs.Answered.{serial_samples}
use Rattle.xc_meaning_samples.proofs.Computed.{samples, more_samples}
use Rattle.xc_meaning_samples.proofs.QuietProof.{two_threads_are_quiet}
use Rattle.xc_meaning_samples.proofs.samples.Goals as goal

pub returns-clause-runs : goal.returns-clause-runs
returns-clause-runs c = samples

pub returns-clause-more : goal.returns-clause-more
returns-clause-more c = more_samples

pub returns-clause-quiet : goal.returns-clause-quiet
returns-clause-quiet c = two_threads_are_quiet

pub returns-clause-answers : goal.returns-clause-answers
returns-clause-answers c = serial_samples
