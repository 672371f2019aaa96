use Rattle.xc_isa_streams.proofs.Sources.{sources_apply}
use Rattle.xc_isa_streams.proofs.theorem.sources_apply.Goals as goal

pub returns : goal.returns
returns c = sources_apply
