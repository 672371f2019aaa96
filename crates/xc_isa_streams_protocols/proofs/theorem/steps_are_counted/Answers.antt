use Rattle.xc_isa_streams_protocols.proofs.Tallies.{steps_counted}
use Rattle.xc_isa_streams_protocols.proofs.theorem.steps_are_counted.Goals as goal

pub returns : goal.returns
returns g c = steps_counted g.S.Streams.class_of g.S.Streams.code
