use Rattle.xc_isa_streams_protocols.proofs.Holding.{holds}
use Rattle.xc_isa_streams_protocols.proofs.theorem.invariant_holds.Goals as goal

pub returns : goal.returns
returns g c = holds g.I.Streams.class_of g.I.Streams.code c.requires.stand g.I.Invariant.inv c.requires.kept
