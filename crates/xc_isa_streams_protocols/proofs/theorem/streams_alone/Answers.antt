use Rattle.xc_isa_streams_protocols.proofs.Alone.{alone, comes_on}
use Rattle.xc_isa_streams_protocols.proofs.theorem.streams_alone.Goals as goal

pub returns-clause-alone : goal.returns-clause-alone
returns-clause-alone g c = alone g.S.Streams.class_of g.S.Streams.code c.requires

pub returns-clause-comes_on : goal.returns-clause-comes_on
returns-clause-comes_on g c = comes_on g.S.Streams.class_of g.S.Streams.code c.requires
