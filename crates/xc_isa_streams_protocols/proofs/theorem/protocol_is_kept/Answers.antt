use Rattle.xc_isa_streams_protocols.proofs.Kept.{keeps}
use Rattle.xc_isa_streams_protocols.proofs.theorem.protocol_is_kept.Goals as goal

pub returns : goal.returns
returns g c = keeps g.P.Protocol.may g.P.Protocol.goes g.P.Protocol.cost g.P.Streams.class_of g.P.Streams.code g.P.Protocol.weight g.P.Protocol.last g.P.Protocol.stood c.requires
