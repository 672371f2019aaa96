use Rattle.xc_isa_streams.proofs.Stand.{stand}
use Rattle.xc_isa_streams.proofs.theorem.runs_stand.Goals as goal

pub returns : goal.returns
returns g c = stand g.S.Streams.class_of g.S.Streams.code c.requires.own c.requires.fair
