use Rattle.xc_isa_streams.proofs.Stand.{never_bad_owns}
use Rattle.xc_isa_streams.proofs.theorem.never_bad_is_own.Goals as goal

pub returns : goal.returns
returns g c = never_bad_owns g.S.Streams.class_of g.S.Streams.code c.requires
