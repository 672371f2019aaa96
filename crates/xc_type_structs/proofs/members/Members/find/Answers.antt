use Rattle.std.proofs.Common.{◌∙◌, ap}
use Rattle.xc_type_rule.specs.Members.{member_named}
use Rattle.xc_type_structs.proofs.Named.{find_named}
use Rattle.xc_type_structs.proofs.members.Members.find.Goals as goal

pub returns : goal.returns
returns c = c.get.ensures.value ∙ find_named c.self.inside.by_name.entries c.args.name c.self.invariant ∙ ap (member_named c.args.name) c.self.view_is
