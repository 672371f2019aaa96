use Rattle.std.proofs.Common.{◌∙◌, sym, ap, subst}
use Rattle.std.specs.Map.{values_of}
use Rattle.xc_type_structs.specs.Members.{AreNamed}
use Rattle.xc_type_structs.proofs.Named.{named_last, added_last}
use Rattle.xc_type_structs.proofs.members.Members.add.Goals as goal

pub invariant_of-self : goal.invariant_of-self
invariant_of-self c =
    let new = sym c.is_new.ensures ∙ c.if-is_new.true in
    subst AreNamed (sym c.in_ok-put.ensures.put) (named_last c.self.inside.by_name c.args.member c.args.self.now c.self.view_is c.self.invariant new)

pub returns-in_ok-put : goal.returns-in_ok-put
returns-in_ok-put c =
    let new = sym c.is_new.ensures ∙ c.if-is_new.true in
    ap values_of c.in_ok-put.ensures.put ∙ added_last c.self.inside.by_name c.args.member c.args.self.now c.self.view_is c.self.invariant new
