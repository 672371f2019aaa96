use Rattle.std.proofs.Common.{◌≡◌, drop}
use Rattle.xc_type_rule.specs.Least.{least_from}
use Rattle.xc_type_statement_parts.specs.Making.{followed}
use Rattle.xc_type_statement_parts.specs.Futures.{copied}
use Rattle.xc_type_statement_parts.proofs.futures.declared_copies.Given as goal

abbrev pub invariant-copies : goal.invariant-copies
invariant-copies l =
    let rest = copied (drop l.copy-index l.copies) l.env in
    let whole = copied l.copies l.initial.env in
    (followed l.all rest.part ≡ whole.part) × (rest.env ≡ whole.env) × (least_from l.first rest.faults ≡ least_from l.initial.first whole.faults)
