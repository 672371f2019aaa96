use Rattle.std.proofs.Common.{◌≡◌, ◌++◌, drop}
use Rattle.xc_type_rule.specs.Least.{least_from}
use Rattle.xc_type_statement_parts.specs.Futures.{copies}
use Rattle.xc_type_statement_parts.proofs.futures.copies.Given as goal

abbrev pub invariant-tokens : goal.invariant-tokens
invariant-tokens l =
    let rest = copies l.text (drop l.token-index l.tokens) l.env in
    let whole = copies l.text l.tokens l.env in
    (l.all ++ rest.part ≡ whole.part) × (rest.env ≡ whole.env) × (least_from l.first rest.faults ≡ least_from l.initial.first whole.faults)
