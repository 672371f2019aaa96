-- How a rule names the type of the whole by one of its operands.
use Rattle.std.specs.Prelude.{Some, None}
use Rattle.xc_tree.specs.declared.ty.Ty.{Int, Uint}
use Rattle.xc_type_rule.specs.declared.found.Known.{Known}
use Rattle.xc_type_rule.specs.declared.found.Known.TheVariants as known
use Rattle.xc_type_rule.specs.Making.{Ruling}
use Rattle.xc_type_rule_operators.specs.declared.verdict.Fixed.{Fixed}
use Rattle.xc_type_rule_operators.specs.declared.verdict.Fixed.TheVariants as whole
use Rattle.xc_type_rule_operators.specs.declared.verdict.Verdict.{Verdict}
use Rattle.xc_type_rule_operators.specs.declared.verdict.Verdict.TheVariants as verdict
use Rattle.xc_type_rule_operators.specs.Rulings.{untyped}

-- what it says of the whole whatever the operands are
abbrev pub said_of : Fixed → Ruling
said_of whole.Int = Some (known.Value Int)
said_of whole.Uint = Some (known.Value Uint)
said_of whole.Unknown = Some untyped
said_of whole.Broken = None

-- the ruling that a verdict on two operands stands for
abbrev pub told : Verdict → Known → Known → Ruling
told verdict.Left a b = Some a
told verdict.Right a b = Some b
told (verdict.Other f) a b = said_of f
