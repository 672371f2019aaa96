use Rattle.std.proofs.Common.{◌≡◌, ◌≤◌, drop}
use Rattle.xc_text_format.specs.declared.Reading.TheVariants.{Text}
use Rattle.xc_text_format.proofs.PieceLaws.{counted}
use Rattle.xc_text_format.proofs.conversions.Given as goal

abbrev pub invariant-loop-byte : goal.invariant-loop-byte
invariant-loop-byte l = (l.count ≤ l.byte-index) × (counted 0 Text l.format ≡ counted l.count l.reading (drop l.byte-index l.format))
