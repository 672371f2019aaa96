use Rattle.std.proofs.Common.{◌≡◌, ◌≤◌, ◌-◌, ◌^◌, length}
use Rattle.xc_lex.specs.State.{MadeFits}
use Rattle.xc_lex.specs.Steps.{IsIdle}
use Rattle.xc_lex.specs.InnerSteps.{SoFar}
use Rattle.xc_lex.proofs.lines.read_words.Given as goal

abbrev pub invariant-words : goal.invariant-words
invariant-words l = record {
  after : l.start ≤ l.at;
  within : l.at ≤ length l.source;
  entries : l.macros.entries.items ≡ l.fn.macros.entries.items;
  numbers : l.macros.numbers ≡ l.fn.macros.numbers;
  idle : IsIdle l.source l.fn.macros.entries.items l.macros.opened.items l.macros.made.items;
  fits : MadeFits l.source l.fn.macros.entries.items l.macros.opened.items l.macros.made.items l.tokens.items;
  so_far : SoFar l.source l.fn.macros.entries.items l.start l.fn.tokens.items l.at l.fresh l.tokens.items;
  few : length l.tokens.items ≤ 2 ^ 20;
}

abbrev pub decreases-words : goal.decreases-words
decreases-words l = length l.source - l.at
