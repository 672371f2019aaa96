use Rattle.std.proofs.Common.{◌≤◌, ◌-◌, ◌^◌, length}
use Rattle.xc_lex.specs.Source.{Reached}
use Rattle.xc_lex.specs.Numbering.{number_in}
use Rattle.xc_lex.specs.State.{AreNumbered, MadeFits, all_of}
use Rattle.xc_lex.specs.Steps.{IsIdle}
use Rattle.xc_lex.proofs.lexer.lex.Given as goal

abbrev pub invariant-lines : goal.invariant-lines
invariant-lines l = record {
  within : l.at ≤ length l.source;
  idle : IsIdle l.source l.macros.entries.items l.macros.opened.items l.macros.made.items;
  fits : MadeFits l.source l.macros.entries.items l.macros.opened.items l.macros.made.items l.tokens.items;
  numbered : AreNumbered l.source l.macros.entries.items (number_in l.macros.numbers);
  reached : Reached l.source l.at (all_of l.source l.macros.entries.items) l.tokens.items;
  few : length l.tokens.items ≤ 2 ^ 20;
}

abbrev pub decreases-lines : goal.decreases-lines
decreases-lines l = length l.source - l.at
