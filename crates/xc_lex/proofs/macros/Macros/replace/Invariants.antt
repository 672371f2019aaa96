use Rattle.std.proofs.Common.{◌≡◌, ◌≤◌, ◌^◌, ◌++◌, length, reverse}
use Rattle.xc_lex.specs.State.{IsKept, MadeFits, now_replaced}
use Rattle.xc_lex.specs.InnerState.{AreSpans, AreWithin, unwound, pending, frames_cost}
use Rattle.xc_lex.proofs.macros.Macros.replace.Given as goal

abbrev pub invariant-frames : goal.invariant-frames
invariant-frames l = record {
  entries : l.self.entries.items ≡ l.fn.self.entries.items;
  numbers : l.self.numbers ≡ l.fn.self.numbers;
  kept : IsKept l.source l.fn.self.entries.items l.self.opened.items l.self.made.items;
  fits : MadeFits l.source l.fn.self.entries.items l.self.opened.items l.self.made.items l.tokens.items;
  spans : AreSpans l.source l.word.at l.fn.self.entries.items l.self.opened.items l.tokens.items (reverse l.stack.items);
  within : AreWithin l.fn.self.entries.items (reverse l.stack.items);
  unwinds : unwound l.self.opened.items (reverse l.stack.items) ≡ l.fn.self.opened.items;
  told : l.tokens.items ++ pending l.source l.word.at l.fn.self.entries.items l.self.opened.items (reverse l.stack.items) ≡ l.fn.tokens.items ++ now_replaced l.source l.word.at l.fn.self.entries.items l.fn.self.opened.items l.word;
  few : length l.tokens.items ≤ 2 ^ 20;
}

abbrev pub decreases-frames : goal.decreases-frames
decreases-frames l = frames_cost l.source l.self.entries.items l.self.opened.items (reverse l.stack.items)
