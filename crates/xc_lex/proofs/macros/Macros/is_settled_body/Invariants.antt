use Rattle.std.proofs.Common.{drop}
use Rattle.xc_lex.specs.State.{tokens_of}
use Rattle.xc_lex.specs.InnerState.{AllSettled}
use Rattle.xc_lex.proofs.macros.Macros.is_settled_body.Given as goal

abbrev pub invariant-loop-word : goal.invariant-loop-word
invariant-loop-word l = AllSettled l.source l.self.entries.items l.self.made.items (drop l.word-index (tokens_of l.self.entries.items l.number)) → AllSettled l.source l.self.entries.items l.self.made.items (tokens_of l.self.entries.items l.number)
