use Rattle.std.proofs.Common.{◌∙◌, ap}
use Rattle.xc_lex.proofs.Frames.{tokens_of_read}
use Rattle.xc_lex.proofs.macros.Macros.body.Goals as goal

pub returns : goal.returns
returns c = c.deref.ensures.value ∙ ap (λ m. m.body.items) c.index-entry.ensures ∙ tokens_of_read c.args.self.now.entries.items c.args.number c.index-entry.result.now c.requires
