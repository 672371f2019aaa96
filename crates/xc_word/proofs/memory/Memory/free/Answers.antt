use Rattle.std.proofs.Common.{sym, ◌∙◌, ap, ◌+◌}
use Rattle.std.specs.Prelude.{is_some}
use Rattle.xc_word.proofs.Seen.{remove_now, live_now, same_now, none_then}
use Rattle.xc_word.proofs.Totals.{total_removed}
use Rattle.xc_word.specs.Total.{total, words_of}
use Rattle.xc_word.proofs.memory.Memory.free.Goals as goal

pub returns-then-is_some-clause-removed : goal.returns-then-is_some-clause-removed
returns-then-is_some-clause-removed c = remove_now c.self.inside.segments c.args.self.now c.self.view_is c.remove-removed.new.self c.args.seg c.remove-removed.ensures.updates.0

pub returns-clause-removed : goal.returns-clause-removed
returns-clause-removed c = remove_now c.self.inside.segments c.args.self.now c.self.view_is c.remove-removed.new.self c.args.seg c.remove-removed.ensures.updates.0

pub returns-then-is_some-clause-live : goal.returns-then-is_some-clause-live
returns-then-is_some-clause-live c = let live = live_now c.self.inside.segments c.args.self.now c.self.view_is c.args.seg ∙ ap is_some (sym c.remove-removed.ensures.value) in cc

pub returns-clause-live : goal.returns-clause-live
returns-clause-live c = let live = live_now c.self.inside.segments c.args.self.now c.self.view_is c.args.seg ∙ ap is_some (sym c.remove-removed.ensures.value) in cc

pub returns-clause-unchanged : goal.returns-clause-unchanged
returns-clause-unchanged c = same_now c.self.inside.segments c.args.self.now c.self.view_is c.remove-removed.new.self (none_then c.remove-removed.result _ c.if-is_some.ensures c.remove-removed.ensures.unchanged)

pub returns-then-is_some-clause-words : goal.returns-then-is_some-clause-words
returns-then-is_some-clause-words c =
    ap (λ m. total m + words_of c.args.self.now c.args.seg) (remove_now c.self.inside.segments c.args.self.now c.self.view_is c.remove-removed.new.self c.args.seg c.remove-removed.ensures.updates.0)
    ∙ total_removed c.args.self.now c.args.seg

pub returns-clause-words : goal.returns-clause-words
returns-clause-words c =
    ap (λ m. total m + words_of c.args.self.now c.args.seg) (remove_now c.self.inside.segments c.args.self.now c.self.view_is c.remove-removed.new.self c.args.seg c.remove-removed.ensures.updates.0)
    ∙ total_removed c.args.self.now c.args.seg
