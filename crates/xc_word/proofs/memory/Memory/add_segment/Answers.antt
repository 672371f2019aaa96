use Rattle.std.proofs.Common.{refl, sym, ◌∙◌, ap}
use Rattle.xc_word.proofs.Seen.{added, live_now}
use Rattle.xc_word.proofs.Totals.{total_fresh}
use Rattle.xc_word.specs.Total.{total}
use Rattle.xc_word.proofs.memory.Memory.add_segment.Goals as goal

pub returns-then-contains_key-clause-taken : goal.returns-then-contains_key-clause-taken
returns-then-contains_key-clause-taken c =
    let live = live_now c.self.inside.segments c.args.self.now c.self.view_is c.args.seg ∙ sym c.contains_key.ensures ∙ c.if-contains_key.true in
    (λ _. live, λ _. refl)

pub returns-in_default-clause-taken : goal.returns-in_default-clause-taken
returns-in_default-clause-taken c =
    let live = live_now c.self.inside.segments c.args.self.now c.self.view_is c.args.seg ∙ sym c.contains_key.ensures ∙ c.if-contains_key.false in
    (λ e. absurd cc, λ e. absurd cc)

pub returns-in_default-insert-clause-taken : goal.returns-in_default-insert-clause-taken
returns-in_default-insert-clause-taken c =
    let live = live_now c.self.inside.segments c.args.self.now c.self.view_is c.args.seg ∙ sym c.contains_key.ensures ∙ c.if-contains_key.false in
    (λ e. absurd cc, λ e. absurd cc)

pub returns-clause-taken : goal.returns-clause-taken
returns-clause-taken c =
    let live = live_now c.self.inside.segments c.args.self.now c.self.view_is c.args.seg ∙ sym c.contains_key.ensures ∙ c.if-contains_key.false in
    (λ e. absurd cc, λ e. absurd cc)

pub returns-clause-added : goal.returns-clause-added
returns-clause-added c = added c.self.inside.segments c.args.self.now c.self.view_is c.insert.new.self c.args.seg c.in-Ok.row c.args.cells c.full.result c.full.ensures c.in-Ok-insert.ensures.updates.0 c.in-Ok.ensures.items_if_clones_equal

pub returns-clause-words : goal.returns-clause-words
returns-clause-words c =
    let live = live_now c.self.inside.segments c.args.self.now c.self.view_is c.args.seg ∙ sym c.contains_key.ensures ∙ c.if-contains_key.false in
    ap total (added c.self.inside.segments c.args.self.now c.self.view_is c.insert.new.self c.args.seg c.in-Ok.row c.args.cells c.full.result c.full.ensures c.in-Ok-insert.ensures.updates.0 c.in-Ok.ensures.items_if_clones_equal)
    ∙ total_fresh c.args.self.now c.args.seg c.args.cells live
