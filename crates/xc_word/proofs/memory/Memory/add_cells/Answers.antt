use Rattle.std.proofs.Common.{refl, sym, ◌∙◌, ap}
use Rattle.xc_word.proofs.Seen.{insert_now, live_now}
use Rattle.xc_word.proofs.memory.Memory.add_cells.Goals as goal

pub returns-then-live-clause-taken : goal.returns-then-live-clause-taken
returns-then-live-clause-taken c =
    let live = live_now c.self.inside.segments c.args.self.now c.self.view_is c.args.seg ∙ sym c.contains_key-live.ensures ∙ c.if-live.true in
    (λ _. live, λ _. refl)

pub returns-in_default-clause-taken : goal.returns-in_default-clause-taken
returns-in_default-clause-taken c =
    let live = live_now c.self.inside.segments c.args.self.now c.self.view_is c.args.seg ∙ sym c.contains_key-live.ensures ∙ c.if-live.false in
    (λ e. absurd cc, λ e. absurd cc)

pub returns-clause-taken : goal.returns-clause-taken
returns-clause-taken c =
    let live = live_now c.self.inside.segments c.args.self.now c.self.view_is c.args.seg ∙ sym c.contains_key-live.ensures ∙ c.if-live.false in
    (λ e. absurd cc, λ e. absurd cc)

pub returns-clause-added : goal.returns-clause-added
returns-clause-added c = insert_now c.self.inside.segments c.args.self.now c.self.view_is c.insert.new.self c.args.seg c.args.cells c.in-Ok.ensures.updates.0
