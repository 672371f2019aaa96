use Rattle.std.proofs.Common.{◌∙◌, ℕ, sym, ap, subst, map}
use Rattle.std.specs.Str.{bytes_eq}
use Rattle.indexmap.specs.IndexSet.{insert_key}
use Rattle.xc_type_names.specs.Stretches.{bytes_at, AreIn}
use Rattle.xc_text_place.specs.Stretches.{stretch_eq}
use Rattle.xc_type_names.proofs.Stretches.{are_in, there, not_false}
use Rattle.xc_type_names.proofs.numbers.add_once.Goals as goal

pub returns-in_ok-add-clause-seen : goal.returns-in_ok-add-clause-seen
returns-in_ok-add-clause-seen c =
    let source = c.args.source.now in
    let known = map (λ k. k.items) c.args.set.now.keys in
    let at : ℕ × ℕ = (c.args.at.start, c.args.at.end) in
    let put = c.in_ok-add.ensures ∙ ap (insert_key bytes_eq known) c.of.ensures in
    subst (λ s. AreIn source s (map (λ k. k.items) c.add.new.set.keys)) (sym c.in_ok-insert.ensures.keys)
    (subst (λ k. AreIn source (insert_key stretch_eq c.args.seen.now.keys at) k) (sym put) (are_in source c.args.seen.now.keys known at c.requires))

pub returns-else-branch-clause-added : goal.returns-else-branch-clause-added
returns-else-branch-clause-added c =
    let known = map (λ k. k.items) c.args.set.now.keys in
    let at : ℕ × ℕ = (c.args.at.start, c.args.at.end) in
    sym (there known (bytes_at c.args.source.now at) (c.requires at (not_false _ (sym c.in_ok-insert.ensures.added ∙ c.if-branch.false))))
