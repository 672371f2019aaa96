use Rattle.std.proofs.Common.{◌∙◌, ap, refl, map}
use Rattle.std.specs.Str.{bytes_eq}
use Rattle.indexmap.specs.IndexSet.{insert_key}
use Rattle.xc_type_names.proofs.Spelled.{insert_items}
use Rattle.xc_type_names.proofs.numbers.add.Goals as goal

pub returns : goal.returns
returns c = ap (map (λ k. k.items)) c.in_ok-insert.ensures.keys
    ∙ insert_items (λ k. k.items) _ (λ a b. refl) c.args.set.now.keys c.in_ok-key.key
    ∙ ap (insert_key bytes_eq (map (λ k. k.items) c.args.set.now.keys)) c.in_ok-key.ensures.items
