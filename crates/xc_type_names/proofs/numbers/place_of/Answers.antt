use Rattle.std.proofs.Common.{◌∙◌, sym}
use Rattle.std.specs.Str.{bytes_eq}
use Rattle.xc_type_names.proofs.Spelled.{position_items}
use Rattle.xc_type_names.proofs.numbers.place_of.Goals as goal

pub returns-in-Some : goal.returns-in-Some
returns-in-Some c =
    sym c.in-Some.is ∙ c.get_index_of.ensures.index ∙ position_items (λ k. k.items) (bytes_eq c.args.text.now) c.args.set.now.keys

pub returns-in-None : goal.returns-in-None
returns-in-None c =
    sym c.in-None.is ∙ c.get_index_of.ensures.index ∙ position_items (λ k. k.items) (bytes_eq c.args.text.now) c.args.set.now.keys
