use Rattle.std.proofs.Common.{◌∙◌, sym, ap, map, position}
use Rattle.std.specs.Str.{bytes_eq}
use Rattle.xc_type_names.proofs.Stretches.{are_places}
use Rattle.xc_type_names.proofs.numbers.place_once.Goals as goal

pub returns-in-Some-clause-place : goal.returns-in-Some-clause-place
returns-in-Some-clause-place c = c.requires.places (c.args.at.start, c.args.at.end) c.in-Some.place.now (sym c.in-Some.ensures.value)

pub returns-in_ok-insert-in-None-clause-places : goal.returns-in_ok-insert-in-None-clause-places
returns-in_ok-insert-in-None-clause-places c =
    let known = map (λ k. k.items) c.args.set.now.keys in
    let is = c.place_of-place.ensures ∙ ap (λ t. position (bytes_eq t) known) c.of.ensures in
    are_places c.args.source.now known (c.args.at.start, c.args.at.end) _ c.args.places.now.entries c.insert.new.self.entries is c.requires.places (λ p. c.in_ok-insert-in-None.ensures.updates.0 p)
