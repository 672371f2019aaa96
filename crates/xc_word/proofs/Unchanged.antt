-- Where an access is not made, the memory stays.
use Rattle.std.proofs.Common.{◌≡◌, ℕ, Option, Some, None, refl}
use Rattle.xc_word.specs.declared.memory.Cell.{Cell}
use Rattle.xc_word.specs.declared.memory.Place.{Place}
use Rattle.xc_word.specs.declared.memory.Applied.TheVariants.{Bad, Blocked}
use Rattle.xc_word.specs.Cells.{Segments}
use Rattle.xc_word.specs.Table.{answer_of, left_by}

pub same_at_bad : (m : Segments) (p : Place) (o : Option (Option (ℕ × Cell))) → answer_of o ≡ Bad → left_by m p o ≡ m
same_at_bad m p None e = refl
same_at_bad m p (Some None) e = absurd cc
same_at_bad m p (Some (Some x)) e = absurd cc

pub same_at_blocked : (m : Segments) (p : Place) (o : Option (Option (ℕ × Cell))) → answer_of o ≡ Blocked → left_by m p o ≡ m
same_at_blocked m p None e = absurd cc
same_at_blocked m p (Some None) e = refl
same_at_blocked m p (Some (Some x)) e = absurd cc
