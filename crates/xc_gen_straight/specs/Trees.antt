-- Trees whose forms all have code stand for straight programs.
use Rattle.std.specs.Prelude.{◌≡◌, None}
use Rattle.xc_tree.specs.declared.tree.Tree.{Tree}
use Rattle.xc_meaning.specs.Terms as straight
use Rattle.xc_meaning_straight.specs.Straight.{program_for, IsStraight}
use Rattle.xc_meaning_trees.specs.Trees.{program_of}
use Rattle.xc_gen.specs.Unbuilt.{unbuilt_of}

-- the program of the whole language is the straight one
abbrev pub StraightTrees : Type 0
StraightTrees = (t : Tree) → unbuilt_of t ≡ None → (program_of t ≡ program_for (straight.program_of t)) × IsStraight (straight.program_of t).body
