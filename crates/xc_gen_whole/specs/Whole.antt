-- What the code of a typed tree is to the meaning of the whole language.
use Rattle.std.specs.Prelude.{◌≡◌, None}
use Rattle.xc_tree.specs.declared.tree.Tree.{Tree}
use Rattle.xc_isa.specs.declared.code.Code.{Code}
use Rattle.xc_meaning.specs.Terms as straight
use Rattle.xc_meaning_trees.specs.Trees.{program_of}
use Rattle.xc_gen.specs.Unbuilt.{unbuilt_of}
use Rattle.xc_gen.specs.Faithful.{Faithful}
use Rattle.xc_gen_promises.specs.Promises.{StandsFor}

-- of a tree whose forms all have code: what stands for the source runs of the straight program stands for those of the program
abbrev pub CodeStands : Type 0
CodeStands = (t : Tree) → unbuilt_of t ≡ None → (c : Code) → Faithful (straight.program_of t) c → StandsFor (program_of t) c
