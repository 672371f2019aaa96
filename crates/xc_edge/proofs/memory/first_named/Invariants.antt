use Rattle.std.proofs.Common.{◌≡◌, drop}
use Rattle.xc_edge.specs.ShelfState.{entries}
use Rattle.xc_edge.specs.InnerShelfState.{file_named}
use Rattle.xc_edge.proofs.memory.first_named.Given as goal

-- no earlier file has the name
abbrev pub invariant-loop-file : goal.invariant-loop-file
invariant-loop-file l = file_named (entries l.files) l.name ≡ file_named (entries (drop l.file-index l.files)) l.name
