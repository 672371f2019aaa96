use Rattle.std.proofs.Common.{◌≡◌, map, take}
use Rattle.clap.specs.Words.{app_of}
use Rattle.xc_top_words.specs.Words.{line_of}
use Rattle.xc_top_words.proofs.LineLemmas.{named}
use Rattle.xc_top_words.proofs.line.options_line.Given as goal

-- the line has the options of the names so far
abbrev pub invariant-loop-name : goal.invariant-loop-name
invariant-loop-name l = app_of l.line ≡ line_of (map named (take l.name-index l.name-items))
