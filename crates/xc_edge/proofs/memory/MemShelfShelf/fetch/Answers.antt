use Rattle.std.proofs.Common.{ap, ◌∙◌, map, string_bytes}
use Rattle.xc_edge.specs.InnerShelfState.{name_count}
use Rattle.xc_edge.proofs.NameCounts.{name_count-other}
use Rattle.xc_edge.proofs.memory.MemShelfShelf.fetch.Goals as goal

pub returns-then-contains-clause-others_kept : goal.returns-then-contains-clause-others_kept
returns-then-contains-clause-others_kept c = λ other differ.
    ap (λ shelf. name_count shelf.failed other) c.in_ok-keep.ensures.ok ∙ name_count-other (map (λ name. string_bytes name) c.self.inside.failed.items) c.args.name.now other differ ∙ ap (λ shelf. name_count shelf.failed other) c.self.view_is

pub returns-in_ok-keep-in-None-clause-others_kept : goal.returns-in_ok-keep-in-None-clause-others_kept
returns-in_ok-keep-in-None-clause-others_kept c = λ other differ.
    ap (λ shelf. name_count shelf.failed other) c.in_ok-keep-in-None.ensures.ok ∙ name_count-other (map (λ name. string_bytes name) c.self.inside.failed.items) c.args.name.now other differ ∙ ap (λ shelf. name_count shelf.failed other) c.self.view_is
