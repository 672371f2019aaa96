use Rattle.std.specs.Prelude.{◌||◌}
use Rattle.std.proofs.Common.{rules, ◌≡◌}
use Rattle.xc_form_stable.specs.Addresses.{is_kept_at}
use Rattle.xc_form_stable.specs.InnerStable.{frame_of, is_steady_where}
use Rattle.xc_form_stable.proofs.Standing.{read_steady}
use Rattle.xc_form_stable.proofs.steady.+is_steady.Goals as goal

-- src/steady.rt:108:1
pub returns-else-all : goal.returns-else-all
returns-else-all t c =
    let same : is_steady_where (frame_of c.args.w.now) c.args.all c.args.over.now c.args.e.now ≡ (c.args.all || is_kept_at c.args.w.now.effects.now c.in-Read.place) =
    read_steady (frame_of c.args.w.now) c.args.e.now c.in-Read.kind c.in-Read.place c.args.all c.args.over.now c.in-Read.is in
    search (rules, same)
