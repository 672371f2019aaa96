use Rattle.std.proofs.Common.{◌≡◌, ◌^◌, Err, refl, ap, ◌∙◌}
use Rattle.std.specs.Option.{option_map}
use Rattle.xc_top.specs.declared.fetch.Unread.TheVariants.{Said}
use Rattle.xc_top.specs.Seen.{Counts, shelf_seen, until}
use Rattle.xc_top.specs.Answers.{Fetches, Has, HasSchedule, AreRead, IsUnreadAt, ScheduleUnread, File, Both}
use Rattle.xc_top_words.specs.Commands.{schedule_of}
use Rattle.xc_top.proofs.Fetches.{of_file, later, read_fetched}
use Rattle.xc_top.proofs.fetch.fetch_texts.Goals as goal

pub returns-in-Err-clause-fetched : goal.returns-in-Err-clause-fetched
returns-in-Err-clause-fetched g c =
    let shelf = shelf_seen g.F.Shelf.files g.F.Shelf.faults g.F.Shelf.taken c.args.shelf.now c.fetch_text.new.shelf in
    File c.args.command.now refl (of_file (λ n l. Fetches n l shelf) c.args.command.now c.file.result.now c.limit.result c.file.ensures c.limit.ensures c.fetch_text.ensures.fetches)

pub returns-in-Ok-fetch_schedule-clause-fetched : goal.returns-in-Ok-fetch_schedule-clause-fetched
returns-in-Ok-fetch_schedule-clause-fetched g c =
    let shelf = shelf_seen g.F.Shelf.files g.F.Shelf.faults g.F.Shelf.taken c.args.shelf.now c.fetch_schedule.new.shelf in
    let mid = c.fetch_text.new.shelf in
    let between : Counts = record { faults = g.F.Shelf.faults mid; taken = g.F.Shelf.taken mid } in
    let text = c.in-Ok.text.items in
    let schedule = option_map (λ v. v.items) c.in-Ok-fetch_schedule.schedule in
    let read : AreRead c.args.command.now shelf text schedule = record {
      between = between;
      first = of_file (λ n l. Has (until between shelf) n l text) c.args.command.now c.file.result.now c.limit.result c.file.ensures c.limit.ensures c.in-Ok.ensures.text;
      second = later (λ s. HasSchedule s (schedule_of c.args.command.now) schedule) shelf between (g.F.Shelf.files mid) c.fetch_text.ensures.files_stay c.in-Ok-fetch_schedule.ensures.text;
    } in
    read_fetched c.args.command.now shelf text schedule read

pub returns-in-Err-fetch_schedule-clause-fetched : goal.returns-in-Err-fetch_schedule-clause-fetched
returns-in-Err-fetch_schedule-clause-fetched g c =
    let shelf = shelf_seen g.F.Shelf.files g.F.Shelf.faults g.F.Shelf.taken c.args.shelf.now c.fetch_schedule.new.shelf in
    let mid = c.fetch_text.new.shelf in
    let between : Counts = record { faults = g.F.Shelf.faults mid; taken = g.F.Shelf.taken mid } in
    let text = c.in-Ok.text.items in
    let h = c.in-Err-fetch_schedule.ensures.fetches in
    Both c.args.command.now refl between text
    (of_file (λ n l. Has (until between shelf) n l text) c.args.command.now c.file.result.now c.limit.result c.file.ensures c.limit.ensures c.in-Ok.ensures.text)
    h.0 h.1 (later (λ s. Fetches h.0 (2 ^ 26) s) shelf between (g.F.Shelf.files mid) c.fetch_text.ensures.files_stay h.2)

pub returns-in-Err-fetch_schedule-clause-unread : goal.returns-in-Err-fetch_schedule-clause-unread
returns-in-Err-fetch_schedule-clause-unread g c = λ status e.
    let shelf = shelf_seen g.F.Shelf.files g.F.Shelf.faults g.F.Shelf.taken c.args.shelf.now c.fetch_schedule.new.shelf in
    let mid = c.fetch_text.new.shelf in
    let between : Counts = record { faults = g.F.Shelf.faults mid; taken = g.F.Shelf.taken mid } in
    let text = c.in-Ok.text.items in
    let same : c.in-Err-fetch_schedule.unread ≡ Said status = cc in
    let h = c.fetch_schedule.ensures.unread status (c.in-Err-fetch_schedule.is ∙ ap Err same) in
    ScheduleUnread between text
    (of_file (λ n l. Has (until between shelf) n l text) c.args.command.now c.file.result.now c.limit.result c.file.ensures c.limit.ensures c.in-Ok.ensures.text)
    h.0 h.1 (later (λ s. IsUnreadAt h.0 (2 ^ 26) s status) shelf between (g.F.Shelf.files mid) c.fetch_text.ensures.files_stay h.2)
