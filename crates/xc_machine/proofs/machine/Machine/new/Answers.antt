use Rattle.std.proofs.Common.{◌≡◌, [], length, map, sym, ap, ◌∙◌, arith}
use Rattle.std.specs.Prelude.{slice_set}
use Rattle.std.specs.List.{sum_by}
use Rattle.xc_meaning_world.specs.World.{segs_of}
use Rattle.xc_isa.specs.Texts.{cells_of, size_of}
use Rattle.xc_isa.specs.Machine.{Live, free_slots, start, live_words, words_up_to}
use Rattle.xc_machine_slots.specs.declared.seat.Seat.TheVariants.{Taken}
use Rattle.xc_machine.specs.Shows.{segs_in}
use Rattle.xc_machine_slots.specs.Seats.{slot_of}
use Rattle.xc_machine.specs.Stores.{shown}
use Rattle.xc_machine.proofs.Slots.{slots_put}
use Rattle.xc_machine.proofs.Globals.{few_globals, start_words, words_of_globals, none_past, length_globals}
use Rattle.xc_machine.proofs.machine.Machine.new.Goals as goal

pub words_in-live-requires-clause-few : goal.words_in-live-requires-clause-few
words_in-live-requires-clause-few c =
    let few = few_globals c.args.code.now in
    let same : length c.as_slice-globals.result.now ≡ length c.args.code.now.globals = ap length c.as_slice-globals.ensures in
    omega (arith, few, same)

pub memory_of-requires : goal.memory_of-requires
memory_of-requires c =
    let few = few_globals c.args.code.now in
    let same : length c.as_slice-globals.result.now ≡ length c.args.code.now.globals = ap length c.as_slice-globals.ensures in
    omega (arith, few, same)

pub overflow_cast-globals : goal.overflow_cast-globals
overflow_cast-globals c =
    let few = few_globals c.args.code.now in
    let same : length c.as_slice-globals.result.now ≡ length c.args.code.now.globals = ap length c.as_slice-globals.ensures in
    omega (arith, few, same)

pub starting-store-requires-clause-numbered : goal.starting-store-requires-clause-numbered
starting-store-requires-clause-numbered c =
    let few = few_globals c.args.code.now in
    let same : length c.as_slice-globals.result.now ≡ length c.args.code.now.globals = ap length c.as_slice-globals.ensures in
    omega (arith, few, same)

pub starting-store-requires-clause-none_beyond : goal.starting-store-requires-clause-none_beyond
starting-store-requires-clause-none_beyond c = λ g lt.
    let count = length_globals c.as_slice-globals.result.now in
    ap (λ s. s g) c.in_ok-memory.ensures ∙ none_past (map cells_of c.as_slice-globals.result.now) g (omega (arith, lt, count))

pub starting-store-requires-clause-counted : goal.starting-store-requires-clause-counted
starting-store-requires-clause-counted c =
    c.words_in-live.ensures ∙ sym (words_of_globals c.as_slice-globals.result.now) ∙ ap (λ s. words_up_to s (length c.as_slice-globals.result.now)) (sym c.in_ok-memory.ensures)

pub returns-then-live-words-clause-full : goal.returns-then-live-words-clause-full
returns-then-live-words-clause-full c = λ n e.
    let is : c.words_in-live.result ≡ live_words (start c.args.code.now c.args.processors c.args.streams) = c.words_in-live.ensures ∙ ap (sum_by size_of) c.as_slice-globals.ensures ∙ sym (start_words c.args.code.now c.args.processors c.args.streams) in
    let same : c.words_in-live.result ≡ n = cc in
    let more = c.if-live-words.true in
    (sym same ∙ is, omega (arith, same, more))

pub returns-clause-full : goal.returns-clause-full
returns-clause-full c =
    let is : c.words_in-live.result ≡ live_words (start c.args.code.now c.args.processors c.args.streams) = c.words_in-live.ensures ∙ ap (sum_by size_of) c.as_slice-globals.ensures ∙ sym (start_words c.args.code.now c.args.processors c.args.streams) in
    let within = c.if-live-words.false in
    omega (arith, is, within)

pub returns-clause-starts : goal.returns-clause-starts
returns-clause-starts c =
    let code = c.args.code.now in
    let slots : map slot_of (slice_set c.in_ok-seats.seats.items 0 (Taken c.first.result)) ≡ slice_set (free_slots c.args.processors c.args.streams) 0 (Live 0 (λ x. 0)) =
    slots_put c.in_ok-seats.seats.items 0 (Taken c.first.result) (Live 0 (λ x. 0)) c.first.ensures
    ∙ ap (λ xs. slice_set xs 0 (Live 0 (λ x. 0))) c.in_ok-seats.ensures.seats in
    let globals = c.as_slice-globals.ensures in
    let segs : segs_in c.in_ok-memory.memory ≡ segs_of (map cells_of code.globals) = c.in_ok-memory.ensures ∙ ap (λ gs. segs_of (map cells_of gs)) globals in
    ap (λ xs. record { slots = xs; world = shown c.starting-store.result; last = c.starting-store.result.last }) slots
    ∙ ap (λ w. record { slots = (start code c.args.processors c.args.streams).slots; world = w; last = c.starting-store.result.last }) c.starting-store.ensures.shown
    ∙ ap (λ s. record { slots = (start code c.args.processors c.args.streams).slots; world = record { segs = s; out = [] }; last = c.starting-store.result.last }) segs
    ∙ ap (λ n. record { slots = (start code c.args.processors c.args.streams).slots; world = (start code c.args.processors c.args.streams).world; last = n }) (c.starting-store.ensures.last ∙ ap length globals)
