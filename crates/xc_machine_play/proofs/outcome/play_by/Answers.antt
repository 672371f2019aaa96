use Rattle.std.proofs.Common.{◌≡◌, ◌≤◌, inr, sym, ap, ◌∙◌, subst}
use Rattle.std.specs.Option.{option_map}
use Rattle.xc_isa.specs.Machine.{start, live_words}
use Rattle.xc_machine.specs.Machines.{state_of, code_of, limits_of}
use Rattle.xc_machine_play.specs.Plays.{IsRecord, limits_in}
use Rattle.xc_machine_play.proofs.Playing.{ok_map, played_from}
use Rattle.xc_machine_play.proofs.outcome.play_by.Goals as goal

pub returns-then-options : goal.returns-then-options
returns-then-options g c =
    let o = c.args.options.now in
    let m = c.in-Ok.machine in
    let code = c.args.code.now in
    let n = c.number-streams.result in
    let state : state_of m ≡ start code o.processors o.streams =
    c.in-Ok.ensures.starts ∙ ap (λ q. start code q n) c.number-processors.ensures.value ∙ ap (start code o.processors) c.number-streams.ensures.value in
    let limits : limits_of m ≡ limits_in o = c.in-Ok.ensures.limits ∙ ap (λ n. record { words = n; out = c.number-out.result }) c.number-words.ensures.value ∙ ap (λ n. record { words = o.words; out = n }) c.number-out.ensures.value in
    let fits = subst (λ k. live_words (start code o.processors k) ≤ o.words) c.number-streams.ensures.value
    (subst (λ q. live_words (start code q n) ≤ o.words) c.number-processors.ensures.value
    (subst (λ w. live_words (start code c.number-processors.result n) ≤ w) c.number-words.ensures.value c.in-Ok.ensures.full)) in
    ok_map c.recorded.result
    (λ r h. (
      h.0,
      subst (λ b. IsRecord b h.0 (option_map (λ v. v.items) r.choices)) (sym c.if-options.true) h.1,
      inr (fits, played_from g.C.Chooser.picks g.C.Plan.has_left c.args.chooser c.args.code.now (code_of m) (limits_of m) (state_of m) c.number-limit.result o r.ending r.steps r.out.items h.0 c.in-Ok.ensures.code limits state c.number-limit.ensures.value h.2),
    ))
    c.recorded.ensures

pub returns-in-Ok : goal.returns-in-Ok
returns-in-Ok g c =
    let o = c.args.options.now in
    let m = c.in-Ok.machine in
    let code = c.args.code.now in
    let n = c.number-streams.result in
    let state : state_of m ≡ start code o.processors o.streams =
    c.in-Ok.ensures.starts ∙ ap (λ q. start code q n) c.number-processors.ensures.value ∙ ap (start code o.processors) c.number-streams.ensures.value in
    let limits : limits_of m ≡ limits_in o = c.in-Ok.ensures.limits ∙ ap (λ n. record { words = n; out = c.number-out.result }) c.number-words.ensures.value ∙ ap (λ n. record { words = o.words; out = n }) c.number-out.ensures.value in
    let fits = subst (λ k. live_words (start code o.processors k) ≤ o.words) c.number-streams.ensures.value
    (subst (λ q. live_words (start code q n) ≤ o.words) c.number-processors.ensures.value
    (subst (λ w. live_words (start code c.number-processors.result n) ≤ w) c.number-words.ensures.value c.in-Ok.ensures.full)) in
    ok_map c.plain.result
    (λ r h. (
      h.1.0,
      subst (λ b. IsRecord b h.1.0 (option_map (λ v. v.items) r.choices)) (sym c.if-options.false) h.0,
      inr (fits, played_from g.C.Chooser.picks g.C.Plan.has_left c.args.chooser c.args.code.now (code_of m) (limits_of m) (state_of m) c.number-limit.result o r.ending r.steps r.out.items h.1.0 c.in-Ok.ensures.code limits state c.number-limit.ensures.value h.1.1),
    ))
    c.plain.ensures
