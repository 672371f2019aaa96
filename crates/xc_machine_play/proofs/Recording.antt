-- A run by a recorder is a run by the chooser in it, and the recorder has the streams that were named.
use Rattle.std.proofs.Common.{◌≡◌, ℕ, List, [], ◌∷◌, ◌++◌, length, Option, Some, None, inl, inr, refl, sym, ap, ◌∙◌, append_assoc}
use Rattle.std.proofs.lemmas.List.{append-nil}
use Rattle.xc_sched.specs.declared.recorder.Loss.{Loss}
use Rattle.xc_sched.specs.Losses.{Records}
use Rattle.xc_isa.specs.declared.code.Code.{Code}
use Rattle.xc_isa.specs.Machine.{State}
use Rattle.xc_machine.specs.declared.run.End.{End}
use Rattle.xc_machine.specs.declared.run.End.TheVariants as end
use Rattle.xc_machine.specs.Limits.{Limits}
use Rattle.xc_machine.specs.Runs.{Follows, Picks, Ends, RunsTo, refused, named_in}

module _ {C : Type 0} (picks : C → List ℕ → Option ℕ → C → Type 0) where
  -- the chooser, what is recorded, and the first loss
  abbrev pub Recording : Type 0
  Recording = C × List ℕ × Option Loss

  abbrev pub both : Recording → List ℕ → Option ℕ → Recording → Type 0
  both old streams answer new = picks old.0 streams answer new.0 × Records old.1 old.2 answer new.1 new.2

  -- one more stream
  more : (old : List ℕ) (l : Option Loss) (s : ℕ) (new : List ℕ) (k : Option Loss) → Records old l (Some s) new k → k ≡ None → (l ≡ None) × (new ≡ old ++ s ∷ [])
  more old (Some loss) s new k h none = absurd (let e = h.1 in cc)
  more old None s new None h none = (refl, h.1)
  more old None s new (Some loss) h none = absurd cc

  -- no answer
  no_more : (old : List ℕ) (l : Option Loss) (new : List ℕ) (k : Option Loss) → Records old l None new k → k ≡ None → (l ≡ None) × (new ≡ old)
  no_more old (Some loss) new k h none = absurd (let e = h.1 in cc)
  no_more old None new k h none = (refl, h.0)

  module _ (code : Code) (limits : Limits) where
    -- what was followed
    pub unrecorded : (x : Recording) (st : State) (ss : List ℕ) (y : Recording) (new : State) → Follows both code limits x st ss y new → y.2 ≡ None
        → Follows picks code limits x.0 st ss y.0 new × (y.1 ≡ x.1 ++ ss) × (x.2 ≡ None)
    unrecorded x st [] y new f none = (
      (ap (λ (z : Recording). z.0) f.0, f.1),
      sym (append-nil x.1 ∙ ap (λ (z : Recording). z.1) f.0),
      ap (λ (z : Recording). z.2) f.0 ∙ none,
    )
    unrecorded x st (s ∷ ss) y new f none =
        let later = unrecorded f.0 f.1 ss y new f.4 none in
        let one = more x.1 x.2 s f.0.1 f.0.2 f.2.1 later.2 in
        ((f.0.0, f.1, f.2.0, f.3, later.0), later.1 ∙ ap (λ xs. xs ++ ss) one.1 ∙ append_assoc x.1 (s ∷ []) ss, one.0)

    one_pick : (limit made : ℕ) (x : Recording) (st : State) (s : ℕ) (y : Recording) → Picks both code limits limit made x st s y → y.2 ≡ None
        → Picks picks code limits limit made x.0 st s y.0 × (y.1 ≡ x.1 ++ s ∷ []) × (x.2 ≡ None)
    one_pick limit made x st s y p none =
        let one = more x.1 x.2 s y.1 y.2 p.picked.1 none in
        (record { within = p.within; some_ready = p.some_ready; picked = p.picked.0 }, one.1, one.0)

    stays : (x y : Recording) → y ≡ x → y.2 ≡ None → (y.0 ≡ x.0) × (y.1 ≡ x.1 ++ []) × (x.2 ≡ None)
    stays x y e none = (ap (λ (z : Recording). z.0) e, ap (λ (z : Recording). z.1) e ∙ sym (append-nil x.1), sym (ap (λ (z : Recording). z.2) e) ∙ none)

    -- how it ended
    pub unrecorded_end : (limit made : ℕ) (x : Recording) (st : State) (y : Recording) (e : End) → Ends both code limits limit made x st y e → y.2 ≡ None
        → (h : Ends picks code limits limit made x.0 st y.0 e) × (y.1 ≡ x.1 ++ refused picks code limits limit made x.0 st y.0 e h) × (x.2 ≡ None)
    unrecorded_end limit made x st y end.Ended h none = let same = stays x y h.1 none in ((h.0, same.0), same.1, same.2)
    unrecorded_end limit made x st y end.Stuck h none = let same = stays x y h.2 none in ((h.0, h.1, same.0), same.1, same.2)
    unrecorded_end limit made x st y end.Unfinished h none = elim h.1 [
      | inl full ↦ let same = stays x y full.1 none in ((h.0, inl (full.0, same.0)), same.1, same.2)
      | inr used ↦ let no = no_more x.1 x.2 y.1 y.2 used.1.1 none in ((h.0, inr (used.0, used.1.0)), no.1 ∙ sym (append-nil x.1), no.0)
    ]
    unrecorded_end limit made x st y (end.BadChoice k) h none = let one = one_pick limit made x st h.0 y h.1 none in ((h.0, one.0, h.2, h.3), one.1, one.2)
    unrecorded_end limit made x st y (end.Trap kind s) h none = let one = one_pick limit made x st s y h.0 none in ((one.0, h.1), one.1, one.2)
    unrecorded_end limit made x st y (end.WordsFull live asked) h none = let one = one_pick limit made x st h.0 y h.1 none in ((h.0, one.0, h.2), one.1, one.2)
    unrecorded_end limit made x st y (end.OutFull len piece) h none = let one = one_pick limit made x st h.0 y h.1 none in ((h.0, one.0, h.2), one.1, one.2)
    unrecorded_end limit made x st y end.NoMemory h none = let one = one_pick limit made x st h.0 y h.1 none in ((h.0, one.0), one.1, one.2)

    -- a run by a recorder that begins with nothing and has lost nothing
    pub unrecorded_run : (limit : ℕ) (c : C) (st : State) (before : ℕ) (y : Recording) (new : State) (after : ℕ) (e : End)
        → RunsTo both code limits limit (c, [], None) st before y new after e → y.2 ≡ None
        → (r : RunsTo picks code limits limit c st before y.0 new after e) × (y.1 ≡ named_in picks code limits limit c st before y.0 new after e r)
    unrecorded_run limit c st before y new after e r none =
        let ends = unrecorded_end limit (length r.streams) r.last new y e r.ends none in
        let follows = unrecorded (c, [], None) st r.streams r.last new r.follows ends.2 in (
          record { streams = r.streams; last = r.last.0; follows = follows.0; few = r.few; counted = r.counted; ends = ends.0 },
          ends.1 ∙ ap (λ xs. xs ++ refused picks code limits limit (length r.streams) r.last.0 new y.0 e ends.0) follows.1,
        )
