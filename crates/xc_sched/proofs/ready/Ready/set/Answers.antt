use Rattle.std.proofs.Common.{◌≡◌, ◌+◌, ◌%◌, ◌/◌, ◌<◌, ℕ, List, length, not, Bool, true, false, get_or, set, take, sym, ap, subst, ◌∙◌, arith}
use Rattle.std.proofs.lemmas.List.{length-take}
use mathlib.Core.Bool.{beq}
use Rattle.xc_sched.specs.Bits.{flags_of, KeepsFlags}
use Rattle.xc_sched.proofs.BitLemmas.{flipped}
use Rattle.xc_sched.proofs.StreamLemmas.{one}
use Rattle.xc_sched.proofs.ReadyLemmas.{turned, turned_by, other, kept_turned, view_turned, count_room, count_some}
use Rattle.xc_sched.proofs.ready.Ready.set.Goals as goal

-- what is known of a stream whose flag changes
record Changes (n k s x : ℕ) (ws : List ℕ) (b : Bool) : Type 0 where
  kept : KeepsFlags n k ws
  within : s < n
  flag : get_or (flags_of ws) s false ≡ not b
  word : set ws (s / 64) (flipped x (s % 64)) ≡ turned ws s

changes : (n k s x : ℕ) (ws now : List ℕ) (flags : List Bool) (was on b : Bool) → KeepsFlags n k ws → take n (flags_of ws) ≡ flags → s < length flags → was ≡ get_or (flags_of now) s false → now ≡ ws → beq was on ≡ false → on ≡ b → x ≡ get_or ws (s / 64) x → Changes n k s x ws b
changes n k s x ws now flags was on b kept view within is same differ on_is word =
    let lt : s < n = omega (arith, ap length view, length-take n (flags_of ws), within) in
    record {
      kept = kept;
      within = lt;
      flag = ap (λ w. get_or (flags_of w) s false) (sym same) ∙ sym is ∙ other was on differ ∙ ap not on_is;
      word = turned_by ws s x (omega (arith, kept.room, lt)) word;
    }

kept_after : (n k m s x : ℕ) (ws : List ℕ) (b : Bool) → Changes n k s x ws b → m + one (not b) ≡ k + one b → KeepsFlags n m (set ws (s / 64) (flipped x (s % 64)))
kept_after n k m s x ws b h count = subst (KeepsFlags n m) (sym h.word) (kept_turned n k m s ws b h.kept h.within h.flag count)

view_after : (n k s x : ℕ) (ws : List ℕ) (flags : List Bool) (on b : Bool) → Changes n k s x ws b → take n (flags_of ws) ≡ flags → on ≡ b → take n (flags_of (set ws (s / 64) (flipped x (s % 64)))) ≡ set flags s on
view_after n k s x ws flags on b h view on_is =
    ap (λ w. take n (flags_of w)) h.word ∙ view_turned n k s ws b h.kept h.within h.flag ∙ ap (λ f. set f s b) view ∙ ap (set flags s) (sym on_is)

pub overflow_add-self : goal.overflow_add-self
overflow_add-self c =
    let h : Changes c.self.inside.streams c.self.inside.count c.args.s c.index_mut.result.now c.self.inside.words.items true =
    changes _ _ _ _ _ _ _ _ _ _ c.self.invariant c.self.view_is c.requires c.is_on.ensures c.deref.ensures.value c.if-is_on-on.false c.if-on.true c.index_mut.ensures.value in
    let room = count_room _ _ _ _ h.kept h.within h.flag in
    omega (arith, h.kept.few, room)

pub overflow_sub-self : goal.overflow_sub-self
overflow_sub-self c =
    let h : Changes c.self.inside.streams c.self.inside.count c.args.s c.index_mut.result.now c.self.inside.words.items false =
    changes _ _ _ _ _ _ _ _ _ _ c.self.invariant c.self.view_is c.requires c.is_on.ensures c.deref.ensures.value c.if-is_on-on.false c.if-on.false c.index_mut.ensures.value in
    count_some _ _ _ _ h.kept h.within h.flag

pub invariant_of-self : goal.invariant_of-self
invariant_of-self c =
    let h : Changes c.self.inside.streams c.self.inside.count c.args.s c.index_mut.result.now c.self.inside.words.items true =
    changes _ _ _ _ _ _ _ _ _ _ c.self.invariant c.self.view_is c.requires c.is_on.ensures c.deref.ensures.value c.if-is_on-on.false c.if-on.true c.index_mut.ensures.value in
    kept_after _ _ _ _ _ _ _ h (omega arith)

pub invariant_of-self-else-on : goal.invariant_of-self-else-on
invariant_of-self-else-on c =
    let h : Changes c.self.inside.streams c.self.inside.count c.args.s c.index_mut.result.now c.self.inside.words.items false =
    changes _ _ _ _ _ _ _ _ _ _ c.self.invariant c.self.view_is c.requires c.is_on.ensures c.deref.ensures.value c.if-is_on-on.false c.if-on.false c.index_mut.ensures.value in
    let some = count_some _ _ _ _ h.kept h.within h.flag in
    kept_after _ _ _ _ _ _ _ h (omega (arith, some))

pub returns-then-on : goal.returns-then-on
returns-then-on c =
    let h : Changes c.self.inside.streams c.self.inside.count c.args.s c.index_mut.result.now c.self.inside.words.items true =
    changes _ _ _ _ _ _ _ _ _ _ c.self.invariant c.self.view_is c.requires c.is_on.ensures c.deref.ensures.value c.if-is_on-on.false c.if-on.true c.index_mut.ensures.value in
    view_after _ _ _ _ _ _ _ _ h c.self.view_is c.if-on.true

pub returns-else-on : goal.returns-else-on
returns-else-on c =
    let h : Changes c.self.inside.streams c.self.inside.count c.args.s c.index_mut.result.now c.self.inside.words.items false =
    changes _ _ _ _ _ _ _ _ _ _ c.self.invariant c.self.view_is c.requires c.is_on.ensures c.deref.ensures.value c.if-is_on-on.false c.if-on.false c.index_mut.ensures.value in
    view_after _ _ _ _ _ _ _ _ h c.self.view_is c.if-on.false
