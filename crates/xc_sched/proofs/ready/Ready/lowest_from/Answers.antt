use Rattle.std.proofs.Common.{◌≡◌, ◌<◌, ◌-◌, ◌^◌, ℕ, Option, Some, None, refl, ap, ◌∙◌, sym, arith}
use Rattle.std.specs.Prelude.{IfSome}
use Rattle.xc_sched.specs.Streams.{streams_of, lowest_from}
use Rattle.xc_sched.specs.Bits.{flags_of}
use Rattle.xc_sched.proofs.ReadyLemmas.{kept_lowest, lowest_within}
use Rattle.xc_sched.proofs.ready.Ready.lowest_from.Goals as goal

pub returns-clause-lowest : goal.returns-clause-lowest
returns-clause-lowest c =
    c.lowest_bit_from.ensures ∙ ap (λ w. lowest_from c.args.s (streams_of (flags_of w))) c.deref.ensures.value
    ∙ kept_lowest _ _ c.args.s _ c.self.invariant ∙ ap (λ f. lowest_from c.args.s (streams_of f)) c.self.view_is

small : (o : Option ℕ) (n : ℕ) → n < 2 ^ 32 → ((x : ℕ) → o ≡ Some x → x < n) → IfSome o (λ t. t < 2 ^ 32 - 1)
small None n h k = tt
small (Some x) n h k = let lt : x < n = k x refl in omega arith

pub returns-clause-below : goal.returns-clause-below
returns-clause-below c =
    small c.lowest_bit_from.result c.self.inside.streams c.self.invariant.few
    (λ x e. lowest_within c.self.inside.streams c.args.s x _ (sym (kept_lowest _ _ c.args.s _ c.self.invariant) ∙ ap (λ w. lowest_from c.args.s (streams_of (flags_of w))) (sym c.deref.ensures.value) ∙ sym c.lowest_bit_from.ensures ∙ e))
