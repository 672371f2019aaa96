-- What a thread does alone is what its protocol allows, at its costs, for any code whose places keep one.
use Rattle.std.proofs.Common.{◌≡◌, inl, inr, ℕ, zero, suc, ◌+◌, ◌≤◌, List, [], ◌∷◌, ◌++◌, refl, sym, ap, ◌∙◌, subst, arith, append-nil, append_assoc}
use Rattle.xc_meaning_world.specs.World.{Stop, Reply, Got, Dead, put}
use Rattle.xc_isa.specs.declared.code.Code.{Code}
use Rattle.xc_isa.specs.Effects.{Regs}
use Rattle.xc_isa_streams.specs.Class.{Class}
use Rattle.xc_isa_streams.specs.Parts.{Ask, Of, Act, act}
use Rattle.xc_isa_streams.specs.Local.{End, Ended, Fault, Short, Bad, Own, first_own, asked, stopped, local, local_from, end_trace, replies_of}
use Rattle.xc_isa_streams.specs.Promises.{Shows, Ends}
use Rattle.xc_isa_streams.proofs.LocalLaws.{longer}
use Rattle.xc_isa_streams_protocols.specs.Weights.{sum_asked, tally, tally_from}
use Rattle.xc_isa_streams_protocols.specs.Protocol as protocol
use Rattle.xc_isa_streams_protocols.proofs.Grows.{local_grows, same_rest, heads}
use Rattle.xc_isa_streams_protocols.proofs.Tallies.{tally_more}

module _ {S : Type 0} (may : S → Ask → Type 0) (goes : S → Ask → ℕ → S → Type 0) (cost : S → ℕ) where
  abbrev Obeys : (S → Type 0) → S → ℕ → List Act → Type 0
  Obeys E s w t = protocol.Obeys may goes cost E s w t

  abbrev replied : S → Ask → Reply → ℕ → List Act → (S → ℕ → Type 0) → Type 0
  replied s k b w t K = protocol.replied may goes cost s k b w t K

  -- before its next action it stands where that may be asked
  obeys_next : (k : Ask) (t : List Act) (s : S) (w : ℕ) → Obeys (λ s. Unit {0}) s w (t ++ act k Dead ∷ []) → Obeys (λ s. may s k) s w t
  obeys_next k [] s w h = (h.0, h.1.1)
  obeys_next k (a ∷ t) s w h = (h.0, by (λ s' u h. obeys_next k t s' u h) a.reply h.1)
    where
      never : (t : List Act) → t ++ act k Dead ∷ [] ≡ [] → ⊥
      never [] e = cc
      never (b ∷ t) e = cc

      by : ((s' : S) (u : ℕ) → Obeys (λ s. Unit {0}) s' u (t ++ act k Dead ∷ []) → Obeys (λ s. may s k) s' u t) → (b : Reply) → replied s a.ask b w (t ++ act k Dead ∷ []) (λ s' u. Obeys (λ s. Unit {0}) s' u (t ++ act k Dead ∷ [])) → replied s a.ask b w t (λ s' u. Obeys (λ s. may s k) s' u t)
      by on Dead y = absurd (never t y.0)
      by on (Got v) y = λ s' g. let z = y s' g in (z.0, z.1, on s' z.0 z.2)

  module _ (of : ℕ → Class) (code : Code) (weight : ℕ → ℕ) (IsLast : S → Type 0) (Stood : S → ℕ → Regs → Own → Type 0) (settle : protocol.Settles may goes cost of code weight IsLast Stood) where
    abbrev Ready : S → ℕ → Regs → Own → Type 0
    Ready s pc r o = protocol.Ready may goes cost of code weight IsLast Stood s pc r o

    abbrev sum : ℕ → ℕ → Regs → Own → List Reply → ℕ
    sum j pc r o rs = tally weight of code j pc r o rs

    sum_to : (m n pc : ℕ) (r : Regs) (o : Own) (rs : List Reply) → sum m pc r o rs ≤ sum (n + suc m) pc r o rs
    sum_to m n pc r o rs = tally_more weight of code m (n + suc m) (omega arith) pc r o rs

    -- what is to come weighs no more than the state's cost, where no reply is left
    last_light : (m : ℕ) (s : S) (pc : ℕ) (r : Regs) (o : Own) → Ready s pc r o → sum m pc r o [] ≤ cost s
    last_light m s pc r o (inl y) = omega (arith, sum_to m y.n pc r o [], y.weighs m [], y.light)
    last_light m s pc r o (inr (inl y)) = omega (arith, sum_to m y.n pc r o [], y.light m [])
    last_light m s pc r o (inr (inr y)) = omega (arith, sum_to m y.n pc r o [], y.light m [])

    -- ---- what the runs say

    module _ (many : ℕ) (X : End → Type 0) (whole : List Act) (traced : (e : End) → X e → end_trace e ≡ whole) (E : S → Type 0) (final : (s : S) (pc : ℕ) (r : Regs) (o : Own) (m : ℕ) → Stood s pc r o → ((k : ℕ) → X (local of code (m + k) pc r o [] whole)) → E s) where
      -- the rest of a thread's actions, where the first k of them are replied to
      abbrev Rest : List Act → Type 0
      Rest acts = (s : S) (pc : ℕ) (r : Regs) (o : Own) (t : List Act) (m : ℕ) → t ++ acts ≡ whole → Stood s pc r o → ((k : ℕ) → X (local of code (m + k) pc r o (replies_of acts) t)) → Obeys E s (sum many pc r o (replies_of acts)) acts

      by_ready : (a : Act) (acts : List Act) → Rest acts → (s : S) (pc : ℕ) (r : Regs) (o : Own) (t : List Act) (m : ℕ) → t ++ a ∷ acts ≡ whole → Ready s pc r o → ((k : ℕ) → X (local of code (m + k) pc r o (replies_of (a ∷ acts)) t)) → Obeys E s (sum many pc r o (replies_of (a ∷ acts))) (a ∷ acts)
      by_ready a acts on s pc r o t m e (inl y) h = by a.reply refl heard (sum_to many y.n pc r o (replies_of (a ∷ acts))) (y.weighs many (replies_of (a ∷ acts)))
        where
          w : ℕ
          w = sum many pc r o (replies_of (a ∷ acts))

          heard : (j : ℕ) → X (asked y.k y.pc' y.rf (local of code (m + j)) y.o' (a.reply ∷ replies_of acts) t)
          heard j = subst X ((let z : m + (y.n + 1 + j) ≡ y.n + suc (m + j) = omega arith in ap (λ n. local of code n pc r o (replies_of (a ∷ acts)) t) z) ∙ y.by (m + j) (replies_of (a ∷ acts)) t) (h (y.n + 1 + j))

          by : (b : Reply) → a.reply ≡ b → ((j : ℕ) → X (asked y.k y.pc' y.rf (local of code (m + j)) y.o' (b ∷ replies_of acts) t)) → w ≤ sum (y.n + suc many) pc r o (a.reply ∷ replies_of acts) → sum (y.n + suc many) pc r o (a.reply ∷ replies_of acts) ≡ y.w + sum_asked y.pc' y.rf (tally weight of code many) y.o' (a.reply ∷ replies_of acts) → Obeys E s w (a ∷ acts)
          by Dead c x le is =
              let z = heads (act y.k Dead) a [] acts (same_rest t (act y.k Dead ∷ []) (a ∷ acts) (traced _ (x 0) ∙ sym e)) in
              let none : sum_asked y.pc' y.rf (tally weight of code many) y.o' (a.reply ∷ replies_of acts) ≡ 0 = ap (λ b. sum_asked y.pc' y.rf (tally weight of code many) y.o' (b ∷ replies_of acts)) c in
              (subst (may s) (ap (λ (v : Act). v.ask) z.0) y.asks, subst (λ b. replied s a.ask b w acts (λ s' u. Obeys E s' u acts)) (sym c) (sym z.1, omega (arith, le, is, none, y.light)))
          by (Got v) c x le is =
              let d = act y.k (Got v) in
              let g = local_grows of code (m + 0) y.pc' (y.rf v) y.o' (replies_of acts) (t ++ d ∷ []) in
              let z = heads d a g.0 acts (same_rest t (d ∷ g.0) (a ∷ acts) (sym (append_assoc t (d ∷ []) g.0) ∙ sym g.1 ∙ traced _ (x 0) ∙ sym e)) in
              let rest : sum_asked y.pc' y.rf (tally weight of code many) y.o' (a.reply ∷ replies_of acts) ≡ sum many y.pc' (y.rf v) y.o' (replies_of acts) = ap (λ b. sum_asked y.pc' y.rf (tally weight of code many) y.o' (b ∷ replies_of acts)) c in
              let same : y.k ≡ a.ask = ap (λ (v : Act). v.ask) z.0 in (
                subst (may s) same y.asks,
                subst (λ b. replied s a.ask b w acts (λ s' u. Obeys E s' u acts)) (sym c)
                    (λ s' g. (
                      sum many y.pc' (y.rf v) y.o' (replies_of acts),
                      omega (arith, le, is, rest, y.light),
                      on s' y.pc' (y.rf v) y.o' (t ++ d ∷ []) m (append_assoc t (d ∷ []) acts ∙ ap (λ b. t ++ b ∷ acts) z.0 ∙ e) (y.on v s' (subst (λ k. goes s k v s') (sym same) g)) x,
                    )),
              )
      by_ready a acts on s pc r o t m e (inr (inl y)) h = (subst (may s) same y.asks, by a.reply)
        where
          w : ℕ
          w = sum many pc r o (replies_of (a ∷ acts))

          heard : X (Fault (t ++ act (Of Stop) a.reply ∷ []))
          heard = subst X ((let z : m + (y.n + 1 + 0) ≡ y.n + suc (m + 0) = omega arith in ap (λ n. local of code n pc r o (replies_of (a ∷ acts)) t) z) ∙ y.by (m + 0) (replies_of (a ∷ acts)) t) (h (y.n + 1 + 0))

          z : (act (Of Stop) a.reply ≡ a) × ([] ≡ acts)
          z = heads (act (Of Stop) a.reply) a [] acts (same_rest t (act (Of Stop) a.reply ∷ []) (a ∷ acts) (traced _ heard ∙ sym e))

          same : Of Stop ≡ a.ask
          same = ap (λ (v : Act). v.ask) z.0

          by : (b : Reply) → replied s a.ask b w acts (λ s' u. Obeys E s' u acts)
          by Dead = (sym z.1, (let le = sum_to many y.n pc r o (replies_of (a ∷ acts)) in let light = y.light many (replies_of (a ∷ acts)) in omega (arith, le, light)))
          by (Got v) = λ s' g. absurd (y.none v s' (subst (λ k. goes s k v s') (sym same) g))
      by_ready a acts on s pc r o t m e (inr (inr y)) h = absurd (
          let heard : X (Ended (replies_of (a ∷ acts)) t) = subst X ((let z : m + (y.n + 1 + 0) ≡ y.n + suc (m + 0) = omega arith in ap (λ n. local of code n pc r o (replies_of (a ∷ acts)) t) z) ∙ y.by (m + 0) (replies_of (a ∷ acts)) t) (h (y.n + 1 + 0)) in
          let bad : [] ≡ a ∷ acts = same_rest t [] (a ∷ acts) (append-nil t ∙ traced _ heard ∙ sym e) in cc)

      pub obeys : (acts : List Act) → Rest acts
      obeys [] s pc r o t m e x h = (final s pc r o m x (λ k. subst (λ u. X (local of code (m + k) pc r o [] u)) (sym (append-nil t) ∙ e) (h k)), last_light many s pc r o (settle s pc r o x))
      obeys (a ∷ acts) s pc r o t m e x h = by_ready a acts (obeys acts) s pc r o t m e (settle s pc r o x) h

    -- ---- a thread

    abbrev Begins : S → ℕ → ℕ → Type 0
    Begins s at arg = protocol.Begins may goes cost of code weight IsLast Stood s at arg

    plain : (s : S) (at arg m : ℕ) (t : List Act) → Begins s at arg → (h : Shows of code at arg m t) (j : ℕ) → Obeys (λ s. Unit {0}) s (tally_from weight of code j at arg h.num (replies_of t)) t
    plain s at arg m t begins h j = obeys j (λ e. end_trace e ≡ t) t (λ e c. c) (λ s. Unit {0}) (λ s pc r o m x h. tt) t s at (put (λ x. 0) 1 arg) (first_own h.num) [] m refl (begins h.num h.fresh) h.by

    one_more : (m n : ℕ) → n + suc m ≡ m + (n + 1)
    one_more m n = omega arith

    ended : (s : S) (at arg m : ℕ) (t : List Act) → Begins s at arg → (h : Ends of code at arg m t) (j : ℕ) → Obeys IsLast s (tally_from weight of code j at arg h.num (replies_of t)) t
    ended s at arg m t begins h j = obeys j (λ e. e ≡ Ended [] t) t (λ e c. ap end_trace c) IsLast final t s at (put (λ x. 0) 1 arg) (first_own h.num) [] m refl (begins h.num h.fresh) h.by
      where
        final : (s : S) (pc : ℕ) (r : Regs) (o : Own) (m : ℕ) → Stood s pc r o → ((k : ℕ) → local of code (m + k) pc r o [] t ≡ Ended [] t) → IsLast s
        final s pc r o m x h = by (settle s pc r o x)
          where
            at_n : (n : ℕ) → local of code (n + suc m) pc r o [] t ≡ Ended [] t
            at_n n = ap (λ n. local of code n pc r o [] t) (one_more m n) ∙ h (n + 1)

            by : Ready s pc r o → IsLast s
            by (inl y) = absurd (let bad : Short t ≡ Ended [] t = sym (y.by m [] t) ∙ at_n y.n in cc)
            by (inr (inl y)) = absurd (let bad : Short t ≡ Ended [] t = sym (y.by m [] t) ∙ at_n y.n in cc)
            by (inr (inr y)) = y.last

    not_bad : (s : S) (at arg m i : ℕ) (t u : List Act) → Begins s at arg → (h : Shows of code at arg m t) → local_from of code i at arg h.num (replies_of t) ≡ Bad u → (j : ℕ) → Obeys (λ s. ⊥) s (tally_from weight of code j at arg h.num (replies_of t)) t
    not_bad s at arg m i t u begins h bad j = obeys j (λ e. e ≡ Bad t) t (λ e c. ap end_trace c) (λ s. ⊥) final t s at (put (λ x. 0) 1 arg) (first_own h.num) [] i refl (begins h.num h.fresh) is
      where
        still : (k : ℕ) → local_from of code (i + k) at arg h.num (replies_of t) ≡ Bad u
        still k = longer of code i (i + k) (omega arith) at (put (λ x. 0) 1 arg) (first_own h.num) (replies_of t) [] (Bad u) tt bad

        same : u ≡ t
        same = sym (ap end_trace (still m)) ∙ ap (λ n. end_trace (local_from of code n at arg h.num (replies_of t))) (let e : i + m ≡ m + i = omega arith in e) ∙ h.by i

        is : (k : ℕ) → local of code (i + k) at (put (λ x. 0) 1 arg) (first_own h.num) (replies_of t) [] ≡ Bad t
        is k = still k ∙ ap Bad same

        final : (s : S) (pc : ℕ) (r : Regs) (o : Own) (m : ℕ) → Stood s pc r o → ((k : ℕ) → local of code (m + k) pc r o [] t ≡ Bad t) → ⊥
        final s pc r o m x h = by (settle s pc r o x)
          where
            at_n : (n : ℕ) → local of code (n + suc m) pc r o [] t ≡ Bad t
            at_n n = ap (λ n. local of code n pc r o [] t) (one_more m n) ∙ h (n + 1)

            by : Ready s pc r o → ⊥
            by (inl y) = let bad : Short t ≡ Bad t = sym (y.by m [] t) ∙ at_n y.n in cc
            by (inr (inl y)) = let bad : Short t ≡ Bad t = sym (y.by m [] t) ∙ at_n y.n in cc
            by (inr (inr y)) = let bad : Ended [] t ≡ Bad t = sym (y.by m [] t) ∙ at_n y.n in cc

    pub keeps : protocol.Keeps may goes cost of code weight IsLast Stood
    keeps = record {
      shown = plain;
      asking = λ s at arg m t k begins h j. obeys_next k t s (tally_from weight of code j at arg h.num (replies_of (t ++ act k Dead ∷ []))) (plain s at arg m (t ++ act k Dead ∷ []) begins h j);
      ended = ended;
      bad = not_bad;
    }
