use Rattle.std.proofs.Common.{◌≡◌, ◌≤◌, ℕ, List, [], ◌∷◌, length, drop, None, refl, sym, ◌∙◌, arith, length-drop}
use Rattle.xc_lex.specs.Front.{close_from}
use Rattle.xc_lex.proofs.front.comment_len.Goals as goal

-- too few bytes are left
short : (n : ℕ) (bs : List ℕ) → length bs ≤ 1 → close_from n bs ≡ None
short n [] h = refl
short n (b ∷ []) h = refl
short n (b ∷ c ∷ bs) h = absurd (omega arith)

pub returns-clause-value : goal.returns-clause-value
returns-clause-value c =
    let few : length (drop c.bytes.i c.args.rest.now) ≤ 1 = simp length-drop (omega arith) in
    sym (c.bytes.invariant.same ∙ short c.bytes.i _ few)
