use Rattle.std.proofs.Common.{◌≡◌, ℕ, ◌+◌, List, [], ◌++◌, Option, Some, None, take, drop, refl, ap, sym, ◌∙◌, append_assoc}
use Rattle.std.proofs.lemmas.List.{append-nil}
use Rattle.std.proofs.Math.Seq.{take-add}
use Rattle.xc_edge.specs.Gained.{gained}

-- two texts that were appended one after the other are one text
pub gained-gained : (told : Option (List ℕ)) (a b : List ℕ) → gained (gained told a) b ≡ gained told (a ++ b)
gained-gained None a b = refl
gained-gained (Some before) a b = ap Some (append_assoc before a b)

-- the next piece of a text after its first bytes
pub gained-piece : (told now next : Option (List ℕ)) (text : List ℕ) (done n : ℕ) → now ≡ gained told (take done text) → next ≡ gained now (take n (drop done text)) → next ≡ gained told (take (done + n) text)
gained-piece told now next text done n first then =
    then ∙ ap (λ w. gained w (take n (drop done text))) first ∙ gained-gained told (take done text) (take n (drop done text)) ∙ ap (λ w. gained told w) (sym (take-add done n text))

-- nothing was appended
pub gained-nil : (told : Option (List ℕ)) → told ≡ gained told []
gained-nil None = refl
gained-nil (Some before) = ap Some (sym (append-nil before))
