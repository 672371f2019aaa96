-- What only private functions and proofs speak of, beside `History`.
use Rattle.std.specs.Prelude.{ℕ, zero, suc, List, [], ◌++◌}
use Rattle.xc_commute_histories.specs.History.{of_owner}

-- iterations 0 to t - 1, one after another
abbrev pub serial : {A : Type 0} → (A → ℕ) → ℕ → List A → List A
serial who zero xs = []
serial who (suc t) xs = of_owner who t xs ++ serial who t xs

-- a serial run of the iterations 0 to t - 1, each whole
pub data Serial {A : Type 0} (T Done : ℕ → List A → Type 0) : ℕ → List A → Type 0 where
  none_yet : Serial T Done zero []
  one_more : {t : ℕ} {g : List A} → Serial T Done t g → (h : List A) → T t h → Done t h → Serial T Done (suc t) (h ++ g)
