-- Flags in the bits of words.
use Rattle.std.specs.Prelude.{◌≡◌, ℕ, zero, suc, ◌*◌, ◌/◌, ◌%◌, ◌≤◌, ◌<◌, ◌==◌, ◌^◌, Bool, List, [], ◌∷◌, length, drop}
use Rattle.std.specs.List.{flat_map}
use Rattle.xc_sched.specs.Streams.{streams_from, streams_of}

-- the n lowest bits of a word, the lowest first
unfoldable pub flags_below : ℕ → ℕ → List Bool
flags_below zero word = []
flags_below (suc n) word = (word % 2 == 1) ∷ flags_below n (word / 2)

abbrev pub word_flags : ℕ → List Bool
word_flags word = flags_below 64 word

abbrev pub flags_of : List ℕ → List Bool
flags_of words = flat_map word_flags words

-- The words have the bits of the streams and no other, and the count of those that are set.
pub record KeepsFlags (streams count : ℕ) (words : List ℕ) : Type 0 where
  pub room : streams ≤ 64 * length words
  pub few : streams < 2 ^ 32
  pub small : 64 * length words ≤ 2 ^ 32
  pub above : streams_from streams (drop streams (flags_of words)) ≡ []
  pub counted : length (streams_of (flags_of words)) ≡ count
