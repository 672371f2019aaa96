-- Streams that are ready, by a flag for each stream.
use Rattle.std.specs.Prelude.{ℕ, suc, Bool, true, false, List, [], ◌∷◌, Option, find, nat_le}

-- the streams that are ready, in ascending order, where the first flag is that of stream s
abbrev pub streams_from : ℕ → List Bool → List ℕ
streams_from s [] = []
streams_from s (true ∷ flags) = s ∷ streams_from (suc s) flags
streams_from s (false ∷ flags) = streams_from (suc s) flags

-- the streams that are ready, in ascending order
abbrev pub streams_of : List Bool → List ℕ
streams_of flags = streams_from 0 flags

-- the lowest of the streams that is not below s
abbrev pub lowest_from : ℕ → List ℕ → Option ℕ
lowest_from s streams = find (λ t. nat_le s t) streams
