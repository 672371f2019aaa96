-- What a call did to a shelf and to a sink.
use Rattle.std.specs.Prelude.{◌≡◌, ◌⊎◌, ℕ, List, Option, Some, None, take, IfSome, SomeIndex}
use Rattle.xc_edge.specs.Counts.{Rises}
use Rattle.xc_edge.specs.Gained.{gained}

-- the counts of a shelf at one moment: how often a fetch of each name failed, and how many bytes were taken
pub record Counts : Type 0 where
  pub faults : List ℕ → ℕ
  pub taken : ℕ

-- a shelf: its files, where it tells them, and its counts before and after
pub record ShelfSeen : Type 0 where
  pub files : Option (List ℕ → Option (List ℕ))
  pub before : Counts
  pub after : Counts

-- the same up to a moment in between, and from it on
abbrev pub until : Counts → ShelfSeen → ShelfSeen
until moment shelf = record shelf { after = moment }

abbrev pub since : Counts → ShelfSeen → ShelfSeen
since moment shelf = record shelf { before = moment }

-- a sink: what is written, where it tells that, and its count before and after
pub record SinkSeen : Type 0 where
  pub before : Option (List ℕ)
  pub after : Option (List ℕ)
  pub faults_before : ℕ
  pub faults_after : ℕ

-- a shelf and a sink, by what they tell of themselves, before and after a call
abbrev pub shelf_seen : {S : Type 0} → (S → Option (List ℕ → Option (List ℕ))) → (S → List ℕ → ℕ) → (S → ℕ) → S → S → ShelfSeen
shelf_seen files faults taken old new = record {
  files = files old;
  before = record { faults = faults old; taken = taken old };
  after = record { faults = faults new; taken = taken new };
}

abbrev pub sink_seen : {S : Type 0} → (S → Option (List ℕ)) → (S → ℕ) → S → S → SinkSeen
sink_seen written faults old new = record { before = written old; after = written new; faults_before = faults old; faults_after = faults new }

-- where files are told, no fetch of the file failed, it is there, and this holds of its bytes
abbrev pub Told : ShelfSeen → List ℕ → (List ℕ → Type 0) → Type 0
Told shelf name P = IfSome shelf.files (λ file_of. (shelf.after.faults name ≡ shelf.before.faults name) × (text : List ℕ) × (file_of name ≡ Some text) × P text)

abbrev pub Untouched : SinkSeen → Type 0
Untouched s = (s.after ≡ s.before) × (s.faults_after ≡ s.faults_before)

abbrev pub Whole : List ℕ → SinkSeen → Type 0
Whole text s = (s.after ≡ gained s.before text) × (s.faults_after ≡ s.faults_before)

-- a put failed, and a proper prefix of the text is there
abbrev pub Part : List ℕ → SinkSeen → Type 0
Part text s = Rises 1 s.faults_before s.faults_after × SomeIndex text (λ n. s.after ≡ gained s.before (take n text))

-- a text was put whole, or a put failed
abbrev pub Puts : List ℕ → SinkSeen → Type 0
Puts text s = Whole text s ⊎ Part text s
