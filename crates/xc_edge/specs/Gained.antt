use Rattle.std.specs.Prelude.{ℕ, List, ◌++◌, Option, Some, None}

-- what is written once a text was appended: told as far as it was told before
abbrev pub gained : Option (List ℕ) → List ℕ → Option (List ℕ)
gained None text = None
gained (Some before) text = Some (before ++ text)
