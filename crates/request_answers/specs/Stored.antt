-- What is stored of an answer.
use Rattle.std.specs.Prelude.{ℕ, ◌≡◌, ◌≢◌, List, Option, Some, None}
use Rattle.request_words.specs.Asked.{Asked, Check, Verify, Generate}
use Rattle.verdicts.specs.declared.verdict.Verdict.{Verdict}
use Rattle.verdicts.specs.declared.verdict.Verdict.TheVariants.{Safe, Unsafe}

-- a file's name, where one is given, and what is to be in it
abbrev pub File : Type 0
File = Option (List ℕ × List ℕ)

abbrev pub in_file : Option (List ℕ) → List ℕ → File
in_file None bytes = None
in_file (Some name) bytes = Some (name, bytes)

-- the certificate of a source that is safe, and the run of one that isn't, where a file is named for it
abbrev pub file_for : Asked → Verdict → File
file_for (Verify w) (Safe text) = in_file w.cert text
file_for (Verify w) (Unsafe kind place values text) = in_file w.run text
file_for _ _ = None

-- the witness, where a file is named for it and there is one
abbrev pub both_named : Option (List ℕ) → Option (List ℕ) → File
both_named None witness = None
both_named (Some name) None = None
both_named (Some name) (Some text) = Some (name, text)

abbrev pub witness_file : Asked → Option (List ℕ) → File
witness_file (Check c) witness = None
witness_file (Verify w) witness = both_named w.witness witness
witness_file (Generate seed) witness = None

-- the file is no other than this one
abbrev pub IsOther : File → List ℕ → Type 0
IsOther None name = Unit {0}
IsOther (Some file) name = name ≢ file.0

abbrev pub IsStored : (List ℕ → List ℕ) → File → Type 0
IsStored files None = Unit {0}
IsStored files (Some file) = files file.0 ≡ file.1

-- the file, where one is named, is as before
abbrev pub IsUntouched : (List ℕ → List ℕ) → (List ℕ → List ℕ) → File → Type 0
IsUntouched before after None = Unit {0}
IsUntouched before after (Some file) = after file.0 ≡ before file.0
