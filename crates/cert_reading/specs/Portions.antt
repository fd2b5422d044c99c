-- What is read of a certificate from its beginning on, and from a log on.
use Rattle.std.specs.Prelude.{ℕ, ◌≡◌, ◌-◌, ◌≤◌, List, length, take, drop, Ok, IfSome}
use Rattle.cert_text.specs.declared.place.Part.TheVariants.{Fresh}
use Rattle.cert_text.specs.declared.readers.Front.{Front}
use Rattle.cert_text.specs.declared.readers.Reader.{Reader}
use Rattle.cert_text.specs.Drafts.{nothing}
use Rattle.cert_text.specs.Reading.{start}
use Rattle.cert_text.specs.Walks.{before_log, state_of, walk}
use Rattle.cert_reading.specs.declared.cutting.Stretch.{Stretch}
use Rattle.cert_reading.specs.declared.portions.Beginning.{Beginning}
use Rattle.cert_reading.specs.declared.portions.Portion.{Portion}

-- a stretch lies within some bytes
abbrev pub IsWithin : List ℕ → Stretch → Type 0
IsWithin bytes s = (s.from ≤ s.to) × (s.to ≤ length bytes)

-- a reader that began before a log, with a front and so many logs left, has read the bytes of the stretch
pub record IsReadFrom (front : Front) (bytes : List ℕ) (s : Stretch) (r : Reader) : Type 0 where
  pub rising : s.from ≤ s.to
  pub within : s.to ≤ length bytes
  pub leads : walk (before_log front s.left).said (before_log front s.left).place Fresh 0 (take (s.to - s.from) (drop s.from bytes)) ≡ Ok (state_of r)

-- what a portion has read, if it could be read, is its stretch
abbrev pub IsPortion : Front → List ℕ → Portion → Type 0
IsPortion front bytes p = IfSome p.reader (IsReadFrom front bytes p.stretch)

-- a reader has read the bytes before an offset
pub record IsReadTo (bytes : List ℕ) (b : Beginning) : Type 0 where
  pub within : b.end ≤ length bytes
  pub leads : walk nothing start Fresh 0 (take b.end bytes) ≡ Ok (state_of b.reader)
