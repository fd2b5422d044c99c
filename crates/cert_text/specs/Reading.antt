-- How a certificate is read, byte after byte.
use Rattle.std.specs.Prelude.{ℕ, ◌+◌, List, [], ◌∷◌, length, nat_lt, if◌then◌else◌, Result, Ok, Err}
use Rattle.stored_text.specs.declared.StoredFail.{StoredFail}
use Rattle.stored_text.specs.declared.StoredFail.TheVariants.{Format, Over}
use Rattle.cert_text.specs.declared.place.Fixed.TheVariants.{Head}
use Rattle.cert_text.specs.declared.place.Slot.TheVariants.{Text}
use Rattle.cert_text.specs.declared.place.Place.{Place}
use Rattle.cert_text.specs.declared.place.Part.{Part}
use Rattle.cert_text.specs.declared.place.Part.TheVariants.{Fresh}
use Rattle.cert_text.specs.declared.steps.Move.{Move}
use Rattle.cert_text.specs.declared.steps.Next.{Next}
use Rattle.cert_text.specs.declared.steps.Next.TheVariants.{Refused, Part as NPart, Moves}
use Rattle.cert_text.specs.Content.{Content}
use Rattle.cert_text.specs.Places.{is_done_at}
use Rattle.cert_text.specs.Steps.{place_of, step_of}
use Rattle.cert_text.specs.Drafts.{Said, nothing, applied, content_said}

abbrev pub Reading : Type 0
Reading = Result Content StoredFail

abbrev pub answered : ℕ → Next → (Part → Reading) → (Move → Reading) → Reading
answered at Refused f g = Err (Format at)
answered at (NPart part) f g = f part
answered at (Moves m) f g = g m

-- what the bytes from an offset on say, behind what was said, at a place of which a part was read
abbrev pub read_from : Said → Place → Part → ℕ → List ℕ → Reading
read_from said place part at [] = if is_done_at place.slot then Ok (content_said said) else Err (Format at)
read_from said place part at (b ∷ rest) =
    answered at (step_of place part b) (λ p. read_from said place p (at + 1) rest) (λ m. read_from (applied m said) m.to Fresh (at + 1) rest)

abbrev pub start : Place
start = place_of (Text Head) 0 0

abbrev pub read_cert_of : List ℕ → Reading
read_cert_of bytes = if nat_lt 67108864 (length bytes) then Err (Over 8 67108865) else read_from nothing start Fresh 0 bytes
