-- What reading and writing a certificate mean, each law named by a public contract.
use Rattle.std.specs.Prelude.{ℕ, ◌+◌, ◌≡◌, ◌<◌, ◌≤◌, List, ◌++◌, length, take, Ok, Err}
use Rattle.stored_text.specs.declared.StoredFail.TheVariants.{Format, Over}
use Rattle.cert_text.specs.Content.{Content}
use Rattle.cert_text.specs.CertText.{cert_text}
use Rattle.cert_text.specs.Ranges.{InRange}
use Rattle.cert_text.specs.Reading.{read_cert_of}
use Rattle.cert_text.specs.Writing.{write_cert_of}
use Rattle.certificate_laws.specs.Fits.{Fits}

-- the text of a certificate, if it is not too long, is read to what it says; so no two certificates have one text
abbrev pub CertTextIsRead : Type 0
CertTextIsRead = (c : Content) → InRange c → length (cert_text c) ≤ 67108864 → read_cert_of (cert_text c) ≡ Ok c

-- what is written is read back
abbrev pub WrittenIsRead : Type 0
WrittenIsRead = (c : Content) (file : List ℕ) → InRange c → write_cert_of c ≡ Ok file → read_cert_of file ≡ Ok c

-- what is read is the text of what it says, so each certificate has one text
abbrev pub ReadIsWritten : Type 0
ReadIsWritten = (file : List ℕ) (c : Content) → read_cert_of file ≡ Ok c → Fits c × (file ≡ cert_text c) × (length file ≤ 67108864)

-- no certificate's text goes on from these bytes
abbrev pub NoneGoesOn : List ℕ → Type 0
NoneGoesOn front = (c : Content) (more : List ℕ) → Fits c → front ++ more ≡ cert_text c → ⊥

-- some certificate's text begins with these bytes
abbrev pub GoesOn : List ℕ → Type 0
GoesOn front = (c : Content) × ((more : List ℕ) × Fits c × (front ++ more ≡ cert_text c))

-- a file is refused at the first byte with which no certificate's text goes on, one going on before it; or at its end, where it is none
abbrev pub RefusedForGood : Type 0
RefusedForGood =
    (file : List ℕ) (n : ℕ) → read_cert_of file ≡ Err (Format n)
    → (length file ≤ 67108864) × (n ≤ length file) × (n < length file → NoneGoesOn (take (n + 1) file))
    × (n ≡ length file → (c : Content) → Fits c → file ≡ cert_text c → ⊥) × GoesOn (take n file)

-- the limit is passed by a file of more than 67,108,864 bytes, and by no other
abbrev pub OverIsNamed : Type 0
OverIsNamed = (file : List ℕ) (number count : ℕ) → read_cert_of file ≡ Err (Over number count) → (number ≡ 8) × (count ≡ 67108865) × (67108864 < length file)
