-- How a certificate is written.
use Rattle.std.specs.Prelude.{List, ℕ, length, nat_lt, if◌then◌else◌, Result, Ok, Err, ◌≡◌, ◌<◌, ◌⊎◌}
use Rattle.stored_text.specs.declared.StoredFail.{StoredFail}
use Rattle.stored_text.specs.declared.StoredFail.TheVariants.{Over, Memory}
use Rattle.cert_text.specs.Content.{Content}
use Rattle.cert_text.specs.CertText.{cert_text}

-- the text, where it is not too long
abbrev pub write_cert_of : Content → Result (List ℕ) StoredFail
write_cert_of c = if nat_lt 67108864 (length (cert_text c)) then Err (Over 8 67108865) else Ok (cert_text c)

-- why writing stops: memory runs out, or a text that the certificate's begins with is too long already
abbrev pub Stops : List ℕ → StoredFail → Type 0
Stops text e = (e ≡ Memory) ⊎ ((e ≡ Over 8 67108865) × (67108864 < length text))
