use Rattle.std.proofs.Common.{◌≡◌, drop, ◌++◌}
use Rattle.cert_text.specs.CertText.{hex_text}
use Rattle.cert_text.proofs.writing.push_hex.Given as goal

abbrev pub invariant-loop-byte : goal.invariant-loop-byte
invariant-loop-byte l = l.file.items ++ hex_text (drop l.byte-index l.bytes) ≡ l.initial.file.items ++ hex_text l.bytes
