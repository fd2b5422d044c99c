use Rattle.std.proofs.Common.{◌≡◌, drop}
use Rattle.cert_text.specs.Drafts.{said_of}
use Rattle.cert_text.specs.Walks.{walk}
use Rattle.cert_text.proofs.readers.Reader.read_on.Given as goal

abbrev pub invariant-loop-at : goal.invariant-loop-at
invariant-loop-at l = record {
  rest : walk (said_of l.draft) l.place l.part l.at (drop l.at l.bytes) ≡ walk (said_of l.fn.self.draft) l.fn.self.place l.fn.self.part 0 l.bytes;
}
