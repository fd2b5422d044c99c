use Rattle.std.proofs.Common.{rules, ◌≡◌, length, true}
use Rattle.cert_text.specs.Content.{content_of}
use Rattle.cert_text.specs.Places.{is_done_at}
use Rattle.cert_reading.proofs.Joining.{read_whole}
use Rattle.cert_reading.proofs.beside.whole_of.Goals as goal

pub returns : goal.returns
returns c =
    let bytes = c.args.bytes.now in
    let read = c.args.read in
    let whole : read.end ≡ length bytes = search rules in
    let done : is_done_at read.reader.place.slot ≡ true = search rules in
    read_whole bytes read (content_of c.into_cert.result) c.requires.few c.requires.read whole done c.into_cert.ensures
