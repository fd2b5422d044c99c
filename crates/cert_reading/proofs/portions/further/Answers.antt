use Rattle.std.proofs.Common.{rules, ◌≡◌}
use Rattle.cert_text.specs.Drafts.{said_of}
use Rattle.cert_text.specs.Walks.{before_log, joined, state_of}
use Rattle.cert_reading.specs.Portions.{IsReadFrom}
use Rattle.cert_reading.proofs.Joining.{read_further}
use Rattle.cert_reading.proofs.portions.further.Goals as goal

pub returns : goal.returns
returns c =
    let bytes = c.args.task.bytes.now in
    let front = c.args.task.front in
    let stretch = c.args.portion.stretch in
    let beginning = c.args.beginning in
    let next = c.in_ok-next.next in
    let new = c.in_ok-reader.reader in
    let from : IsReadFrom front bytes stretch next = search rules in
    let fits : stretch.from ≡ beginning.end = search rules in
    let stands : state_of beginning.reader ≡ joined (said_of beginning.reader.draft) (before_log front stretch.left) = c.is_before_log.ensures (search rules) in
    let is : state_of new ≡ joined (said_of beginning.reader.draft) (state_of next) = search rules in
    read_further bytes front stretch beginning next new c.requires.beginning from fits stands is
