use Rattle.std.proofs.Common.{Some, ap}
use Rattle.bit_words.specs.Words.{spelled_of}
use Rattle.bit_blast.specs.Held.{Held, known_index}
use Rattle.bit_blast.proofs.Over.{if-ok, over-stored}
use Rattle.bit_blast.proofs.bits.Bits.store_at.Goals as goal

pub returns-clause-over : goal.returns-clause-over
returns-clause-over c =
    if-ok c.close.result _
    (λ table o. over-stored table c.close.new.next c.put_one.new.net.next c.in-Ok.one (Some c.in-Ok.one) c.args.self.now c.self.inside.cells
    c.put_store-stored.new.cells c.clear.new.self c.args.first c.args.count c.args.index.now c.args.value.now
    (known_index c.args.count (spelled_of c.in-Ok.one c.args.index.now)) (ap (λ (h : Held). h.cells) c.self.view_is) c.clear.ensures c.requires.there c.requires.widths
    c.in-Ok-stored.ensures.grew.1 o)
