use Rattle.std.proofs.Common.{◌≡◌, length, map, arith, ap, ◌∙◌}
use Rattle.bit_words.specs.Elements.{decoded, stored}
use Rattle.bit_words.proofs.WordPuts.{map-length}
use Rattle.bit_blast.proofs.Lengths.{folded-outs, decoded-length}
use Rattle.bit_blast.proofs.Steps.{stored-many}
use Rattle.bit_blast.proofs.store.put_store_open.Goals as goal

pub put_stored-requires-clause-places : goal.put_stored-requires-clause-places
put_stored-requires-clause-places c =
    let d1 : length c.deref-2.result.now ≡ length c.in_ok-places.places.items = ap length c.deref-2.ensures.value in
    let d2 : length c.in_ok-places.places.items ≡ length c.deref.result.now = ap length c.in_ok-places.ensures.grew.1 ∙ folded-outs c.args.one c.args.net.now.next (record { defs = c.put_decoded.new.net.defs.items; outs = c.deref.result.now }) in
    let d3 : length c.deref.result.now ≡ length (decoded c.new-made.result.next c.args.one c.args.index.now (length c.args.cells.now)).outs
    = ap length (c.deref.ensures.value ∙ c.in_ok-raw.ensures.grew.1) in
    omega (arith, d1, d2, d3, decoded-length c.new-made.result.next c.args.one c.args.index.now (length c.args.cells.now) c.requires.some)

pub returns-clause-many : goal.returns-clause-many
returns-clause-many c =
    let cs = map (λ c. c.items) c.args.cells.now in
    let a = map-length (λ c. c.items) c.in_ok-news.news.items in
    let b : length (map (λ c. c.items) c.in_ok-news.news.items) ≡ length (stored c.args.one c.fold.new.net.next c.deref-2.result.now cs c.args.value.now).cells = ap length c.in_ok-news.ensures.grew.1 in
    let m = map-length (λ c. c.items) c.args.cells.now in
    omega (arith, a, b, m, stored-many c.args.one c.fold.new.net.next c.deref-2.result.now cs c.args.value.now)
