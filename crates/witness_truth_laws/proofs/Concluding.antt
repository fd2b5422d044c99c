-- What is written of a formula is true where the formula holds.
use Rattle.std.proofs.Common.{suc}
use Rattle.loop_names.specs.Spellings.{spellings_of}
use Rattle.witness_truth_laws.specs.Written.{place_of, parts_of, written_of, Reads}
use Rattle.witness_truth_laws.specs.Laws.{WrittenIsTrue, WrittenHasValue}
use Rattle.witness_truth_laws.proofs.Truths.{said, told-value, parts-true, conjunction-true, only}
use Rattle.witness_truth_laws.proofs.Naming.{reads}

pub written-is-true : WrittenIsTrue
written-is-true env model inputs functions call cells table formula keyword condition at store st is wide stored fits holds tells place =
    let places = place_of (spellings_of env keyword condition) cells in
    let read = reads (Reads table.terms formula) env model inputs functions call keyword condition at st cells table.cells store wide tells place in
    conjunction-true env model inputs functions call at st table store places is (Reads table.terms formula) read (parts_of places table.terms formula)
    (parts-true env model inputs functions call at st table store places is (Reads table.terms formula) read stored (suc formula.0) formula (only (Reads table.terms formula) table.terms (suc formula.0) formula (λ c r. r)) fits.0 fits.1 holds)

pub written-has-value : WrittenHasValue
written-has-value env model inputs functions call cells table term keyword condition at store st is wide tells place x e =
    let places = place_of (spellings_of env keyword condition) cells in
    let read = reads (Reads table.terms term) env model inputs functions call keyword condition at st cells table.cells store wide tells place in
    told-value env model inputs functions call at st table store places is (Reads table.terms term) read term (written_of places table.terms term) x e
    (said env model inputs functions call at st table store places is (Reads table.terms term) read (suc term.0) term (only (Reads table.terms term) table.terms (suc term.0) term (λ c r. r)))
