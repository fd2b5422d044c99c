use Rattle.std.proofs.Common.{rules, ◌≡◌, ◌≤◌, ◌<◌, ℕ, List, [], length, take, IfSome, Ok, refl, subst, sym, arith, ◌∙◌, ap}
use Rattle.std.specs.Io.KnownBytes.{Consumes, IsAtEnd, ReadConsumes}
use Rattle.lv_outside.proofs.StreamLemmas.{nothing, more, all_of, longer}
use Rattle.lv_outside.proofs.streams.read_whole.Goals as goal

pub parts-init : goal.parts-init
parts-init g c = subst (λ xs. Consumes (g.R.Read.remaining c.args.from.now) (g.R.Read.remaining c.args.from.now) xs) (sym c.new-bytes.ensures.items) (nothing (g.R.Read.remaining c.args.from.now))

pub returns-in-Ok-eq0-clause-whole : goal.returns-in-Ok-eq0-clause-whole
returns-in-Ok-eq0-clause-whole g c =
    let zero = c.in-Ok-eq0.field-0-test in
    let some : 0 < length c.read.new.buf = search rules in
    all_of (g.R.Read.remaining c.args.from.now) (g.R.Read.remaining c.parts.from) (g.R.Read.remaining c.read.new.self) c.parts.bytes.items (take c.in-Ok-eq0.field-0 c.read.new.buf) c.args.most
    c.parts.invariant c.in-Ok-eq0.ensures.bytes.0 (ap (λ n. take n c.read.new.buf) zero) (c.in-Ok-eq0.ensures.bytes.1 zero some) (omega (arith, c.len.ensures, c.parts.bytes.ok.0, c.parts-test.true))

pub parts-preserved : goal.parts-preserved
parts-preserved g c =
    more (g.R.Read.remaining c.args.from.now) (g.R.Read.remaining c.parts.from) (g.R.Read.remaining c.read.new.self) c.parts.bytes.items (take c.in-Ok.n c.read.new.buf) c.extend_from_slice.new.self.items
    c.parts.invariant c.in-Ok.ensures.bytes.0 c.in_ok-extend_from_slice-in-Ok.ensures.items

pub returns-clause-whole : goal.returns-clause-whole
returns-clause-whole g c =
    longer (g.R.Read.remaining c.args.from.now) (g.R.Read.remaining c.parts.from) c.parts.bytes.items c.args.most c.parts.invariant (omega (arith, c.len.ensures, c.parts.bytes.ok.0, c.parts-test.false))
