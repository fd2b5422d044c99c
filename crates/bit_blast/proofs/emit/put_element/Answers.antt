use Rattle.std.proofs.Common.{◌≡◌, ℕ, ◌+◌, take, drop, arith, sym, ◌∙◌, subst, append-nil, IfOk, Result, Ok, Err, cond, ltb, length}
use Rattle.std.specs.Prelude.{Option, Some}
use Rattle.prop.specs.Logic.{negated}
use Rattle.bit_gates.specs.Cut.{Grew}
use Rattle.bit_words.specs.Words.{spelled_of, copies_of}
use Rattle.bit_blast.specs.Emission.{cell_at, element_of}
use Rattle.bit_blast.proofs.Flat.{element-known}
use Rattle.bit_blast.proofs.emit.put_element.Goals as goal

ok-more : {A : Type 0} {E : Type 0} (r : Result A E) (P Q : A → Type 0) → ((x : A) → P x → Q x) → IfOk r P → IfOk r Q
ok-more (Ok x) P Q f h = f x h
ok-more (Err e) P Q f h = tt

pub returns-in-Some-clause-grew : goal.returns-in-Some-clause-grew
returns-in-Some-clause-grew c =
    let cells = c.args.cells.now in
    let cs = take c.args.m (drop c.args.first cells) in
    let n = c.args.net.now.next in
    let ds = c.args.net.now.defs.items in
    let k = c.in-Some.k in
    let e : spelled_of c.args.one c.args.index.now ≡ Some k = sym c.spelled.ensures ∙ c.in-Some.is in
    let u = element-known c.args.one n cells c.args.first c.args.m c.args.index.now k c.requires.some c.requires.there in
    subst (λ (o : Option ℕ). IfOk c.put_known.result (λ r. let m = element_of c.args.one n cs c.args.index.now o in Grew n ds n ds m.defs × (r.items ≡ m.outs))) (sym e)
    (ok-more c.put_known.result
    (λ r. r.items ≡ cond (ltb k c.args.m) (cell_at cells (c.args.first + k)) (copies_of (negated c.args.one) (length (cell_at cells c.args.first))))
    (λ r. let m = element_of c.args.one n cs c.args.index.now (Some k) in Grew n ds n ds m.defs × (r.items ≡ m.outs))
    (λ r h. ((omega arith, sym (append-nil ds)), h ∙ u)) c.put_known.ensures)
