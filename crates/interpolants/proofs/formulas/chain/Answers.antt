use Rattle.std.proofs.Common.{◌≡◌, ◌≢◌, ◌+◌, ◌-◌, List, [], ◌∷◌, ◌++◌, length, sym, ap, ◌∙◌, refl, arith}
use Rattle.std.proofs.lemmas.Bool.{both_ways, eq-eqb, eqb-true}
use Rattle.bv_term.specs.declared.term.TermId.{TermId}
use Rattle.formula_diagrams.proofs.Putting.{extends-twice}
use Rattle.interpolants.proofs.KeptCells.{named-end, named-first, named-push}
use Rattle.interpolants.proofs.Listing.{formulas-one, formulas-more}
use Rattle.interpolants.proofs.Meant.{meant-more}
use Rattle.interpolants.proofs.formulas.chain.Goals as goal

pub put_inner-requires-clause-first : goal.put_inner-requires-clause-first
put_inner-requires-clause-first c =
    ap length (c.in_ok-push.ensures.items ∙ ap (λ (ts : List TermId). ts ++ c.in_ok-first.first ∷ []) c.new-formulas.ensures.items)

pub returns-then-is_empty-clause-formulas : goal.returns-then-is_empty-clause-formulas
returns-then-is_empty-clause-formulas c =
    let e = c.in_ok-push.ensures.items ∙ ap (λ (ts : List TermId). ts ++ c.in_ok-first.first ∷ []) c.new-formulas.ensures.items in
    let none : length c.args.path.now ≡ 0 = eqb-true (length c.args.path.now) 0 (sym c.is_empty.ensures ∙ c.if-is_empty.true) in
    let few : length c.args.query.now.starts - 1 ≡ 0 = omega (arith, none, c.requires.query.starts) in
    formulas-one c.put_end.new.terms c.put_inner.new.terms _ _ c.in_ok-first.first _ _ e c.put_inner.ensures.extends c.in_ok-first.ensures.bit
    c.in_ok-first.ensures.value c.in_ok-put_inner.ensures.adds none few

pub returns-clause-formulas : goal.returns-clause-formulas
returns-clause-formulas c =
    let e = c.in_ok-push.ensures.items ∙ ap (λ (ts : List TermId). ts ++ c.in_ok-first.first ∷ []) c.new-formulas.ensures.items in
    let some : length c.args.path.now ≢ 0 = λ q. both_ways _ (sym c.is_empty.ensures ∙ c.if-is_empty.false) (eq-eqb (length c.args.path.now) 0 q) in
    let many : length c.args.query.now.starts - 1 + 1 ≡ length c.args.path.now = omega (arith, some, c.requires.query.starts) in
    let whole = extends-twice _ _ _ c.put_inner.ensures.extends c.put_end-2.ensures.extends in
    formulas-more c.put_end.new.terms c.put_inner.new.terms c.put_end-2.new.terms _ _ c.in_ok-first.first c.in_ok-last.last _ _ _ e
    c.put_inner.ensures.extends c.put_end-2.ensures.extends whole c.in_ok-first.ensures.bit c.in_ok-first.ensures.value
    c.in_ok-put_inner.ensures.adds many c.in_ok-last.ensures.bit c.in_ok-last.ensures.value c.in_ok-push-2.ensures.items

pub returns-clause-meaning : goal.returns-clause-meaning
returns-clause-meaning c =
    let one = ap length (c.in_ok-push.ensures.items ∙ ap (λ (ts : List TermId). ts ++ c.in_ok-first.first ∷ []) c.new-formulas.ensures.items) in
    meant-more c.put_inner.new.terms c.put_end-2.new.terms c.args.query.now c.args.log.now _ _ _ _ c.in_ok-last.last c.put_end-2.ensures.extends one
    c.in_ok-put_inner.ensures.adds refl c.in_ok-put_inner.ensures.meaning c.in_ok-push-2.ensures.items

pub put_inner-requires-clause-named : goal.put_inner-requires-clause-named
put_inner-requires-clause-named c =
    let e = c.in_ok-push.ensures.items ∙ ap (λ (ts : List TermId). ts ++ c.in_ok-first.first ∷ []) c.new-formulas.ensures.items in
    named-first c.put_end.new.terms c.args.query.now c.in_ok-first.first _ e c.in_ok-first.ensures.value

pub returns-clause-names : goal.returns-clause-names
returns-clause-names c =
    named-push c.put_inner.new.terms c.put_end-2.new.terms c.args.query.now _ _ _ c.in_ok-last.last c.put_end-2.ensures.extends c.in_ok-put_inner.ensures.names refl
    (named-end c.put_end-2.new.terms c.args.query.now _ 0 c.in_ok-last.last c.in_ok-last.ensures.value) c.in_ok-push-2.ensures.items
