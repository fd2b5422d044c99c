use Rattle.std.proofs.Common.{◌≡◌, ap, ◌∙◌, sym, Some, None, List, Option, ℕ, subst}
use Rattle.std.specs.Prelude.{slice_get}
use Rattle.bv_term.specs.Keys.{first_from, key_of, put_at}
use Rattle.bv_term.specs.declared.term.Term.{Term}
use Rattle.bv_term.proofs.Rows.{put-found, put-fresh, put-made, put-named}
use Rattle.bv_term.proofs.table.Terms.put.Goals as goal

pub returns-in-Some-clause-named : goal.returns-in-Some-clause-named
returns-in-Some-clause-named c =
    let e : first_from 0 (key_of c.args.term) c.self.inside.terms.items ≡ Some c.in-Some.number =
    sym (ap (λ k. first_from 0 k c.self.inside.terms.items) c.of-key.ensures) ∙ sym (c.self.invariant.finds c.of-key.result) ∙ sym c.get.ensures.value ∙ sym c.copied.ensures ∙ c.in-Some.is in
    let P : List Term → Type 0 = λ ts. slice_get ts c.in-Some.number ≡ Some c.args.term in
    subst P (ap (λ t. t.terms) c.self.view_is) (put-found _ _ _ e)

pub returns-in-None-clause-put : goal.returns-in-None-clause-put
returns-in-None-clause-put c =
    let e : first_from 0 (key_of c.args.term) c.self.inside.terms.items ≡ None =
    sym (ap (λ k. first_from 0 k c.self.inside.terms.items) c.of-key.ensures) ∙ sym (c.self.invariant.finds c.of-key.result) ∙ sym c.get.ensures.value ∙ sym c.copied.ensures ∙ c.in-None.is in
    let P : List Term → Type 0 = λ ts. first_from 0 (key_of c.args.term) ts ≡ None in
    put-fresh _ _ _ _ c.enter.ensures.appended (subst P (ap (λ t. t.terms) c.self.view_is) e)

pub returns-in-None-clause-named : goal.returns-in-None-clause-named
returns-in-None-clause-named c = put-named _ _ _ _ c.enter.ensures.appended c.enter.ensures.number

pub returns-in-Some-clause-made : goal.returns-in-Some-clause-made
returns-in-Some-clause-made c =
    let e : first_from 0 (key_of c.args.term) c.self.inside.terms.items ≡ Some c.in-Some.number =
    sym (ap (λ k. first_from 0 k c.self.inside.terms.items) c.of-key.ensures) ∙ sym (c.self.invariant.finds c.of-key.result) ∙ sym c.get.ensures.value ∙ sym c.copied.ensures ∙ c.in-Some.is in
    let P : List Term → Type 0 = λ ts. first_from 0 (key_of c.args.term) ts ≡ Some c.in-Some.number in
    let found = subst P (ap (λ t. t.terms) c.self.view_is) e in
    sym (ap (λ (o : Option ℕ). put_at o c.args.self.now c.args.term) found)

pub returns-in-None-clause-made : goal.returns-in-None-clause-made
returns-in-None-clause-made c =
    let e : first_from 0 (key_of c.args.term) c.self.inside.terms.items ≡ None =
    sym (ap (λ k. first_from 0 k c.self.inside.terms.items) c.of-key.ensures) ∙ sym (c.self.invariant.finds c.of-key.result) ∙ sym c.get.ensures.value ∙ sym c.copied.ensures ∙ c.in-None.is in
    let P : List Term → Type 0 = λ ts. first_from 0 (key_of c.args.term) ts ≡ None in
    let fresh = subst P (ap (λ t. t.terms) c.self.view_is) e in
    put-made _ _ _ _ c.enter.ensures.appended c.enter.ensures.number fresh
