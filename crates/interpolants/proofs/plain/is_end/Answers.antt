use Rattle.std.proofs.Common.{◌≡◌, ℕ, Some, slice_get, sym, ap, ◌∙◌, rules}
use Rattle.bv_term.specs.declared.term.Term.{Term}
use Rattle.bv_term.specs.declared.term.Term.TheVariants.{Constant}
use Rattle.bv_term.specs.Numbers.{truth}
use Rattle.interpolants.proofs.Settling.{end-value, end-false}
use Rattle.interpolants.proofs.plain.is_end.Goals as goal

pub returns-in-Constant-eq1-eq0 : goal.returns-in-Constant-eq1-eq0
returns-in-Constant-eq1-eq0 c =
    let a : c.in-Constant-eq1-eq0.field-0 ≡ 1 = search rules in
    let b : c.in-Constant-eq1-eq0.field-1 ≡ 0 = search rules in
    let s : slice_get c.args.terms.now.terms c.args.term.0 ≡ Some (Constant 1 0) =
    c.get.ensures ∙ ap (λ (t : Term). Some t) (c.in-Constant-eq1-eq0.is ∙ ap (λ (n : ℕ). Constant n c.in-Constant-eq1-eq0.field-1) a ∙ ap (λ (n : ℕ). Constant 1 n) b) in
    λ e f h store. end-value _ _ _ _ f c.count-count.ensures.table s (ap truth (sym (end-false c.args.value e))) h store

pub returns-in-Constant-eq1-eq1 : goal.returns-in-Constant-eq1-eq1
returns-in-Constant-eq1-eq1 c =
    let a : c.in-Constant-eq1-eq1.field-0 ≡ 1 = search rules in
    let b : c.in-Constant-eq1-eq1.field-1 ≡ 1 = search rules in
    let s : slice_get c.args.terms.now.terms c.args.term.0 ≡ Some (Constant 1 1) =
    c.get.ensures ∙ ap (λ (t : Term). Some t) (c.in-Constant-eq1-eq1.is ∙ ap (λ (n : ℕ). Constant n c.in-Constant-eq1-eq1.field-1) a ∙ ap (λ (n : ℕ). Constant 1 n) b) in
    λ e f h store. end-value _ _ _ _ f c.count-count.ensures.table s (ap truth (sym e)) h store
