use Rattle.std.proofs.Common.{◌≡◌, ◌≢◌, ℕ, ◌+◌, ◌-◌, ◌<◌, ◌≤◌, ◌&&◌, ◌||◌, ◌==◌, Bool, true, false, not, List, [], ◌∷◌, ◌++◌, length, refl, sym, ap, ◌∙◌, subst, arith, rules, Some, Result, Ok, Err, slice_get, zero, suc}
use Rattle.formula_diagrams.specs.Truths.{choice}
use Rattle.formula_diagrams.specs.Writings.{IsTruth}
use Rattle.formula_diagrams.specs.declared.writing.Side.TheVariants.{Never, Always, Written}
use Rattle.formula_diagrams.proofs.Putting.{same-result, same-truth, never-tells, always-tells, written-tells, choose_wn, choose_wa, choose_nw, choose_aw, choose_na, choose_an, choose_end}
use Rattle.formula_diagrams.proofs.writing.put_choice.Goals as goal

pub returns-in-Written-Never-clause-truth : goal.returns-in-Written-Never-clause-truth
returns-in-Written-Never-clause-truth c =
    λ (f g h : List ℕ → Bool) ft gt ht.
    let el : c.args.low ≡ Written c.in-Written-Never.lower = cc in
    let eh : c.args.high ≡ Never = cc in
    let low : IsTruth c.args.terms.now c.in-Written-Never.lower g = written-tells _ _ _ g el gt in
    let high : (store : List ℕ) → h store ≡ false = never-tells _ _ h eh ht in
    same-result _ _ (λ store. not (f store) && g store) (λ store. choice (f store) (h store) (g store)) (λ store. choose_wn (f store) (h store) (g store) (high store)) (c.put_other.ensures.truth f g ft low)

pub returns-in-Written-Always-clause-truth : goal.returns-in-Written-Always-clause-truth
returns-in-Written-Always-clause-truth c =
    λ (f g h : List ℕ → Bool) ft gt ht.
    let el : c.args.low ≡ Written c.in-Written-Always.lower = cc in
    let eh : c.args.high ≡ Always = cc in
    let low : IsTruth c.args.terms.now c.in-Written-Always.lower g = written-tells _ _ _ g el gt in
    let high : (store : List ℕ) → h store ≡ true = always-tells _ _ h eh ht in
    same-result _ _ (λ store. f store || g store) (λ store. choice (f store) (h store) (g store)) (λ store. choose_wa (f store) (h store) (g store) (high store)) (c.put_or.ensures.truth f g ft low)

pub returns-in-Never-Written-clause-truth : goal.returns-in-Never-Written-clause-truth
returns-in-Never-Written-clause-truth c =
    λ (f g h : List ℕ → Bool) ft gt ht.
    let el : c.args.low ≡ Never = cc in
    let eh : c.args.high ≡ Written c.in-Never-Written.upper = cc in
    let low : (store : List ℕ) → g store ≡ false = never-tells _ _ g el gt in
    let high : IsTruth c.args.terms.now c.in-Never-Written.upper h = written-tells _ _ _ h eh ht in
    same-result _ _ (λ store. f store && h store) (λ store. choice (f store) (h store) (g store)) (λ store. choose_nw (f store) (h store) (g store) (low store)) (c.put_and.ensures.truth f h ft high)

pub returns-in-Always-Written-clause-truth : goal.returns-in-Always-Written-clause-truth
returns-in-Always-Written-clause-truth c =
    λ (f g h : List ℕ → Bool) ft gt ht.
    let el : c.args.low ≡ Always = cc in
    let eh : c.args.high ≡ Written c.in-Always-Written.upper = cc in
    let low : (store : List ℕ) → g store ≡ true = always-tells _ _ g el gt in
    let high : IsTruth c.args.terms.now c.in-Always-Written.upper h = written-tells _ _ _ h eh ht in
    same-result _ _ (λ store. not (f store) || h store) (λ store. choice (f store) (h store) (g store)) (λ store. choose_aw (f store) (h store) (g store) (low store)) (c.put_other-in-Always-Written.ensures.truth f h ft high)

pub returns-in-Never-Always-clause-truth : goal.returns-in-Never-Always-clause-truth
returns-in-Never-Always-clause-truth c =
    λ (f g h : List ℕ → Bool) ft gt ht.
    let el : c.args.low ≡ Never = cc in
    let eh : c.args.high ≡ Always = cc in
    let low : (store : List ℕ) → g store ≡ false = never-tells _ _ g el gt in
    let high : (store : List ℕ) → h store ≡ true = always-tells _ _ h eh ht in
    same-truth _ _ f (λ store. choice (f store) (h store) (g store)) (λ store. choose_na (f store) (h store) (g store) (low store) (high store)) ft

pub returns-in-Always-Never-clause-truth : goal.returns-in-Always-Never-clause-truth
returns-in-Always-Never-clause-truth c =
    λ (f g h : List ℕ → Bool) ft gt ht.
    let el : c.args.low ≡ Always = cc in
    let eh : c.args.high ≡ Never = cc in
    let low : (store : List ℕ) → g store ≡ true = always-tells _ _ g el gt in
    let high : (store : List ℕ) → h store ≡ false = never-tells _ _ h eh ht in
    same-result _ _ (λ store. not (f store)) (λ store. choice (f store) (h store) (g store)) (λ store. choose_an (f store) (h store) (g store) (low store) (high store)) (c.put_not.ensures.truth f ft)

pub returns-in-Never-Never-clause-truth : goal.returns-in-Never-Never-clause-truth
returns-in-Never-Never-clause-truth c =
    λ (f g h : List ℕ → Bool) ft gt ht.
    let el : c.args.low ≡ Never = cc in
    let eh : c.args.high ≡ Never = cc in
    let low : (store : List ℕ) → g store ≡ false = never-tells _ _ g el gt in
    let high : (store : List ℕ) → h store ≡ false = never-tells _ _ h eh ht in
    same-result _ _ (λ store. false) (λ store. choice (f store) (h store) (g store)) (λ store. choose_end false (f store) (h store) (g store) (low store) (high store)) c.put_end.ensures.truth

pub returns-in-Always-Always-clause-truth : goal.returns-in-Always-Always-clause-truth
returns-in-Always-Always-clause-truth c =
    λ (f g h : List ℕ → Bool) ft gt ht.
    let el : c.args.low ≡ Always = cc in
    let eh : c.args.high ≡ Always = cc in
    let low : (store : List ℕ) → g store ≡ true = always-tells _ _ g el gt in
    let high : (store : List ℕ) → h store ≡ true = always-tells _ _ h eh ht in
    same-result _ _ (λ store. true) (λ store. choice (f store) (h store) (g store)) (λ store. choose_end true (f store) (h store) (g store) (low store) (high store)) c.put_end-in-Always-Always.ensures.truth
