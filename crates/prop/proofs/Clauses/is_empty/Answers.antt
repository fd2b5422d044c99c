use Rattle.std.proofs.Common.{◌≡◌, ◌∙◌, sym, ap, arith, length, List, [], ◌∷◌, refl, vec_len}
use Rattle.std.proofs.lemmas.Bool.{eq-eqb, eqb-true}
use Rattle.prop.specs.declared.Lit.{Lit}
use Rattle.prop.proofs.Pieces.{length-pieces}
use Rattle.prop.proofs.Clauses.is_empty.Goals as goal

none : (xs : List (List Lit)) → length xs ≡ 0 → xs ≡ []
none [] h = refl
none (x ∷ xs) h = absurd (omega arith)

pub returns : goal.returns
returns c =
    let h = length-pieces 0 c.self.inside.ends.items c.self.inside.lits.items in
    let e = ap length c.self.view_is in
    let v = c.self.inside.ends.ok.0 in
    (λ t. none c.args.self.now (let z : vec_len c.self.inside.ends ≡ 0 = eqb-true _ _ (sym c.is_empty.ensures ∙ t) in omega (arith, h, e, v, z)), λ n. c.is_empty.ensures ∙ eq-eqb _ _ (let z : length c.args.self.now ≡ 0 = ap length n in omega (arith, h, e, v, z)))
