use Rattle.std.proofs.Common.{◌≡◌, length, ℕ, arith, ap, ◌∙◌, List}
use Rattle.std.specs.Prelude.{slice_index}
use Rattle.bv_term.specs.WellFormed.{widths}
use Rattle.bv_term.proofs.Growing.{kept-widths, index_of}
use Rattle.bv_term.proofs.table.Terms.width_of.Goals as goal

pub index-requires : goal.index-requires
index-requires c =
    let k = kept-widths _ _ _ c.self.invariant.table c.self.invariant.widths in
    let e : length c.self.inside.terms.items ≡ length c.args.self.now.terms = ap (λ t. length t.terms) c.self.view_is in
    omega (arith, k.0, e, c.requires)

pub returns-clause-value : goal.returns-clause-value
returns-clause-value c =
    let k = kept-widths _ _ _ c.self.invariant.table c.self.invariant.widths in
    let e : length c.self.inside.terms.items ≡ length c.args.self.now.terms = ap (λ t. length t.terms) c.self.view_is in
    let w : c.self.inside.widths.items ≡ widths c.args.self.now = c.self.invariant.widths ∙ ap widths c.self.view_is in
    index_of c.self.inside.widths.items c.args.term.0 c.index.result.now (omega (arith, k.0, e, c.requires)) c.index.ensures ∙ ap (λ (ws : List ℕ). slice_index ws c.args.term.0) w

pub returns-clause-width : goal.returns-clause-width
returns-clause-width c =
    let k = kept-widths _ _ _ c.self.invariant.table c.self.invariant.widths in
    let e : length c.self.inside.terms.items ≡ length c.args.self.now.terms = ap (λ t. length t.terms) c.self.view_is in
    rw c.index.ensures (k.1 c.args.term.0 _ (omega (arith, k.0, e, c.requires)))
