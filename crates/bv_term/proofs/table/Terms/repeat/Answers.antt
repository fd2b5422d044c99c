use Rattle.std.proofs.Common.{◌<◌, ◌^◌, length, ℕ, arith, sym, List, subst, IsSome}
use Rattle.bv_term.specs.WellFormed.{Table, FitsTable, Fits, widths}
use Rattle.bv_term.specs.Keys.{first_from, key_of}
use Rattle.bv_term.proofs.Rows.{kept-repeat}
use Rattle.bv_term.proofs.table.Terms.repeat.Goals as goal

pub invariant_of-self-2 : goal.invariant_of-self-2
invariant_of-self-2 c =
    let a = c.in_ok-push_both.ensures in
    let v = c.self.view_is in
    let FitsIn : Table → Type 0 = λ t. FitsTable t c.args.term in
    let There : Table → Type 0 = λ t. IsSome (first_from 0 (key_of c.args.term) t.terms) in
    let fits : Fits c.self.inside.cells.items (widths (record { cells = c.self.inside.cells.items; terms = c.self.inside.terms.items })) c.args.term = subst FitsIn (sym v) c.requires.fits in
    let fits2 : Fits c.self.inside.cells.items c.self.inside.widths.items c.args.term = (let P : List ℕ → Type 0 = λ ws. Fits c.self.inside.cells.items ws c.args.term in subst P (sym c.self.invariant.widths) fits) in
    let few : length c.self.inside.terms.items < 2 ^ 32 = c.self.invariant.few in
    rw (a.terms, a.widths, c.width_over-width.ensures, c.deref.ensures.value, c.deref-2.ensures.value) (kept-repeat _ _ _ _ _ c.self.invariant fits2 (omega (arith, c.len-number.ensures, c.if-number.false)) (subst There (sym v) c.requires.there))
