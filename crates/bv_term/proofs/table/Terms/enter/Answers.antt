use Rattle.std.proofs.Common.{◌≡◌, ◌<◌, ◌^◌, length, ℕ, arith, ◌∙◌, sym, List, None, subst, Result, Ok, Err, false}
use Rattle.std.specs.Prelude.{OnOk, is_err}
use Rattle.bv_term.specs.WellFormed.{Table, FitsTable, Fits, widths}
use Rattle.bv_term.specs.Keys.{first_from}
use Rattle.bv_term.proofs.Rows.{kept-enter-at}
use Rattle.bv_term.proofs.table.Terms.enter.Goals as goal

on-ok : {A E : Type 0} (r : Result A E) (P : Type 0) → is_err r ≡ false → OnOk r P → P
on-ok (Ok x) P h p = p
on-ok (Err x) P h p = absurd (cc)

pub invariant_of-self-else-is_err : goal.invariant_of-self-else-is_err
invariant_of-self-else-is_err c =
    let a = c.in_ok-push_both.ensures in
    let v = c.self.view_is in
    let FitsIn : Table → Type 0 = λ t. FitsTable t c.args.term in
    let Fresh : Table → Type 0 = λ t. first_from 0 c.args.key t.terms ≡ None in
    let fits : Fits c.self.inside.cells.items (widths (record { cells = c.self.inside.cells.items; terms = c.self.inside.terms.items })) c.args.term = subst FitsIn (sym v) c.requires.fits in
    let fits2 : Fits c.self.inside.cells.items c.self.inside.widths.items c.args.term = (let P : List ℕ → Type 0 = λ ws. Fits c.self.inside.cells.items ws c.args.term in subst P (sym c.self.invariant.widths) fits) in
    let number : c.len-number.result ≡ length c.self.inside.terms.items = omega (arith, c.len-number.ensures) in
    let few : length c.self.inside.terms.items < 2 ^ 32 = c.self.invariant.few in
    rw (a.terms, a.widths, c.width_over-width.ensures, c.deref.ensures.value, c.deref-2.ensures.value) (kept-enter-at _ _ _ c.self.inside.numbers _ _ c.args.key c.len-number.result c.requires.key number c.self.invariant fits2 (omega (arith, c.len-number.ensures, c.if-number.false)) (subst Fresh (sym v) c.requires.fresh) (on-ok _ _ (sym c.is_err.ensures.value ∙ c.if-is_err.false) c.insert.ensures.updates))
