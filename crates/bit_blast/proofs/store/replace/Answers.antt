use Rattle.std.proofs.Common.{rules, ◌≡◌, ℕ, List, ◌+◌, length, map, take, drop, arith, ap, sym, ◌∙◌, suc, subst}
use Rattle.prop.specs.declared.Lit.{Lit}
use Rattle.bit_words.specs.Elements.{AllLong}
use Rattle.bit_words.proofs.WordPuts.{map-length}
use Rattle.bit_blast.specs.Emission.{cell_at}
use Rattle.bit_blast.specs.Held.{placed}
use Rattle.bit_blast.proofs.Steps.{replaced_put}
use Rattle.bit_blast.proofs.Flat.{replace-turn, replaced-fits, placed-many}
use Rattle.bit_blast.proofs.store.replace.Goals as goal

pub set-requires-clause-many : goal.set-requires-clause-many
set-requires-clause-many c =
    let all = map (λ c. c.items) c.args.news.items in
    let cells = c.args.cells.now in
    let w = length (cell_at cells c.args.first) in
    let m : length all ≡ length c.args.news.items = map-length (λ c. c.items) c.args.news.items in
    let t = replace-turn (λ c. c.items) cells c.loop-to.cells all c.args.first c.loop-to.news.items c.pop.new.self.items c.in-Some.to c.in-Some.ensures.items
    c.loop-to.invariant.0 c.loop-to.invariant.1 c.loop-to.invariant.3 in
    let n : c.len.result ≡ length c.pop.new.self.items = search rules in
    let h : AllLong w (take (length all) (drop c.args.first cells)) = subst (λ (k : ℕ). AllLong w (take k (drop c.args.first cells))) (sym m) c.requires.widths in
    let fits = replaced-fits w cells c.loop-to.cells c.args.first (length c.pop.new.self.items) all c.in-Some.to.items c.requires.news h (omega (arith, m, c.requires.there)) t.1 t.2 t.3 in
    ap length c.deref.ensures.value ∙ (fits ∙ ap (λ (k : ℕ). length (cell_at c.loop-to.cells (c.args.first + k))) (sym n))

pub loop-to-preserved : goal.loop-to-preserved
loop-to-preserved c =
    let new = c.pop.new.self.items in
    let to = c.in-Some.to in
    let all = map (λ c. c.items) c.args.news.items in
    let t = replace-turn (λ c. c.items) c.args.cells.now c.loop-to.cells all c.args.first c.loop-to.news.items new to c.in-Some.ensures.items
    c.loop-to.invariant.0 c.loop-to.invariant.1 c.loop-to.invariant.3 in
    let n : c.len.result ≡ length new = search rules in
    let put : c.set.new.self ≡ placed c.loop-to.cells (c.args.first + length new) to.items
    = c.set.ensures ∙ (ap (λ (l : List Lit). placed c.loop-to.cells (c.args.first + c.len.result) l) c.deref.ensures.value
    ∙ ap (λ (k : ℕ). placed c.loop-to.cells (c.args.first + k) to.items) n) in (
      t.0,
      omega (arith, t.1),
      ap length put ∙ (placed-many c.loop-to.cells (c.args.first + length new) to.items ∙ c.loop-to.invariant.2),
      replaced_put c.args.cells.now c.loop-to.cells c.set.new.self c.args.first (length new) (drop (suc (length new)) all) (drop (length new) all) to.items t.3 t.2 put,
    )
