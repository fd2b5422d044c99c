use Rattle.std.proofs.Common.{rules, ◌≡◌, ◌+◌, length, List, ◌∷◌, map, drop, get_or, false, arith, ap, sym, ◌∙◌}
use Rattle.std.proofs.lemmas.List.{drop_more}
use Rattle.prop.specs.declared.Lit.{Lit}
use Rattle.bit_gates.specs.Quotients.{selected}
use Rattle.bit_words.specs.Elements.{stored}
use Rattle.bit_words.proofs.WordPuts.{all_long-at, map-at, map-length, map-drop, stored_put}
use Rattle.bit_words.proofs.elements.put_stored.Goals as goal

pub put_selected-requires : goal.put_selected-requires
put_selected-requires c =
    let cell = c.index-cells-i.result in
    let l = map-length (λ c. c.items) c.args.cells.now in
    let a : length (get_or (map (λ c. c.items) c.args.cells.now) c.loop-i.i cell.items) ≡ length c.args.value.now
    = all_long-at (length c.args.value.now) (map (λ c. c.items) c.args.cells.now) c.loop-i.i cell.items c.requires.widths (omega (arith, l, c.requires.places)) in
    let b = map-at (λ c. c.items) c.args.cells.now c.loop-i.i cell in
    let e : c.deref.result.now ≡ get_or (map (λ c. c.items) c.args.cells.now) c.loop-i.i cell.items
    = c.deref.ensures.value ∙ (ap (λ c. c.items) c.index-cells-i.is ∙ sym b) in
    sym (ap length e ∙ a)

pub loop-i-preserved : goal.loop-i-preserved
loop-i-preserved c =
    let i = c.loop-i.i in
    let d : Lit = record { var = 0; positive = false } in
    let p = get_or c.args.places.now i d in
    let cs = map (λ c. c.items) c.args.cells.now in
    let cell = c.index-cells-i.result in
    let z : drop i c.args.places.now ≡ p ∷ drop (i + 1) c.args.places.now = drop_more c.args.places.now i d (omega arith) in
    let y : drop i cs ≡ c.deref.result.now ∷ drop (i + 1) cs
    = map-drop (λ c. c.items) c.args.cells.now i cell (omega (arith, c.requires.places)) c.index-cells-i.is
    ∙ ap (λ (t : List Lit). t ∷ drop (i + 1) cs) (sym c.deref.ensures.value) in
    let n = c.loop-i.net.next in
    let whole = stored c.args.one c.args.net.now.next c.args.places.now cs c.args.value.now in
    let md : c.put_selected.new.net.defs.items ≡ (selected n p c.args.value.now c.deref.result.now).defs = search rules in
    let mo : c.deref-in-loop-i.result.now ≡ (selected n p c.args.value.now c.deref.result.now).outs = search rules in
    let r = stored_put c.args.one n c.fold.new.net.next c.args.value.now (drop i c.args.places.now) (drop (i + 1) c.args.places.now)
    (drop i cs) (drop (i + 1) cs) p c.deref.result.now c.put_selected.new.net.defs.items c.deref-in-loop-i.result.now
    c.loop-i.net.defs.items c.fold.new.net.defs.items c.args.net.now.next c.args.net.now.defs.items whole.defs whole.cells
    (map (λ c. c.items) c.loop-i.outs.items) (map (λ c. c.items) c.push_cell.new.cells.items) c.in_ok-cell.cell.items
    z y md mo c.loop-i.invariant.1 c.loop-i.invariant.2 c.loop-i.invariant.3 (search rules) (search rules) (search rules) in
    (search rules, r.0, r.1, r.2)
