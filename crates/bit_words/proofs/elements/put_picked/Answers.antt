use Rattle.std.proofs.Common.{rules, ◌≡◌, ℕ, ◌+◌, ◌-◌, length, List, ◌∷◌, map, drop, get_or, false, arith, ap, sym, ◌∙◌}
use Rattle.std.proofs.lemmas.List.{drop_more}
use Rattle.prop.specs.declared.Lit.{Lit}
use Rattle.bit_words.proofs.WordPuts.{all_long-at, map-at, map-length, map-drop, picked_put}
use Rattle.bit_words.proofs.elements.put_picked.Goals as goal

pub put_selected-requires : goal.put_selected-requires
put_selected-requires c =
    let cell = c.index-cells-left.result in
    let l = map-length (λ c. c.items) c.args.cells.now in
    let i = c.loop-left.left - 1 in
    let a : length (get_or (map (λ c. c.items) c.args.cells.now) i cell.items) ≡ length c.args.z.now
    = all_long-at (length c.args.z.now) (map (λ c. c.items) c.args.cells.now) i cell.items c.requires.widths (omega (arith, l, c.requires.places)) in
    let b = map-at (λ c. c.items) c.args.cells.now i cell in
    let e : c.deref.result.now ≡ get_or (map (λ c. c.items) c.args.cells.now) i cell.items
    = c.deref.ensures.value ∙ (ap (λ c. c.items) c.index-cells-left.is ∙ sym b) in
    ap length e ∙ (a ∙ (sym c.loop-left.invariant.5 ∙ sym (ap length c.deref-in-loop-left.ensures.value)))

pub loop-left-preserved : goal.loop-left-preserved
loop-left-preserved c =
    let i = c.loop-left.left - 1 in
    let back : i + 1 ≡ c.loop-left.left = omega arith in
    let d : Lit = record { var = 0; positive = false } in
    let e = get_or c.args.places.now i d in
    let cs = map (λ c. c.items) c.args.cells.now in
    let cell = c.index-cells-left.result in
    let z : drop i c.args.places.now ≡ e ∷ drop c.loop-left.left c.args.places.now
    = drop_more c.args.places.now i d (omega arith) ∙ ap (λ (t : ℕ). e ∷ drop t c.args.places.now) back in
    let y : drop i cs ≡ c.deref.result.now ∷ drop c.loop-left.left cs
    = map-drop (λ c. c.items) c.args.cells.now i cell (omega (arith, c.requires.places)) c.index-cells-left.is
    ∙ (ap (λ (t : ℕ). cell.items ∷ drop t cs) back ∙ ap (λ (t : List Lit). t ∷ drop c.loop-left.left cs) (sym c.deref.ensures.value)) in
    let p = picked_put c.args.net.now.next c.loop-left.net.next c.put_selected.new.net.next (drop i c.args.places.now) (drop c.loop-left.left c.args.places.now)
    (drop i cs) (drop c.loop-left.left cs) e c.deref.result.now c.args.z.now c.args.net.now.defs.items c.loop-left.net.defs.items c.put_selected.new.net.defs.items
    c.deref-in-loop-left.result.now c.in_ok-outs.outs.items z y (search rules) (search rules) (search rules) (search rules) (search rules) in
    let l = map-length (λ c. c.items) c.args.cells.now in
    let a : length (get_or cs i cell.items) ≡ length c.args.z.now
    = all_long-at (length c.args.z.now) cs i cell.items c.requires.widths (omega (arith, l, c.requires.places)) in
    let w : c.deref.result.now ≡ get_or cs i cell.items
    = c.deref.ensures.value ∙ (ap (λ c. c.items) c.index-cells-left.is ∙ sym (map-at (λ c. c.items) c.args.cells.now i cell)) in
    (omega arith, search rules, p.0.0, p.0.1, p.1, c.in_ok-outs.ensures.many ∙ (ap length w ∙ a))
