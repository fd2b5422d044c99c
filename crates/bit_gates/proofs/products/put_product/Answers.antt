use Rattle.std.proofs.Common.{rules, ◌≡◌, ℕ, ◌+◌, ◌-◌, drop, ◌∷◌, arith, ap, ◌∙◌, get_or, false}
use Rattle.prop.specs.declared.Lit.{Lit}
use Rattle.std.proofs.lemmas.List.{drop_more}
use Rattle.bit_gates.proofs.Puts.{product_put}
use Rattle.bit_gates.proofs.products.put_product.Goals as goal

pub loop-left-preserved : goal.loop-left-preserved
loop-left-preserved c =
    let i = c.loop-left.left - 1 in
    let back : i + 1 ≡ c.loop-left.left = omega arith in
    let d : Lit = record { var = 0; positive = false } in
    let y = get_or c.args.ys.now i d in
    let z : drop i c.args.ys.now ≡ y ∷ drop c.loop-left.left c.args.ys.now
    = drop_more c.args.ys.now i d (omega arith) ∙ ap (λ (t : ℕ). y ∷ drop t c.args.ys.now) back in
    let p = product_put c.args.net.now.next c.loop-left.net.next c.put_row.new.net.next c.args.a c.args.xs.now
    (drop c.loop-left.left c.args.ys.now) (drop i c.args.ys.now) y
    c.args.net.now.defs.items c.loop-left.net.defs.items c.put_row.new.net.defs.items c.loop-left.low.items c.in_ok-low.low.items
    z (search rules) (search rules) (search rules) (search rules) in
    (omega arith, search rules, p.0.0, p.0.1, p.1, search rules)
