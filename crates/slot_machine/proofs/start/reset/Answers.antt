use Rattle.std.proofs.Common.{rules, ◌≡◌, ◌<◌, ◌+◌, ap, sym, ◌∙◌, arith, [], length, get_or, set, map, take}
use Rattle.std.proofs.lemmas.List.{length-map}
use Rattle.slot_machine.proofs.Fitting.{default_same, size_same, reset_more, reset_sizes}
use Rattle.slot_machine.proofs.start.reset.Goals as goal

pub copy_from-requires : goal.copy_from-requires
copy_from-requires c =
    let low : c.objects.index < length c.objects.store = omega arith in
    let low2 : c.objects.index < length c.args.first.now = omega (arith, length-map c.objects.store length, length-map c.args.first.now length, ap length c.objects.invariant.0) in
    let f : c.index-first-index.result ≡ get_or c.args.first.now c.objects.index c.index-first-index.result = search rules in
    ap length (default_same c.objects.store c.objects.index _ [] low) ∙ size_same c.objects.store c.args.first.now c.objects.index c.objects.invariant.0 ∙ ap length (default_same c.args.first.now c.objects.index [] c.index-first-index.result low2 ∙ sym f)

pub objects-preserved : goal.objects-preserved
objects-preserved c =
    let low : c.objects.index < length c.objects.store = omega arith in
    let low2 : c.objects.index < length c.args.first.now = omega (arith, length-map c.objects.store length, length-map c.args.first.now length, ap length c.objects.invariant.0) in
    let f : c.index-first-index.result ≡ get_or c.args.first.now c.objects.index c.index-first-index.result = search rules in
    let g : c.copy_from.new.self ≡ get_or c.args.first.now c.objects.index [] = c.copy_from.ensures ∙ f ∙ default_same c.args.first.now c.objects.index c.index-first-index.result [] low2 in (
      ap (λ row. map length (set c.objects.store c.objects.index row)) g ∙ reset_sizes c.objects.store c.args.first.now c.objects.index c.objects.invariant.0,
      ap (λ row. take (c.objects.index + 1) (set c.objects.store c.objects.index row)) g ∙ reset_more c.objects.store c.args.first.now c.objects.index low c.objects.invariant.0 c.objects.invariant.1,
    )
