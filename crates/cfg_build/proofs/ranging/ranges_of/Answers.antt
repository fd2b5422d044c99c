use Rattle.std.proofs.Common.{◌≡◌, suc, ◌+◌, ◌≤◌, ◌∙◌, length, Some, slice_get, sym, ap, arith, rules}
use Rattle.std.specs.Prelude.{slice_set}
use Rattle.std.proofs.lemmas.List.{length-set}
use Rattle.slot_values.specs.Linked.{link_of}
use Rattle.cfg_build.specs.declared.placing.Range.{Range}
use Rattle.cfg_build.specs.Ranges.{range_of, entry_or, slot_or}
use Rattle.cfg_build.proofs.Linking.{range-there, alike-more, ranges-same}
use Rattle.cfg_build.proofs.Laying.{laid-more, laid-whole}
use Rattle.cfg_build.proofs.ranging.ranges_of.Goals as goal

pub loop-number-preserved : goal.loop-number-preserved
loop-number-preserved c =
    let links = c.args.code.now.links.items in
    let end = length c.args.code.now.instructions.items in
    let n = c.loop-number.number in
    let x = c.in-Some.link in
    let there : slice_get links n ≡ Some x = search rules in
    let next : suc n ≡ n + 1 = omega arith in
    let long = c.loop-number.invariant.0 in
    let r = c.range_of.result in
    let is : r ≡ range_of (link_of x) (entry_or end (slice_get links (n + 1))) (slot_or c.args.slots (slice_get links (n + 1))) =
    c.range_of.ensures ∙ ap (λ e. range_of (link_of x) e c.slot_at-bound.result) c.entry_at-end.ensures ∙ ap (range_of (link_of x) (entry_or end (slice_get links (n + 1)))) c.slot_at-bound.ensures in
    let put : c.put_range.new.ranges.items ≡ slice_set c.loop-number.ranges.items x.function (range_of (link_of x) (entry_or end (slice_get links (n + 1))) (slot_or c.args.slots (slice_get links (n + 1)))) =
    c.put_range.ensures ∙ ap (λ (z : Range). slice_set c.loop-number.ranges.items z.function z) is in (
      ap length c.put_range.ensures ∙ length-set c.loop-number.ranges.items r.function r ∙ long,
      λ all many stand. alike-more all c.loop-number.ranges.items c.put_range.new.ranges.items links n (n + 1) _ _ x there next (long ∙ sym many)
          (range-there end c.args.slots links all n (n + 1) x stand there (sym next)) put (c.loop-number.invariant.1 all many stand),
      laid-more end c.args.slots links n (n + 1) x _ _ _ there next put c.loop-number.invariant.2,
    )

pub returns-clause-stand : goal.returns-clause-stand
returns-clause-stand c = λ all many stand has.
    let links = c.args.code.now.links.items in
    let past : length links ≤ c.loop-number.number = search rules in
    ranges-same c.loop-number.ranges.items all links c.loop-number.number past (c.loop-number.invariant.0 ∙ sym many) has (c.loop-number.invariant.1 all many stand)

pub returns-clause-made : goal.returns-clause-made
returns-clause-made c =
    let links = c.args.code.now.links.items in
    let past : length links ≤ c.loop-number.number = search rules in
    laid-whole (length c.args.code.now.instructions.items) c.args.slots links c.loop-number.number _ _ past c.loop-number.invariant.2
