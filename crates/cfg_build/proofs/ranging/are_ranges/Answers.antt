use Rattle.std.proofs.Common.{◌≡◌, suc, ◌+◌, ◌≤◌, length, Some, slice_get, sym, subst, arith, rules}
use Rattle.std.specs.Prelude.{IsTrue}
use Rattle.std.proofs.lemmas.Bool.{false≢true}
use Rattle.slot_values.specs.Linked.{link_of}
use Rattle.cfg_build.specs.Ranges.{IsRange, entry_or}
use Rattle.cfg_build.proofs.Linking.{range-there, ranges-more, ranges-whole}
use Rattle.cfg_build.proofs.ranging.are_ranges.Goals as goal

pub loop-number-preserved : goal.loop-number-preserved
loop-number-preserved c =
    let links = c.args.code.now.links.items in
    let code = c.args.code.now.instructions.items in
    let n = c.loop-number.number in
    let there : slice_get links n ≡ Some c.in-Some.link = search rules in
    let passed : IsTrue c.is_range_of.result = search rules in
    let range : IsRange (link_of c.in-Some.link) c.entry_at-end.result c.slot_at-bound.result c.args.ranges.now = c.is_range_of.ensures.0 passed in
    let next : suc n ≡ n + 1 = omega arith in
    ranges-more (length code) c.args.slots links n (n + 1) c.in-Some.link c.args.ranges.now there next
    (subst (λ b. IsRange (link_of c.in-Some.link) (entry_or (length code) (slice_get links (n + 1))) b c.args.ranges.now) c.slot_at-bound.ensures
    (subst (λ e. IsRange (link_of c.in-Some.link) e c.slot_at-bound.result c.args.ranges.now) c.entry_at-end.ensures range))
    c.loop-number.invariant

pub returns : goal.returns
returns c =
    let links = c.args.code.now.links.items in
    let past : length links ≤ c.loop-number.number = search rules in
    (λ t. ranges-whole (length c.args.code.now.instructions.items) c.args.slots links c.loop-number.number c.args.ranges.now past c.loop-number.invariant, λ h. search rules)

pub returns-then-not-is_range_of : goal.returns-then-not-is_range_of
returns-then-not-is_range_of c =
    let links = c.args.code.now.links.items in
    let end = length c.args.code.now.instructions.items in
    let n = c.loop-number.number in
    let there : slice_get links n ≡ Some c.in-Some.link = search rules in
    let next : n + 1 ≡ suc n = omega arith in (
      λ t. absurd (false≢true t),
      λ h. c.if-not-is_range_of.ensures.1 (
          subst (λ e. IsRange (link_of c.in-Some.link) e c.slot_at-bound.result c.args.ranges.now) (sym c.entry_at-end.ensures)
          (subst (λ b. IsRange (link_of c.in-Some.link) (entry_or end (slice_get links (n + 1))) b c.args.ranges.now) (sym c.slot_at-bound.ensures)
          (range-there end c.args.slots links c.args.ranges.now n (n + 1) c.in-Some.link h there next))
          ),
    )
