use Rattle.std.proofs.Common.{rules, ◌≡◌, ◌++◌, ◌<◌, ◌≤◌, OnOk, length, get_or, subst, List}
use Rattle.call_inline.specs.Copying.{lists_of}
use Rattle.call_inline.specs.declared.numbers.Copied.{Copied}
use Rattle.call_inline.proofs.Turning.{none_added, some_added}
use Rattle.call_inline.proofs.copies.follow.Goals as goal

pub returns-then-number-len : goal.returns-then-number-len
returns-then-number-len c =
    let le : length c.args.copies.now.items ≤ c.args.number = search rules in
    none_added c.args.graphs.now (lists_of c.args.offsets.now) c.args.copies.now.items c.args.number le

pub returns : goal.returns
returns c =
    let x : Copied = c.index-copied.result.now in
    let lt : c.args.number < length c.args.copies.now.items = search rules in
    let is : x ≡ get_or c.args.copies.now.items c.args.number x = search rules in
    subst (λ (more : List Copied). OnOk c.push_calls.result (c.push_calls.new.copies.items ≡ c.args.copies.now.items ++ more))
    (some_added c.args.graphs.now (lists_of c.args.offsets.now) c.args.copies.now.items c.args.number x lt is) c.push_calls.ensures
