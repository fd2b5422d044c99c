use Rattle.std.proofs.Common.{◌≡◌, ◌∙◌, ◌<◌, ◌-◌, length, sym, ap, refl, arith, slice_get, get_or, Some, ℕ, List}
use Rattle.std.proofs.lemmas.Option.{slice_get_read}
use Rattle.c_tree.specs.Shape.{has}
use Rattle.typedef_names.specs.declared.names.Entry.{Entry}
use Rattle.typedef_names.specs.Chains.{names_of}
use Rattle.typedef_names.proofs.ChainLemmas.{within_way, meets, goes_on, gets_less, ends, IsOnWay}
use Rattle.typedef_names.proofs.names.Names.has.Goals as goal

-- the entry that the loop reads
read : (n : List ℕ) (es : List Entry) (e : Entry) (left : ℕ) → IsOnWay n es left → 0 < left → e ≡ get_or es (left - 1) e → slice_get es (left - 1) ≡ Some e
read n es e left way some is = slice_get_read es (length es) (left - 1) e refl (within_way n es left way some) is

pub index-entry-requires : goal.index-entry-requires
index-entry-requires c =
    let w = within_way c.as_bytes-bytes.result.now c.self.inside.entries.items c.chain.left c.chain.invariant c.chain-test.true in
    omega (arith, w)

pub returns-then-is_same : goal.returns-then-is_same
returns-then-is_same c =
    let at = read c.as_bytes-bytes.result.now c.self.inside.entries.items c.index-entry.result.now c.chain.left c.chain.invariant c.chain-test.true c.index-entry.ensures in
    sym (meets c.as_bytes-bytes.result.now c.self.inside.entries.items c.index-entry.result.now c.chain.left c.chain.invariant c.chain-test.true at (sym c.is_same.ensures ∙ c.if-is_same.true))
    ∙ ap (has (names_of c.self.inside.entries.items)) c.as_bytes-bytes.ensures
    ∙ ap (λ ms. has ms c.args.name.now) c.self.view_is

pub chain-smaller : goal.chain-smaller
chain-smaller c =
    let at = read c.as_bytes-bytes.result.now c.self.inside.entries.items c.index-entry.result.now c.chain.left c.chain.invariant c.chain-test.true c.index-entry.ensures in
    gets_less c.self.inside.entries.items c.self.inside.newest.items c.index-entry.result.now c.chain.left c.self.invariant c.chain-test.true at

pub chain-preserved : goal.chain-preserved
chain-preserved c =
    let at = read c.as_bytes-bytes.result.now c.self.inside.entries.items c.index-entry.result.now c.chain.left c.chain.invariant c.chain-test.true c.index-entry.ensures in
    goes_on c.as_bytes-bytes.result.now c.self.inside.entries.items c.self.inside.newest.items c.index-entry.result.now c.chain.left c.self.invariant c.chain.invariant c.chain-test.true at (sym c.is_same.ensures ∙ c.if-is_same.false)

pub returns : goal.returns
returns c =
    let none : c.chain.left ≡ 0 = omega (arith, c.chain-test.false) in
    sym (ends c.as_bytes-bytes.result.now c.self.inside.entries.items c.chain.left c.chain.invariant none)
    ∙ ap (has (names_of c.self.inside.entries.items)) c.as_bytes-bytes.ensures
    ∙ ap (λ ms. has ms c.args.name.now) c.self.view_is
