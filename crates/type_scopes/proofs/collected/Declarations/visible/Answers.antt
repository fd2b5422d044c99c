use Rattle.std.proofs.Common.{◌∙◌, ◌<◌, ◌-◌, None, get_or, arith, ap, sym}
use Rattle.std.specs.Prelude.{map}
use Rattle.std.specs.Option.{option_copied}
use Rattle.c_meaning.specs.Bindings.{visible_in}
use Rattle.type_scopes.specs.Buckets.{bucket}
use Rattle.type_scopes.specs.Found.{some_entry}
use Rattle.type_scopes.specs.Seen.{entry_of}
use Rattle.type_scopes.specs.Chains.{by_name}
use Rattle.type_scopes.proofs.Walks.{starts, jumps, goes, ends, name_few, read, older_less, jump_less}
use Rattle.type_scopes.proofs.collected.Declarations.visible.Goals as goal

pub bucket-init : goal.bucket-init
bucket-init c =
    starts c.args.tag c.args.name.now c.args.at c.self.inside.rows.items c.self.inside.newest.items c.bucket_of.result c.newest_in-left.result c.self.invariant c.bucket_of.ensures.value c.bucket_of.ensures.below
    (c.newest_in-left.ensures ∙ ap (λ t. get_or t c.bucket_of.result 0) c.deref.ensures.value)

pub index-row-requires : goal.index-row-requires
index-row-requires c =
    let few = name_few (bucket c.args.tag c.args.name.now) c.self.inside.rows.items c.bucket.left c.bucket.invariant.leads in
    omega (arith, few, c.bucket-test.true)

pub bucket-smaller-then-is_hidden : goal.bucket-smaller-then-is_hidden
bucket-smaller-then-is_hidden c =
    let few = name_few (bucket c.args.tag c.args.name.now) c.self.inside.rows.items c.bucket.left c.bucket.invariant.leads in
    let at = read c.self.inside.rows.items c.bucket.left c.index-row.result.now c.bucket-test.true few c.index-row.ensures in
    jump_less by_name c.self.inside.rows.items c.bucket.left c.index-row.result.now c.self.invariant.names c.bucket-test.true at

pub bucket-preserved-then-is_hidden : goal.bucket-preserved-then-is_hidden
bucket-preserved-then-is_hidden c =
    let xs = c.self.inside.rows.items in
    let x = c.index-row.result.now in
    let k = c.bucket.left - 1 in
    let few = name_few (bucket c.args.tag c.args.name.now) xs c.bucket.left c.bucket.invariant.leads in
    let at = read xs c.bucket.left x c.bucket-test.true few c.index-row.ensures in
    let small : c.args.at < 4294967296 = omega (arith, c.ranges.at.fits) in
    jumps c.args.tag c.args.name.now c.args.at xs (some_entry (option_copied c.bucket.best)) c.bucket.left k x (omega (arith, c.bucket-test.true)) at (c.self.invariant.names k x at) small
    (sym c.is_hidden.ensures ∙ c.if-is_hidden.true) c.bucket.invariant

pub bucket-smaller : goal.bucket-smaller
bucket-smaller c =
    let few = name_few (bucket c.args.tag c.args.name.now) c.self.inside.rows.items c.bucket.left c.bucket.invariant.leads in
    let at = read c.self.inside.rows.items c.bucket.left c.index-row.result.now c.bucket-test.true few c.index-row.ensures in
    older_less by_name c.self.inside.rows.items c.bucket.left c.index-row.result.now c.self.invariant.names c.bucket-test.true at

pub bucket-preserved : goal.bucket-preserved
bucket-preserved c =
    let xs = c.self.inside.rows.items in
    let x = c.index-row.result.now in
    let k = c.bucket.left - 1 in
    let few = name_few (bucket c.args.tag c.args.name.now) xs c.bucket.left c.bucket.invariant.leads in
    let at = read xs c.bucket.left x c.bucket-test.true few c.index-row.ensures in
    goes c.args.tag c.args.name.now c.args.at xs (some_entry (option_copied c.bucket.best)) (some_entry (option_copied c.with_entry-best.result)) c.bucket.left k x (omega (arith, c.bucket-test.true)) at (c.self.invariant.names k x at) c.with_entry-best.ensures c.bucket.invariant

pub returns : goal.returns
returns c =
    ends c.args.tag c.args.name.now c.args.at c.self.inside.rows.items (some_entry (option_copied c.bucket.best)) c.bucket.left (omega (arith, c.bucket-test.false)) c.bucket.invariant
    ∙ ap (λ es. visible_in c.args.tag c.args.name.now c.args.at None (map entry_of es)) c.self.view_is
