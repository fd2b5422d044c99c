use Rattle.std.proofs.Common.{◌≡◌, ◌∙◌, ◌-◌, None, false, length, get_or, slice_get, arith, ap, sym, find}
use Rattle.std.specs.Prelude.{map}
use Rattle.std.proofs.lemmas.List.{length-map}
use Rattle.type_scopes.specs.Buckets.{bucket}
use Rattle.type_scopes.specs.Found.{some_entry}
use Rattle.type_scopes.specs.Seen.{entry_of}
use Rattle.type_scopes.specs.declared.linked.Row.{Row}
use Rattle.type_scopes.specs.Chains.{by_name, entries_of}
use Rattle.type_scopes.specs.Walking.{is_in_file, or_found}
use Rattle.type_scopes.proofs.Firsts.{knows_first, none_there}
use Rattle.type_scopes.proofs.Joining.{finding_starts, finding_jumps, finding_goes, finding_ends}
use Rattle.type_scopes.proofs.Walks.{not_in_file, other_in_file, name_few, head_leads, head_free, read, older_less, jump_less}
use Rattle.type_scopes.proofs.collected.Declarations.first_place.Goals as goal

pub bucket-init : goal.bucket-init
bucket-init c =
    let xs = c.self.inside.rows.items in
    let table = c.self.inside.newest.items in
    let name = c.args.name.now in
    let n = c.bucket_of.result in
    let left = c.newest_in-left.result in
    let head : left ≡ get_or table n 0 = c.newest_in-left.ensures ∙ ap (λ t. get_or t n 0) c.deref.ensures.value in
    finding_starts by_name (bucket false name) (is_in_file name) xs (other_in_file name) left
    (head_leads xs table false name n left c.self.invariant c.bucket_of.ensures.value c.bucket_of.ensures.below head)
    (head_free xs table false name n left c.self.invariant c.bucket_of.ensures.value c.bucket_of.ensures.below head)

pub index-row-requires : goal.index-row-requires
index-row-requires c =
    let few = name_few (bucket false c.args.name.now) c.self.inside.rows.items c.bucket.left c.bucket.invariant.leads in
    omega (arith, few, c.bucket-test.true)

pub bucket-smaller-then-row : goal.bucket-smaller-then-row
bucket-smaller-then-row c =
    let few = name_few (bucket false c.args.name.now) c.self.inside.rows.items c.bucket.left c.bucket.invariant.leads in
    let at = read c.self.inside.rows.items c.bucket.left c.index-row.result.now c.bucket-test.true few c.index-row.ensures in
    jump_less by_name c.self.inside.rows.items c.bucket.left c.index-row.result.now c.self.invariant.names c.bucket-test.true at

pub bucket-preserved-then-row : goal.bucket-preserved-then-row
bucket-preserved-then-row c =
    let xs = c.self.inside.rows.items in
    let x = c.index-row.result.now in
    let name = c.args.name.now in
    let k = c.bucket.left - 1 in
    let few = name_few (bucket false name) xs c.bucket.left c.bucket.invariant.leads in
    let at = read xs c.bucket.left x c.bucket-test.true few c.index-row.ensures in
    finding_jumps by_name (bucket false name) (is_in_file name) xs (other_in_file name) None c.bucket.left k x (omega (arith, c.bucket-test.true)) at (c.self.invariant.names k x at) c.bucket.invariant
    (λ z w. not_in_file name x.name.span z (omega (arith, c.if-row.true)) w)

pub bucket-smaller : goal.bucket-smaller
bucket-smaller c =
    let few = name_few (bucket false c.args.name.now) c.self.inside.rows.items c.bucket.left c.bucket.invariant.leads in
    let at = read c.self.inside.rows.items c.bucket.left c.index-row.result.now c.bucket-test.true few c.index-row.ensures in
    older_less by_name c.self.inside.rows.items c.bucket.left c.index-row.result.now c.self.invariant.names c.bucket-test.true at

pub bucket-preserved : goal.bucket-preserved
bucket-preserved c =
    let xs = c.self.inside.rows.items in
    let x = c.index-row.result.now in
    let name = c.args.name.now in
    let k = c.bucket.left - 1 in
    let few = name_few (bucket false name) xs c.bucket.left c.bucket.invariant.leads in
    let at = read xs c.bucket.left x c.bucket-test.true few c.index-row.ensures in
    finding_goes by_name (bucket false name) (is_in_file name) xs (other_in_file name) None None c.bucket.left k x (omega (arith, c.bucket-test.true)) at (c.self.invariant.names k x at) c.bucket.invariant
    (ap (λ t. or_found t (entry_of x.entry) None) (sym c.if-is_in_file.false ∙ c.is_in_file.ensures))

pub returns-then-is_in_file-clause-few : goal.returns-then-is_in_file-clause-few
returns-then-is_in_file-clause-few c =
    let xs = c.self.inside.rows.items in
    let x = c.index-row.result.now in
    let name = c.args.name.now in
    let k = c.bucket.left - 1 in
    let few = name_few (bucket false name) xs c.bucket.left c.bucket.invariant.leads in
    let at = read xs c.bucket.left x c.bucket-test.true few c.index-row.ensures in
    let within = (knows_first xs k x name at (c.self.invariant.firsts k x at) (sym c.is_in_file.ensures ∙ c.if-is_in_file.true)).0 in
    let long = ap length c.self.view_is in
    omega (arith, within, long)

pub returns-then-is_in_file-clause-found : goal.returns-then-is_in_file-clause-found
returns-then-is_in_file-clause-found c =
    let xs = c.self.inside.rows.items in
    let x = c.index-row.result.now in
    let name = c.args.name.now in
    let k = c.bucket.left - 1 in
    let few = name_few (bucket false name) xs c.bucket.left c.bucket.invariant.leads in
    let at = read xs c.bucket.left x c.bucket-test.true few c.index-row.ensures in
    ap (λ es. some_entry (slice_get es x.first)) (sym c.self.view_is)
    ∙ (knows_first xs k x name at (c.self.invariant.firsts k x at) (sym c.is_in_file.ensures ∙ c.if-is_in_file.true)).1
    ∙ ap (λ es. find (is_in_file name) (map entry_of es)) c.self.view_is

pub returns-clause-found : goal.returns-clause-found
returns-clause-found c =
    let xs = c.self.inside.rows.items in
    let name = c.args.name.now in
    let n = c.len.result in
    let all : n ≡ length xs = c.len.ensures ∙ c.self.inside.rows.ok.0 in
    let long = length-map xs (λ (r : Row). r.entry) in
    ap (λ es. some_entry (slice_get es n)) (sym c.self.view_is)
    ∙ none_there (entries_of xs) n (omega (arith, all, long))
    ∙ finding_ends by_name (bucket false name) (is_in_file name) xs (other_in_file name) None c.bucket.left (omega (arith, c.bucket-test.false)) c.bucket.invariant
    ∙ ap (λ es. find (is_in_file name) (map entry_of es)) c.self.view_is
