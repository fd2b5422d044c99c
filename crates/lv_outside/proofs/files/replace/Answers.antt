use Rattle.std.proofs.Common.{◌≡◌, ◌∙◌, ap, subst, arith, rules}
use Rattle.lv_outside.specs.Mem.{Files, file_of, IsPlaceOf, HasNoName}
use Rattle.lv_outside.proofs.FileLemmas.{place_below, put_same, put_other, push_same, push_other}
use Rattle.lv_outside.proofs.files.replace.Goals as goal

pub index_mut-requires : goal.index_mut-requires
index_mut-requires c =
    omega (arith, place_below _ _ _ c.in-Some.ensures.found, c.deref.ensures.len)

pub returns-in-Some-clause-written : goal.returns-in-Some-clause-written
returns-in-Some-clause-written c =
    let place : IsPlaceOf c.args.name.now c.args.files.now.items c.in-Some.at = subst (λ (l : Files). IsPlaceOf c.args.name.now l c.in-Some.at) c.deref.ensures.value c.in-Some.ensures.found in
    let next : c.in_ok-next.next.items ≡ c.args.bytes.now = search rules in
    put_same _ _ _ _ c.in_ok-next.next place c.index_mut.ensures.value ∙ next

pub returns-in-Some-clause-others : goal.returns-in-Some-clause-others
returns-in-Some-clause-others c n other =
    let place : IsPlaceOf c.args.name.now c.args.files.now.items c.in-Some.at = subst (λ (l : Files). IsPlaceOf c.args.name.now l c.in-Some.at) c.deref.ensures.value c.in-Some.ensures.found in
    put_other _ _ _ _ c.in_ok-next.next n place c.index_mut.ensures.value other

pub returns-in_ok-push-in-None-clause-written : goal.returns-in_ok-push-in-None-clause-written
returns-in_ok-push-in-None-clause-written c =
    let none : HasNoName c.args.name.now c.args.files.now.items = subst (λ (l : Files). HasNoName c.args.name.now l) c.deref.ensures.value c.in-None.ensures.none in
    let next : c.in_ok-next.next.items ≡ c.args.bytes.now = search rules in
    let name : c.new.result ≡ c.args.name.now = search rules in
    ap (λ (l : Files). file_of l c.args.name.now) c.in_ok-push-in-None.ensures.items
    ∙ rw name (push_same c.args.name.now _ c.in_ok-next.next none ∙ next)

pub returns-in_ok-push-in-None-clause-others : goal.returns-in_ok-push-in-None-clause-others
returns-in_ok-push-in-None-clause-others c n other =
    let name : c.new.result ≡ c.args.name.now = search rules in
    ap (λ (l : Files). file_of l n) c.in_ok-push-in-None.ensures.items
    ∙ rw name (push_other c.args.name.now c.args.files.now.items c.in_ok-next.next n other)
