-- Which answers there can be to a check.
use Rattle.std.proofs.Common.{◌≡◌, ◌⊎◌, ◌∙◌, ◌<◌, ◌≤◌, ◌^◌, inl, inr, refl, sym, ap, subst, ℕ, Bool, true, false, List, length, arith}
use Rattle.std.proofs.lemmas.Bool.{ltb-false}
use Rattle.std.specs.Prelude.{Result, Ok, Err, nat_lt, if◌then◌else◌}
use Rattle.lv_outside.specs.Counts.{Rose}
use Rattle.lv_base.specs.declared.kind.Model.{Model}
use Rattle.lv_base.specs.declared.fail.SourceFail.{SourceFail}
use Rattle.lv_base.specs.declared.fail.SourceFail.TheVariants as lacks
use Rattle.c_tree.specs.Tree.{Items}
use Rattle.c_types.specs.Elaborated.{elaborated}
use Rattle.c_typed.specs.Parts.{Parts, tree_of}
use Rattle.c_graph.specs.Shape.{Flow}
use Rattle.stored_text.specs.declared.StoredFail.{StoredFail}
use Rattle.stored_text.specs.declared.StoredFail.TheVariants as stored
use Rattle.cert_text.specs.Content.{Content, content_of}
use Rattle.cert_text.specs.CertText.{cert_text}
use Rattle.cert_text.specs.Writing.{write_cert_of}
use Rattle.source_reading.specs.Reading.{source_read, IsReplay}
use Rattle.source_reading.proofs.TreeLaws.{read_of}
use Rattle.source_graphs.specs.Refusals.{IsSameLimit, IsTooBig}
use Rattle.source_graphs.proofs.Standing.{blocks_are_of_trees, limits-exact, limits_are_of_trees, limits_are_one}
use Rattle.cert_verdicts.specs.Judged.{IsCertificate, IsJudged}
use Rattle.cert_verdicts.proofs.Unique.{certificate_is_accepted, judged_is_unique}
use Rattle.verdicts.specs.declared.verdict.Verdict.{Verdict}
use Rattle.verdicts.specs.declared.verdict.Verdict.TheVariants.{Safe, Accepted, Over, ReadFault, NoMemory}
use Rattle.request_answers.specs.Answers.{HasGraph, IsCheckAnswer, IsRefused, IsVerifyAnswer, limit_for, refused_for}
use Rattle.request_answers.specs.Answers.IsCheckAnswer.{too_long, refused, long_cert, judged, read_failed, no_memory}
use Rattle.request_answers.specs.Answers.IsRefused.{unread as was_unread, over as was_over, no_memory as lacked_memory}
use Rattle.request_answers.specs.Answers.IsVerifyAnswer.{too_long as verify_long, refused as verify_refused, verified, read_failed as verify_failed, no_memory as verify_memory}
use Rattle.request_answers.specs.Laws.{AcceptedIsExact, ChecksAgree, IsAcceptable, IsSame, IsStopped, SafeIsAccepted}
use Rattle.request_answers.proofs.Judgements.{judged_accepted}
use Rattle.request_answers.proofs.Refusals.{refusal_is}

-- ---- One tree, and one graph

read-same : (r : Result Items SourceFail) (x y : Items) → r ≡ Ok x → r ≡ Ok y → x ≡ y
read-same r x y a b = let both : Ok x ≡ Ok y = sym a ∙ b in cc

read-one : (r : Result Items SourceFail) (e : SourceFail) (x : Items) → r ≡ Err e → r ≡ Ok x → ⊥
read-one r e x a b = let both : Err e ≡ Ok x = sym a ∙ b in cc

fail-same : (r : Result Items SourceFail) (e f : SourceFail) → r ≡ Err e → r ≡ Err f → e ≡ f
fail-same r e f a b = let both : Err e ≡ Err f = sym a ∙ b in cc

module _ (model : Model) (source : List ℕ) where
  same-program : (t u : Parts) → IsReplay model source (tree_of t) → IsReplay model source (tree_of u) → tree_of t ≡ tree_of u
  same-program t u a b = a.made ∙ ap (λ (x : Items). elaborated x model) (read-same (source_read model source) a.tree b.tree (read_of model source a.tree a.read) (read_of model source b.tree b.read)) ∙ sym b.made

  same-graph : (t u : Parts) (g h : Flow) → HasGraph model source t g → HasGraph model source u h → g ≡ h
  same-graph t u g h a b = a.is ∙ blocks_are_of_trees t u (same-program t u a.replay b.replay) ∙ sym b.is

  -- a source that has a graph is refused for want of memory alone
  refused-stopped : (t : Parts) (g : Flow) (v : Verdict) → HasGraph model source t g → IsRefused model source v → v ≡ NoMemory
  refused-stopped t g v has (was_unread e read is) = absurd (read-one (source_read model source) e has.replay.tree read (read_of model source has.replay.tree has.replay.read))
  refused-stopped t g v has (was_over u e replay big is) =
      let wants : e ≡ lacks.Memory = limits-exact u e (limits_are_of_trees t u (same-program t u has.replay replay) has.within) big in
      is ∙ ap limit_for wants
  refused-stopped t g v has (lacked_memory is) = is

  -- ---- What is accepted

  acceptable : (rose : Type 0) (bytes : List ℕ) → IsCheckAnswer rose model source bytes Accepted → IsAcceptable model source bytes
  acceptable rose bytes (too_long h is) = absurd (cc)
  acceptable rose bytes (refused l r) = absurd (refusal_is model source Accepted r)
  acceptable rose bytes (long_cert t g h k is) = absurd (cc)
  acceptable rose bytes (judged t g has few j) =
      let found = judged_accepted g source model bytes j in
      record { tree = t; graph = g; has = has; short = few; cert = found.0; read = found.1; is = found.2 }
  acceptable rose bytes (read_failed h is) = absurd (cc)
  acceptable rose bytes (no_memory is) = absurd (cc)

  too-long-not : length source ≤ 2 ^ 20 → 1048576 < length source → ⊥
  too-long-not short long = omega (arith, short, long)

  accepts : (rose : Type 0) (bytes : List ℕ) (v : Verdict) → IsAcceptable model source bytes → IsCheckAnswer rose model source bytes v → (v ≡ Accepted) ⊎ IsStopped rose v
  accepts rose bytes v a (too_long h is) = absurd (too-long-not a.has.short h)
  accepts rose bytes v a (refused l r) = inr (inl (refused-stopped a.tree a.graph v a.has r))
  accepts rose bytes v a (long_cert t g has long is) = let few : length bytes ≤ 67108864 = a.short in absurd (omega (arith, few, long))
  accepts rose bytes v a (judged t g has few j) =
      let certificate : IsCertificate g source model a.cert = subst (λ (x : Flow). IsCertificate x source model a.cert) (same-graph a.tree t a.graph g a.has has) a.is in
      elim (certificate_is_accepted g source model bytes a.cert v a.read certificate j) [ inl is ↦ inl is | inr wants ↦ inr (inl wants) ]
  accepts rose bytes v a (read_failed h is) = inr (inr (h, is))
  accepts rose bytes v a (no_memory is) = inr (inl is)

-- ---- Texts that are written

written-short : (c : Content) (text : List ℕ) → write_cert_of c ≡ Ok text → length text ≤ 67108864
written-short c text e = choose (nat_lt 67108864 (length (cert_text c))) refl e
  where
    choose : (b : Bool) → nat_lt 67108864 (length (cert_text c)) ≡ b → (if b then Err (stored.Over 8 67108865) else Ok (cert_text c)) ≡ Ok text → length text ≤ 67108864
    choose true t h = absurd (cc)
    choose false t h = let same : cert_text c ≡ text = cc in subst (λ (x : List ℕ). length x ≤ 67108864) same (ltb-false 67108864 (length (cert_text c)) t)

pub accepted_exact : AcceptedIsExact
accepted_exact before behind model source bytes v h = (
  λ is. acceptable model source (Rose before behind) bytes (subst (λ (x : Verdict). IsCheckAnswer (Rose before behind) model source bytes x) is h),
  λ a. accepts model source (Rose before behind) bytes v a h,
)

-- a source that is called safe has a certificate that has to be accepted
written-acceptable : (rose : Type 0) (model : Model) (units learn : ℕ) (source text : List ℕ) → IsVerifyAnswer rose model units learn source (Safe text) → IsAcceptable model source text
written-acceptable rose model units learn source text (verify_long h is) = absurd (cc)
written-acceptable rose model units learn source text (verify_refused l r) = absurd (refusal_is model source (Safe text) r)
written-acceptable rose model units learn source text (verified t g has is) = record {
  tree = t;
  graph = g;
  has = has;
  short = written-short (content_of is.proved.cert) text is.proved.written;
  cert = is.proved.cert;
  read = is.proved.read;
  is = is.proved.is;
}
written-acceptable rose model units learn source text (verify_failed h is) = absurd (cc)
written-acceptable rose model units learn source text (verify_memory is) = absurd (cc)

pub safe_accepted : SafeIsAccepted
safe_accepted before between behind model units learn source text v safe h =
    accepts model source (Rose between behind) text v (written-acceptable (Rose before between) model units learn source text safe) h

-- ---- Two checks of the same bytes

module _ (R S : Type 0) (model : Model) (source bytes : List ℕ) (v w : Verdict) where
  abbrev Agreed : Type 0
  Agreed = IsStopped R v ⊎ (IsStopped S w ⊎ IsSame v w)

  abbrev Second : Type 0
  Second = IsCheckAnswer S model source bytes w

  both : (x : Verdict) → v ≡ x → w ≡ x → Agreed
  both x a b = inr (inr (inl (a ∙ sym b)))

  first-stopped : v ≡ NoMemory → Agreed
  first-stopped is = inl (inl is)

  second-stopped : w ≡ NoMemory → Agreed
  second-stopped is = inr (inl (inl is))

  second-unread : S → w ≡ ReadFault → Agreed
  second-unread s is = inr (inl (inr (s, is)))

  limits-both : (e f : SourceFail) → v ≡ limit_for e → w ≡ limit_for f → IsSameLimit e f → Agreed
  limits-both e f is js (number, (m, (n, a, b))) = inr (inr (inr (number, (m, (n, is ∙ ap limit_for a, js ∙ ap limit_for b)))))

  limits-agree : (e f : SourceFail) → v ≡ limit_for e → w ≡ limit_for f → (e ≡ lacks.Memory) ⊎ ((f ≡ lacks.Memory) ⊎ IsSameLimit e f) → Agreed
  limits-agree e f is js (inl wants) = first-stopped (is ∙ ap limit_for wants)
  limits-agree e f is js (inr (inl wants)) = second-stopped (js ∙ ap limit_for wants)
  limits-agree e f is js (inr (inr same)) = limits-both e f is js same

  refusals-agree : IsRefused model source v → IsRefused model source w → Agreed
  refusals-agree (lacked_memory is) r = first-stopped is
  refusals-agree (was_unread e read is) (lacked_memory js) = second-stopped js
  refusals-agree (was_unread e read is) (was_unread f other js) =
      both (refused_for source f) (is ∙ ap (refused_for source) (fail-same (source_read model source) e f read other)) js
  refusals-agree (was_unread e read is) (was_over u f replay big js) = absurd (read-one (source_read model source) e replay.tree read (read_of model source replay.tree replay.read))
  refusals-agree (was_over t e replay big is) (lacked_memory js) = second-stopped js
  refusals-agree (was_over t e replay big is) (was_unread f read js) = absurd (read-one (source_read model source) f replay.tree read (read_of model source replay.tree replay.read))
  refusals-agree (was_over t e replay big is) (was_over u f other huge js) =
      limits-agree e f is js (limits_are_one t u e f (same-program model source t u replay other) big huge)

  long-agree : 1048576 < length source → v ≡ Over 1 1048577 → Second → Agreed
  long-agree long is (too_long h js) = both (Over 1 1048577) is js
  long-agree long is (refused l r) = absurd (too-long-not model source l long)
  long-agree long is (long_cert t g has h js) = absurd (too-long-not model source has.short long)
  long-agree long is (judged t g has few j) = absurd (too-long-not model source has.short long)
  long-agree long is (read_failed s js) = second-unread s js
  long-agree long is (no_memory js) = second-stopped js

  refused-agree : length source ≤ 2 ^ 20 → IsRefused model source v → Second → Agreed
  refused-agree short r (too_long h js) = absurd (too-long-not model source short h)
  refused-agree short r (refused l s) = refusals-agree r s
  refused-agree short r (long_cert t g has h js) = first-stopped (refused-stopped model source t g v has r)
  refused-agree short r (judged t g has few j) = first-stopped (refused-stopped model source t g v has r)
  refused-agree short r (read_failed s js) = second-unread s js
  refused-agree short r (no_memory js) = second-stopped js

  long-cert-agree : (t : Parts) (g : Flow) → HasGraph model source t g → 67108864 < length bytes → v ≡ Over 8 67108865 → Second → Agreed
  long-cert-agree t g has long is (too_long h js) = absurd (too-long-not model source has.short h)
  long-cert-agree t g has long is (refused l s) = second-stopped (refused-stopped model source t g w has s)
  long-cert-agree t g has long is (long_cert u h other more js) = both (Over 8 67108865) is js
  long-cert-agree t g has long is (judged u h other few j) = absurd (omega (arith, long, few))
  long-cert-agree t g has long is (read_failed s js) = second-unread s js
  long-cert-agree t g has long is (no_memory js) = second-stopped js

  judged-agree : (t : Parts) (g : Flow) → HasGraph model source t g → length bytes ≤ 67108864 → IsJudged g source model bytes v → Second → Agreed
  judged-agree t g has few j (too_long h js) = absurd (too-long-not model source has.short h)
  judged-agree t g has few j (refused l s) = second-stopped (refused-stopped model source t g w has s)
  judged-agree t g has few j (long_cert u h other long js) = absurd (omega (arith, long, few))
  judged-agree t g has few j (judged u h other less k) =
      let here : IsJudged h source model bytes v = subst (λ (x : Flow). IsJudged x source model bytes v) (same-graph model source t u g h has other) j in
      elim (judged_is_unique h source model bytes v w here k) [
        | inl wants ↦ first-stopped wants
        | inr rest ↦ elim rest [ inl wants ↦ second-stopped wants | inr same ↦ inr (inr (inl same)) ]
      ]
  judged-agree t g has few j (read_failed s js) = second-unread s js
  judged-agree t g has few j (no_memory js) = second-stopped js

  agree : IsCheckAnswer R model source bytes v → Second → Agreed
  agree (too_long long is) second = long-agree long is second
  agree (refused short r) second = refused-agree short r second
  agree (long_cert t g has long is) second = long-cert-agree t g has long is second
  agree (judged t g has few j) second = judged-agree t g has few j second
  agree (read_failed r is) second = inl (inr (r, is))
  agree (no_memory is) second = first-stopped is

pub checks_agree : ChecksAgree
checks_agree before between behind model source bytes v w first second = agree (Rose before between) (Rose between behind) model source bytes v w first second
