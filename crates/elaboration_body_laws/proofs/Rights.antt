-- Each function and each parameter stands for what its words mean over the whole source.
use Rattle.std.proofs.Common.{◌≡◌, inl, inr, ℕ, suc, Bool, true, List, [], ◌∷◌, ◌++◌, length, map, append-nil, append_assoc, None, Some, refl, ap, sym, ◌∙◌, subst, arith}
use Rattle.std.specs.Prelude.{slice_get}
use Rattle.std.proofs.lemmas.List.{length-append}
use Rattle.lv_base.specs.declared.kind.Kind.TheVariants as kind
use Rattle.lv_base.specs.Integers.{InRange}
use Rattle.c_tree.specs.Tree as t
use Rattle.c_meaning.specs.Tokens.{first_of_words}
use Rattle.c_meaning.specs.Scope as s
use Rattle.c_meaning.specs.Bindings.{Env, Entry, Object, anObjectOf, aFunctionOf, declared_at, constant_value, words_type, kind_in, kind_or_int, has_const, parameter_kinds}
use Rattle.c_meaning.specs.Constants as c
use Rattle.elaboration_offset_laws.proofs.Lying.{Known, Distinct}
use Rattle.elaboration_offset_laws.proofs.Growing.{AllNumbered, Step, step_of, next_numbered, Grown, grown, fetched_next}
use Rattle.elaboration_offset_laws.proofs.Agreeing.{words_same}
use Rattle.elaboration_offset_laws.proofs.Lengths.{same_of}
use Rattle.elaboration_offset_laws.proofs.Standing.{itself}
use Rattle.elaboration_offset_laws.proofs.Finding.{AllBefore, before_next, entry_found}
use Rattle.elaboration_offset_laws.proofs.Keeping.{Among}
use Rattle.elaboration_body_laws.proofs.Spans.{ParametersSpan, FunctionSpan, ParameterSpan, SpanOf, AllSpan}
use Rattle.elaboration_body_laws.proofs.Words.{parameters_same, words_alike, alike_of}

module _ (f : Known) where
  abbrev pub Rightly : s.Declared → s.What → Type 0
  Rightly d (s.aFunction ws ps b) = (s.is_file d.scope ≡ true) × (declared_at f.env d.at ≡ aFunctionOf (kind_in (words_type f.env ws)) (parameter_kinds f.env ps))
  Rightly d (s.aParameter ws) = (n : ℕ) × (o : Object) × (declared_at f.env d.at ≡ anObjectOf n) × (slice_get f.env.objects n ≡ Some o) × (o.kind ≡ kind_or_int (words_type f.env ws))
  Rightly d (s.anEnumerator es) = InRange kind.Int f.model (constant_value (declared_at f.env d.at))
  Rightly d w = Unit {0}

  abbrev pub AllRightly : List s.Declared → Type 0
  AllRightly [] = Unit {0}
  AllRightly (d ∷ ds) = Rightly d d.what × AllRightly ds

  pub rightly_left : (xs ys : List s.Declared) → AllRightly (xs ++ ys) → AllRightly xs
  rightly_left [] ys h = tt
  rightly_left (x ∷ xs) ys h = (h.0, rightly_left xs ys h.1)

  pub rightly_right : (xs ys : List s.Declared) → AllRightly (xs ++ ys) → AllRightly ys
  rightly_right [] ys h = h
  rightly_right (x ∷ xs) ys h = rightly_right xs ys h.1

  pub rightly_among : (y : Entry) (es : List Entry) → Among y es → AllRightly (map (λ e. e.declared) es) → Rightly y.declared y.declared.what
  rightly_among y [] m h = absurd m
  rightly_among y (x ∷ es) (inl q) h = subst (λ e. Rightly e.declared e.declared.what) q h.0
  rightly_among y (x ∷ es) (inr m) h = rightly_among y es m h.1

  module _ (env : Env) (d : s.Declared) (ds : List s.Declared) (g : Grown env (d ∷ ds) f.env) (k : AllNumbered (length env.objects) env.entries) (before : AllBefore env.entries (d ∷ ds)) where
    kinds_same : (ps : t.Parameters) → ParametersSpan ps (d ∷ ds) → parameter_kinds env ps ≡ parameter_kinds f.env ps
    kinds_same (t.pUnknown a b) h = refl
    kinds_same (t.pVoid a at b) h = refl
    kinds_same (t.pSome a ps b) h = parameters_same env f.env f.model a b ps (same_of env f.env (d ∷ ds) (suc a) b g k h.1) h.0

    function_right : (ws : t.Words) (ps : t.Parameters) (b : Bool) → d.what ≡ s.aFunction ws ps b → Grown (c.declare f.model env d (s.aFunction ws ps b)) ds f.env → FunctionSpan d ws ps ds → Rightly d (s.aFunction ws ps b)
    function_right ws ps b e after span =
        let x = aFunctionOf (kind_in (words_type env ws)) (parameter_kinds env ps) in
        let step : Step f.model env d (s.aFunction ws ps b) (c.entered env d x) = record { entity = x; more = []; entries = refl; objects = sym (append-nil env.objects); numbered = tt; name = tt; all = tt; own = tt } in
        let words = words_same env f.env f.model span.first span.last (same_of env f.env (d ∷ ds) span.first span.last g k span.behind) ws span.first span.last (itself span.first) (itself span.last) span.words in (
          span.file,
          entry_found f.model env d ds (c.entered env d x) f.env (s.aFunction ws ps b) step after (ap s.is_tag e) before
              ∙ ap (λ z. aFunctionOf (kind_in z) (parameter_kinds env ps)) words ∙ ap (aFunctionOf (kind_in (words_type f.env ws))) (kinds_same ps span.parameters),
        )

    parameter_right : (ws : t.Words) → d.what ≡ s.aParameter ws → Grown (c.declare f.model env d (s.aParameter ws)) ds f.env → ParameterSpan d ws ds → Rightly d (s.aParameter ws)
    parameter_right ws e after span =
        let o : Object = record { name = d.name; at = d.at; kind = kind_or_int (words_type env ws); length = None; is_const = has_const env ws; owner = d.owner } in
        let long = length-append env.objects (o ∷ []) in
        let step : Step f.model env d (s.aParameter ws) (c.new_object env d o) =
        record { entity = anObjectOf (length env.objects); more = o ∷ []; entries = refl; objects = refl; numbered = omega (arith, long); name = tt; all = (refl, refl, tt); own = (o, refl, refl) } in
        let words = words_alike env f.env (first_of_words ws) span.last (alike_of env f.env (d ∷ ds) (first_of_words ws) span.last g span.aside) ws span.words span.lettered in (
          length env.objects,
          o,
          entry_found f.model env d ds (c.new_object env d o) f.env (s.aParameter ws) step after (ap s.is_tag e) before,
          ap (λ os. slice_get os (length env.objects)) (after.objects ∙ append_assoc env.objects (o ∷ []) after.more) ∙ fetched_next env.objects o after.more,
          ap kind_or_int words,
        )

    right_by : (w : s.What) → d.what ≡ w → Grown (c.declare f.model env d w) ds f.env → SpanOf f d w ds → Rightly d w
    right_by (s.aFunction ws ps b) e after span = function_right ws ps b e after span
    right_by (s.aParameter ws) e after span = parameter_right ws e after span
    right_by (s.anEnumerator es) e after span = span
    right_by (s.anObject ws h i) e after span = tt
    right_by (s.aTypedef ws) e after span = tt
    right_by (s.aTag es) e after span = tt
    right_by (s.aName ws) e after span = tt

  pub all_right : (env : Env) (ds : List s.Declared) → c.bind_from f.model env ds ≡ f.env → AllNumbered (length env.objects) env.entries → AllBefore env.entries ds → Distinct ds → AllSpan f ds [] → AllRightly ds
  all_right env [] e k b h span = tt
  all_right env (d ∷ ds) e k b h span =
      let step = step_of f.model env d d.what k in
      let next = c.declare f.model env d d.what in
      let numbered = next_numbered f.model env d d.what next step k in
      let g = subst (Grown env (d ∷ ds)) e (grown f.model env (d ∷ ds) k) in
      let after = subst (Grown next ds) e (grown f.model next ds numbered) in (
        right_by env d ds g k b d.what refl after (subst (SpanOf f d d.what) (append-nil ds) span.0),
        all_right next ds e numbered (subst (λ xs. AllBefore xs ds) (sym step.entries) (before_next env.entries _ d ds b h.0)) h.1 span.1,
      )
