-- Names that are declared twice are those of the rules.
use Rattle.std.proofs.Common.{◌≡◌, ℕ, Bool, true, false, ◌&&◌, ◌||◌, not, List, [], ◌∷◌, ◌++◌, length, Option, None, Some, refl, ap, ◌∙◌}
use Rattle.std.specs.List.{list_any}
use Rattle.lv_base.specs.declared.kind.Kind.{Kind}
use Rattle.lv_base.specs.declared.kind.Model.{Model}
use Rattle.lv_base.specs.declared.fault.SourceFault.TheVariants as fault
use Rattle.c_tree.specs.Tree as tr
use Rattle.c_run.specs.Breaking.{line}
use Rattle.c_meaning.specs.Scope as s
use Rattle.c_meaning.specs.Bindings.{Env, Entry, words_type, has_const, kind_in, kind_or_int, parameter_kinds}
use Rattle.c_meaning.specs.Constants.{object_length}
use Rattle.c_meaning.specs.Known.{Known, reaches, aborts, draws, known_of}
use Rattle.c_meaning.specs.Rules as r
use Rattle.declaration_rules.specs.Laws.{TwiceTold}
use Rattle.declaration_rules.specs.Twice as d
use Rattle.declaration_rules.proofs.Rows.{any_push}

module _ (env : Env) (model : Model) (bodies : List (List ℕ)) where
  kinds_same : (ks ls : List Kind) → d.same_kinds ks ls ≡ r.same_kinds env model bodies ks ls
  kinds_same [] [] = refl
  kinds_same [] (l ∷ ls) = refl
  kinds_same (k ∷ ks) [] = refl
  kinds_same (k ∷ ks) (l ∷ ls) = ap (λ z. r.is_same_kind k l && z) (kinds_same ks ls)

  length_same : (n m : Option ℕ) → d.same_length n m ≡ r.same_length env model bodies n m
  length_same None None = refl
  length_same None (Some m) = refl
  length_same (Some n) None = refl
  length_same (Some n) (Some m) = refl

  const_same : (a b : Bool) → d.same_const a b ≡ r.same_const env model bodies a b
  const_same true true = refl
  const_same true false = refl
  const_same false true = refl
  const_same false false = refl

  pub result_same : (k l : Option Kind) → d.same_result k l ≡ r.same_result env model bodies k l
  result_same None None = refl
  result_same None (Some l) = refl
  result_same (Some k) None = refl
  result_same (Some k) (Some l) = refl

  begins_same : (i : tr.Initial) → d.begins i ≡ r.begins env model bodies i
  begins_same tr.iNothing = refl
  begins_same (tr.iValue at e) = refl
  begins_same (tr.iList at a es c b) = refl

  agrees_same : (w v : s.What) → d.agrees env model w v ≡ r.agrees env model bodies w v
  agrees_same (s.anObject ws f i) (s.anObject vs g j) =
      let kind = r.is_same_kind (kind_or_int (words_type env ws)) (kind_or_int (words_type env vs)) in
      let long = r.same_length env model bodies (object_length env model f i) (object_length env model g j) in
      let same = r.same_const env model bodies (has_const env ws) (has_const env vs) in
      ap (λ z. kind && (z && (d.same_const (has_const env ws) (has_const env vs) && not (d.begins i && d.begins j)))) (length_same (object_length env model f i) (object_length env model g j))
      ∙ ap (λ z. kind && (long && (z && not (d.begins i && d.begins j)))) (const_same (has_const env ws) (has_const env vs))
      ∙ ap (λ z. kind && (long && (same && not (z && d.begins j)))) (begins_same i)
      ∙ ap (λ z. kind && (long && (same && not (r.begins env model bodies i && z)))) (begins_same j)
  agrees_same (s.aFunction ws ps b) (s.aFunction vs qs c) =
      ap (λ z. z && (d.same_kinds (parameter_kinds env ps) (parameter_kinds env qs) && not (b && c))) (result_same (kind_in (words_type env ws)) (kind_in (words_type env vs)))
      ∙ ap (λ z. r.same_result env model bodies (kind_in (words_type env ws)) (kind_in (words_type env vs)) && (z && not (b && c))) (kinds_same (parameter_kinds env ps) (parameter_kinds env qs))
  agrees_same (s.anObject ws f i) v = refl
  agrees_same (s.aFunction ws ps b) v = refl
  agrees_same (s.aParameter ws) v = refl
  agrees_same (s.aTypedef ws) v = refl
  agrees_same (s.anEnumerator es) v = refl
  agrees_same (s.aTag es) v = refl
  agrees_same (s.aName ws) v = refl

  clashes_same : (x : s.Declared) (e : Entry) → d.clashes env model x e ≡ r.clashes env model bodies x e
  clashes_same x e = ap (λ z. d.meets x e.declared && not (s.is_file x.scope && z)) (agrees_same e.declared.what x.what)

  any_same : (x : s.Declared) (es : List Entry) → list_any (d.clashes env model x) es ≡ list_any (r.clashes env model bodies x) es
  any_same x [] = refl
  any_same x (e ∷ es) = ap (λ z. z || list_any (d.clashes env model x) es) (clashes_same x e) ∙ ap (λ z. r.clashes env model bodies x e || z) (any_same x es)

  right_same : (k : Known) (o : Option Kind) → d.is_known_right k o ≡ r.is_known_right env model bodies k o
  right_same reaches o = refl
  right_same aborts o = refl
  right_same (draws k) o = refl

  body_same : (k : Known) → d.may_have_body k ≡ r.may_have_body env model bodies k
  body_same reaches = refl
  body_same aborts = refl
  body_same (draws k) = refl

  known_same : (k : Option Known) (at : ℕ) (o : Option Kind) (ps : List Kind) (b : Bool) → line (d.is_known_wrong k o (length ps) b) fault.Redeclared at ≡ r.known_line env model bodies k at o ps b
  known_same None at o ps b = refl
  known_same (Some reaches) at o ps b = refl
  known_same (Some aborts) at o ps b = refl
  known_same (Some (draws k)) at o ps b = refl

  declared_same : (x : s.Declared) (w : s.What) → line (d.is_named_wrong env x.name w) fault.Redeclared x.at ≡ r.declared_line env model bodies x w
  declared_same x (s.aFunction ws ps b) = known_same (known_of x.name) x.at (kind_in (words_type env ws)) (parameter_kinds env ps) b
  declared_same x (s.anObject ws f i) = refl
  declared_same x (s.aParameter ws) = refl
  declared_same x (s.aTypedef ws) = refl
  declared_same x (s.anEnumerator es) = refl
  declared_same x (s.aTag es) = refl
  declared_same x (s.aName ws) = refl

  twice_is : (before turned es : List Entry) → ((p : Entry → Bool) → list_any p before ≡ list_any p turned) → d.twice env model before es ≡ r.redeclared env model bodies turned es
  twice_is before turned [] h = refl
  twice_is before turned (e ∷ es) h =
      ap (λ z. line z fault.Redeclared e.declared.at ++ line (d.is_named_wrong env e.declared.name e.declared.what) fault.Redeclared e.declared.at ++ d.twice env model (before ++ e ∷ []) es)
      (h (d.clashes env model e.declared) ∙ any_same e.declared turned)
      ∙ ap (λ z. line (list_any (r.clashes env model bodies e.declared) turned) fault.Redeclared e.declared.at ++ z ++ d.twice env model (before ++ e ∷ []) es) (declared_same e.declared e.declared.what)
      ∙ ap (λ z. line (list_any (r.clashes env model bodies e.declared) turned) fault.Redeclared e.declared.at ++ r.declared_line env model bodies e.declared e.declared.what ++ z)
      (twice_is (before ++ e ∷ []) (e ∷ turned) es (λ p. any_push p before e ∙ ap (λ z. p e || z) (h p)))

pub twice_told_is : TwiceTold
twice_told_is env model bodies = twice_is env model bodies [] [] env.entries (λ p. refl)
