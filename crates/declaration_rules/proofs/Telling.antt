-- What is found of `main` is what the rules say.
use Rattle.std.proofs.Common.{◌≡◌, ℕ, Bool, true, false, ◌&&◌, not, List, ◌++◌, length, Option, None, Some, refl, ap, ◌∙◌, sym}
use Rattle.std.specs.Prelude.{nat_eq, if◌then◌else◌, bytes_eq, codes}
use Rattle.lv_base.specs.declared.kind.Kind.TheVariants as kind
use Rattle.lv_base.specs.declared.kind.Model.{Model}
use Rattle.lv_base.specs.declared.fault.SourceFault.TheVariants as fault
use Rattle.c_tree.specs.Tree as t
use Rattle.c_run.specs.Breaking.{Broken, line}
use Rattle.c_meaning.specs.Bindings.{Env, words_type, kind_in, parameter_kinds}
use Rattle.c_meaning.specs.Rules as r
use Rattle.first_broken.specs.Found.{Summary, summary, both}
use Rattle.first_broken.proofs.Least.{joined_is}
use Rattle.declaration_rules.specs.Laws.{MainTold}
use Rattle.declaration_rules.specs.Mains as m
use Rattle.declaration_rules.proofs.Agreeing.{result_same}

abbrev sums : Option (List Broken) → Option Summary
sums None = None
sums (Some bs) = Some (summary bs)

module _ (env : Env) (model : Model) (bodies : List (List ℕ)) where
  or_same : (o : Option (List Broken)) → m.or_nothing (sums o) ≡ summary (r.or_none env model bodies o)
  or_same None = refl
  or_same (Some bs) = refl

  own_same : (ws : t.Words) (at : ℕ) (ps : t.Parameters) → line (m.is_wrong_main env ws ps) fault.NoMain at ≡ r.main_lines env model bodies at (kind_in (words_type env ws)) (parameter_kinds env ps)
  own_same ws at ps = ap (λ z. line (not (z && nat_eq (length (parameter_kinds env ps)) 0)) fault.NoMain at) (result_same env model bodies (kind_in (words_type env ws)) (Some kind.Int))

  more_same : (o : Option (List Broken)) (ws : t.Words) (at : ℕ) (ps : t.Parameters) →
      m.with_main env (sums o) ws at ps ≡ sums (Some (r.or_none env model bodies o ++ r.main_lines env model bodies at (kind_in (words_type env ws)) (parameter_kinds env ps)))
  more_same o ws at ps =
      ap Some (ap (λ z. both z (summary (line (m.is_wrong_main env ws ps) fault.NoMain at))) (or_same o)
      ∙ ap (λ z. both (summary (r.or_none env model bodies o)) (summary z)) (own_same ws at ps)
      ∙ sym (joined_is (r.or_none env model bodies o) (r.main_lines env model bodies at (kind_in (words_type env ws)) (parameter_kinds env ps))))

  chosen : (b : Bool) (x y : Option (List Broken)) (p : Option Summary) → p ≡ sums x → (if b then p else sums y) ≡ sums (if b then x else y)
  chosen true x y p h = h
  chosen false x y p h = refl

  mains_same : (is : t.Items) → m.mains_in env is ≡ sums (r.main_in env model bodies is)
  mains_same t.no_items = refl
  mains_same (t.items_and is (t.tFunction ws (t.named n at) ps ats (t.bBlock a ss b))) =
      ap (λ z. m.with_named env z ws (t.named n at) ps) (mains_same is)
      ∙ chosen (bytes_eq n (codes "main")) (Some (r.or_none env model bodies (r.main_in env model bodies is) ++ r.main_lines env model bodies at (kind_in (words_type env ws)) (parameter_kinds env ps))) (r.main_in env model bodies is)
      (m.with_main env (sums (r.main_in env model bodies is)) ws at ps) (more_same (r.main_in env model bodies is) ws at ps)
  mains_same (t.items_and is (t.tFunction ws (t.named n at) ps ats (t.bSkipped a x b))) = mains_same is
  mains_same (t.items_and is (t.tSkipped x at y b)) = mains_same is
  mains_same (t.items_and is (t.tDeclaration d)) = mains_same is
  mains_same (t.items_and is (t.tEmpty at)) = mains_same is

  whole_same : (o : Option (List Broken)) → m.main_of (sums o) ≡ summary (r.main_line env model bodies o)
  whole_same None = refl
  whole_same (Some bs) = refl

pub main_told_is : MainTold
main_told_is env model bodies items = ap m.main_of (mains_same env model bodies items) ∙ whole_same env model bodies (r.main_in env model bodies items)
