-- What the last state says of the hand that stands for all claimers, and what that hand is.
use Rattle.std.proofs.Common.{◌≡◌, ℕ, zero, suc, ◌+◌, ◌<◌, ◌≤◌, min, List, [], ◌∷◌, ◌++◌, length, sym, refl, ap, ◌∙◌, subst, arith}
use mathlib.Core.Option.{some, some-injective, some-ne-none}
use lib.ListN.{get_elem?}
use Rattle.std.proofs.lemmas.List.{length-append}
use Rattle.atomic_table.specs.Table.{Final, Seen}
use Rattle.work_claims.specs.declared.knowledge.Hand.{Hand}
use Rattle.work_claims.specs.declared.knowledge.Terms.{Terms}
use Rattle.work_claims.specs.declared.words.Claimer.{Claimer}
use Rattle.work_claims.specs.Counts.{times, once_below, least, total_of, least_of}
use Rattle.work_claims.specs.Hands.{spent, both}
use Rattle.work_claims.specs.Rule.{Fits, Facts, Kept}
use Rattle.work_claims.specs.Seats.{hand, merged}
use Rattle.work_claims.proofs.Sums.{times-append, least-append, least_of-at, total-at, total-snoc, least_of-snoc, least-bound}

module _ (k : Terms) (f : Hand → ℕ) (idle : f spent ≡ 0) where
  nothing : (views : List Hand) → ((j : ℕ) (u : Hand) → get_elem? views j ≡ some u → Fits k u) → total_of (λ u. u.parts) views ≡ 0 → total_of f views ≡ 0
  nothing [] each e = refl
  nothing (x ∷ xs) each e = let is : f x ≡ f spent = ap f ((each 0 x refl).idle (omega arith)) in let r = nothing xs (λ j u at. each (suc j) u at) (omega arith) in omega arith

  -- who stands for all claimers has all of it
  pub total_whole : (views : List Hand) (id : ℕ) (v : Hand) → ((j : ℕ) (u : Hand) → get_elem? views j ≡ some u → Fits k u) → get_elem? views id ≡ some v → total_of (λ u. u.parts) views ≡ v.parts → total_of f views ≡ f v
  total_whole [] id v each at e = absurd (some-ne-none v (sym at))
  total_whole (x ∷ xs) zero v each at e =
      let is : f x ≡ f v = ap f (some-injective x v at) in
      let parts : x.parts ≡ v.parts = ap (λ (u : Hand). u.parts) (some-injective x v at) in
      let r = nothing xs (λ j u there. each (suc j) u there) (omega arith) in
      omega arith
  total_whole (x ∷ xs) (suc id) v each at e =
      let p = total-at (λ (u : Hand). u.parts) xs id v at in
      let is : f x ≡ f spent = ap f ((each 0 x refl).idle (omega arith)) in
      let r = total_whole xs id v (λ j u there. each (suc j) u there) at (omega arith) in
      omega arith

module _ (k : Terms) (f : Hand → ℕ) (idle : f spent ≡ 4294967295) where
  nothing_less : (views : List Hand) → ((j : ℕ) (u : Hand) → get_elem? views j ≡ some u → Fits k u) → total_of (λ u. u.parts) views ≡ 0 → least_of f views ≡ 4294967295
  nothing_less [] each e = refl
  nothing_less (x ∷ xs) each e = let is : f x ≡ f spent = ap f ((each 0 x refl).idle (omega arith)) in let r = nothing_less xs (λ j u at. each (suc j) u at) (omega arith) in omega arith

  pub least_whole : (views : List Hand) (id : ℕ) (v : Hand) → ((j : ℕ) (u : Hand) → get_elem? views j ≡ some u → Fits k u) → get_elem? views id ≡ some v → total_of (λ u. u.parts) views ≡ v.parts → least_of f views ≡ min (f v) 4294967295
  least_whole [] id v each at e = absurd (some-ne-none v (sym at))
  least_whole (x ∷ xs) zero v each at e =
      let is : f x ≡ f v = ap f (some-injective x v at) in
      let parts : x.parts ≡ v.parts = ap (λ (u : Hand). u.parts) (some-injective x v at) in
      let r = nothing_less xs (λ j u there. each (suc j) u there) (omega arith) in
      omega arith
  least_whole (x ∷ xs) (suc id) v each at e =
      let p = total-at (λ (u : Hand). u.parts) xs id v at in
      let is : f x ≡ f spent = ap f ((each 0 x refl).idle (omega arith)) in
      let r = least_whole xs id v (λ j u there. each (suc j) u there) at (omega arith) in
      omega arith

-- what the words are at the end
pub record Ended (k : Terms) (v : Hand) (next lowest : ℕ) : Type 0 where
  pub given : (x : ℕ) → times x v.given ≡ once_below x (min next k.total)
  pub finished : 0 < v.finishes → k.total ≤ next
  pub lowest_is : lowest ≡ least v.reported
  pub answered : lowest ≤ v.least

pub ends : (k : Terms) (next lowest : ℕ) (views : List Hand) (id : ℕ) (v : Hand) → Facts k next lowest views → get_elem? views id ≡ some v → v.parts ≡ k.workers → Ended k v next lowest
ends k next lowest views id v b at all =
    let parts = b.parts ∙ sym all in
    record {
      given = λ x. sym (total_whole k (λ (u : Hand). times x u.given) refl views id v b.each at parts) ∙ b.given x;
      finished = λ one_is. let t = total_whole k (λ (u : Hand). u.finishes) refl views id v b.each at parts in b.ended (omega arith);
      lowest_is = let t = least_whole k (λ (u : Hand). least u.reported) refl views id v b.each at parts in let l = least-bound v.reported in let p = b.told in omega arith;
      answered = let t = least_of-at (λ (u : Hand). u.least) views id v at in let p = b.answered in omega arith;
    }

pub ends_at : {A B : Type 0} (k : Terms) (id : ℕ) (v : Hand) (ws : List ℕ) (xs : List (Unit {0})) (next lowest : ℕ) → A × B × Final (Seen (Kept k) id v) ws xs → get_elem? ws 0 ≡ some next → get_elem? ws 1 ≡ some lowest → v.parts ≡ k.workers → Ended k v next lowest
ends_at k id v ws xs next lowest (_, _, (s, (r, at), is, _, _)) first second all =
    let same : r.next ∷ r.lowest ∷ [] ≡ ws = sym r.words ∙ is in
    let a : r.next ≡ next = some-injective r.next next (ap (λ (l : List ℕ). get_elem? l 0) same ∙ first) in
    let b : r.lowest ≡ lowest = some-injective r.lowest lowest (ap (λ (l : List ℕ). get_elem? l 1) same ∙ second) in
    subst (λ (y : ℕ × ℕ). Ended k v y.0 y.1) (λ i. (a i, b i)) (ends k r.next r.lowest s.views id v r.facts at all)

-- the hand that stands for all
pub merged-snoc : (v : Hand) (cs : List Claimer) (c : Claimer) → merged v (cs ++ c ∷ []) ≡ merged (both v (hand c)) cs
merged-snoc v [] c = refl
merged-snoc v (x ∷ xs) c = ap (λ (u : Hand). both u (hand x)) (merged-snoc v xs c)

pub merged-parts : (v : Hand) (cs : List Claimer) → (merged v cs).parts ≡ v.parts + length cs
merged-parts v [] = omega arith
merged-parts v (c ∷ cs) = let one : (hand c).parts ≡ 1 = c.is_claimer.one in let r = merged-parts v cs in omega arith

pub merged-given : (x : ℕ) (v : Hand) (cs : List Claimer) → times x (merged v cs).given ≡ total_of (λ c. times x (hand c).given) cs + times x v.given
merged-given x v [] = omega arith
merged-given x v (c ∷ cs) = let r = merged-given x v cs in let a = times-append x (merged v cs).given (hand c).given in omega arith

pub merged-finishes : (v : Hand) (cs : List Claimer) → (merged v cs).finishes ≡ total_of (λ c. (hand c).finishes) cs + v.finishes
merged-finishes v [] = omega arith
merged-finishes v (c ∷ cs) = let r = merged-finishes v cs in omega arith

pub merged-reported : (v : Hand) (cs : List Claimer) → least (merged v cs).reported ≡ min (least_of (λ c. least (hand c).reported) cs) (least v.reported)
merged-reported v [] = let b = least-bound v.reported in omega arith
merged-reported v (c ∷ cs) = let r = merged-reported v cs in let a = least-append (merged v cs).reported (hand c).reported in omega arith

pub merged-least : (n : ℕ) (v : Hand) (cs : List Claimer) → n ≤ 4294967295 → n ≤ (merged v cs).least → n ≤ min (least_of (λ c. (hand c).least) cs) v.least
merged-least n v [] small h = omega arith
merged-least n v (c ∷ cs) small h = let r = merged-least n v cs small (omega arith) in omega arith

-- the claimers are the others and the last one, and v is the hand that stands for all
module _ (all others : List Claimer) (c : Claimer) (v : Hand) (is : all ≡ others ++ c ∷ []) (stands : v ≡ merged (hand c) others) where
  pub closing-parts : v.parts ≡ length all
  closing-parts =
      let one : (hand c).parts ≡ 1 = c.is_claimer.one in
      let p : v.parts ≡ (merged (hand c) others).parts = ap (λ (u : Hand). u.parts) stands in
      let q = merged-parts (hand c) others in
      let n : length all ≡ length (others ++ c ∷ []) = ap length is in
      let a = length-append others (c ∷ []) in
      omega arith

  pub closing-given : (x : ℕ) → total_of (λ d. times x (hand d).given) all ≡ times x v.given
  closing-given x = ap (total_of (λ d. times x (hand d).given)) is ∙ total-snoc (λ d. times x (hand d).given) others c ∙ sym (merged-given x (hand c) others) ∙ sym (ap (λ (u : Hand). times x u.given) stands)

  pub closing-finishes : total_of (λ d. (hand d).finishes) all ≡ v.finishes
  closing-finishes = ap (total_of (λ d. (hand d).finishes)) is ∙ total-snoc (λ d. (hand d).finishes) others c ∙ sym (merged-finishes (hand c) others) ∙ sym (ap (λ (u : Hand). u.finishes) stands)

  pub closing-reported : least_of (λ d. least (hand d).reported) all ≡ least v.reported
  closing-reported = ap (least_of (λ d. least (hand d).reported)) is ∙ least_of-snoc (λ d. least (hand d).reported) others c ∙ sym (merged-reported (hand c) others) ∙ sym (ap (λ (u : Hand). least u.reported) stands)

  pub closing-least : (n : ℕ) → n ≡ least v.reported → n ≤ v.least → n ≤ least_of (λ d. (hand d).least) all
  closing-least n reported answered =
      let small : n ≤ 4294967295 = (let b = least-bound v.reported in omega arith) in
      let below : n ≤ (merged (hand c) others).least = subst (λ (u : Hand). n ≤ u.least) stands answered in
      let m = merged-least n (hand c) others small below in
      let s = least_of-snoc (λ d. (hand d).least) others c in
      let a : least_of (λ d. (hand d).least) all ≡ least_of (λ d. (hand d).least) (others ++ c ∷ []) = ap (least_of (λ d. (hand d).least)) is in
      omega arith
