-- Each kind of step keeps the rule of the two words.
use Rattle.std.proofs.Common.{◌≡◌, ℕ, zero, suc, ◌+◌, ◌%◌, ◌^◌, ◌<◌, ◌≤◌, ◌≢◌, ⊎_elim, min, Bool, true, false, List, [], ◌∷◌, ◌++◌, set, slice_index, slice_set, sym, refl, ap, ◌∙◌, subst, arith, nat_lt, if◌then◌else◌}
use mathlib.Core.Option.{some, none, some-injective, some-ne-none}
use lib.ListN.{get_elem?}
use Rattle.atomic_table.specs.Table.{Me, Act, keeps, step, Valid, homes_after, carried_after, opening, Allows, Splits, Joins}
use Rattle.atomic_table.proofs.Lists.{at_set, at_snoc, set_else}
use Rattle.std.proofs.lemmas.Bool.Decides.{nat_tests}
use Rattle.std.proofs.lemmas.List.Elements.{All-nil, All-push}
use Rattle.work_claims.specs.declared.knowledge.Hand.{Hand}
use Rattle.work_claims.specs.declared.knowledge.Terms.{Terms}
use Rattle.work_claims.specs.Counts.{times, once_below, least, total_of, Among}
use Rattle.work_claims.specs.Hands.{IsClaimer, fresh, spent, with_given, with_finish, with_report, with_answer, taken, one_less, both}
use Rattle.work_claims.specs.Rule.{Fits, Facts, Kept, Takes, Tells, Looks}
use Rattle.work_claims.proofs.Sums.{times-append, times-last, once_below-suc, least-bound, least-append, among_longer, among_both, total-set, total-snoc, total-join, least_of-set, least_of-same, least_of-snoc, least_of-at, least_of-bound, least_of-join}

abbrev Own : Type 0
Own = Me (Unit {0}) Hand

-- every hand fits after a change of one
each_set : (k : Terms) (views : List Hand) (id : ℕ) (w : Hand) → Fits k w → ((j : ℕ) (u : Hand) → get_elem? views j ≡ some u → Fits k u)
    → (j : ℕ) (u : Hand) → get_elem? (set views id w) j ≡ some u → Fits k u
each_set k views id w mine others j u e = ⊎_elim (λ (x : (j ≡ id) × (w ≡ u)). subst (λ (y : Hand). Fits k y) x.1 mine) (λ (x : (j ≢ id) × (get_elem? views j ≡ some u)). others j u x.1) (at_set views id j w u e)

each_snoc : (k : Terms) (views : List Hand) (w : Hand) → Fits k w → ((j : ℕ) (u : Hand) → get_elem? views j ≡ some u → Fits k u)
    → (j : ℕ) (u : Hand) → get_elem? (views ++ w ∷ []) j ≡ some u → Fits k u
each_snoc k views w mine others j u e = ⊎_elim (λ (x : get_elem? views j ≡ some u). others j u x) (λ (x : w ≡ u). subst (λ (y : Hand). Fits k y) x mine) (at_snoc views w u j e)

-- a step on the first word
next_step : (k : Terms) (slots id : ℕ) (me : Own) (f : ℕ → ℕ) (tells_of : ℕ → Own → Type 0)
    → ((next lowest : ℕ) (views : List Hand) → Facts k next lowest views → get_elem? views id ≡ some me.0 → next < 18446744073709551616 → (w : Hand) × Facts k (f next) lowest (set views id w) × tells_of next (w, me.1))
    → Allows (Kept k) slots id me 0 f tells_of
next_step k slots id me f tells_of given s r _ at small = subst (λ ws. slice_index ws 0 < 18446744073709551616
    → (w : Hand) × (a : Act (Unit {0})) × Valid s.homes me.1 a × Kept k record { words = slice_set ws 0 (f (slice_index ws 0)); homes = homes_after s.homes me.1 a; views = slice_set s.views id w } × tells_of (slice_index ws 0) (w, carried_after me.1 a))
    (sym r.words)
    (λ fits. let t = given r.next r.lowest s.views r.facts at fits in (t.0, keeps, tt, record { next = f r.next; lowest = r.lowest; words = refl; facts = t.1 }, t.2))
    small

-- a step on the second word
lowest_step : (k : Terms) (slots id : ℕ) (me : Own) (f : ℕ → ℕ) (tells_of : ℕ → Own → Type 0)
    → ((next lowest : ℕ) (views : List Hand) → Facts k next lowest views → get_elem? views id ≡ some me.0 → (w : Hand) × Facts k next (f lowest) (set views id w) × tells_of lowest (w, me.1))
    → Allows (Kept k) slots id me 1 f tells_of
lowest_step k slots id me f tells_of given s r _ at small = subst (λ ws. (w : Hand) × (a : Act (Unit {0})) × Valid s.homes me.1 a × Kept k record { words = slice_set ws 1 (f (slice_index ws 1)); homes = homes_after s.homes me.1 a; views = slice_set s.views id w } × tells_of (slice_index ws 1) (w, carried_after me.1 a))
    (sym r.words)
    (let t = given r.next r.lowest s.views r.facts at in (t.0, keeps, tt, record { next = r.next; lowest = f r.lowest; words = refl; facts = t.1 }, t.2))

-- no more claimers are finished than there are
finishes_le : (k : Terms) (views : List Hand) → ((j : ℕ) (u : Hand) → get_elem? views j ≡ some u → Fits k u) → total_of (λ v. v.finishes) views ≤ total_of (λ v. v.parts) views
finishes_le k [] each = omega arith
finishes_le k (x ∷ xs) each = let one = (each 0 x refl).once in let rest = finishes_le k xs (λ j u e. each (suc j) u e) in omega arith

-- the number found is given
gives : (k : Terms) (next lowest : ℕ) (views : List Hand) (id : ℕ) (v : Hand) → v.parts ≡ 1 → Facts k next lowest views → get_elem? views id ≡ some v → next < v.total
    → Facts k (next + 1) lowest (set views id (with_given v next))
gives k next lowest views id v one b at below =
    let w : Hand = with_given v next in
    let fit = b.each id v at in
    let told : v.total ≡ k.total = fit.told (omega arith) in
    let parts = total-set (λ (u : Hand). u.parts) views id v w at in
    let finishes = total-set (λ (u : Hand). u.finishes) views id v w at in
    let was : min next k.total ≡ next = omega arith in
    let is : min (next + 1) k.total ≡ next + 1 = omega arith in
    record {
      small = b.small;
      parts = let p = b.parts in omega arith;
      given = λ x. let s = total-set (λ (u : Hand). times x u.given) views id v w at in let p = ap (once_below x) was in let q = ap (once_below x) is in let a = times-append x v.given (next ∷ []) in let o = once_below-suc x next in let g = b.given x in omega arith;
      room = let r = b.room in omega arith;
      ended = λ one_is. let r = b.ended (omega arith) in omega arith;
      told = b.told ∙ sym (least_of-same (λ (u : Hand). least u.reported) views id v w at refl);
      answered = let a = b.answered in let s = least_of-same (λ (u : Hand). u.least) views id v w at refl in omega arith;
      each = each_set k views id w record { idle = λ none_is. absurd (omega arith); told = λ _. told; once = fit.once; own = among_longer v.reported v.given (next ∷ []) fit.own } b.each;
    }

-- no number is left, and the claimer is finished
finishes : (k : Terms) (next lowest : ℕ) (views : List Hand) (id : ℕ) (v : Hand) → v.parts ≡ 1 → v.finishes ≡ 0 → Facts k next lowest views → get_elem? views id ≡ some v → v.total ≤ next
    → Facts k (next + 1) lowest (set views id (with_finish v))
finishes k next lowest views id v one going b at above =
    let w : Hand = with_finish v in
    let fit = b.each id v at in
    let told : v.total ≡ k.total = fit.told (omega arith) in
    let parts = total-set (λ (u : Hand). u.parts) views id v w at in
    let ends = total-set (λ (u : Hand). u.finishes) views id v w at in
    let same : min (next + 1) k.total ≡ min next k.total = omega arith in
    record {
      small = b.small;
      parts = let p = b.parts in omega arith;
      given = λ x. let s = total-set (λ (u : Hand). times x u.given) views id v w at in let p = ap (once_below x) same in let g = b.given x in omega arith;
      room = let r = b.room in omega arith;
      ended = λ one_is. omega arith;
      told = b.told ∙ sym (least_of-same (λ (u : Hand). least u.reported) views id v w at refl);
      answered = let a = b.answered in let s = least_of-same (λ (u : Hand). u.least) views id v w at refl in omega arith;
      each = each_set k views id w record { idle = λ none_is. absurd (omega arith); told = λ _. told; once = omega arith; own = fit.own } b.each;
    }

-- the next word does not wrap
wide : (k : Terms) (next lowest : ℕ) (views : List Hand) → Facts k next lowest views → (next + 1) % 2 ^ 64 ≡ next + 1
wide k next lowest views b = let f = finishes_le k views b.each in let p = b.parts in let r = b.room in let s = b.small in omega arith

taken_by : (k : Terms) (next lowest : ℕ) (views : List Hand) (id : ℕ) (v : Hand) → v.parts ≡ 1 → v.finishes ≡ 0 → Facts k next lowest views → get_elem? views id ≡ some v
    → (t : Bool) → nat_lt next v.total ≡ t → Facts k (next + 1) lowest (set views id (if t then with_given v next else with_finish v))
taken_by k next lowest views id v one going b at true e = gives k next lowest views id v one b at (grind (arith, nat_tests))
taken_by k next lowest views id v one going b at false e = finishes k next lowest views id v one going b at (grind (arith, nat_tests))

pub takes : (k : Terms) (slots id : ℕ) (me : Own) → me.0.parts ≡ 1 → me.0.finishes ≡ 0 → Allows (Kept k) slots id me 0 (λ n. (n + 1) % 2 ^ 64) (Takes (step slots 0 1 0 none) me)
takes k slots id me one going = next_step k slots id me (λ n. (n + 1) % 2 ^ 64) (Takes (step slots 0 1 0 none) me) (λ next lowest views b at _. (
  taken me.0 next,
  subst (λ n. Facts k n lowest (set views id (taken me.0 next))) (sym (wide k next lowest views b)) (taken_by k next lowest views id me.0 one going b at (nat_lt next me.0.total) refl),
  (refl, refl),
))

pub tells : (k : Terms) (slots id : ℕ) (me : Own) (number : ℕ) → me.0.parts ≡ 1 → number < 2 ^ 32 → 0 < times number me.0.given → Allows (Kept k) slots id me 1 (λ n. min n number) (Tells (step slots 1 number 0 none) me)
tells k slots id me number one small mine = lowest_step k slots id me (λ n. min n number) (Tells (step slots 1 number 0 none) me) (λ next lowest views b at.
    let v : Hand = me.0 in
    let w : Hand = with_report v number in
    let fit = b.each id v at in
    let parts = total-set (λ (u : Hand). u.parts) views id v w at in
    let ends = total-set (λ (u : Hand). u.finishes) views id v w at in
    let lower : least w.reported ≡ min (least v.reported) number = (let a = least-append v.reported (number ∷ []) in omega arith) in (
      w,
      record {
        small = b.small;
        parts = let p = b.parts in omega arith;
        given = λ x. let s = total-set (λ (u : Hand). times x u.given) views id v w at in let g = b.given x in omega arith;
        room = let r = b.room in omega arith;
        ended = λ one_is. b.ended (omega arith);
        told = ap (λ n. min n number) b.told ∙ sym (least_of-set (λ (u : Hand). least u.reported) views id v w number at lower);
        answered = let a = b.answered in let s = least_of-same (λ (u : Hand). u.least) views id v w at refl in omega arith;
        each = each_set k views id w record { idle = λ none_is. absurd (omega arith); told = fit.told; once = fit.once; own = All-push (λ x. 0 < times x v.given) v.reported number fit.own mine } b.each;
      },
      (refl, refl),
    ))

pub looks : (k : Terms) (slots id : ℕ) (me : Own) → me.0.parts ≡ 1 → Allows (Kept k) slots id me 1 (λ n. n) (Looks (step slots 1 0 0 none) me)
looks k slots id me one = lowest_step k slots id me (λ n. n) (Looks (step slots 1 0 0 none) me) (λ next lowest views b at.
    let v : Hand = me.0 in
    let w : Hand = with_answer v lowest in
    let fit = b.each id v at in
    let parts = total-set (λ (u : Hand). u.parts) views id v w at in
    let ends = total-set (λ (u : Hand). u.finishes) views id v w at in
    let report : lowest ≤ least v.reported = (let a = least_of-at (λ (u : Hand). least u.reported) views id v at in let t = b.told in omega arith) in
    let answer : lowest ≤ v.least = (let a = least_of-at (λ (u : Hand). u.least) views id v at in let t = b.answered in omega arith) in (
      w,
      record {
        small = b.small;
        parts = let p = b.parts in omega arith;
        given = λ x. let s = total-set (λ (u : Hand). times x u.given) views id v w at in let g = b.given x in omega arith;
        room = let r = b.room in omega arith;
        ended = λ one_is. b.ended (omega arith);
        told = b.told ∙ sym (least_of-same (λ (u : Hand). least u.reported) views id v w at refl);
        answered = let a = b.answered in let s = least_of-set (λ (u : Hand). u.least) views id v w lowest at (omega arith) in omega arith;
        each = each_set k views id w record { idle = λ none_is. absurd (omega arith); told = fit.told; once = fit.once; own = fit.own } b.each;
      },
      (refl, refl, report, answer, (let l = least-bound v.reported in omega arith)),
    ))

pub starts : (k : Terms) → 0 < k.workers → k.total + k.workers < 4294967295 → Kept k (opening (0 ∷ 4294967295 ∷ []) [] (fresh k.total k.workers))
starts k more small = record {
  next = 0;
  lowest = 4294967295;
  words = refl;
  facts = record {
    small = small;
    parts = omega arith;
    given = λ x. grind (arith, nat_tests);
    room = omega arith;
    ended = λ none_is. absurd (omega arith);
    told = refl;
    answered = omega arith;
    each = λ j u e. one_only k more j u e;
  };
}
  where
    first_fits : (k : Terms) → 0 < k.workers → Fits k (fresh k.total k.workers)
    first_fits k more = record { idle = λ none_is. absurd (omega arith); told = λ _. refl; once = omega arith; own = All-nil (λ x. 0 < times x []) }

    one_only : (k : Terms) → 0 < k.workers → (j : ℕ) (u : Hand) → get_elem? (fresh k.total k.workers ∷ []) j ≡ some u → Fits k u
    one_only k more zero u e = subst (λ (y : Hand). Fits k y) (some-injective (fresh k.total k.workers) u e) (first_fits k more)
    one_only k more (suc j) u e = absurd (some-ne-none u (sym e))

pub splits : (k : Terms) (id total parts : ℕ) → 1 < parts → Splits (Kept k) id (fresh total parts) (one_less (fresh total parts)) (fresh total 1)
splits k id total parts more s r at =
    let b = r.facts in
    let v : Hand = fresh total parts in
    let l : Hand = one_less v in
    let n : Hand = fresh total 1 in
    let fit = b.each id v at in
    let told : total ≡ k.total = fit.told (omega arith) in
    let views : List Hand = set s.views id l in
    record {
      next = r.next;
      lowest = r.lowest;
      words = r.words;
      facts = record {
        small = b.small;
        parts = let p = b.parts in let s1 = total-set (λ (u : Hand). u.parts) s.views id v l at in let s2 = total-snoc (λ (u : Hand). u.parts) views n in omega arith;
        given = λ x. let g = b.given x in let s1 = total-set (λ (u : Hand). times x u.given) s.views id v l at in let s2 = total-snoc (λ (u : Hand). times x u.given) views n in omega arith;
        room = let g = b.room in let s1 = total-set (λ (u : Hand). u.finishes) s.views id v l at in let s2 = total-snoc (λ (u : Hand). u.finishes) views n in omega arith;
        ended = λ one_is. let s1 = total-set (λ (u : Hand). u.finishes) s.views id v l at in let s2 = total-snoc (λ (u : Hand). u.finishes) views n in b.ended (omega arith);
        told = let g = b.told in let s1 = least_of-same (λ (u : Hand). least u.reported) s.views id v l at refl in let s2 = least_of-snoc (λ (u : Hand). least u.reported) views n in let m = least_of-bound (λ (u : Hand). least u.reported) views in omega arith;
        answered = let g = b.answered in let s1 = least_of-same (λ (u : Hand). u.least) s.views id v l at refl in let s2 = least_of-snoc (λ (u : Hand). u.least) views n in let m = least_of-bound (λ (u : Hand). u.least) views in omega arith;
        each = each_snoc k views n record { idle = λ none_is. absurd (omega arith); told = λ _. told; once = omega arith; own = All-nil (λ x. 0 < times x []) }
            (each_set k s.views id l record { idle = λ none_is. absurd (omega arith); told = λ _. told; once = omega arith; own = All-nil (λ x. 0 < times x []) } b.each);
      };
    }

pub splits_at : (k : Terms) (id total parts : ℕ) (v : Hand) → v ≡ fresh total parts → 1 < parts → Splits (Kept k) id v (one_less v) (fresh v.total 1)
splits_at k id total parts v e more = subst (λ (u : Hand). Splits (Kept k) id u (one_less u) (fresh u.total 1)) (sym e) (splits k id total parts more)

pub joins : (k : Terms) (id other : ℕ) (v w : Hand) → 0 < v.parts → Joins (Kept k) id v other w (both v w) spent
joins k id other v w more s r at apart there =
    let b = r.facts in
    let t : Hand = both v w in
    let was : get_elem? s.views other ≡ some w = sym (set_else s.views id other t apart) ∙ there in
    let mine = b.each id v at in
    let theirs = b.each other w was in
    record {
      next = r.next;
      lowest = r.lowest;
      words = r.words;
      facts = record {
        small = b.small;
        parts = total-join (λ (u : Hand). u.parts) s.views id other v w t spent at there refl refl ∙ b.parts;
        given = λ x. total-join (λ (u : Hand). times x u.given) s.views id other v w t spent at there (times-append x v.given w.given) refl ∙ b.given x;
        room = let g = b.room in let j = total-join (λ (u : Hand). u.finishes) s.views id other v w t spent at there refl refl in omega arith;
        ended = λ one_is. let j = total-join (λ (u : Hand). u.finishes) s.views id other v w t spent at there refl refl in b.ended (omega arith);
        told = b.told ∙ sym (least_of-join (λ (u : Hand). least u.reported) s.views id other v w t spent at was apart (least-append v.reported w.reported) refl);
        answered = let g = b.answered in let j = least_of-join (λ (u : Hand). u.least) s.views id other v w t spent at was apart refl refl in omega arith;
        each = each_set k (set s.views id t) other spent record { idle = λ _. refl; told = λ one. absurd (omega arith); once = omega arith; own = All-nil (λ x. 0 < times x []) }
            (each_set k s.views id t record { idle = λ none_is. absurd (omega arith); told = λ _. mine.told more; once = (let a = mine.once in let c = theirs.once in omega arith); own = among_both v.reported w.reported v.given w.given mine.own theirs.own } b.each);
      };
    }

taken_own : (v : Hand) (n : ℕ) (t : Bool) → Among v.reported v.given → Among (if t then with_given v n else with_finish v).reported (if t then with_given v n else with_finish v).given
taken_own v n true own = among_longer v.reported v.given (n ∷ []) own
taken_own v n false own = own

taken_parts : (v : Hand) (n : ℕ) (t : Bool) → (if t then with_given v n else with_finish v).parts ≡ v.parts
taken_parts v n true = refl
taken_parts v n false = refl

pub taken_total : (v w : Hand) (n : ℕ) → w ≡ taken v n → w.total ≡ v.total
taken_total v w n e = ap (λ (u : Hand). u.total) e ∙ go v n (nat_lt n v.total)
  where
    go : (v : Hand) (n : ℕ) (t : Bool) → (if t then with_given v n else with_finish v).total ≡ v.total
    go v n true = refl
    go v n false = refl

pub taken_stays : (v w : Own) (n : ℕ) → w.1 ≡ v.1 → w.0 ≡ taken v.0 n → IsClaimer v → IsClaimer w
taken_stays v w n same e c = record {
  one = ap (λ (u : Hand). u.parts) e ∙ taken_parts v.0 n (nat_lt n v.0.total) ∙ c.one;
  no_slot = same ∙ c.no_slot;
  own = subst (λ (u : Hand). Among u.reported u.given) (sym e) (taken_own v.0 n (nat_lt n v.0.total) c.own);
}

pub taken_has : (v w : Hand) (n : ℕ) → w ≡ taken v n → n < v.total → 0 < times n w.given
taken_has v w n e below = subst (λ (u : Hand). 0 < times n u.given) (sym e) (go v n below (nat_lt n v.total) refl)
  where
    go : (v : Hand) (n : ℕ) → n < v.total → (t : Bool) → nat_lt n v.total ≡ t → 0 < times n (if t then with_given v n else with_finish v).given
    go v n below true is = times-last n v.given
    go v n below false is = absurd (grind (arith, nat_tests))

pub told_stays : (v w : Own) (n : ℕ) → w.1 ≡ v.1 → w.0 ≡ with_report v.0 n → 0 < times n v.0.given → IsClaimer v → IsClaimer w
told_stays v w n same e mine c = record {
  one = ap (λ (u : Hand). u.parts) e ∙ c.one;
  no_slot = same ∙ c.no_slot;
  own = subst (λ (u : Hand). Among u.reported u.given) (sym e) (All-push (λ x. 0 < times x v.0.given) v.0.reported n c.own mine);
}

pub looked_stays : (v w : Own) (n : ℕ) → w.1 ≡ v.1 → w.0 ≡ with_answer v.0 n → IsClaimer v → IsClaimer w
looked_stays v w n same e c = record {
  one = ap (λ (u : Hand). u.parts) e ∙ c.one;
  no_slot = same ∙ c.no_slot;
  own = subst (λ (u : Hand). Among u.reported u.given) (sym e) c.own;
}
