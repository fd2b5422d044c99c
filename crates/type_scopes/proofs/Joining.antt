-- What the walks find.
use Rattle.std.proofs.Common.{◌≡◌, ℕ, zero, suc, ◌+◌, ◌-◌, ◌<◌, ◌≤◌, Bool, true, false, cond, if◌then◌else◌, nat_le, List, [], ◌∷◌, ◌++◌, Option, None, Some, length, take, map, find, refl, sym, ◌∙◌, ap, subst, arith, slice_get, inl, inr, ◌⊎◌}
use Rattle.std.specs.Option.{option_map, option_or}
use Rattle.std.proofs.lemmas.Bool.{cases_eq, leb-true, leb-false, le-leb, lt-leb}
use Rattle.std.proofs.lemmas.List.{take_all, length-map}
use Rattle.std.proofs.lemmas.List.Folds.{find-append}
use Rattle.std.proofs.lemmas.Option.{slice_get_within, slice_get-map}
use Rattle.c_meaning.specs.Scope.{begin_of}
use Rattle.c_meaning.specs.Bindings as b
use Rattle.c_meaning.specs.Bindings.{inner, is_visible, visible_in}
use Rattle.type_scopes.specs.declared.linked.Row.{Row}
use Rattle.type_scopes.specs.Seen.{entry_of}
use Rattle.type_scopes.specs.Reaching.{Within}
use Rattle.type_scopes.specs.Walking.{joined, or_found, holds_at, last_where}
use Rattle.type_scopes.specs.Chains.{entries_of, Chain, Leads, Free, IsLink}

-- ---- Two of which the first is older

module _ (x y z : b.Entry) where
  is_later : b.Entry → b.Entry → Bool
  is_later a c = nat_le (begin_of a.declared.scope) (begin_of c.declared.scope)

  second : (a c : b.Entry) → nat_le (begin_of a.declared.scope) (begin_of c.declared.scope) ≡ true → inner (Some a) c ≡ c
  second a c h = ap (λ (t : Bool). if t then c else a) h

  first : (a c : b.Entry) → nat_le (begin_of a.declared.scope) (begin_of c.declared.scope) ≡ false → inner (Some a) c ≡ a
  first a c h = ap (λ (t : Bool). if t then c else a) h

  later_by : (t u : Bool) → nat_le (begin_of x.declared.scope) (begin_of y.declared.scope) ≡ t → nat_le (begin_of y.declared.scope) (begin_of z.declared.scope) ≡ u →
      inner (Some (inner (Some x) y)) z ≡ inner (Some x) (inner (Some y) z)
  later_by true true p q =
      let l = leb-true (begin_of x.declared.scope) (begin_of y.declared.scope) p in
      let m = leb-true (begin_of y.declared.scope) (begin_of z.declared.scope) q in
      let n : nat_le (begin_of x.declared.scope) (begin_of z.declared.scope) ≡ true = le-leb (begin_of x.declared.scope) (begin_of z.declared.scope) (omega (arith, l, m)) in
      ap (λ w. inner (Some w) z) (second x y p) ∙ second y z q ∙ sym (ap (inner (Some x)) (second y z q) ∙ second x z n)
  later_by true false p q = ap (λ w. inner (Some w) z) (second x y p) ∙ first y z q ∙ sym (ap (inner (Some x)) (first y z q) ∙ second x y p)
  later_by false true p q = ap (λ w. inner (Some w) z) (first x y p) ∙ sym (ap (inner (Some x)) (second y z q))
  later_by false false p q =
      let l = leb-false (begin_of x.declared.scope) (begin_of y.declared.scope) p in
      let m = leb-false (begin_of y.declared.scope) (begin_of z.declared.scope) q in
      let n : nat_le (begin_of x.declared.scope) (begin_of z.declared.scope) ≡ false = lt-leb (begin_of x.declared.scope) (begin_of z.declared.scope) (omega (arith, l, m)) in
      ap (λ w. inner (Some w) z) (first x y p) ∙ first x z n ∙ sym (ap (inner (Some x)) (first y z q) ∙ first x y p)

pub joined_twice : (x y z : Option b.Entry) → joined (joined x y) z ≡ joined x (joined y z)
joined_twice None y z = refl
joined_twice (Some x) None z = refl
joined_twice (Some x) (Some y) None = refl
joined_twice (Some x) (Some y) (Some z) = ap Some (later_by x y z (nat_le (begin_of x.declared.scope) (begin_of y.declared.scope)) (nat_le (begin_of y.declared.scope) (begin_of z.declared.scope)) refl refl)

-- ---- Lists of declarations

abbrev pub es_of : List Row → List b.Entry
es_of xs = map entry_of (entries_of xs)

pub at_es : (xs : List Row) (k : ℕ) (x : Row) → slice_get xs k ≡ Some x → slice_get (es_of xs) k ≡ Some (entry_of x.entry)
at_es xs k x h = slice_get-map entry_of (entries_of xs) k ∙ ap (option_map entry_of) (slice_get-map (λ (r : Row). r.entry) xs k ∙ ap (option_map (λ (r : Row). r.entry)) h)

pub es_long : (xs : List Row) → length (es_of xs) ≡ length xs
es_long xs = length-map (entries_of xs) entry_of ∙ length-map xs (λ (r : Row). r.entry)

no_entry : (k : ℕ) (e : b.Entry) → slice_get [] k ≡ Some e → ⊥
no_entry k e h = less k (slice_get_within [] k e h)
  where
    less : (k : ℕ) → k < 0 → ⊥
    less k l = omega (arith, l)

abbrev first_entry : Option b.Entry → List b.Entry
first_entry None = []
first_entry (Some y) = y ∷ []

pub taken : (es : List b.Entry) (e : b.Entry) (k : ℕ) → slice_get es k ≡ Some e → take (suc k) es ≡ take k es ++ e ∷ []
taken [] e k h = absurd (no_entry k e h)
taken (x ∷ es) e zero h = ap first_entry h
taken (x ∷ es) e (suc k) h = ap (λ ys. x ∷ ys) (taken es e k h)

pub some_at : (xs : List Row) (k : ℕ) → k < length xs → (x : Row) × (slice_get xs k ≡ Some x)
some_at [] k h = absurd (none h)
  where
    none : k < 0 → ⊥
    none l = omega (arith, l)
some_at (x ∷ xs) zero h = (x, refl)
some_at (x ∷ xs) (suc k) h = some_at xs k (omega (arith, h))

abbrev pub or_row : Row → Option Row → Row
or_row x None = x
or_row x (Some y) = y

-- ---- What changes nothing from each place to the next changes nothing on the way

steps : {B : Type 0} (F : ℕ → B) (low n : ℕ) → ((k : ℕ) → low ≤ k → k < low + n → F (suc k) ≡ F k) → F (low + n) ≡ F low
steps F low zero h = ap F (omega arith)
steps F low (suc n) h =
    let e : low + suc n ≡ suc (low + n) = omega arith in
    ap F e ∙ h (low + n) (omega arith) (omega arith) ∙ steps F low n (λ k l m. h k l (omega (arith, m)))

on_the_way : {B : Type 0} (F : ℕ → B) (low high : ℕ) → low ≤ high → ((k : ℕ) → low ≤ k → k < high → F (suc k) ≡ F k) → F high ≡ F low
on_the_way F low high l h =
    let e : high ≡ low + (high - low) = omega (arith, l) in
    ap F e ∙ steps F low (high - low) (λ k m n. h k m (omega (arith, n, l)))

module _ {B : Type 0} (F : ℕ → B) (c : Chain) (n : ℕ) (xs : List Row) (others : (j : ℕ) (z : Row) → slice_get xs j ≡ Some z → (c.bucket z ≡ n → ⊥) → F (suc j) ≡ F j) where
  pub past_free : (low high : ℕ) → low ≤ high → high ≤ length xs → Free c n xs low high → F high ≡ F low
  past_free low high l m free = on_the_way F low high l (λ j p q.
      let r : (z : Row) × (slice_get xs j ≡ Some z) = some_at xs j (omega (arith, q, m)) in
      others j r.0 r.1 (λ of. free j r.0 p q r.1 of))

  pub past_jump : (k : ℕ) (x : Row) → IsLink c xs k x → c.bucket x ≡ n → slice_get xs k ≡ Some x →
      ((j : ℕ) (z : Row) → slice_get xs j ≡ Some z → Within (c.span z) (c.link x).span → F (suc j) ≡ F j) → F (suc k) ≡ F (c.link x).jump
  past_jump k x is of at inside =
      let few = is.few in
      let further = is.further in
      let within = slice_get_within xs k x at in
      on_the_way F (c.link x).jump (suc k) (omega (arith, few, further)) (λ j p q.
      let r : (z : Row) × (slice_get xs j ≡ Some z) = some_at xs j (omega (arith, q, within)) in
      by_bucket j r.0 r.1 p q (cases_eq (c.bucket r.0) n))
    where
      by_bucket : (j : ℕ) (z : Row) → slice_get xs j ≡ Some z → (c.link x).jump ≤ j → j < suc k → (c.bucket z ≡ n) ⊎ (c.bucket z ≡ n → ⊥) → F (suc j) ≡ F j
      by_bucket j z g p q (inl same) = inside j z g (is.covers j z p (omega (arith, q)) g (same ∙ sym of))
      by_bucket j z g p q (inr other) = others j z g other

-- ---- The first that passes a test

module _ (p : b.Entry → Bool) where
  or_twice : (a : Option b.Entry) (t : Bool) (e : b.Entry) (later : Option b.Entry) → option_or (option_or a (cond t (Some e) None)) later ≡ option_or a (cond t (Some e) later)
  or_twice None true e later = refl
  or_twice None false e later = refl
  or_twice (Some x) t e later = refl

  pub finding : List Row → Option b.Entry → ℕ → Option b.Entry
  finding xs later k = option_or (find p (take k (es_of xs))) later

  found_step : (xs : List Row) (k : ℕ) (x : Row) (later : Option b.Entry) → slice_get xs k ≡ Some x → option_or (find p (take (suc k) (es_of xs))) later ≡ option_or (find p (take k (es_of xs))) (cond (p (entry_of x.entry)) (Some (entry_of x.entry)) later)
  found_step xs k x later at =
      ap (λ ys. option_or (find p ys) later) (taken (es_of xs) (entry_of x.entry) k (at_es xs k x at))
      ∙ ap (λ o. option_or o later) (find-append p (take k (es_of xs)) (entry_of x.entry ∷ []))
      ∙ or_twice (find p (take k (es_of xs))) (p (entry_of x.entry)) (entry_of x.entry) later

  found_same : (xs : List Row) (k : ℕ) (x : Row) (later : Option b.Entry) → slice_get xs k ≡ Some x → p (entry_of x.entry) ≡ false → option_or (find p (take (suc k) (es_of xs))) later ≡ option_or (find p (take k (es_of xs))) later
  found_same xs k x later at h = found_step xs k x later at ∙ ap (λ t. option_or (find p (take k (es_of xs))) (cond t (Some (entry_of x.entry)) later)) h

-- on the way back: what is left and what was found make up all
pub record IsFinding (c : Chain) (n : ℕ) (p : b.Entry → Bool) (xs : List Row) (later : Option b.Entry) (left : ℕ) : Type 0 where
  pub leads : Leads c n xs left
  pub rest : option_or (find p (take left (es_of xs))) later ≡ find p (es_of xs)

-- on the way back: the last is among those that are left
pub record IsSeeking (c : Chain) (n : ℕ) (p : b.Entry → Bool) (xs : List Row) (count left : ℕ) : Type 0 where
  pub leads : Leads c n xs left
  pub rest : last_where p (es_of xs) left ≡ last_where p (es_of xs) count

or_none : (o : Option b.Entry) → option_or o None ≡ o
or_none None = refl
or_none (Some e) = refl

all_taken : (p : b.Entry → Bool) (xs : List Row) → option_or (find p (take (length xs) (es_of xs))) None ≡ find p (es_of xs)
all_taken p xs = or_none (find p (take (length xs) (es_of xs))) ∙ ap (find p) (take_all (length xs) (es_of xs) (let l = es_long xs in omega (arith, l)))

module _ (c : Chain) (n : ℕ) (p : b.Entry → Bool) (xs : List Row) (others : (z : Row) → (c.bucket z ≡ n → ⊥) → p (entry_of z.entry) ≡ false) where
  pub leads_few : (left : ℕ) → Leads c n xs left → left ≤ length xs
  leads_few zero h = omega arith
  leads_few (suc k) h = let r = h k refl in let w = slice_get_within xs k r.0 r.1 in omega (arith, w)

  of_bucket : (left k : ℕ) (x : Row) → Leads c n xs left → left ≡ suc k → slice_get xs k ≡ Some x → c.bucket x ≡ n
  of_bucket left k x h e at = let r = h k e in ap c.bucket (ap (or_row x) (sym at ∙ r.1)) ∙ r.2

  other_found : (later : Option b.Entry) (j : ℕ) (z : Row) → slice_get xs j ≡ Some z → (c.bucket z ≡ n → ⊥) → option_or (find p (take (suc j) (es_of xs))) later ≡ option_or (find p (take j (es_of xs))) later
  other_found later j z at other = found_same p xs j z later at (others z other)

  pub finding_starts : (left : ℕ) → Leads c n xs left → Free c n xs left (length xs) → IsFinding c n p xs None left
  finding_starts left leads free = record {
    leads = leads;
    rest = sym (past_free (λ k. option_or (find p (take k (es_of xs))) None) c n xs (other_found None) left (length xs) (leads_few left leads) (omega arith) free) ∙ all_taken p xs;
  }

  pub finding_jumps : (later : Option b.Entry) (left k : ℕ) (x : Row) → left ≡ suc k → slice_get xs k ≡ Some x → IsLink c xs k x → IsFinding c n p xs later left →
      ((z : Row) → Within (c.span z) (c.link x).span → p (entry_of z.entry) ≡ false) → IsFinding c n p xs later (c.link x).jump
  finding_jumps later left k x e at is way hidden =
      let of = of_bucket left k x way.leads e at in record {
        leads = subst (λ m. Leads c m xs (c.link x).jump) of is.jump;
        rest =
            sym (past_jump (λ k. option_or (find p (take k (es_of xs))) later) c n xs (other_found later) k x is of at (λ j z g w. found_same p xs j z later g (hidden z w)))
            ∙ ap (λ m. option_or (find p (take m (es_of xs))) later) (sym e) ∙ way.rest;
      }

  pub finding_goes : (later next : Option b.Entry) (left k : ℕ) (x : Row) → left ≡ suc k → slice_get xs k ≡ Some x → IsLink c xs k x → IsFinding c n p xs later left → next ≡ or_found (p (entry_of x.entry)) (entry_of x.entry) later →
      IsFinding c n p xs next (c.link x).older
  finding_goes later next left k x e at is way new =
      let of = of_bucket left k x way.leads e at in
      let within = slice_get_within xs k x at in record {
        leads = subst (λ m. Leads c m xs (c.link x).older) of is.older;
        rest =
            sym (past_free (λ k. option_or (find p (take k (es_of xs))) next) c n xs (other_found next) (c.link x).older k is.few (omega (arith, within)) (subst (λ m. Free c m xs (c.link x).older k) of is.free))
            ∙ ap (option_or (find p (take k (es_of xs)))) new
            ∙ sym (found_step p xs k x later at)
            ∙ ap (λ m. option_or (find p (take m (es_of xs))) later) (sym e) ∙ way.rest;
      }

  pub finding_ends : (later : Option b.Entry) (left : ℕ) → left ≡ 0 → IsFinding c n p xs later left → later ≡ find p (es_of xs)
  finding_ends later left e way = ap (λ m. option_or (find p (take m (es_of xs))) later) (sym e) ∙ way.rest

  -- ---- The last that passes a test

  last_here : (k : ℕ) (x : Row) → slice_get xs k ≡ Some x → last_where p (es_of xs) (suc k) ≡ cond (p (entry_of x.entry)) (suc k) (last_where p (es_of xs) k)
  last_here k x at = ap (λ o. cond (holds_at p o) (suc k) (last_where p (es_of xs) k)) (at_es xs k x at)

  last_same : (k : ℕ) (x : Row) → slice_get xs k ≡ Some x → p (entry_of x.entry) ≡ false → last_where p (es_of xs) (suc k) ≡ last_where p (es_of xs) k
  last_same k x at h = last_here k x at ∙ ap (λ t. cond t (suc k) (last_where p (es_of xs) k)) h

  pub seeking_starts : (left count : ℕ) → left ≤ count → count ≤ length xs → Leads c n xs left → Free c n xs left count → IsSeeking c n p xs count left
  seeking_starts left count l m leads free = record { leads = leads; rest = sym (past_free (last_where p (es_of xs)) c n xs (λ j z at other. last_same j z at (others z other)) left count l m free) }

  pub seeking_jumps : (count left k : ℕ) (x : Row) → left ≡ suc k → slice_get xs k ≡ Some x → IsLink c xs k x → IsSeeking c n p xs count left →
      ((z : Row) → Within (c.span z) (c.link x).span → p (entry_of z.entry) ≡ false) → IsSeeking c n p xs count (c.link x).jump
  seeking_jumps count left k x e at is way hidden =
      let of = of_bucket left k x way.leads e at in record {
        leads = subst (λ m. Leads c m xs (c.link x).jump) of is.jump;
        rest =
            sym (past_jump (last_where p (es_of xs)) c n xs (λ j z g other. last_same j z g (others z other)) k x is of at (λ j z g w. last_same j z g (hidden z w)))
            ∙ ap (last_where p (es_of xs)) (sym e) ∙ way.rest;
      }

  pub seeking_goes : (count left k : ℕ) (x : Row) → left ≡ suc k → slice_get xs k ≡ Some x → IsLink c xs k x → IsSeeking c n p xs count left → p (entry_of x.entry) ≡ false → IsSeeking c n p xs count (c.link x).older
  seeking_goes count left k x e at is way fails =
      let of = of_bucket left k x way.leads e at in
      let within = slice_get_within xs k x at in record {
        leads = subst (λ m. Leads c m xs (c.link x).older) of is.older;
        rest =
            sym (past_free (last_where p (es_of xs)) c n xs (λ j z g other. last_same j z g (others z other)) (c.link x).older k is.few (omega (arith, within)) (subst (λ m. Free c m xs (c.link x).older k) of is.free))
            ∙ sym (last_same k x at fails) ∙ ap (last_where p (es_of xs)) (sym e) ∙ way.rest;
      }

  pub seeking_meets : (count left k : ℕ) (x : Row) → left ≡ suc k → slice_get xs k ≡ Some x → IsSeeking c n p xs count left → p (entry_of x.entry) ≡ true → left ≡ last_where p (es_of xs) count
  seeking_meets count left k x e at way passes =
      e ∙ sym (last_here k x at ∙ ap (λ t. cond t (suc k) (last_where p (es_of xs) k)) passes) ∙ ap (last_where p (es_of xs)) (sym e) ∙ way.rest

  pub seeking_ends : (count left : ℕ) → left ≡ 0 → IsSeeking c n p xs count left → 0 ≡ last_where p (es_of xs) count
  seeking_ends count left e way = ap (last_where p (es_of xs)) (sym e) ∙ way.rest
