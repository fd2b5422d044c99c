-- What holds of each place so far, and the places at which functions begin.
use Rattle.std.proofs.Common.{◌≡◌, ◌⊎◌, inl, inr, ℕ, zero, suc, ◌<◌, ◌≤◌, List, [], ◌∷◌, length, Some, slice_get, refl, sym, ap, ◌∙◌, subst, arith, Bool, Result, Ok, Err}
use Rattle.std.specs.Prelude.{IfOk, IsTrue, slice_set}
use Rattle.std.proofs.lemmas.Bool.{cases_lt, cases_eq}
use Rattle.std.proofs.lemmas.Option.{same_Some, none-some, slice_get_within}
use Rattle.lv_base.specs.declared.fail.Memory.{Memory}
use Rattle.slot_code.specs.Values as c
use Rattle.slot_code.specs.declared.flat.Instruction.{Instruction}
use Rattle.slot_code.specs.declared.flat.Instruction.TheVariants as i
use Rattle.slot_values.specs.Linked.{link_of, links_behind, links_of}
use Rattle.slot_values.specs.declared.scene.Link.{Link}
use Rattle.cfg_build.specs.Fitting.{IsEntry, Enters, CallsEnter}
use Rattle.cfg_build.specs.Beginnings.{BeginsAt, AreBeginnings, StandBelow, FindsEntry, FindsEntries}
use Rattle.cfg_build.proofs.Linking.{get-set, get-other}

-- ---- Each place

-- it holds of the first so many elements
abbrev pub AllBelow : {A : Type 0} → (A → Type 0) → List A → ℕ → Type 0
AllBelow {A = A} P xs n = (k : ℕ) (x : A) → k < n → slice_get xs k ≡ Some x → P x

-- and of one more
pub below-more : {A : Type 0} (P : A → Type 0) (xs : List A) (n m : ℕ) (y : A) → suc n ≡ m → slice_get xs n ≡ Some y → P y → AllBelow P xs n → AllBelow P xs m
below-more {A = A} P xs n m y e there h before k x lt is = go (cases_lt k n)
  where
    go : (k < n) ⊎ (n ≤ k) → P x
    go (inl less) = before k x less is
    go (inr le) =
        let same : k ≡ n = omega (arith, le, lt, e) in
        subst P (same_Some y x (sym there ∙ ap (slice_get xs) (sym same) ∙ is)) h

-- of all
pub below-all : {A : Type 0} (P : A → Type 0) (xs : List A) (n : ℕ) → length xs ≤ n → AllBelow P xs n → (k : ℕ) (x : A) → slice_get xs k ≡ Some x → P x
below-all P xs n le h k x is = h k x (omega (arith, le, slice_get_within xs k x is)) is

-- ---- Entries

entry-kept : (xs : List Link) (ls : List c.Link) (place : ℕ) → IsEntry ls place → IsEntry (links_behind ls xs) place
entry-kept [] ls place h = h
entry-kept (x ∷ xs) ls place h = entry-kept xs (link_of x ∷ ls) place (inr h)

entry-among : (xs : List Link) (ls : List c.Link) (n : ℕ) (x : Link) → slice_get xs n ≡ Some x → IsEntry (links_behind ls xs) x.entry
entry-among [] ls n x e = absurd (none-some x e)
entry-among (y ∷ ys) ls zero x e = entry-kept ys (link_of y ∷ ls) x.entry (inl (ap (λ (z : Link). z.entry) (same_Some y x e)))
entry-among (y ∷ ys) ls (suc n) x e = entry-among ys (link_of y ∷ ls) n x e

-- the place at which a link's code begins
pub link-enters : (xs : List Link) (n place : ℕ) (x : Link) → slice_get xs n ≡ Some x → x.entry ≡ place → IsEntry (links_of xs) place
link-enters xs n place x e f = subst (λ (p : ℕ). IsEntry (links_of xs) p) f (entry-among xs [] n x e)

pub calls-enter : (links : List c.Link) (code : List Instruction) → ((place : ℕ) (x : Instruction) → slice_get code place ≡ Some x → Enters links x) → CallsEnter links code
calls-enter links code h place at goal slot e = h place (i.Call at goal slot) e

-- ---- What is tested one after the other

pub fits-with : (r : Result Bool Memory) (A B C : Type 0) → A → C → IfOk r (λ b. IsTrue b → B) → IfOk r (λ b. IsTrue b → A × B × C)
fits-with (Err e) A B C a c h = tt
fits-with (Ok b) A B C a c h = λ t. (a, h t, c)

-- ---- Entries that are found

-- a link whose code begins at the place
pub record LinkAt (links : List Link) (place : ℕ) : Type 0 where
  pub number : ℕ
  pub link : Link
  pub there : slice_get links number ≡ Some link
  pub entry : link.entry ≡ place

link-behind : (xs : List Link) (ls : List c.Link) (place : ℕ) → IsEntry (links_behind ls xs) place → IsEntry ls place ⊎ LinkAt xs place
link-behind [] ls place h = inl h
link-behind (x ∷ xs) ls place h = elim (link-behind xs (link_of x ∷ ls) place h) [
  | inl (inl e) ↦ inr (record { number = 0; link = x; there = refl; entry = e })
  | inl (inr k) ↦ inl k
  | inr k ↦ inr (record { number = suc k.number; link = k.link; there = k.there; entry = k.entry })
]

pub link-at : (xs : List Link) (place : ℕ) → IsEntry (links_of xs) place → LinkAt xs place
link-at xs place h = elim (link-behind xs [] place h) [ inl none ↦ absurd none | inr k ↦ k ]

-- of the first so many links, those that begin at one of the first so many places are found
abbrev pub BeginsBelow : List Link → ℕ → List ℕ → ℕ → Type 0
BeginsBelow links places numbers n = (j : ℕ) (y : Link) → j < n → slice_get links j ≡ Some y → y.entry < places → BeginsAt links numbers y.entry

-- one link more
pub begins-more : (links : List Link) (n m : ℕ) (x : Link) (places : ℕ) (old new : List ℕ) → slice_get links n ≡ Some x → suc n ≡ m → length old ≡ places → new ≡ slice_set old x.entry n
    → BeginsBelow links places old n → BeginsBelow links places new m
begins-more links n m x places old new e f len s h j y lt there below = elim (cases_eq x.entry y.entry) [
  | inl same ↦
      record {
        number = n;
        link = x;
        named = ap (λ ns. slice_get ns y.entry) s ∙ ap (slice_get (slice_set old x.entry n)) (sym same) ∙ get-set old x.entry n (omega (arith, below, same, len));
        there = e;
        entry = same;
      }
  | inr ne ↦
      let earlier : j < n = elim (cases_eq j n) [
        | inl q ↦ absurd (ne (ap (λ (z : Link). z.entry) (same_Some x y (sym e ∙ ap (slice_get links) (sym q) ∙ there))))
        | inr nq ↦ omega (arith, lt, f, nq)
      ] in
      let b = h j y earlier there below in
      record { number = b.number; link = b.link; named = ap (λ ns. slice_get ns y.entry) s ∙ get-other old x.entry y.entry n ne ∙ b.named; there = b.there; entry = b.entry }
]

finds-entry : (links : List Link) (numbers : List ℕ) (x : Instruction) → ((at goal slot : ℕ) → x ≡ i.Call at goal slot → BeginsAt links numbers goal) → FindsEntry links numbers x
finds-entry links numbers (i.Call at goal slot) f = f at goal slot refl
finds-entry links numbers (i.Constant slot v) f = tt
finds-entry links numbers (i.Read slot object) f = tt
finds-entry links numbers (i.Element slot at object count) f = tt
finds-entry links numbers (i.Locate slot at object count) f = tt
finds-entry links numbers (i.Load slot object) f = tt
finds-entry links numbers (i.Store slot object) f = tt
finds-entry links numbers (i.Convert slot k) f = tt
finds-entry links numbers (i.Negate slot k at) f = tt
finds-entry links numbers (i.Complement slot k at) f = tt
finds-entry links numbers (i.Not slot) f = tt
finds-entry links numbers (i.Truth slot) f = tt
finds-entry links numbers (i.Binary slot o k at) f = tt
finds-entry links numbers (i.Update slot o k l at object) f = tt
finds-entry links numbers (i.Change slot before y k at object) f = tt
finds-entry links numbers (i.Draw slot k) f = tt
finds-entry links numbers (i.Fill object k count) f = tt
finds-entry links numbers (i.Begin slot object count values) f = tt
finds-entry links numbers (i.Bind slot object) f = tt
finds-entry links numbers (i.Jump skip) f = tt
finds-entry links numbers (i.Turn at goal) f = tt
finds-entry links numbers (i.SkipZero slot skip) f = tt
finds-entry links numbers (i.SkipEqual slot v skip) f = tt
finds-entry links numbers (i.Return slot) f = tt
finds-entry links numbers (i.Take slot at from needed) f = tt
finds-entry links numbers (i.Fail kind at) f = tt
finds-entry links numbers i.Stop f = tt

-- each call's goal is found where the code of each link begins within the code
pub finds-entries : (links : List Link) (numbers : List ℕ) (code : List Instruction) → AreBeginnings links (length code) numbers → StandBelow (length code) links → CallsEnter (links_of links) code
    → FindsEntries links numbers code
finds-entries links numbers code b s h place x e =
    finds-entry links numbers x (λ at goal slot q.
    let k = link-at links goal (h place at goal slot (e ∙ ap Some q)) in
    subst (λ (j : ℕ). BeginsAt links numbers j) k.entry (b k.number k.link k.there (s k.number k.link k.there)))
