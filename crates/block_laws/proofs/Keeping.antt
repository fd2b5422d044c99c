-- What is kept between two deeds of a block: who waits, under which guards, and which check failed.
use Rattle.std.proofs.Common.{◌≡◌, ℕ, ◌+◌, ◌<◌, ◌≤◌, ◌==◌, ◌⊎◌, inl, inr, Bool, true, false, ◌&&◌, ◌||◌, List, Option, Some, None, refl, sym, ap, ◌∙◌, subst, length, arith, slice_index, slice_set, if◌then◌else◌, eq-eqb}
use Rattle.std.proofs.lemmas.Bool.{cases_Bool, eqb-true, ne_eqb}
use Rattle.bv_term.specs.Numbers.{truth}
use Rattle.block_rule.specs.Rule.{Wait, Bad, State, is_set, is_on, found, with_wait, with_bad, with_place, with_saved}
use Rattle.block_laws.proofs.Lists.{Each, each-map, each-last, set-same, set-other, set-long, truth-is, false-true, same_not, each-with, found-new, found-old, each-other, first_failed, or_failed, first-last, first-same}

-- a saved cell among those that are taken, which belongs to this place or to none
abbrev pub GuardIn : ℕ → ℕ → (ℕ → Option ℕ) → Option ℕ → Option ℕ → Type 0
GuardIn n next owner mark None = Unit {0}
GuardIn n next owner mark (Some c) = (n ≤ c) × (c < next) × (owner c ≡ mark)

-- a place that waits has the guard of its number, and where no check failed its guard says whether the run is there
pub record WaitIn (n next : ℕ) (guards owner : ℕ → Option ℕ) (o : Option ℕ) (at : ℕ → Bool) (s : List ℕ) (w : Wait) : Type 0 where
  pub mine : w.guard ≡ guards w.node
  pub cell : GuardIn n next owner (Some w.node) w.guard
  pub on : o ≡ None → is_on w.guard s ≡ at w.node

pub record BadIn (n next : ℕ) (owner : ℕ → Option ℕ) (b : Bad) : Type 0 where
  pub low : n ≤ b.cell
  pub high : b.cell < next
  pub mark : owner b.cell ≡ None

-- Between two deeds: o is the error of the first check that failed; where none did, `at` says at which place that waits the run is, and
-- `here` whether it is at the place that is gone through, under its guard.
pub record Ready (n many : ℕ) (st : State) (gd : Option ℕ) (here : Bool) (o : Option ℕ) (at : ℕ → Bool) (s : List ℕ) : Type 0 where
  pub guards : ℕ → Option ℕ
  pub owner : ℕ → Option ℕ
  pub waits : Each (WaitIn n st.next guards owner o at s) st.waiting
  pub bads : Each (BadIn n st.next owner) st.bads
  pub first : first_failed st.bads s ≡ o
  pub held : o ≡ None → (x : ℕ) → at x ≡ true → found st.waiting x ≡ None → ⊥
  pub guard : GuardIn n st.next owner None gd
  pub on : o ≡ None → is_on gd s ≡ here
  pub long : length s ≡ many
  pub base : n ≤ st.next

-- two stores are alike from cell n on
abbrev pub Above : ℕ → List ℕ → List ℕ → Type 0
Above n s t = (length t ≡ length s) × ((c : ℕ) → n ≤ c → slice_index s c ≡ slice_index t c)

-- two stores are alike below cell n
abbrev pub Below : ℕ → List ℕ → List ℕ → Type 0
Below n s t = (c : ℕ) → c < n → slice_index s c ≡ slice_index t c

abbrev pub taking : ℕ → Option ℕ → (ℕ → Option ℕ) → ℕ → Option ℕ
taking c mark owner d = if d == c then mark else owner d

pub taking-old : (c d : ℕ) (mark : Option ℕ) (owner : ℕ → Option ℕ) → (d ≡ c → ⊥) → taking c mark owner d ≡ owner d
taking-old c d mark owner ne = let e : (d == c) ≡ false = ne_eqb d c ne in rw e refl

pub taking-new : (c : ℕ) (mark : Option ℕ) (owner : ℕ → Option ℕ) → taking c mark owner c ≡ mark
taking-new c mark owner = let e : (c == c) ≡ true = eq-eqb c c refl in rw e refl

pub on-same : (n next : ℕ) (owner : ℕ → Option ℕ) (mark gd : Option ℕ) (s t : List ℕ) → GuardIn n next owner mark gd
    → ((c : ℕ) → n ≤ c → c < next → owner c ≡ mark → slice_index s c ≡ slice_index t c) → is_on gd s ≡ is_on gd t
on-same n next owner mark None s t g f = refl
on-same n next owner mark (Some c) s t g f = ap (λ (x : ℕ). x == 1) (f c g.0 g.1 g.2)

pub guard-grow : (n next more : ℕ) (owner new : ℕ → Option ℕ) (mark gd : Option ℕ) → GuardIn n next owner mark gd → next ≤ more
    → ((c : ℕ) → n ≤ c → c < next → owner c ≡ mark → new c ≡ mark) → GuardIn n more new mark gd
guard-grow n next more owner new mark None g le f = tt
guard-grow n next more owner new mark (Some c) g le f = (g.0, omega (arith, g.1, le), f c g.0 g.1 g.2)

pub or-none : (o : Option ℕ) (b : Bool) (x : ℕ) → or_failed o b x ≡ None → o ≡ None
or-none (Some e) b x h = h
or-none None b x h = refl

pub and-true : (b c : Bool) → c ≡ true → (b && c) ≡ b
and-true true c e = e
and-true false c e = refl

pub or-off : (a b c : Bool) → c ≡ false → a ≡ (a || (b && c))
or-off true b c e = refl
or-off false true c e = sym e
or-off false false c e = refl

pub or-parts : (a b c : Bool) → (a || (b && c)) ≡ true → (a ≡ true) ⊎ (c ≡ true)
or-parts true b c e = inl refl
or-parts false true c e = inr e
or-parts false false c e = absurd (false-true e)

module _ (n many : ℕ) (st : State) (gd : Option ℕ) (here : Bool) (o : Option ℕ) (at : ℕ → Bool) (s : List ℕ) where
  pub ready-above : (t : List ℕ) → Ready n many st gd here o at s → Above n s t → Ready n many st gd here o at t
  ready-above t r a = record {
    guards = r.guards;
    owner = r.owner;
    waits = each-map (WaitIn n st.next r.guards r.owner o at s) (WaitIn n st.next r.guards r.owner o at t) st.waiting
        (λ w h. record {
          mine = h.mine;
          cell = h.cell;
          on = λ e. sym (on-same n st.next r.owner (Some w.node) w.guard s t h.cell (λ c le lt m. a.1 c le)) ∙ h.on e;
        }) r.waits;
    bads = r.bads;
    first = sym (first-same (BadIn n st.next r.owner) st.bads s t r.bads (λ b h. a.1 b.cell h.low)) ∙ r.first;
    held = r.held;
    guard = r.guard;
    on = λ e. sym (on-same n st.next r.owner None gd s t r.guard (λ c le lt m. a.1 c le)) ∙ r.on e;
    long = a.0 ∙ r.long;
    base = r.base;
  }

  -- the same places and checks under another notion of where the run is
  pub ready-at : (st2 : State) (gd2 : Option ℕ) (here2 : Bool) (at2 : ℕ → Bool) → Ready n many st gd here o at s
      → st.waiting ≡ st2.waiting → st.bads ≡ st2.bads → st.next ≡ st2.next
      → (o ≡ None → (x : ℕ) → at x ≡ at2 x) → ((owner : ℕ → Option ℕ) → GuardIn n st.next owner None gd → GuardIn n st2.next owner None gd2)
      → (o ≡ None → is_on gd2 s ≡ here2) → Ready n many st2 gd2 here2 o at2 s
  ready-at st2 gd2 here2 at2 r ws bs nx same guard on = record {
    guards = r.guards;
    owner = r.owner;
    waits = subst (λ (xs : List Wait). Each (WaitIn n st2.next r.guards r.owner o at2 s) xs) ws
        (subst (λ (k : ℕ). Each (WaitIn n k r.guards r.owner o at2 s) st.waiting) nx
        (each-map (WaitIn n st.next r.guards r.owner o at s) (WaitIn n st.next r.guards r.owner o at2 s) st.waiting
        (λ w h. record { mine = h.mine; cell = h.cell; on = λ e. h.on e ∙ same e w.node }) r.waits));
    bads = subst (λ (xs : List Bad). Each (BadIn n st2.next r.owner) xs) bs (subst (λ (k : ℕ). Each (BadIn n k r.owner) st.bads) nx r.bads);
    first = subst (λ (xs : List Bad). first_failed xs s ≡ o) bs r.first;
    held = λ e x y f. r.held e x (same e x ∙ y) (subst (λ (xs : List Wait). found xs x ≡ None) (sym ws) f);
    guard = guard r.owner r.guard;
    on = on;
    long = r.long;
    base = subst (λ (k : ℕ). n ≤ k) nx r.base;
  }

  -- a saved cell is set that was not taken
  module _ (r : Ready n many st gd here o at s) (b : Bool) (there : st.next < many) where
    abbrev pub after : List ℕ
    after = slice_set s st.next (truth b)

    same-old : (c : ℕ) → c < st.next → slice_index s c ≡ slice_index after c
    same-old c lt = set-other s st.next (truth b) c (λ e. omega (arith, lt, e))

    new-is : is_set st.next after ≡ b
    new-is = ap (λ (x : ℕ). x == 1) (set-same s st.next (truth b) (omega (arith, there, r.long))) ∙ truth-is b

    new-long : length after ≡ many
    new-long = set-long s st.next (truth b) ∙ r.long

    pub new-below : Below n s after
    new-below c lt = same-old c (omega (arith, lt, r.base))

    wait-grow : (mark : Option ℕ) (o2 : Option ℕ) → (o2 ≡ None → o ≡ None) → (w : Wait) → WaitIn n st.next r.guards r.owner o at s w
        → WaitIn n (st.next + 1) r.guards (taking st.next mark r.owner) o2 at after w
    wait-grow mark o2 f w h = record {
      mine = h.mine;
      cell = guard-grow n st.next (st.next + 1) r.owner (taking st.next mark r.owner) (Some w.node) w.guard h.cell (omega arith)
          (λ c le lt m. taking-old st.next c mark r.owner (λ e. omega (arith, lt, e)) ∙ m);
      on = λ e. sym (on-same n st.next r.owner (Some w.node) w.guard s after h.cell (λ c le lt m. same-old c lt)) ∙ h.on (f e);
    }

    bad-grow : (mark : Option ℕ) (x : Bad) → BadIn n st.next r.owner x → BadIn n (st.next + 1) (taking st.next mark r.owner) x
    bad-grow mark x h = record {
      low = h.low;
      high = omega (arith, h.high);
      mark = taking-old st.next x.cell mark r.owner (λ e. omega (arith, h.high, e)) ∙ h.mark;
    }

    first-stays : first_failed st.bads after ≡ o
    first-stays = sym (first-same (BadIn n st.next r.owner) st.bads s after r.bads (λ x h. same-old x.cell h.high)) ∙ r.first

    gd-grow : (mark : Option ℕ) → GuardIn n (st.next + 1) (taking st.next mark r.owner) None gd
    gd-grow mark = guard-grow n st.next (st.next + 1) r.owner (taking st.next mark r.owner) None gd r.guard (omega arith)
        (λ c le lt m. taking-old st.next c mark r.owner (λ e. omega (arith, lt, e)) ∙ m)

    gd-on : is_on gd after ≡ is_on gd s
    gd-on = sym (on-same n st.next r.owner None gd s after r.guard (λ c le lt m. same-old c lt))

    pub ready-bad : (error : ℕ) → Ready n many (with_bad st error) gd here (or_failed o b error) at after
    ready-bad error = record {
      guards = r.guards;
      owner = taking st.next None r.owner;
      waits = each-map (WaitIn n st.next r.guards r.owner o at s) (WaitIn n (st.next + 1) r.guards (taking st.next None r.owner) (or_failed o b error) at after) st.waiting
          (wait-grow None (or_failed o b error) (or-none o b error)) r.waits;
      bads = each-last (BadIn n (st.next + 1) (taking st.next None r.owner)) st.bads (record { cell = st.next; error = error })
          (each-map (BadIn n st.next r.owner) (BadIn n (st.next + 1) (taking st.next None r.owner)) st.bads (bad-grow None) r.bads)
          (record { low = r.base; high = omega arith; mark = taking-new st.next None r.owner });
      first = first-last st.bads (record { cell = st.next; error = error }) after
          ∙ ap (λ (x : Option ℕ). or_failed x (is_set st.next after) error) first-stays
          ∙ ap (λ (x : Bool). or_failed o x error) new-is;
      held = λ e. r.held (or-none o b error e);
      guard = gd-grow None;
      on = λ e. gd-on ∙ r.on (or-none o b error e);
      long = new-long;
      base = omega (arith, r.base);
    }

    pub ready-saved : Ready n many (with_saved st) (Some st.next) b o at after
    ready-saved = record {
      guards = r.guards;
      owner = taking st.next None r.owner;
      waits = each-map (WaitIn n st.next r.guards r.owner o at s) (WaitIn n (st.next + 1) r.guards (taking st.next None r.owner) o at after) st.waiting
          (wait-grow None o (λ e. e)) r.waits;
      bads = each-map (BadIn n st.next r.owner) (BadIn n (st.next + 1) (taking st.next None r.owner)) st.bads (bad-grow None) r.bads;
      first = first-stays;
      held = r.held;
      guard = (r.base, omega arith, taking-new st.next None r.owner);
      on = λ e. new-is;
      long = new-long;
      base = omega (arith, r.base);
    }

    -- the first way to a place
    module _ (v : ℕ) (none : found st.waiting v ≡ None) where
      at-off : o ≡ None → at v ≡ false
      at-off e = elim (cases_Bool (at v)) [ inl y ↦ absurd (r.held e v y none) | inr y ↦ y ]

      wait-other : (w : Wait) → WaitIn n st.next r.guards r.owner o at s w × ((w.node == v) ≡ false)
          → WaitIn n (st.next + 1) (taking v (Some st.next) r.guards) (taking st.next (Some v) r.owner) o (λ x. at x || (b && (x == v))) after w
      wait-other w h =
          let g = wait-grow (Some v) o (λ e. e) w h.0 in record {
            mine = g.mine ∙ sym (taking-old v w.node (Some st.next) r.guards (λ e. same_not w.node v h.1 e));
            cell = g.cell;
            on = λ e. g.on e ∙ or-off (at w.node) b (w.node == v) h.1;
          }

      wait-new : WaitIn n (st.next + 1) (taking v (Some st.next) r.guards) (taking st.next (Some v) r.owner) o (λ x. at x || (b && (x == v))) after (record { node = v; guard = Some st.next })
      wait-new = record {
        mine = sym (taking-new v (Some st.next) r.guards);
        cell = (r.base, omega arith, taking-new st.next (Some v) r.owner);
        on = λ e. new-is ∙ sym (and-true b (v == v) (eq-eqb v v refl)) ∙ ap (λ (a : Bool). a || (b && (v == v))) (sym (at-off e));
      }

      pub ready-place : Ready n many (with_place st v) gd here o (λ x. at x || (b && (x == v))) after
      ready-place = record {
        guards = taking v (Some st.next) r.guards;
        owner = taking st.next (Some v) r.owner;
        waits = each-with (WaitIn n (st.next + 1) (taking v (Some st.next) r.guards) (taking st.next (Some v) r.owner) o (λ x. at x || (b && (x == v))) after) st.waiting v (Some st.next)
            (each-map (λ w. WaitIn n st.next r.guards r.owner o at s w × ((w.node == v) ≡ false))
            (WaitIn n (st.next + 1) (taking v (Some st.next) r.guards) (taking st.next (Some v) r.owner) o (λ x. at x || (b && (x == v))) after) st.waiting wait-other
            (each-other (WaitIn n st.next r.guards r.owner o at s) st.waiting v none r.waits)) wait-new;
        bads = each-map (BadIn n st.next r.owner) (BadIn n (st.next + 1) (taking st.next (Some v) r.owner)) st.bads (bad-grow (Some v)) r.bads;
        first = first-stays;
        held = λ e x y f. elim (or-parts (at x) b (x == v) y) [
          | inl z ↦ r.held e x z (found-old st.waiting v x (Some st.next) f)
          | inr z ↦
              let q : found (with_wait st.waiting v (Some st.next)) v ≡ None = subst (λ (k : ℕ). found (with_wait st.waiting v (Some st.next)) k ≡ None) (eqb-true x v z) f in
              absurd (let p : Some (Some st.next) ≡ None = sym (found-new st.waiting v (Some st.next)) ∙ q in cc)
        ];
        guard = gd-grow (Some v);
        on = λ e. gd-on ∙ r.on e;
        long = new-long;
        base = omega (arith, r.base);
      }
