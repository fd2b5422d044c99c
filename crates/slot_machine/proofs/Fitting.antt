-- Code that fits the objects of a store fits those of another that are as long.
use Rattle.std.proofs.Common.{◌≡◌, ℕ, zero, suc, ◌+◌, ◌++◌, ◌<◌, ◌≤◌, Bool, true, false, List, [], ◌∷◌, length, get_or, set, map, take, Some, refl, sym, ap, ◌∙◌, arith, ℤ, pos}
use Rattle.std.specs.Prelude.{nat_eq, nat_le, ◌&&◌, slice_get, replicate}
use Rattle.std.specs.List.{All}
use Rattle.std.proofs.lemmas.List.Elements.{All-head, All-tail}
use Rattle.std.proofs.lemmas.List.{length-replicate, length-map, take_all, take_more_set}
use Rattle.std.proofs.lemmas.Bool.{le-leb, eq-eqb}
use Rattle.std.proofs.Math.Seq.{take-suc}
use Rattle.lv_base.specs.declared.kind.Model.{Model}
use Rattle.c_typed.specs.Tree.{Object, Function, Program, Owner, static, local}
use Rattle.c_typed.specs.Run.{size_of, start_values, start_store}
use Rattle.c_typed.specs.Facts.{IsTyped, ObjectFits, FirstFits}
use Rattle.slot_code.specs.declared.flat.Instruction.{Instruction}
use Rattle.slot_code.specs.declared.flat.Instruction.TheVariants as i
use Rattle.slot_code.specs.Slots.{slots_of, slots_in}
use Rattle.slot_laws.specs.Laws.{IsShaped, AreShaped}
use Rattle.slot_board.specs.Seen.{size_in, fits}
use Rattle.slot_board.proofs.Shapes.{lengths_set}
use Rattle.slot_machine.specs.Shapes.{all_fit}

-- ---- One instruction of the code

pub slots_at : (code : List Instruction) (n : ℕ) (x : Instruction) → slice_get code n ≡ Some x → slots_of x ≤ slots_in code
slots_at [] n x e = absurd cc
slots_at (y ∷ ys) zero x e = let f : y ≡ x = cc in omega (arith, ap slots_of f)
slots_at (y ∷ ys) (suc n) x e = omega (arith, slots_at ys n x e)

and_first : (a b : Bool) → a && b ≡ true → a ≡ true
and_first true b h = refl
and_first false b h = h

and_second : (a b : Bool) → a && b ≡ true → b ≡ true
and_second true b h = h
and_second false b h = absurd cc

and_both : (a b : Bool) → a ≡ true → b ≡ true → a && b ≡ true
and_both true b h k = k
and_both false b h k = absurd cc

pub fit_at : (store : List (List ℤ)) (code : List Instruction) (n : ℕ) (x : Instruction) → all_fit store code ≡ true → slice_get code n ≡ Some x → fits store x ≡ true
fit_at store [] n x h e = absurd cc
fit_at store (y ∷ ys) zero x h e = let f : y ≡ x = cc in sym (ap (fits store) f) ∙ and_first (fits store y) (all_fit store ys) h
fit_at store (y ∷ ys) (suc n) x h e = fit_at store ys n x (and_second (fits store y) (all_fit store ys) h) e

-- ---- Another store whose objects are as long

size_read : (store : List (List ℤ)) (object : ℕ) → get_or (map length store) object 0 ≡ size_in store object
size_read [] object = refl
size_read (row ∷ rows) zero = refl
size_read (row ∷ rows) (suc object) = size_read rows object

pub size_same : (s t : List (List ℤ)) (object : ℕ) → map length s ≡ map length t → size_in s object ≡ size_in t object
size_same s t object h = sym (size_read s object) ∙ ap (λ ns. get_or ns object 0) h ∙ size_read t object

fits_same : (s t : List (List ℤ)) (x : Instruction) → map length s ≡ map length t → fits s x ≡ fits t x
fits_same s t (i.Fill object k count) h = ap (λ n. nat_eq n count) (size_same s t object h)
fits_same s t (i.Begin slot object count values) h = ap (λ n. nat_eq n count && nat_le values count) (size_same s t object h)
fits_same s t (i.Bind slot object) h = ap (λ n. nat_eq n 1) (size_same s t object h)
fits_same s t x h = refl

pub all_fit_same : (s t : List (List ℤ)) (code : List Instruction) → map length s ≡ map length t → all_fit s code ≡ all_fit t code
all_fit_same s t [] h = refl
all_fit_same s t (x ∷ xs) h = ap (λ b. b && all_fit s xs) (fits_same s t x h) ∙ ap (λ b. fits t x && b) (all_fit_same s t xs h)

-- ---- The store at the start

start_store-snoc : (xs : List Object) (o : Object) → start_store (xs ++ o ∷ []) ≡ start_store xs ++ start_values o ∷ []
start_store-snoc [] o = refl
start_store-snoc (x ∷ xs) o = ap (λ ys. start_values x ∷ ys) (start_store-snoc xs o)

module _ (model : Model) (objects : List Object) (functions : List Function) where
  values_length : (o : Object) (w : Owner) → FirstFits model objects functions o w → length {A = ℤ} (elim w [ static ↦ o.first | local f ↦ replicate (size_of (Some o)) (pos 0) ]) ≡ size_of (Some o)
  values_length o static h = h.0
  values_length o (local f) h = length-replicate (size_of (Some o)) (pos 0)

  start_size : (xs : List Object) (n : ℕ) → All (ObjectFits model objects functions) xs → size_in (start_store xs) n ≡ size_of (slice_get xs n)
  start_size [] n a = refl
  start_size (o ∷ os) zero a = values_length o o.owner (All-head (ObjectFits model objects functions) o os a)
  start_size (o ∷ os) (suc n) a = start_size os n (All-tail (ObjectFits model objects functions) o os a)

module _ (objects : List Object) (store : List (List ℤ)) (sizes : (n : ℕ) → size_in store n ≡ size_of (slice_get objects n)) where
  shaped_fits : (x : Instruction) → IsShaped objects x → fits store x ≡ true
  shaped_fits (i.Fill object k count) h = eq-eqb (size_in store object) count (sizes object ∙ sym h)
  shaped_fits (i.Begin slot object count values) h =
      and_both (nat_eq (size_in store object) count) (nat_le values count) (eq-eqb (size_in store object) count (sizes object ∙ sym h.0)) (le-leb values count h.1)
  shaped_fits (i.Bind slot object) h = eq-eqb (size_in store object) 1 (sizes object ∙ h)
  shaped_fits x h = refl

  shaped_fit : (code : List Instruction) → AreShaped objects code → all_fit store code ≡ true
  shaped_fit [] h = refl
  shaped_fit (x ∷ xs) h = and_both (fits store x) (all_fit store xs) (shaped_fits x h.0) (shaped_fit xs h.1)

-- the code of a typed tree fits the store at the start
pub typed_fit : (program : Program) (code : List Instruction) → IsTyped program → AreShaped program.objects code → all_fit (start_store program.objects) code ≡ true
typed_fit program code typed h =
    shaped_fit program.objects (start_store program.objects) (λ n. start_size program.model program.objects program.functions program.objects n typed.objects) code h

-- ---- One object after the other

-- an object that is there, whatever stands for one that isn't
pub default_same : (rows : List (List ℤ)) (object : ℕ) (d e : List ℤ) → object < length rows → get_or rows object d ≡ get_or rows object e
default_same [] object d e b = absurd (omega arith)
default_same (r ∷ rs) zero d e b = refl
default_same (r ∷ rs) (suc object) d e b = default_same rs object d e (omega arith)

pub started_more : (xs : List Object) (o : Object) (rows : List (List ℤ)) (row : List ℤ) → rows ≡ start_store xs → row ≡ start_values o → rows ++ row ∷ [] ≡ start_store (xs ++ o ∷ [])
started_more xs o rows row h e = ap (λ ys. ys ++ row ∷ []) h ∙ ap (λ (y : List ℤ). start_store xs ++ y ∷ []) e ∙ sym (start_store-snoc xs o)

pub reset_more : (store first : List (List ℤ)) (n : ℕ) → n < length store → map length store ≡ map length first → take n store ≡ take n first →
    take (n + 1) (set store n (get_or first n [])) ≡ take (n + 1) first
reset_more store first n b m h =
    let e : n + 1 ≡ suc n = omega arith in
    let long : n < length first = omega (arith, length-map store length, length-map first length, ap length m) in
    take_more_set store n (get_or first n []) b ∙ ap (λ xs. xs ++ get_or first n [] ∷ []) h ∙ sym (rw e (take-suc first n [] long))

pub reset_sizes : (store first : List (List ℤ)) (n : ℕ) → map length store ≡ map length first → map length (set store n (get_or first n [])) ≡ map length first
reset_sizes store first n m = lengths_set store n (get_or first n []) (size_same first store n (sym m)) ∙ m

pub reset_done : (store first : List (List ℤ)) (n : ℕ) → length store ≤ n → map length store ≡ map length first → take n store ≡ take n first → store ≡ first
reset_done store first n b m h =
    let long : length first ≤ n = omega (arith, length-map store length, length-map first length, ap length m) in
    sym (take_all n store b) ∙ h ∙ take_all n first long

-- ---- What stays in a run

pub same_slots : (n m : ℕ) (ns ms : List ℕ) → n ∷ ns ≡ m ∷ ms → n ≡ m
same_slots n m ns ms h = cc

pub same_rows : (n m : ℕ) (ns ms : List ℕ) → n ∷ ns ≡ m ∷ ms → ns ≡ ms
same_rows n m ns ms h = cc

-- the instruction at a place may be done on the board of a run
pub may_act : (code : List Instruction) (n : ℕ) (x : Instruction) (slots slots1 : List ℤ) (store store1 : List (List ℤ)) → slice_get code n ≡ Some x →
    slots_in code ≤ length slots → all_fit store code ≡ true → length slots1 ∷ map length store1 ≡ length slots ∷ map length store → (slots_of x ≤ length slots1) × (fits store1 x ≡ true)
may_act code n x slots slots1 store store1 at long fit same = (
  omega (arith, slots_at code n x at, same_slots (length slots1) (length slots) (map length store1) (map length store) same),
  fit_at store1 code n x (all_fit_same store1 store code (same_rows (length slots1) (length slots) (map length store1) (map length store) same) ∙ fit) at,
)
