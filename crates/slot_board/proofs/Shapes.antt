-- What stays: how many elements each object has.
use Rattle.std.proofs.Common.{◌≡◌, ℕ, zero, suc, ◌+◌, ◌<◌, ◌≤◌, List, [], ◌∷◌, length, get_or, set, map, take, drop, refl, sym, ap, ◌∙◌, arith, ℤ}
use Rattle.std.proofs.Math.Seq.{set_out, map-set_same}
use Rattle.std.proofs.lemmas.List.{get_or_past, length-set}
use Rattle.lv_base.specs.declared.kind.Kind.{Kind}
use Rattle.lv_base.specs.declared.kind.Model.{Model}
use Rattle.c_run.specs.Run.{State, after, draw_all, store_all, with_store, Compute}
use Rattle.slot_code.specs.declared.reply.Ending.{Ending}
use Rattle.slot_code.specs.Slots.{get, slots_from}
use Rattle.slot_code.specs.Machine.{Goes, Over, machine, goes, filled}
use Rattle.slot_board.specs.Seen.{state, size_in, seen, Ends, Gave}
use Rattle.slot_board.proofs.Answering.{gave_value, over_goes}

pub lengths_set : (rows : List (List ℤ)) (object : ℕ) (row : List ℤ) → length row ≡ length (get_or rows object []) → map length (set rows object row) ≡ map length rows
lengths_set rows object row h = map-set_same length rows object row [] h

pub lengths_set_value : (rows : List (List ℤ)) (object index : ℕ) (v : ℤ) → map length (set rows object (set (get_or rows object []) index v)) ≡ map length rows
lengths_set_value rows object index v = lengths_set rows object (set (get_or rows object []) index v) (length-set (get_or rows object []) index v)

-- the row of an object that is there, whatever stands for one that isn't
pub row_at : (rows : List (List ℤ)) (object : ℕ) (row : List ℤ) → object < length rows → row ≡ get_or rows object row → get_or rows object [] ≡ row
row_at [] object row b h = absurd (omega arith)
row_at (r ∷ rs) zero row b h = sym h
row_at (r ∷ rs) (suc object) row b h = row_at rs object row (omega arith) h

-- ---- All values of an object

no_size : (store : List (List ℤ)) (object : ℕ) → length store ≤ object → size_in store object ≡ 0
no_size store object b = ap length (get_or_past store object [] b)

pub fill_out : (model : Model) (compute : Compute) (inputs : List ℤ) (kind : Kind) (place object : ℕ) (slots : List ℤ) (store : List (List ℤ)) (taken turns : ℕ) → length store ≤ object →
    Goes (machine (suc place) slots (state store taken turns)) ≡ goes (suc place) slots (filled model compute inputs object kind (size_in store object) (state store taken turns))
fill_out model compute inputs kind place object slots store taken turns b =
    ap (λ s. Goes (machine (suc place) slots (state s taken turns))) (sym (set_out store object [] b))
    ∙ ap (λ n. goes (suc place) slots (filled model compute inputs object kind n (state store taken turns))) (sym (no_size store object b))

pub fill_in : (model : Model) (compute : Compute) (inputs : List ℤ) (kind : Kind) (place object count : ℕ) (slots : List ℤ) (row : List ℤ) (st st1 : State) →
    seen (draw_all inputs model kind count st) ≡ Gave row st1 → Goes (machine (suc place) slots (with_store st1 (set st1.store object row))) ≡ goes (suc place) slots (filled model compute inputs object kind count st)
fill_in model compute inputs kind place object count slots row st st1 h =
    sym (ap (λ g. goes (suc place) slots (after g (λ vs. store_all object vs))) (gave_value (draw_all inputs model kind count st) row st1 h))

pub fill_over_goes : (model : Model) (compute : Compute) (inputs : List ℤ) (kind : Kind) (place object count : ℕ) (slots : List ℤ) (st : State) (e : Ending) →
    seen (draw_all inputs model kind count st) ≡ Ends e → Over e ≡ goes (suc place) slots (filled model compute inputs object kind count st)
fill_over_goes model compute inputs kind place object count slots st e h = over_goes (suc place) slots (draw_all inputs model kind count st) (λ vs. store_all object vs) e h

pub one_value : (cells : List ℤ) (v : ℤ) → length cells ≡ 1 → set cells 0 v ≡ v ∷ []
one_value [] v h = absurd (omega arith)
one_value (x ∷ []) v h = refl
one_value (x ∷ y ∷ ys) v h = absurd (omega arith)

-- ---- Slots that follow each other

shifted : (x : ℤ) (xs : List ℤ) (slot n : ℕ) → slots_from (x ∷ xs) (suc slot) n ≡ slots_from xs slot n
shifted x xs slot zero = refl
shifted x xs slot (suc n) = ap (λ ys. get xs slot ∷ ys) (shifted x xs (suc slot) n)

pub slots_taken : (slots : List ℤ) (slot count : ℕ) → slot + count ≤ length slots → slots_from slots slot count ≡ take count (drop slot slots)
slots_taken slots slot zero b = refl
slots_taken [] slot (suc n) b = absurd (omega arith)
slots_taken (x ∷ xs) zero (suc n) b = ap (λ ys. x ∷ ys) (shifted x xs 0 n ∙ slots_taken xs 0 n (omega arith))
slots_taken (x ∷ xs) (suc slot) (suc n) b = shifted x xs slot (suc n) ∙ slots_taken xs slot (suc n) (omega arith)

pub slots_length : (slots : List ℤ) (slot count : ℕ) → length (slots_from slots slot count) ≡ count
slots_length slots slot zero = refl
slots_length slots slot (suc n) = ap suc (slots_length slots (suc slot) n)
