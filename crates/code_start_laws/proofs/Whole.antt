-- A program's opening, and the machine that begins its code.
use Rattle.std.proofs.Common.{◌≡◌, ℕ, zero, suc, ◌<◌, refl, subst, arith, map, List, [], ◌∷◌, length, Some, slice_get, ℤ, pos}
use Rattle.std.specs.List.{All}
use Rattle.std.proofs.lemmas.Int.{ints}
use Rattle.std.proofs.lemmas.List.Elements.{All-head, All-tail}
use Rattle.std.proofs.lemmas.Option.{none-some}
use Rattle.lv_base.specs.Integers.{InAny, residue}
use Rattle.c_typed.specs.declared.tree.Object.{Object}
use Rattle.c_typed.specs.Tree as t
use Rattle.c_typed.specs.Facts.{ObjectFits}
use Rattle.c_typed.specs.Parts.{tree_of}
use Rattle.c_typed.specs.View.{object_of}
use Rattle.slot_code.specs.Slots.{put, slots_in}
use Rattle.cfg_build.specs.Graphs.{program_code, program_setting}
use Rattle.code_move_laws.specs.Mirrors.{IsLaid}
use Rattle.code_move_laws.proofs.Laying.{laid}
use Rattle.code_move_laws.proofs.Reaching.{fill}
use Rattle.code_start_laws.specs.Opening.{ProgramOpens}
use Rattle.code_start_laws.proofs.Zeros.{zero_rows, zeros_of, zeros-mirror}
use Rattle.code_start_laws.proofs.Objects.{all-come}

-- what holds of each object of a typed tree
held-at : (Q : t.Object → Type 0) (os : List Object) (k : ℕ) (o : Object) → All Q (map object_of os) → slice_get os k ≡ Some o → Q (object_of o)
held-at Q [] k o h e = absurd (none-some o e)
held-at Q (x ∷ os) zero o h e = let same : x ≡ o = cc in subst (λ (p : Object). Q (object_of p)) same (All-head Q (object_of x) (map object_of os) h)
held-at Q (x ∷ os) (suc k) o h e = held-at Q os k o (All-tail Q (object_of x) (map object_of os) h) e

place-any : (n : ℕ) → n < 18446744073709551616 → InAny (pos n)
place-any n lt = (omega (arith, ints), omega (arith, ints, lt))

pub program-opens : ProgramOpens
program-opens p order l turns typed few short =
    let is_laid : IsLaid (program_setting p order) = laid p.objects p.model (program_code p order) (slots_in (program_code p order)) (omega arith) few in
    let place : ℤ = pos (length (program_code p order)) in
    let begun = fill (program_setting p order) [] (zero_rows p.objects) (zeros_of (program_setting p order)) [] l.slot place (λ s. residue 64 (pos (length (program_code p order)))) is_laid
    (zeros-mirror (program_setting p order)) (place-any (length (program_code p order)) short) refl in
    let all = all-come (program_setting p order) is_laid (tree_of p).functions
    (λ k o e. held-at (ObjectFits p.model (map object_of p.objects) (tree_of p).functions) p.objects k o typed.objects e) (put [] l.slot place) begun.after begun.mirrors in
    record {
      store = begun.after;
      after = all.after;
      whole = begun.mirrors.whole;
      reaches = all.reaches;
      mirrors = all.mirrors;
    }
