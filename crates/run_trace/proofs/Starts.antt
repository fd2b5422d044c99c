-- The values of objects before a run, one object more at a time.
use Rattle.std.proofs.Common.{◌≡◌, ℕ, suc, ◌+◌, ◌++◌, ◌<◌, List, [], ◌∷◌, length, get_or, map, take, sym, ap, ◌∙◌, arith, ℤ}
use Rattle.std.proofs.lemmas.List.{map-append}
use Rattle.std.proofs.Math.Seq.{take-suc}
use Rattle.c_typed.specs.declared.tree.Object.{Object}
use Rattle.c_typed.specs.View.{object_of}
use Rattle.c_typed.specs.Run.{start_values, start_store}
use Rattle.slot_machine.proofs.Fitting.{started_more}

pub started_next : (objects : List Object) (n : ℕ) (o : Object) (rows : List (List ℤ)) (row : List ℤ) → n < length objects → o ≡ get_or objects n o →
    rows ≡ start_store (map object_of (take n objects)) → row ≡ start_values (object_of o) → rows ++ row ∷ [] ≡ start_store (map object_of (take (n + 1) objects))
started_next objects n o rows row b found h e =
    let next : n + 1 ≡ suc n = omega arith in
    let more : take (suc n) objects ≡ take n objects ++ o ∷ [] = take-suc objects n o b ∙ ap (λ x. take n objects ++ x ∷ []) (sym found) in
    started_more (map object_of (take n objects)) (object_of o) rows row h e
    ∙ ap start_store (sym (map-append object_of (take n objects) (o ∷ [])) ∙ ap (map object_of) (sym more ∙ ap (λ k. take k objects) (sym next)))
