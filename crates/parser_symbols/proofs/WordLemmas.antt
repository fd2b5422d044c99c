-- The first of some words that is spelled so, whatever holds them.
use Rattle.std.proofs.Common.{◌≡◌, ℕ, List, [], ◌∷◌, Option, Some, Bool, true, false, cond, map, refl, bytes_eq}
use Rattle.std.specs.Option.{option_map}
use Rattle.std.specs.List.{find}
use Rattle.c_tree.specs.declared.symbol.Keyword.{Keyword}
use Rattle.parser_symbols.specs.Keywords.{among, spelled}

split : {X : Type 0} (key : X → Keyword) (b : Bool) (x : X) (o : Option X) (r : Option Keyword) → option_map key o ≡ r → option_map key (cond b (Some x) o) ≡ cond b (Some (key x)) r
split key true x o r h = refl
split key false x o r h = h

pub find_pairs : {X : Type 0} (ks : List X) (name : X → List ℕ) (key : X → Keyword) (text : List ℕ) → option_map key (find (λ k. bytes_eq (name k) text) ks) ≡ among text (map (λ k. spelled (name k) (key k)) ks)
find_pairs [] name key text = refl
find_pairs (k ∷ ks) name key text = split key (bytes_eq (name k) text) k (find (λ k. bytes_eq (name k) text) ks) (among text (map (λ k. spelled (name k) (key k)) ks)) (find_pairs ks name key text)
