-- Where `main` stands among functions, and among what they are without where they lie in memory.
use Rattle.std.proofs.Common.{◌≡◌, suc, ◌+◌, List, [], ◌∷◌, length, Some, None, refl, ap, ◌∙◌}
use Rattle.std.specs.Prelude.{bytes_eq, codes, cond, not, nat_lt, position, map}
use Rattle.std.specs.List.{position_or_len}
use Rattle.c_typed.specs.Tree as t
use Rattle.c_typed.specs.Run as typed
use Rattle.c_typed.specs.declared.tree.Function.{Function}
use Rattle.c_typed.specs.View.{function_of}

main_or_len : (fs : List Function) → position_or_len (λ (f : Function). bytes_eq f.name (codes "main")) fs ≡ position_or_len (λ (f : t.Function). bytes_eq f.name (codes "main")) (map function_of fs)
main_or_len [] = refl
main_or_len (f ∷ fs) = ap (λ n. cond (not (bytes_eq f.name (codes "main"))) (1 + n) 0) (main_or_len fs)

as_many : (fs : List Function) → length fs ≡ length (map function_of fs)
as_many [] = refl
as_many (f ∷ fs) = ap suc (as_many fs)

pub main_is : (fs : List Function) → position (λ (f : Function). bytes_eq f.name (codes "main")) fs ≡ typed.main_number (map function_of fs)
main_is fs =
    ap (λ n. cond (nat_lt n (length fs)) (Some n) None) (main_or_len fs)
    ∙ ap (λ m. cond (nat_lt (position_or_len (λ (f : t.Function). bytes_eq f.name (codes "main")) (map function_of fs)) m) (Some (position_or_len (λ (f : t.Function). bytes_eq f.name (codes "main")) (map function_of fs))) None) (as_many fs)
