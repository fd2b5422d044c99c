-- A called function: its name, and what it draws.
use Rattle.std.proofs.Common.{◌≡◌, ℕ, List, refl, ap, ◌∙◌, sym}
use Rattle.std.specs.Prelude.{Result, Ok, Err, OnOk}
use Rattle.c_meaning.specs.Known.{known_of}
use Rattle.c_tree.specs.declared.tree.Expr.{Expr}
use Rattle.c_tree.specs.declared.tree.Expr as ex
use Rattle.c_tree.specs.View.{expr}
use Rattle.trace_sites.specs.declared.site.Site.{Site}
use Rattle.trace_sites.specs.Expressions.{is_draw, drawn_behind, draw_behind}

pub name_arm : {A B : Type 0} (found new : List Site) (x : Expr) (name bytes : List ℕ) (at : ℕ) (r : Result A B) → x ≡ ex.Name name at → bytes ≡ name →
    OnOk r (new ≡ drawn_behind found (is_draw (known_of bytes)) at) → OnOk r (new ≡ draw_behind found (expr x))
name_arm found new x name bytes at (Ok y) is same h =
    h ∙ ap (λ (n : List ℕ). drawn_behind found (is_draw (known_of n)) at) same ∙ sym (ap (λ (z : Expr). draw_behind found (expr z)) is)
name_arm found new x name bytes at (Err e) is same h = tt

pub other_arm : (found : List Site) (x : Expr) → ((name : List ℕ) (at : ℕ) → x ≡ ex.Name name at → ⊥) → found ≡ draw_behind found (expr x)
other_arm found (ex.Name n at) not = absurd (not n at refl)
other_arm found (ex.Number v f at) not = refl
other_arm found (ex.Letter v at) not = refl
other_arm found (ex.Paren' a p e b) not = refl
other_arm found (ex.Call' p f a w es b) not = refl
other_arm found (ex.Index' p a x q i y) not = refl
other_arm found (ex.Postfix' p e c at) not = refl
other_arm found (ex.Prefix' o at p e) not = refl
other_arm found (ex.SizeofType' a b w ws c) not = refl
other_arm found (ex.Cast' a w ws b p e) not = refl
other_arm found (ex.Binary' p a o at q b) not = refl
other_arm found (ex.Cond' p c x q a y r b) not = refl
other_arm found (ex.Assign' p a o at q b) not = refl
other_arm found (ex.Comma' w es) not = refl
