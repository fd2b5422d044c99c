-- Answers that may be a stop.
use Rattle.std.proofs.Common.{Result, Ok, Err, ◌≡◌, Some, None, sym, ap}
use Rattle.walk_states.specs.declared.state.Stop.{Stop}
use Rattle.walk_states.specs.declared.state.Stop.TheVariants.{Memory, Differs}
use Rattle.walk_states.specs.Told.{Told}

some-is : {B : Type 0} → (a b : B) → Some a ≡ Some b → a ≡ b
some-is a b e = cc

-- what is told of a result that always answers is also told of an equal answer
pub told-same : {A B : Type 0} → (view : A → B) → (r : Result A Stop) → (b c : B) → ((x : A) → view x ≡ b → view x ≡ c) → Told view r (Some b) → Told view r (Some c)
told-same view (Ok x) b c f h = ap Some (sym (f x (sym (some-is b (view x) h))))
told-same view (Err Differs) b c f h = absurd (let z : Some b ≡ None = h in cc)
told-same view (Err Memory) b c f h = tt
