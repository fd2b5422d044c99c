use Rattle.std.proofs.Common.{List, ℕ, sym}
use Rattle.std.specs.Prelude.{bytes_eq}
use Rattle.std.proofs.lemmas.Iterator.Adapters.{position_from-zero}
use Rattle.typed_values.proofs.calls.function_number.Goals as goal

pub loop-i-init : goal.loop-i-init
loop-i-init c = sym (position_from-zero (λ (n : List ℕ). bytes_eq n c.args.name.now) c.args.bodies.now)
