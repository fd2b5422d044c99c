use Rattle.type_scopes.specs.Seen.{env_of}
use Rattle.typed_programs.proofs.Rows.{program_is}
use Rattle.typed_programs.proofs.programs.typed_program.Goals as goal

pub returns : goal.returns
returns c =
    program_is (env_of c.args.env.now) c.args.model c.in_ok-objects.objects.items c.in_ok-functions.functions.items c.deref-2.result.now c.in_ok-bodies.bodies.items
    c.deref.result.now c.deref-3.result.now c.args.unit.now.items.items c.deref.ensures.value c.deref-3.ensures.value c.in_ok-bodies.ensures c.deref-2.ensures.value c.in_ok-functions.ensures c.in_ok-objects.ensures
