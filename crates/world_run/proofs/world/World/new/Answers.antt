use Rattle.std.proofs.Common.{refl}
use Rattle.tap_exec.specs.Semantics.{semantics_of}
use Rattle.world_run.proofs.Opened.{opened_steady}
use Rattle.world_run.proofs.world.World.new.Goals as goal

pub invariant_of-result : goal.invariant_of-result
invariant_of-result c = record {
  runnable = c.requires.runnable;
  layout_is = c.in_ok-layout.ensures;
  steady = λ going.
      opened_steady (semantics_of c.args.system) c.args.inputs.now c.args.seed _ c.in_ok-state.ensures.opening c.in_ok-state.ensures.fits c.in_ok-state.ensures.cells c.in_ok-turnstiles.ensures c.in_ok-generators.ensures c.in_ok-errors.ensures refl;
}

pub returns-clause-fresh : goal.returns-clause-fresh
returns-clause-fresh c = record {
  goes_on = record {
    runnable = c.requires.runnable;
    layout = c.in_ok-layout.ensures;
    steady =
        opened_steady (semantics_of c.args.system) c.args.inputs.now c.args.seed _ c.in_ok-state.ensures.opening c.in_ok-state.ensures.fits c.in_ok-state.ensures.cells c.in_ok-turnstiles.ensures c.in_ok-generators.ensures c.in_ok-errors.ensures refl;
    going = refl;
  };
  cursors = c.in_ok-turnstiles.ensures;
  generators = c.in_ok-generators.ensures;
  errors = c.in_ok-errors.ensures;
  last = c.new.ensures;
}
