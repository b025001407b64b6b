use Rattle.tapc_core.proofs.MadeLines.{all_made, broken_made, some_made}
use Rattle.tapc_core.proofs.making.make_schedule.Goals as goal

pub returns-in-Ok-clause-closes : goal.returns-in-Ok-clause-closes
returns-in-Ok-clause-closes g c = all_made c.args.system.now c.args.seed c.args.events c.args.faults _ _ c.in-Ok.ensures.makes

pub returns-in-Err-NoMemory-clause-closes : goal.returns-in-Err-NoMemory-clause-closes
returns-in-Err-NoMemory-clause-closes g c = let h = rw c.in-Err-NoMemory.field-0-is at c.in-Err-NoMemory.ensures.makes in some_made c.args.system.now c.args.seed c.args.events c.args.faults _ _ _ c.close.result h c.close.ensures.closes

pub returns-in-Err-WriteFault-clause-closes : goal.returns-in-Err-WriteFault-clause-closes
returns-in-Err-WriteFault-clause-closes g c = let h = rw c.in-Err-WriteFault.field-0-is at c.in-Err-WriteFault.ensures.makes in broken_made c.args.system.now c.args.seed c.args.events c.args.faults _ _ h
