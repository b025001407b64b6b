use Rattle.std.proofs.Common.{ℤ, rules, subst}
use Rattle.std.proofs.lemmas.Int.{to_z-of_z}
use Rattle.std.specs.Int.{w64}
use Rattle.register_code.specs.declared.instr.Instr.TheVariants as instr
use Rattle.register_code.specs.Instructions.{does}
use Rattle.code_steps.specs.Moving.{MovesBy}
use Rattle.code_steps.proofs.plain.move_on.Goals as goal

pub returns-in-Const : goal.returns-in-Const
returns-in-Const c = λ e same. let is = c.in-Const.is in rw is (subst (λ (z : ℤ). MovesBy (does e (instr.Const c.in-Const.r z)) c.args.core.now c.set.new.core) (to_z-of_z w64 c.in-Const.imm (search rules)) (c.set.ensures e))

pub returns-in-Copy : goal.returns-in-Copy
returns-in-Copy c = λ e same. let is = c.in-Copy.is in rw is (c.copy.ensures e)

pub returns-in-Load : goal.returns-in-Load
returns-in-Load c = λ e same. let is = c.in-Load.is in rw is (c.load.ensures e)

pub returns-in-Save : goal.returns-in-Save
returns-in-Save c = λ e same. let is = c.in-Save.is in rw is (c.save.ensures e)

pub returns-in-Jump : goal.returns-in-Jump
returns-in-Jump c = λ e same. let is = c.in-Jump.is in rw is (c.jump.ensures e)

pub returns-in-JumpNe : goal.returns-in-JumpNe
returns-in-JumpNe c = λ e same. let is = c.in-JumpNe.is in rw is (subst (λ (z : ℤ). MovesBy (does e (instr.JumpNe c.in-JumpNe.a z c.in-JumpNe.target)) c.args.core.now c.branch-core.new.core) (to_z-of_z w64 c.in-JumpNe.imm (search rules)) (c.branch-core.ensures e))

pub returns-in-Repeat : goal.returns-in-Repeat
returns-in-Repeat c = λ e same. let is = c.in-Repeat.is in rw is (c.begin.ensures e)

pub returns-in-Again : goal.returns-in-Again
returns-in-Again c = λ e same. let is = c.in-Again.is in rw is (c.turn.ensures e)

pub returns-in-Part : goal.returns-in-Part
returns-in-Part c = λ e same. let is = c.in-Part.is in rw is (c.hear.ensures e same)
