use Rattle.std.proofs.Common.{◌∙◌, ◌+◌, ℕ, ℤ, List, ap, refl, take, drop, length, arith}
use Rattle.drawn_steps.proofs.SentOut.{fillable, registers_run, sends_on}
use Rattle.drawn_steps.proofs.sending.send.Goals as goal

pub run_at-requires : goal.run_at-requires
run_at-requires c = registers_run c.args.messages.now c.args.message c.args.first c.args.count c.args.core.now c.registers.result.now c.requires.can c.registers.ensures

pub fill-requires : goal.fill-requires
fill-requires c =
    let f = fillable c.args.messages.now c.args.message c.args.first c.args.count c.args.core.now c.args.out.now c.fields_of-fields.result.now c.registers.result.now c.run_at.result.now c.requires.can c.requires.fields c.requires.room c.fields_of-fields.ensures c.registers.ensures c.run_at.ensures in
    record { fits = f.fits; given = f.enough; room = f.room }

pub overflow_cast-fields : goal.overflow_cast-fields
overflow_cast-fields c =
    let f = fillable c.args.messages.now c.args.message c.args.first c.args.count c.args.core.now c.args.out.now c.fields_of-fields.result.now c.registers.result.now c.run_at.result.now c.requires.can c.requires.fields c.requires.room c.fields_of-fields.ensures c.registers.ensures c.run_at.ensures in
    omega (arith, f.small)

pub returns : goal.returns
returns c =
    sends_on c.args.messages.now c.args.message c.args.first c.args.count c.args.to (length c.values-begin.result.now) (length c.fields_of-fields.result.now) c.run_at.result.now c.fields_of-fields.result.now c.args.core.now c.go.new.self c.args.out.now c.fill.new.out c.note_send.new.self c.requires.can
    c.fields_of-fields.ensures (c.run_at.ensures ∙ ap (λ (xs : List ℤ). take c.args.count (drop c.args.first xs)) c.registers.ensures) c.fill.ensures (ap length c.values-begin.ensures) refl c.note_send.ensures (c.go.ensures ∙ ap (λ (n : ℕ). record c.args.core.now { next = n + 1 }) c.next.ensures)
