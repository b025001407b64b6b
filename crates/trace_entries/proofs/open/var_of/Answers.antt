use Rattle.std.proofs.Common.{◌≡◌, ◌∙◌, ℕ, length, subst}
use Rattle.run_text.specs.Operands.{IsNameWord, words_left}
use Rattle.trace_entries.specs.LineNames.{IsVarWord, vars_at}
use Rattle.trace_entries.proofs.Vars.{not_as_many, not_var}
use Rattle.trace_entries.proofs.open.var_of.Goals as goal

pub returns-in-Err : goal.returns-in-Err
returns-in-Err c = λ bad x w.
    let p = c.in_ok-process.process in
    let named : IsNameWord c.args.names.now.processes c.args.process.now p = subst (λ ns. IsNameWord ns c.args.process.now p) c.as_slice.ensures c.in_ok-process.ensures in
    let none : (n k : ℕ) → IsVarWord (vars_at c.args.names.now p) c.args.var.now n k → ⊥ = subst (λ vs. (n k : ℕ) → IsVarWord vs c.args.var.now n k → ⊥) c.vars_of.ensures (c.in-Err.ensures bad) in
    not_var c.args.names.now c.args.process.now c.args.var.now (words_left c.args.values) x p c.requires named none w

pub returns-then-len-cells : goal.returns-then-len-cells
returns-then-len-cells c = λ bad x w.
    let p = c.in_ok-process.process in
    let named : IsNameWord c.args.names.now.processes c.args.process.now p = subst (λ ns. IsNameWord ns c.args.process.now p) c.as_slice.ensures c.in_ok-process.ensures in
    let found : IsVarWord (vars_at c.args.names.now p) c.args.var.now c.in-Ok.found.0 c.in-Ok.found.1 = subst (λ vs. IsVarWord vs c.args.var.now c.in-Ok.found.0 c.in-Ok.found.1) c.vars_of.ensures c.in-Ok.ensures in
    not_as_many c.args.names.now c.args.process.now c.args.var.now (words_left c.args.values) x p c.in-Ok.found.0 c.in-Ok.found.1 c.in-Ok-read_integers.values c.requires named found c.in-Ok-read_integers.ensures
    (λ e. c.if-len-cells.true (c.len.ensures ∙ e)) w
