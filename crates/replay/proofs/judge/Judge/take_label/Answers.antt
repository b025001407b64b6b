use Rattle.std.proofs.Common.{◌≡◌, ◌∙◌, ap, refl, subst, List, Some, None, rules}
use Rattle.tap_exec.specs.declared.running.Outgoing.{Outgoing}
use Rattle.abstract_run.specs.Step.{step}
use Rattle.run_text.specs.TraceText.{label_line, names_in, went_out}
use Rattle.replay.specs.Stages.{IsReady, Stage}
use Rattle.replay.specs.inner.Judging.{said_by}
use Rattle.replay.proofs.Refusals.{label_impossible, label_in_grammar, not_ready}
use Rattle.replay.proofs.Sent.{out_declared}
use Rattle.replay.proofs.Taken.{label_taken, refused, same_stage}
use Rattle.replay.proofs.judge.Judge.take_label.Goals as goal

pub returns-then-not-is_ready-clause-takes : goal.returns-then-not-is_ready-clause-takes
returns-then-not-is_ready-clause-takes c =
    let m = said_by c.args.given.now in
    let l = c.args.label.now in
    let waits : IsReady c.args.self.now → ⊥ = search rules in
    (label_in_grammar m l c.requires.has_line, c.requires.not_ended, not_ready m c.args.self.now (label_line (names_in m) l) waits c.requires.not_due, refl)

pub write_sends-requires-clause-fit : goal.write_sends-requires-clause-fit
write_sends-requires-clause-fit c =
    out_declared (said_by c.args.given.now) c.args.label.now c.step.new.state c.in-Ok.sends c.went_out-out.result.now c.in-Ok.ensures.sends
    (c.went_out-out.ensures ∙ ap (λ (os : List Outgoing). went_out (c.step.new.state, os)) c.as_slice.ensures)

pub returns-in-Err-NotEnabled-clause-takes : goal.returns-in-Err-NotEnabled-clause-takes
returns-in-Err-NotEnabled-clause-takes c =
    let m = said_by c.args.given.now in
    let l = c.args.label.now in
    let view = c.self.view_is in
    let stays = refused _ _ _ c.in-Err-NotEnabled.field-0 c.in-Err-NotEnabled.field-0-is c.in-Err-NotEnabled.ensures.step in
    let none : step m c.args.self.now.state l ≡ None = subst (λ (j : Stage). step m j.state l ≡ None) view stays.0 in
    (label_in_grammar m l c.requires.has_line, c.requires.not_ended, label_impossible m c.args.self.now l c.requires.given.tells.processes c.requires.has_line none c.requires.not_due c.requires.not_last, same_stage _ _ _ _ _ stays.1 view)

pub returns-in_ok-write_sends-in-Ok-clause-takes : goal.returns-in_ok-write_sends-in-Ok-clause-takes
returns-in_ok-write_sends-in-Ok-clause-takes c =
    let m = said_by c.args.given.now in
    let ready : IsReady c.args.self.now = search rules in
    label_taken m c.args.self.now _ c.args.label.now c.in-Ok.sends c.went_out-out.result.now _ _ ready c.requires.has_line (subst (λ (j : Stage). step m j.state c.args.label.now ≡ Some (c.step.new.state, c.in-Ok.sends)) c.self.view_is c.in-Ok.ensures.step)
    (c.went_out-out.ensures ∙ ap (λ (os : List Outgoing). went_out (c.step.new.state, os)) c.as_slice.ensures) c.clear.ensures.bytes c.in_ok-write_sends-in-Ok.ensures refl (ap (λ (j : Stage). j.closing) c.self.view_is)
