use Rattle.std.proofs.Common.{◌≡◌, ◌∙◌, ◌++◌, ap, refl, sym, None, string_bytes, rules}
use Rattle.run_text.specs.TraceText.{last_lines, lines_text}
use Rattle.replay.specs.Stages.{IsReady, Stage}
use Rattle.replay.specs.inner.Judging.{said_by}
use Rattle.replay.specs.inner.Passing.{BeginsNoLast}
use Rattle.replay.proofs.Keywords.{no_last}
use Rattle.replay.proofs.Taken.{last_taken, on_false, some_behind}
use Rattle.replay.proofs.judge.Judge.begin_last.Goals as goal
use Rattle.replay.proofs.judge.Judge.begin_last.Goals.{then-not-may_be_last-via-then-not-may_be_last, then-not-may_be_last-via-else-not-may_be_last+then-not-is_ready, then-not-may_be_last-via-else-not-may_be_last+else-not-is_ready+then-is_some}

pub returns-then-not-may_be_last-clause-begins : goal.returns-then-not-may_be_last-clause-begins
returns-then-not-may_be_last-clause-begins c =
    let m = said_by c.args.given.now in
    let old = c.args.self.now in (
      elim c.then-not-may_be_last.branch [
        | then-not-may_be_last-via-then-not-may_be_last w ↦
            let other : BeginsNoLast c.args.line.now = on_false c.may_be_last.result (BeginsNoLast c.args.line.now) w.if-not-may_be_last.true c.may_be_last.ensures in
            λ next b. no_last m old.state c.args.line.now next.due other b.due
        | then-not-may_be_last-via-else-not-may_be_last+then-not-is_ready w ↦
            let waits : IsReady old → ⊥ = search rules in
            λ next b. waits b.ready
        | then-not-may_be_last-via-else-not-may_be_last+else-not-is_ready+then-is_some w ↦
            let fell : c.self.inside.state.falling ≡ None → ⊥ = search rules in
            λ next b. fell (ap (λ (j : Stage). j.state.falling) c.self.view_is ∙ b.settled)
      ],
      refl,
    )

pub returns-clause-begins : goal.returns-clause-begins
returns-clause-begins c =
    let m = said_by c.args.given.now in
    let ready : IsReady c.args.self.now = search rules in
    let settled : c.self.inside.state.falling ≡ None = search rules in
    let wrote : string_bytes c.write_last.new.text ≡ lines_text (last_lines m c.self.inside.state) = c.in_ok-write_last.ensures ∙ ap (λ z. z ++ lines_text (last_lines m c.self.inside.state)) c.new-last.ensures.bytes in
    let found = some_behind c.behind.result _ _ c.if-is_none.ensures c.behind.ensures in
    last_taken m c.args.self.now c.self.inside.state c.args.line.now (string_bytes c.write_last.new.text) found.0.now ready (ap (λ (j : Stage). j.state) (sym c.self.view_is)) settled wrote (sym c.as_bytes.ensures.value ∙ found.1)
