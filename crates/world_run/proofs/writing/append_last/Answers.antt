use Rattle.std.proofs.Common.{◌≡◌, ◌++◌, ◌∙◌, ℕ, List, ap, string_bytes, subst, rules}
use Rattle.tap_exec.specs.Semantics.{semantics_of}
use Rattle.world_run.specs.inner.Writing.{Wrote, labels_text}
use Rattle.world_run.proofs.writing.append_last.Goals as goal

pub returns-clause-lines : goal.returns-clause-lines
returns-clause-lines c =
    let world = c.args.world.now in
    let w = subst (λ (b : List ℕ). Wrote (labels_text (semantics_of world.system) world.last.sent world.last.labels) b (string_bytes c.write_last.new.text)) c.new-text.ensures.bytes c.in_ok-write_last.ensures in
    let page : c.extend_from_slice.new.self.items ≡ c.args.page.now.items ++ string_bytes c.write_last.new.text = search rules in
    record { lines = w.lines; shown = w.shown; told = page ∙ ap (λ z. c.args.page.now.items ++ z) w.told }
