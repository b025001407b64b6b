use Rattle.std.proofs.Common.{◌∙◌, ◌++◌, ◌∷◌, [], List, ℕ, append_assoc, ap, string_bytes}
use Rattle.tap_exec.specs.Semantics.{semantics_of}
use Rattle.run_text.specs.TraceText.{label_line}
use Rattle.world_run.proofs.Lines.{not_act, other_wrote}
use Rattle.world_run.proofs.writing.write_one.Goals as goal

pub returns-in_default : goal.returns-in_default
returns-in_default c =
    other_wrote (semantics_of c.args.world.now.system) c.args.label.now c.args.world.now.last.sent _ _ (not_act c.args.label.now c.in_default.not-Act) c.requires.fit
    (c.in_ok-write_label.ensures ∙ append_assoc (string_bytes c.args.text.now) _ _ ∙ ap (λ (ns : List (List ℕ)). string_bytes c.args.text.now ++ (label_line ns c.args.label.now ++ 10 ∷ [])) c.requires.names.processes)
