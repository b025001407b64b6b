use native.Mathlib.Numerals.{unary_clauses}
use Rattle.std.proofs.Common.{◌≡◌, ◌+◌, ◌<◌, ◌++◌, ◌∙◌, zero, suc, ℕ, List, [], ◌∷◌, IfSome, ap, append_assoc, arith, drop, flat_map, length, slice_get, subst}
use Rattle.tap_base.specs.declared.system.Process.{Process}
use Rattle.tap_front.specs.Acceptance.{process_line}
use Rattle.tap_front.proofs.accepted.write_processes.Goals as goal

-- one line more is written, and one fewer is left
line_on : (ps : List Process) (at : ℕ) (old new whole : List ℕ) → at < length ps → IfSome (slice_get ps at) (λ p. new ≡ old ++ process_line p) → old ++ flat_map process_line (drop at ps) ≡ whole
    → new ++ flat_map process_line (drop (at + 1) ps) ≡ whole
line_on [] at old new whole l h k = absurd (omega arith)
line_on (p ∷ ps) zero old new whole l h k = ap (λ z. z ++ flat_map process_line ps) h ∙ append_assoc old (process_line p) (flat_map process_line ps) ∙ k
line_on (p ∷ ps) (suc at) old new whole l h k = simp unary_clauses (simp unary_clauses at (line_on ps at old new whole (omega (arith, l)) h k))

pub loop-at-preserved : goal.loop-at-preserved
loop-at-preserved c =
    let there : c.loop-at.at < length c.args.checked.now.processes = subst (λ s. c.loop-at.at < length s.processes) c.system.ensures.system (omega (arith, c.loop-at-test.true, c.len-at-end.ensures)) in
    line_on c.args.checked.now.processes c.loop-at.at _ _ _ there c.in_ok-write_process.ensures c.loop-at.invariant
