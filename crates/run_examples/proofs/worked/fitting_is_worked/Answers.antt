use Rattle.std.proofs.Common.{rules, arith, refl, [], ◌∷◌}
use Rattle.tap_exec.specs.Execution.{execution}
use Rattle.tap_exec.specs.Semantics.{receive}
use Rattle.run_examples.specs.WorkedRuns.{byte_message}
use Rattle.run_examples.proofs.worked.fitting_is_worked.Goals as goal

pub returns-clause-channels : goal.returns-clause-channels
returns-clause-channels c = (
  search rules,
  search rules,
  λ h. omega (arith, h.0.1),
  search rules,
  search rules,
  (
    (
      record {
        received = record {
          number = 0;
          action = record { guard = receive 0 0; body = λ inputs values. execution (byte_message ∷ []) inputs values [] };
          there = refl;
          guard = refl;
        };
        fitting = record { fields = byte_message; declared = refl; fitting = search rules };
      },
      tt,
    ),
    (tt, tt),
  ),
)
