-- What verified code says to a run is safe to run.
use Rattle.abstract_run.specs.Safe.{BeginsInRange, BodiesKeepRanges}
use Rattle.register_code.specs.declared.code.Code.{Code}
use Rattle.register_code.specs.CodeSemantics.{code_semantics}
use Rattle.register_code.specs.Verified.{IsVerified}

-- Each body of verified code that comes to its end keeps cells and timers within their ranges, sends at most 64 fitting
-- messages, and takes its choices from the front.
abbrev pub CodeKeepsRanges : Type 0
CodeKeepsRanges = (code : Code) → IsVerified code → BodiesKeepRanges (code_semantics code)

-- It has at most 64 processes, each with at most 4,096 variables, and each variable begins within its range.
abbrev pub CodeBeginsInRange : Type 0
CodeBeginsInRange = (code : Code) → IsVerified code → BeginsInRange (code_semantics code)
