use Rattle.std.proofs.Common.{◌≡◌, drop, flat_map}
use Rattle.tap_exec.specs.Semantics.{guard_semantics, messages_of}
use Rattle.byte_meaning.specs.Reading.{heard_by, meaning_among}
use Rattle.byte_meaning.proofs.messages.first_heard.Given as goal

abbrev pub invariant-loop-action : goal.invariant-loop-action
invariant-loop-action l =
    meaning_among (messages_of l.system) (flat_map (λ a. heard_by l.from (guard_semantics a.guard)) (drop l.action-index l.actions)) l.bytes
    ≡ meaning_among (messages_of l.system) (flat_map (λ a. heard_by l.from (guard_semantics a.guard)) l.actions) l.bytes
