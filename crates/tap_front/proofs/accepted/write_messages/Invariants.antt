use Rattle.std.proofs.Common.{◌≡◌, ◌++◌, drop, flat_map, string_bytes}
use Rattle.tap_front.specs.Acceptance.{message_line}
use Rattle.tap_front.proofs.accepted.write_messages.Given as goal

-- what is written, and then the lines of the messages that are left, are the whole
abbrev pub invariant-loop-message : goal.invariant-loop-message
invariant-loop-message l = string_bytes l.text ++ flat_map message_line (drop l.message-index l.messages) ≡ string_bytes l.fn.text ++ flat_map message_line l.messages
