-- What processes name, one after the other.
use Rattle.std.proofs.Common.{◌≡◌, ℕ, ◌+◌, ◌<◌, sym, ◌∙◌, ap, List, [], ◌∷◌, ◌++◌, Option, Some, length, drop, get_or}
use Rattle.std.specs.Option.{option_map}
use Rattle.tap_base.specs.declared.ast.AstMessage.{AstMessage}
use Rattle.tap_base.specs.declared.ast.AstProcess.{AstProcess}
use Rattle.tap_base.specs.declared.system.Process.{Process}
use Rattle.tap_base.proofs.ListFacts.{cut_at_item}
use Rattle.tap_base.proofs.LoopFacts.{grown}
use Rattle.tap_types.specs.Systems.{process_of, processes_of}

-- found so far and still to come
pub processes_on : (messages : List AstMessage) (names : List (List ℕ)) (ps : List AstProcess) (i : ℕ) (x : AstProcess) → i < length ps → x ≡ get_or ps i x → (y : Process) (found next : List Process) (all : Option (List Process)) → next ≡ found ++ y ∷ [] → process_of messages names i x ≡ Some y → option_map (λ rest. found ++ rest) (processes_of messages names i (drop i ps)) ≡ all → option_map (λ rest. next ++ rest) (processes_of messages names (i + 1) (drop (i + 1) ps)) ≡ all
processes_on messages names ps i x l q y found next all n h k =
    grown (process_of messages names i x) (processes_of messages names (i + 1) (drop (i + 1) ps)) y found next n h
    ∙ sym (ap (λ z. option_map (λ rest. found ++ rest) (processes_of messages names i z)) (cut_at_item ps i x l q)) ∙ k
